-- An opening in which no cause is found is well kept.
use Rattle.std.proofs.Common.{◌≡◌, ℕ, zero, suc, ◌≤◌, false, cond, List, [], ◌∷◌, ◌++◌, sym, ◌∙◌, ap, subst, Option, Some, None, map, arith}
use Rattle.std.proofs.lemmas.Grind.{common_steps}
use Rattle.std.specs.Prelude.{IsSome, is_some, nat_le}
use Rattle.std.specs.Option.{option_or}
use Rattle.std.specs.List.{AllByRecursion}
use Rattle.std.specs.FinMap.{get, entries, from_entries, find, get-from_entries, get-entries}
use Rattle.std.proofs.lemmas.Bool.Decides.{nat_tests}
use Rattle.std.proofs.lemmas.Bool.{leb-true}
use Rattle.tsn_types.specs.declared.keys.Key.{Key}
use Rattle.tsn_types.specs.declared.keys.Key.TheVariants.{Port}
use Rattle.tsn_types.specs.declared.records.Record.{Record}
use Rattle.tsn_types.specs.declared.limits.Limits.{Limits}
use Rattle.tsn_types.specs.Bounds.{AreInRange}
use Rattle.tsn_types.specs.InRange.{RecordInRange}
use Rattle.tsn_types.specs.Keys.{key_cmp, same_key, refs}
use Rattle.tsn_types.specs.Limits.{HoldsKey, HoldsRecord, first_cause}
use Rattle.tsn_edit.specs.Configuration.{Configuration, IsWellKept}
use Rattle.tsn_edit.specs.Edits.{dangling}
use Rattle.tsn_edit.proofs.KeyFacts.{by_bool, keys_total, one_key, same_itself}
use Rattle.tsn_config.specs.Opening.{AreOfKind, RecordsInRange, dangling_cause, default_port, default_ports, limit_cause, limits_cause}
use Rattle.tsn_types.proofs.Causes.{option_or_parts}
use Rattle.tsn_config.proofs.Edits.{none_dangling}
use Rattle.tsn_config.proofs.Joined.{find_append}

-- what holds of each entry holds of one that is found
find_each : (P : Key → Record → Type 0) (es : List (Key × Record)) → AllByRecursion (λ e. P e.0 e.1) es → (k : Key) (r : Record)
    → find key_cmp k es ≡ Some r → P k r
find_each P [] all k r is = (cc)
find_each P (e ∷ es) all k r is = by_bool (same_key k e.0)
    (λ same. let found : Some e.1 ≡ Some r = sym (ap (λ b. cond b (Some e.1) (find key_cmp k es)) same) ∙ is in
    let now : e.1 ≡ r = (cc) in
    subst (λ (p : Key × Record). P p.0 p.1) (λ i. (sym (one_key k e.0 same) i, now i)) all.0)
    (λ other. find_each P es all.1 k r (sym (ap (λ b. cond b (Some e.1) (find key_cmp k es)) other) ∙ is))

all_append : (Q : Key × Record → Type 0) (xs ys : List (Key × Record)) → AllByRecursion Q xs → AllByRecursion Q ys
    → AllByRecursion Q (xs ++ ys)
all_append Q xs ys h g = grind (arith, common_steps)

-- the key and the record are within the limits
abbrev IsWithin : Limits → Key → Record → Type 0
IsWithin l k r = HoldsKey l k × HoldsRecord l k r

records_within : (l : Limits) (rs : List (Key × Record)) → AreOfKind rs → limits_cause l rs ≡ None
    → AllByRecursion (λ e. IsWithin l e.0 e.1) rs
records_within l [] kinds none = tt
records_within l (e ∷ es) kinds none =
    grind (arith, (records_within l es kinds.1 (option_or_parts (limit_cause l e) (limits_cause l es) none).1))

ports_within : (l : Limits) (n : ℕ) → n ≤ l.ports → AllByRecursion (λ e. IsWithin l e.0 e.1) (default_ports n)
ports_within l zero le = tt
ports_within l (suc n) le = grind (arith, all_append, (ports_within l n (omega arith)))

default_in_range : RecordInRange default_port
default_in_range = record {
  gates = omega arith;
  admin = record { list = tt; cycle = (omega arith, omega arith); extension = omega arith; base = omega arith };
}

ports_in_range : (n : ℕ) → RecordsInRange (default_ports n)
ports_in_range zero = tt
ports_in_range (suc n) =
    all_append (λ e. RecordInRange e.1) (default_ports n) ((Port (suc n), default_port) ∷ []) (ports_in_range n) (default_in_range, tt)

some_left : {A : Type 0} (o p : Option A) → IsSome o → IsSome (option_or o p)
some_left o p h = grind arith

some_right : {A : Type 0} (o p : Option A) → IsSome p → IsSome (option_or o p)
some_right o p h = grind arith

pub last_port : (n m : ℕ) → n ≤ suc m → nat_le n m ≡ false → n ≡ suc m
last_port n m le h = grind (arith, nat_tests)

port_there : (n m : ℕ) → 1 ≤ n → n ≤ m → IsSome (find key_cmp (Port n) (default_ports m))
port_there n zero low high = absurd (omega arith)
port_there n (suc m) low high =
    let last : List (Key × Record) = (Port (suc m), default_port) ∷ [] in
    ap is_some (find_append (Port n) (default_ports m) last)
    ∙ by_bool (nat_le n m)
    (λ yes. some_left _ (find key_cmp (Port n) last) (port_there n m low (leb-true n m yes)))
    (λ no. some_right (find key_cmp (Port n) (default_ports m)) _
    (ap (λ x. is_some (find key_cmp (Port x) last)) (last_port n m high no)
    ∙ ap (λ b. is_some (cond b (Some default_port) None)) (same_itself (Port (suc m)))))

none_each : (c : Configuration) (es : List (Key × Record)) → first_cause (map (λ e. dangling c e.1) es) ≡ None
    → AllByRecursion (λ e. dangling c e.1 ≡ None) es
none_each c [] h = tt
none_each c (e ∷ es) h = (let both = option_or_parts (dangling c e.1) _ h in (both.0, none_each c es both.1))

pub opening_kept : (l : Limits) (rs : List (Key × Record)) (c : Configuration) → AreInRange l → RecordsInRange rs → AreOfKind rs
    → limits_cause l rs ≡ None → c ≡ from_entries (rs ++ default_ports l.ports) → dangling_cause c ≡ None → IsWellKept l c
opening_kept l rs c bounds ranges kinds limits is none = record {
  limits = bounds;
  in_range = λ k r at. find_each (λ k r. RecordInRange r) (rs ++ default_ports l.ports)
      (all_append (λ e. RecordInRange e.1) rs (default_ports l.ports) ranges (ports_in_range l.ports)) k r (sym (found k) ∙ at);
  within = λ k r at. find_each (IsWithin l) (rs ++ default_ports l.ports)
      (all_append (λ e. IsWithin l e.0 e.1) rs (default_ports l.ports) (records_within l rs kinds limits)
      (ports_within l l.ports (omega arith))) k r (sym (found k) ∙ at);
  ports = λ n low high. ap is_some (found (Port n) ∙ find_append (Port n) rs (default_ports l.ports))
      ∙ some_right (find key_cmp (Port n) rs) _ (port_there n l.ports low high);
  referred = λ k r q at ref.
      let there = find_each (λ k r. dangling c r ≡ None) (entries c) (none_each c (entries c) none) k r (sym (get-entries c k) ∙ at) in
      none_dangling c (refs r) there q ref;
}
  where
    found : (k : Key) → get c k ≡ find key_cmp k (rs ++ default_ports l.ports)
    found k = ap (λ x. get x k) is ∙ get-from_entries keys_total (rs ++ default_ports l.ports) k
