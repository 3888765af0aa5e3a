-- A key that is there and no port's is not removed just where a filter refers to it.
use Rattle.std.proofs.Common.{◌≡◌, ℕ, Bool, true, false, cond, not, ◌&&◌, ◌||◌, [], ◌∷◌, refl, sym, ◌∙◌, ap, Option, Some, None, is_some}
use Rattle.std.specs.Prelude.{IsSome, find, option_map}
use Rattle.std.specs.FinMap.{entries, get}
use Rattle.std.specs.List.{AllByRecursion, list_any}
use Rattle.std.proofs.Math.Bool.{and-true}
use Rattle.tsn_types.specs.declared.keys.Key.{Key}
use Rattle.tsn_types.specs.declared.keys.Key.TheVariants.{Port, Filter, Gate, Meter}
use Rattle.tsn_types.specs.declared.limits.Limits.{Limits}
use Rattle.tsn_types.specs.declared.records.Record.{Record}
use Rattle.tsn_types.specs.declared.records.Record.TheVariants as records
use Rattle.tsn_types.specs.declared.refusals.Refusal.{Refusal}
use Rattle.tsn_types.specs.declared.refusals.Refusal.TheVariants.{Missing, Range, Referred, Shape}
use Rattle.tsn_types.specs.declared.refusals.Field.TheVariants.{Key as KeyField}
use Rattle.tsn_types.specs.Keys.{has, meter_ref, refs}
use Rattle.tsn_types.specs.Limits.{HoldsRecord, holds_key, unless}
use Rattle.tsn_types.specs.Refusals.{lesser}
use Rattle.tsn_edit.specs.declared.Edit.TheVariants.{Remove}
use Rattle.tsn_edit.specs.Batches.{referrer_beside, refusal}
use Rattle.tsn_edit.specs.Configuration.{Configuration, IsWellKept}
use Rattle.tsn_edit.specs.Edits.{is_port}
use Rattle.tsn_edit.proofs.KeyFacts.{by_bool}
use Rattle.tsn_config.proofs.Deciding.{test_holds}
use Rattle.tsn_export.specs.Going.{Entries}
use Rattle.tsn_export.proofs.Along.{each_moved, each_stands}
use Rattle.tsn_remarks.specs.Remarks.{is_referred}

-- a filter that refers to a key is not at the key
at_another : (k q : Key) (r : Record) (l : Limits) → HoldsRecord l q r → has (refs r) k ≡ true → has (k ∷ []) q ≡ false
at_another (Gate m) (Filter n) (records.Filter r) l holds refers = refl
at_another (Meter m) (Filter n) (records.Filter r) l holds refers = refl
at_another (Port m) (Filter n) (records.Filter r) l holds refers = none r.meter refers
  where
    none : (o : Option ℕ) → has (Gate r.gate ∷ meter_ref o) (Port m) ≡ true → has (Port m ∷ []) (Filter n) ≡ false
    none None h = absurd (cc)
    none (Some x) h = absurd (cc)
at_another (Filter m) (Filter n) (records.Filter r) l holds refers = none r.meter refers
  where
    none : (o : Option ℕ) → has (Gate r.gate ∷ meter_ref o) (Filter m) ≡ true → has (Filter m ∷ []) (Filter n) ≡ false
    none None h = absurd (cc)
    none (Some x) h = absurd (cc)
at_another k (Port n) (records.Port r) l holds refers = absurd (cc)
at_another k (Gate n) (records.Gate r) l holds refers = absurd (cc)
at_another k (Meter n) (records.Meter r) l holds refers = absurd (cc)
at_another k q r l holds refers = absurd holds

-- so it is no matter that the removal itself is passed over
passed : (k q : Key) (r : Record) (l : Limits) → HoldsRecord l q r → (has (refs r) k && not (has (k ∷ []) q)) ≡ has (refs r) k
passed k q r l holds = by_bool (has (refs r) k)
    (λ yes. ap (λ b. has (refs r) k && not b) (at_another k q r l holds yes) ∙ and-true (has (refs r) k))
    (λ no. ap (λ b. b && not (has (k ∷ []) q)) no ∙ sym no)

found_alike : (p q : Key × Record → Bool) (f : Key × Record → Refusal) (es : Entries) → AllByRecursion (λ e. p e ≡ q e) es
    → is_some (option_map f (find p es)) ≡ list_any q es
found_alike p q f [] alike = refl
found_alike p q f (e ∷ es) alike =
    ap (λ b. is_some (option_map f (cond b (Some e) (find p es)))) alike.0
    ∙ elim (q e) as (λ b. is_some (option_map f (cond b (Some e) (find p es))) ≡ (b || list_any q es)) [
      | true ↦ refl
      | false ↦ found_alike p q f es alike.1
    ]

is_last : (o : Option Refusal) → is_some (lesser o None) ≡ is_some o
is_last None = refl
is_last (Some x) = refl

pub removal : (l : Limits) (c : Configuration) (k : Key) → IsWellKept l c → IsSome (get c k) → is_port k ≡ false
    → is_some (refusal l c (Remove k ∷ [])) ≡ is_referred (entries c) k
removal l c k kept there removable =
    (λ i. is_some (lesser (unless (not (removable i)) Shape) (lesser (unless (within i) (Range KeyField))
    (lesser (unless (there i) (Missing k)) (lesser (referrer_beside c (Remove k ∷ []) k) None)))))
    ∙ is_last (referrer_beside c (Remove k ∷ []) k)
    ∙ found_alike (λ e. has (refs e.1) k && not (has (k ∷ []) e.0)) (λ e. has (refs e.1) k) (λ e. Referred e.0) (entries c)
    (each_moved (λ e. get c e.0 ≡ Some e.1) _ (λ e is. passed k e.0 e.1 l (kept.within e.0 e.1 is).1) (entries c) (each_stands c))
  where
    held : (o : Option Record) → get c k ≡ o → IsSome o → holds_key l k ≡ true
    held None is some = absurd (cc)
    held (Some r) is some = test_holds l k (kept.within k r is).0

    within : holds_key l k ≡ true
    within = held (get c k) refl there
