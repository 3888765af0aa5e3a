-- Keys as an order, and what a change does to a map at one key.
use Rattle.std.proofs.Common.{◌≡◌, Bool, true, false, cond, ◌||◌, List, [], ◌∷◌, ◌++◌, refl, ◌∙◌, ap, subst, Option, Some, None, arith}
use Rattle.std.proofs.lemmas.Grind.{common_steps}
use Rattle.std.specs.Cmp.{IsTotalOrder}
use Rattle.std.specs.Ordering.{is_eq}
use Rattle.std.specs.FinMap.{get, get-insert, get-remove, IsAntisymmetric, same_map}
use Rattle.std.specs.List.{AllByRecursion}
use Rattle.std.specs.declared.cmp.Ordering.{Ordering}
use Rattle.std.specs.declared.cmp.Ordering.TheVariants.{Equal}
use Rattle.std.proofs.Math.Bool.{or_assoc}
use Rattle.std.proofs.lemmas.Bool.{or_left, or_parts, or_right}
use Rattle.std.proofs.lemmas.Cmp.{on_total, then_total, nat_cmp_total, tied_itself}
use Rattle.tsn_types.specs.declared.keys.Key.{Key}
use Rattle.tsn_edit.specs.Parts.{Change, Part, parts}
use Rattle.tsn_types.specs.declared.records.Record.{Record}
use Rattle.tsn_types.specs.Keys.{kind_of, number_of, key_cmp, same_key, has, meets, refs_of}
use Rattle.tsn_edit.specs.Configuration.{Configuration, put}
use Rattle.tsn_edit.specs.Changes.{keys_of, part_of, refs_before, refs_after, put_all, after_change}

pub by_bool : {G : Type 0} (b : Bool) → (b ≡ true → G) → (b ≡ false → G) → G
by_bool b f g = grind arith

pub by_option : {A G : Type 0} (o : Option A) → (o ≡ None → G) → ((x : A) → o ≡ Some x → G) → G
by_option o f g = grind arith

pub keys_total : IsTotalOrder key_cmp
keys_total = then_total (on_total kind_of nat_cmp_total) (on_total number_of nat_cmp_total)

-- only one key compares alike
pub exact_keys : IsAntisymmetric key_cmp
exact_keys a b h = grind arith

pub is_equal : (o : Ordering) → is_eq o ≡ true → o ≡ Equal
is_equal o h = grind arith

pub one_key : (a b : Key) → same_key a b ≡ true → a ≡ b
one_key a b h = exact_keys a b (is_equal (key_cmp a b) h)

pub same_itself : (k : Key) → same_key k k ≡ true
same_itself k = ap is_eq (tied_itself keys_total k)

pub get-put : (c : Configuration) (k : Key) (v : Option Record) (q : Key) → get (put c k v) q ≡ cond (same_key q k) v (get c q)
get-put c k None q = get-remove keys_total c k q
get-put c k (Some r) q = get-insert keys_total c k r q

pub same_configuration : (c d : Configuration) → ((k : Key) → get c k ≡ get d k) → c ≡ d
same_configuration c d h = same_map keys_total exact_keys c d h

-- the value after the part, or v where there is none
abbrev pub after_or : Option Part → Option Record → Option Record
after_or None v = v
after_or (Some p) v = p.after

after_or-cond : (b : Bool) (p : Part) (o : Option Part) (v : Option Record) → cond b p.after (after_or o v) ≡ after_or (cond b (Some p) o) v
after_or-cond b p o v = grind arith

unfoldable pub part_on : Key → List Part → Option Part
part_on k e = part_of k e

pub get-put_all : (c : Configuration) (e : List Part) (q : Key) → get (put_all c e) q ≡ after_or (part_on q e) (get c q)
unfolding part_on
get-put_all c [] q = refl
get-put_all c (p ∷ e) q = grind (arith, get-put, after_or-cond, (get-put_all c e q))

pub get-after_change : (c : Configuration) (e : Change) (q : Key) → get (after_change c e) q ≡ after_or (part_on q (parts e)) (get c q)
get-after_change c e q = get-put_all c (parts e) q

-- no part is on a key that the change does not have
pub part_on_none : (k : Key) (e : List Part) → has (keys_of e) k ≡ false → part_on k e ≡ None
unfolding part_on
part_on_none k [] h = refl
part_on_none k (p ∷ e) h =
    elim (same_key k p.key) as (λ b. b || has (keys_of e) k ≡ false → cond b (Some p) (part_on k e) ≡ None) [
      | true ↦ λ h. (cc)
      | false ↦ λ h. part_on_none k e h
    ] h

pub has-append : (ks ls : List Key) (k : Key) → has (ks ++ ls) k ≡ (has ks k || has ls k)
has-append ks ls k = grind (arith, common_steps)

-- the value before the part, or v where there is none
abbrev pub before_or : Option Part → Option Record → Option Record
before_or None v = v
before_or (Some p) v = p.before

-- what a part that is found is
pub record IsPartOn (k : Key) (e : List Part) (p : Part) : Type 0 where
  pub key : k ≡ p.key
  pub there : has (keys_of e) k ≡ true
  pub before : (q : Key) → has (refs_of p.before) q ≡ true → has (refs_before e) q ≡ true
  pub after : (q : Key) → has (refs_of p.after) q ≡ true → has (refs_after e) q ≡ true

pub part_on_some : (k : Key) (e : List Part) (p : Part) → part_on k e ≡ Some p → IsPartOn k e p
unfolding part_on
part_on_some k [] p h = (cc)
part_on_some k (x ∷ e) p h =
    elim (same_key k x.key) as (λ b. same_key k x.key ≡ b → cond b (Some x) (part_on k e) ≡ Some p → IsPartOn k (x ∷ e) p) [
      | true ↦ λ same found. let is : x ≡ p = (cc) in
          record {
            key = one_key k x.key same ∙ ap (λ (y : Part). y.key) is;
            there = or_left (same_key k x.key) _ same;
            before =
                λ q h. has-append (refs_of x.before) (refs_before e) q ∙ or_left _ _ (ap (λ (y : Part). has (refs_of y.before) q) is ∙ h);
            after = λ q h. has-append (refs_of x.after) (refs_after e) q ∙ or_left _ _ (ap (λ (y : Part). has (refs_of y.after) q) is ∙ h);
          }
      | false ↦ λ same found. let rest = part_on_some k e p found in
          record {
            key = rest.key;
            there = or_right (same_key k x.key) _ rest.there;
            before = λ q h. has-append (refs_of x.before) (refs_before e) q ∙ or_right _ _ (rest.before q h);
            after = λ q h. has-append (refs_of x.after) (refs_after e) q ∙ or_right _ _ (rest.after q h);
          }
    ] refl h

pub each_part : (P : Part → Type 0) (k : Key) (e : List Part) (p : Part) → part_on k e ≡ Some p → AllByRecursion P e → P p
unfolding part_on
each_part P k [] p h all = (cc)
each_part P k (x ∷ e) p h all =
    elim (same_key k x.key) as (λ b. cond b (Some x) (part_on k e) ≡ Some p → P p) [
      | true ↦ λ found. let is : x ≡ p = (cc) in subst P is all.0
      | false ↦ λ found. each_part P k e p found all.1
    ] h

pub part_on-append : (k : Key) (e f : List Part) → part_on k e ≡ None → part_on k (e ++ f) ≡ part_on k f
unfolding part_on
part_on-append k [] f h = refl
part_on-append k (x ∷ e) f h =
    elim (same_key k x.key) as (λ b. cond b (Some x) (part_on k e) ≡ None → cond b (Some x) (part_on k (e ++ f)) ≡ part_on k f) [
      | true ↦ λ none. (cc)
      | false ↦ λ none. part_on-append k e f none
    ] h

pub part_on-append_found : (k : Key) (e f : List Part) (p : Part) → part_on k e ≡ Some p → part_on k (e ++ f) ≡ Some p
unfolding part_on
part_on-append_found k [] f p h = (cc)
part_on-append_found k (x ∷ e) f p h =
    elim (same_key k x.key) as (λ b. cond b (Some x) (part_on k e) ≡ Some p → cond b (Some x) (part_on k (e ++ f)) ≡ Some p) [
      | true ↦ λ found. found
      | false ↦ λ found. part_on-append_found k e f p found
    ] h

pub keys_of-append : (e f : List Part) → keys_of (e ++ f) ≡ keys_of e ++ keys_of f
keys_of-append e f = grind (arith, common_steps)

pub refs_before-append : (e f : List Part) (q : Key) → has (refs_before (e ++ f)) q ≡ (has (refs_before e) q || has (refs_before f) q)
refs_before-append e f q = grind (arith, common_steps, has-append, or_assoc)

-- lists that do not meet have no key in common
pub meets_apart : (ks ls : List Key) → meets ks ls ≡ false → (k : Key) → has ks k ≡ true → has ls k ≡ false
meets_apart [] ls h k in' = (cc)
meets_apart (x ∷ ks) ls h k in' =
    elim (same_key k x) as (λ b. same_key k x ≡ b → (b || has ks k) ≡ true → has ls k ≡ false) [
      | true ↦ λ same _. ap (has ls) (one_key k x same) ∙ (or_parts (has ls x) (meets ks ls) h).0
      | false ↦ λ same in''. meets_apart ks ls ((or_parts (has ls x) (meets ks ls) h).1) k in''
    ] refl in'
