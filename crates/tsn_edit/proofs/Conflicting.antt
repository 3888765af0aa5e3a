-- What the tests of two changes come to, part by part.
use Rattle.std.proofs.Common.{◌≡◌, Bool, false, ◌||◌, List, [], ◌∷◌, refl, sym, ◌∙◌, ap, map, arith}
use Rattle.std.specs.Prelude.{flat_map}
use Rattle.std.specs.List.{list_any}
use Rattle.std.proofs.lemmas.Cmp.{eq_by_cmp_equiv}
use Rattle.std.proofs.lemmas.List.Folds.{list_any-append}
use Rattle.tsn_types.specs.declared.keys.Key.{Key}
use Rattle.tsn_types.specs.Keys.{same_key, has, meets, refs_of}
use Rattle.tsn_edit.specs.Parts.{Part}
use Rattle.tsn_edit.specs.Changes.{keys_of, refs_after, refs_before}
use Rattle.tsn_edit.proofs.KeyFacts.{keys_total}

any_map : {A B : Type 0} (f : A → B) (t : B → Bool) (xs : List A) → list_any t (map f xs) ≡ list_any (λ x. t (f x)) xs
any_map f t [] = refl
any_map f t (x ∷ xs) = ap (λ b. t (f x) || b) (any_map f t xs)

any_flat_map : {A B : Type 0} (f : A → List B) (t : B → Bool) (xs : List A)
    → list_any t (flat_map f xs) ≡ list_any (λ x. list_any t (f x)) xs
any_flat_map f t [] = refl
any_flat_map f t (x ∷ xs) = list_any-append t (f x) (flat_map f xs) ∙ ap (λ b. list_any t (f x) || b) (any_flat_map f t xs)

any_alike : {A : Type 0} (s t : A → Bool) → ((x : A) → s x ≡ t x) → (xs : List A) → list_any s xs ≡ list_any t xs
any_alike s t h xs = grind arith

pub mixed : (a b c d : Bool) → ((a || b) || (c || d)) ≡ ((a || c) || (b || d))
mixed a b c d = grind arith

any_either : {A : Type 0} (s t : A → Bool) (xs : List A) → list_any (λ x. s x || t x) xs ≡ (list_any s xs || list_any t xs)
any_either s t [] = refl
any_either s t (x ∷ xs) = ap (λ b. (s x || t x) || b) (any_either s t xs) ∙ mixed (s x) (t x) (list_any s xs) (list_any t xs)

pub same_key_swap : (a b : Key) → same_key a b ≡ same_key b a
same_key_swap a b = (eq_by_cmp_equiv keys_total).symm a b

pub meets_none : (ks : List Key) → meets ks [] ≡ false
meets_none [] = refl
meets_none (k ∷ ks) = meets_none ks

-- which list comes first makes no difference
meets_swap : (ks ls : List Key) → meets ks ls ≡ meets ls ks
meets_swap [] ls = sym (meets_none ls)
meets_swap (k ∷ ks) ls =
    ap (λ b. has ls k || b) (meets_swap ks ls)
    ∙ ap (λ b. b || meets ls ks) (any_alike (same_key k) (λ l. same_key l k) (λ l. same_key_swap k l) ls)
    ∙ sym (any_either (λ l. same_key l k) (has ks) ls)

pub on_is : (ps : List Part) (k : Key) → has (keys_of ps) k ≡ list_any (λ p. same_key k p.key) ps
on_is ps k = any_map (λ p. p.key) (same_key k) ps

pub after_is : (ps : List Part) (k : Key) → has (refs_after ps) k ≡ list_any (λ p. has (refs_of p.after) k) ps
after_is ps k = any_flat_map (λ p. refs_of p.after) (same_key k) ps

pub before_is : (ps : List Part) (k : Key) → has (refs_before ps) k ≡ list_any (λ p. has (refs_of p.before) k) ps
before_is ps k = any_flat_map (λ p. refs_of p.before) (same_key k) ps

pub common_is : (ks : List Key) (ps : List Part) → meets (keys_of ps) ks ≡ list_any (λ p. has ks p.key) ps
common_is ks ps = any_map (λ p. p.key) (has ks) ps

pub refer_is : (ks : List Key) (ps : List Part) → meets ks (keys_of ps) ≡ list_any (λ p. has ks p.key) ps
refer_is ks ps = meets_swap ks (keys_of ps) ∙ common_is ks ps
