-- The first row that passes a test is the one of the least number, and nothing else is.
use Rattle.std.proofs.Common.{◌≡◌, ℕ, ◌<◌, ◌≤◌, Bool, true, false, cond, List, [], ◌∷◌, refl, Option, Some, None, arith}
use Rattle.std.specs.Prelude.{◌||◌}
use Rattle.std.specs.Ordering.{nat_cmp, is_lt, ord_min}
use Rattle.std.specs.FinMap.{find, is_sorted}
use Rattle.std.specs.FinMap.Entries.{below_all}
use Rattle.std.proofs.lemmas.Bool.{cases_lt, and_parts, lt-ltb}
use Rattle.tsn_table.specs.Firsts.{first_id, lesser, lesser_by}
use Rattle.tsn_table.proofs.Orders.{is_less, is_greater, is_equal}

pub not_some : {A : Type 0} (o : Option A) (x : A) → o ≡ None → o ≡ Some x → ⊥
not_some o x n s = (cc)

module _ {X : Type 0} (p : X → Bool) where
  -- the row of the number does not pass, or is not there
  abbrev pub MissesIn : ℕ → List (ℕ × X) → Type 0
  MissesIn n es = (q : X) → find nat_cmp n es ≡ Some q → p q ≡ false

  -- the row of the number passes, and none of a lesser number does; without a number none does
  abbrev pub LeastIn : List (ℕ × X) → Option ℕ → Type 0
  LeastIn es None = (n : ℕ) → MissesIn n es
  LeastIn es (Some n) = ((q : X) × (find nat_cmp n es ≡ Some q) × (p q ≡ true)) × ((k : ℕ) → k < n → MissesIn k es)

  find_below : (k x : ℕ) (es : List (ℕ × X)) → k ≤ x → below_all nat_cmp x es ≡ true → find nat_cmp k es ≡ None
  find_below k x [] le h = refl
  find_below k x (e ∷ es) le h = grind (arith, (find_below k x es le ((and_parts (is_lt (nat_cmp x e.0)) _ h).1)))

  pub missed : (b : Bool) (e : ℕ × X) (o : Option X) → p e.1 ≡ false → ((q : X) → o ≡ Some q → p q ≡ false) → (q : X)
      → cond b (Some e.1) o ≡ Some q → p q ≡ false
  missed b e o f rest q is = grind arith

  later : (e : ℕ × X) (es : List (ℕ × X)) → p e.1 ≡ false → below_all nat_cmp e.0 es ≡ true → (o : Option ℕ) → LeastIn es o
      → LeastIn (e ∷ es) o
  later e es f b o all = grind (arith, missed, cases_lt, is_greater, lt-ltb, not_some, find_below)

  none_before : (e : ℕ × X) (es : List (ℕ × X)) → below_all nat_cmp e.0 es ≡ true → (k : ℕ) → k < e.0 → MissesIn k (e ∷ es)
  none_before e es b k lt q is = grind (arith, is_less, find_below, not_some)

  pub first_row : (e : ℕ × X) (es : List (ℕ × X)) → find nat_cmp e.0 (e ∷ es) ≡ Some e.1
  first_row e es = rw (is_equal e.0 e.0 refl) refl

  pub least_in : (es : List (ℕ × X)) → is_sorted nat_cmp es ≡ true → LeastIn es (first_id p es)
  least_in [] s = λ n q is. absurd (not_some None q refl is)
  least_in (e ∷ es) s =
      grind (arith, and_parts, first_row, none_before, later, (least_in es ((and_parts (below_all nat_cmp e.0 es) _ s).1)))

  only : (es : List (ℕ × X)) (o r : Option ℕ) → LeastIn es o → LeastIn es r → o ≡ r
  only es o r l m = grind arith

  pub first_is : (es : List (ℕ × X)) → is_sorted nat_cmp es ≡ true → (o : Option ℕ) → LeastIn es o → o ≡ first_id p es
  first_is es s o l = only es o (first_id p es) l (least_in es s)

-- of two tests the first row that passes either is the lesser of the first ones
first_above : {X : Type 0} (p : X → Bool) (x : ℕ) (es : List (ℕ × X)) → below_all nat_cmp x es ≡ true
    → lesser (Some x) (first_id p es) ≡ Some x
first_above p x [] h = refl
first_above p x (e ∷ es) h = grind (arith, (first_above p x es ((and_parts (is_lt (nat_cmp x e.0)) _ h).1)))

turned : (o r : Option ℕ) → lesser o r ≡ lesser r o
turned o r = grind arith

pub first_either : {X : Type 0} (p q : X → Bool) (es : List (ℕ × X)) → is_sorted nat_cmp es ≡ true
    → first_id (λ x. p x || q x) es ≡ lesser (first_id p es) (first_id q es)
first_either p q [] s = refl
first_either p q (e ∷ es) s =
    grind (arith, and_parts, first_above, turned, (first_either p q es ((and_parts (below_all nat_cmp e.0 es) _ s).1)))

-- the lesser of two numbers by their order
pub lesser_by-nat_cmp : (o r : Option ℕ) → lesser_by (ord_min nat_cmp) o r ≡ lesser o r
lesser_by-nat_cmp o r = grind arith
