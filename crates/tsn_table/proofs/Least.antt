-- The least number of a row that passes, of rows in any order.
use Rattle.std.proofs.Common.{◌≡◌, inl, inr, ℕ, ◌<◌, ◌≤◌, Bool, true, false, cond, List, [], ◌∷◌, ◌++◌, map, refl, sym, ◌∙◌, ap, subst, Option, Some, None, arith}
use Rattle.std.specs.Prelude.{nat_eq, min}
use Rattle.std.specs.Ordering.{nat_cmp, eq_by_cmp}
use Rattle.std.specs.FinMap.{FinMap, find, from_entries, get, entries, entries_sorted, get-from_entries, get-entries}
use Rattle.std.specs.List.{IsDistinct}
use Rattle.std.specs.Map.{keys_of}
use Rattle.std.proofs.lemmas.Cmp.{nat_cmp_total, nat_eq_equiv}
use Rattle.std.proofs.lemmas.Bool.{cases_lt}
use Rattle.std.proofs.lemmas.Bool.Decides.{nat_tests}
use Rattle.std.proofs.lemmas.Map.{lookup-none}
use Rattle.std.proofs.lemmas.Map.Entries.{none_past_head}
use Rattle.std.proofs.lemmas.Map.Keys.{IsDistinct-tail}
use Rattle.tsn_table.specs.Firsts.{first_id, least_id, lesser}
use Rattle.tsn_table.proofs.Firsts.{LeastIn, first_row, first_is, not_some}
use Rattle.tsn_table.proofs.Orders.{of_T}
use Rattle.tsn_table.proofs.Rows.{lookup_is}

module _ {X A : Type 0} (p : X → Bool) (shows : A → ℕ × X) where
  -- one row more
  least_more : (xs : List A) (y : A)
      → least_id p (map shows (xs ++ y ∷ [])) ≡ cond (p (shows y).1) (lesser (least_id p (map shows xs)) (Some (shows y).0))
      (least_id p (map shows xs))
  least_more [] y = refl
  least_more (x ∷ xs) y = grind (arith, (least_more xs y))

  pub more_passing : (xs : List A) (y : A) → p (shows y).1 ≡ true
      → least_id p (map shows (xs ++ y ∷ [])) ≡ lesser (least_id p (map shows xs)) (Some (shows y).0)
  more_passing xs y passes =
      least_more xs y ∙ ap (λ b. cond b (lesser (least_id p (map shows xs)) (Some (shows y).0)) (least_id p (map shows xs))) passes

  pub more_failing : (xs : List A) (y : A) → p (shows y).1 ≡ false → least_id p (map shows (xs ++ y ∷ [])) ≡ least_id p (map shows xs)
  more_failing xs y fails =
      least_more xs y ∙ ap (λ b. cond b (lesser (least_id p (map shows xs)) (Some (shows y).0)) (least_id p (map shows xs))) fails

lower : (a b : ℕ) → a < b → min a b ≡ a
lower a b lt = omega arith

upper : (a b : ℕ) → b ≤ a → min a b ≡ b
upper a b le = omega arith

itself : (k : ℕ) → nat_eq k k ≡ true
itself k = grind (arith, nat_tests)

module _ {X : Type 0} (p : X → Bool) where
  apart : (n k : ℕ) → (n ≡ k → ⊥) → eq_by_cmp nat_cmp n k ≡ false
  apart n k differ = grind (arith, nat_tests)

  beside : (e : ℕ × X) (es : List (ℕ × X)) (n : ℕ) → (n ≡ e.0 → ⊥) → find nat_cmp n (e ∷ es) ≡ find nat_cmp n es
  beside e es n differ = ap (λ b. cond b (Some e.1) (find nat_cmp n es)) (apart n e.0 differ)

  -- a row that is found stands not at a number that finds none
  other : (es : List (ℕ × X)) (n k : ℕ) (q : X) → find nat_cmp n es ≡ Some q → find nat_cmp k es ≡ None → n ≡ k → ⊥
  other es n k q is none same = not_some (find nat_cmp n es) q (ap (λ i. find nat_cmp i es) same ∙ none) is

  passed : (e : ℕ × X) (es : List (ℕ × X)) → find nat_cmp e.0 es ≡ None → p e.1 ≡ true → (o : Option ℕ) → LeastIn p es o
      → LeastIn p (e ∷ es) (lesser (Some e.0) o)
  passed e es none t None all = ((e.1, first_row p e es, t), λ k lt q is. all k q (sym (beside e es k (λ same. omega arith)) ∙ is))
  passed e es none t (Some n) l =
      elim (cases_lt e.0 n) [
        | inl lt ↦ subst (LeastIn p (e ∷ es)) (ap Some (sym (lower e.0 n lt)))
            ((e.1, first_row p e es, t), λ k less q is. l.1 k (omega arith) q (sym (beside e es k (λ same. omega arith)) ∙ is))
        | inr le ↦ subst (LeastIn p (e ∷ es)) (ap Some (sym (upper e.0 n le))) (
          (l.0.0, beside e es n (other es n e.0 l.0.0 l.0.1 none) ∙ l.0.1, l.0.2),
          λ k less q is. l.1 k less q (sym (beside e es k (λ same. omega arith)) ∙ is),
        )
      ]

  failed : (e : ℕ × X) (es : List (ℕ × X)) → find nat_cmp e.0 es ≡ None → p e.1 ≡ false → (o : Option ℕ) → LeastIn p es o
      → LeastIn p (e ∷ es) o
  failed e es none f o all = grind arith

  least_any : (es : List (ℕ × X)) → IsDistinct nat_eq (keys_of es) → LeastIn p es (least_id p es)
  least_any [] d = λ n q is. absurd (not_some None q refl is)
  least_any (e ∷ es) d =
      let rest = least_any es (IsDistinct-tail nat_eq e.0 (keys_of es) d) in
      let none : find nat_cmp e.0 es ≡ None = sym (lookup_is e.0 es)
      ∙ lookup-none (nat_eq e.0) es (none_past_head nat_eq_equiv e.0 e es d (itself e.0)) in
      elim (p e.1) as (λ b. p e.1 ≡ b → LeastIn p (e ∷ es) (cond b (lesser (Some e.0) (least_id p es)) (least_id p es))) [
        | true ↦ λ t. passed e es none t (least_id p es) rest
        | false ↦ λ f. failed e es none f (least_id p es) rest
      ] refl

  alike : (es fs : List (ℕ × X)) → ((n : ℕ) → find nat_cmp n es ≡ find nat_cmp n fs) → (o : Option ℕ) → LeastIn p es o → LeastIn p fs o
  alike es fs same o all = grind arith

  -- it is that of the first row, in the order of the numbers
  pub least_is_first : (es : List (ℕ × X)) (m : FinMap nat_cmp X) → from_entries es ≡ m → IsDistinct nat_eq (keys_of es)
      → least_id p es ≡ first_id p (entries m)
  least_is_first es m is d =
      first_is p (entries m) (of_T _ (entries_sorted m)) _
      (alike es (entries m) (λ n. sym (get-from_entries nat_cmp_total es n) ∙ ap (λ k. get k n) is ∙ get-entries m n) _
      (least_any es d))
