-- What holds of each row of a table holds of each after one is put in or taken out.
use Rattle.std.proofs.Common.{◌≡◌, ℕ, true, false, cond, sym, ◌∙◌, ap, subst, Option, Some, None}
use Rattle.std.specs.Cmp.{nat_cmp_total}
use Rattle.std.specs.FinMap.{FinMap, get, insert, remove, empty, get-insert, get-remove, get-empty}
use Rattle.std.specs.Ordering.{nat_cmp, eq_by_cmp}
use Rattle.tsn_types.specs.declared.records.Record.{Record}
use Rattle.tsn_edit.proofs.KeyFacts.{by_bool}
use Rattle.tsn_chain.specs.Following.{row_after}

abbrev pub Each : {A : Type 0} → (ℕ → A → Type 0) → FinMap nat_cmp A → Type 0
Each {A = A} P t = (n : ℕ) (x : A) → get t n ≡ Some x → P n x

pub each_empty : {A : Type 0} (P : ℕ → A → Type 0) → Each P empty
each_empty {A = A} P n x is = let none = get-empty {X = A} nat_cmp n in absurd (cc)

pub each_insert : {A : Type 0} (P Q : ℕ → A → Type 0) (n : ℕ) (t : FinMap nat_cmp A) (new : A) → Each P t
    → ((m : ℕ) → eq_by_cmp nat_cmp m n ≡ true → Q m new) → ((m : ℕ) (x : A) → eq_by_cmp nat_cmp m n ≡ false → P m x → Q m x)
    → Each Q (insert t n new)
each_insert P Q n t new each here others m x is =
    let at = sym (get-insert nat_cmp_total t n new m) ∙ is in
    by_bool (eq_by_cmp nat_cmp m n)
    (λ yes.
    let put : Some new ≡ Some x = ap (λ b. cond b (Some new) (get t m)) (sym yes) ∙ at in
    let same : new ≡ x = cc in
    subst (Q m) same (here m yes))
    (λ no. others m x no (each m x (ap (λ b. cond b (Some new) (get t m)) (sym no) ∙ at)))

pub each_remove : {A : Type 0} (P : ℕ → A → Type 0) (n : ℕ) (t : FinMap nat_cmp A) → Each P t → Each P (remove t n)
each_remove P n t each m x is =
    let at = sym (get-remove nat_cmp_total t n m) ∙ is in
    by_bool (eq_by_cmp nat_cmp m n)
    (λ yes. let gone : None ≡ Some x = ap (λ b. cond b None (get t m)) (sym yes) ∙ at in absurd (cc))
    (λ no. each m x (ap (λ b. cond b None (get t m)) (sym no) ∙ at))

-- the row of an instance that is created is new, that of one that is removed is gone
pub each_row : {A : Type 0} (P : ℕ → A → Type 0) (new : A) (before after : Option Record) (t : FinMap nat_cmp A) (n : ℕ) → Each P t
    → ((m : ℕ) → P m new) → Each P (row_after new before after t n)
each_row P new before None t n each fits = each_remove P n t each
each_row P new None (Some r) t n each fits = each_insert P P n t new each (λ m yes. fits m) (λ m x no held. held)
each_row P new (Some q) (Some r) t n each fits = each
