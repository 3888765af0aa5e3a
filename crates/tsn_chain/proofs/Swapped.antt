-- A row that is taken out, with a placeholder in its place, and put in again.
use Rattle.std.proofs.Common.{◌≡◌, ◌≤◌, ℕ, Bool, true, cond, refl, sym, ◌∙◌, ap, subst, Some, List, arith}
use Rattle.std.specs.Prelude.{is_some, IsSome}
use Rattle.std.proofs.lemmas.Bool.Decides.{nat_tests}
use Rattle.std.proofs.lemmas.Cmp.{tied_itself}
use Rattle.tsn_schedule.specs.Acts.{Act, with_act}
use Rattle.tsn_schedule.specs.Kept.{Kept}
use Rattle.tsn_schedule.specs.Stands.{StandsFor}
use Rattle.tsn_chain.specs.Instances.{AreBy}
use Rattle.tsn_chain.specs.Acts.{RowActs}
use Rattle.tsn_chain.proofs.Timely.{by_insert}
use Rattle.std.specs.FinMap.{FinMap, get, insert, get-insert, same_map, nat_cmp-IsAntisymmetric}
use Rattle.std.specs.Ordering.{nat_cmp, eq_by_cmp, is_eq}
use Rattle.std.specs.Cmp.{nat_cmp_total}

-- only one number compares alike
pub one_number : (a b : ℕ) → eq_by_cmp nat_cmp a b ≡ true → a ≡ b
one_number a b h = grind (arith, nat_tests)

over : {A : Type 0} (b : Bool) (x y z : A) → cond b x (cond b y z) ≡ cond b x z
over b x y z = grind arith

-- the later row counts
pub insert_twice : {A : Type 0} (t : FinMap nat_cmp A) (n : ℕ) (x y : A) → insert (insert t n x) n y ≡ insert t n y
insert_twice t n x y =
    same_map nat_cmp_total nat_cmp-IsAntisymmetric (insert (insert t n x) n y) (insert t n y)
    (λ q. get-insert nat_cmp_total (insert t n x) n y q ∙ ap (cond (eq_by_cmp nat_cmp q n) (Some y)) (get-insert nat_cmp_total t n x q)
    ∙ over (eq_by_cmp nat_cmp q n) (Some y) (Some x) (get t q) ∙ sym (get-insert nat_cmp_total t n y q))

same_place : {A : Type 0} (t : FinMap nat_cmp A) (n q : ℕ) (x : A) (b : Bool) → eq_by_cmp nat_cmp q n ≡ b → get t n ≡ Some x
    → cond b (Some x) (get t q) ≡ get t q
same_place t n q x b e is = grind arith

-- a row put over itself
pub insert_same : {A : Type 0} (t : FinMap nat_cmp A) (n : ℕ) (x : A) → get t n ≡ Some x → insert t n x ≡ t
insert_same t n x is =
    same_map nat_cmp_total nat_cmp-IsAntisymmetric (insert t n x) t
    (λ q. get-insert nat_cmp_total t n x q ∙ same_place t n q x (eq_by_cmp nat_cmp q n) refl is)

pub has_row : {A : Type 0} (t m : FinMap nat_cmp A) (n : ℕ) (x : A) → m ≡ insert t n x → IsSome (get m n)
has_row {A = A} t m n x is =
    ap (λ (s : FinMap nat_cmp A). is_some (get s n)) is
    ∙ ap is_some (get-insert nat_cmp_total t n x n ∙ ap (λ b. cond b (Some x) (get t n)) (ap is_eq (tied_itself nat_cmp_total n)))

module _ {E : Type 0} (t middle last : FinMap nat_cmp (Kept E)) (n : ℕ) (placeholder was is : Kept E) (found : Some was ≡ get t n)
    (out : middle ≡ insert t n placeholder) (back : last ≡ insert middle n is) where
  pub set : last ≡ insert t n is
  set = back ∙ ap (λ (m : FinMap nat_cmp (Kept E)). insert m n is) out ∙ insert_twice t n placeholder is

  pub acts_on : (act : Act E) → ((acts : List (Act E)) → StandsFor was acts → StandsFor is (with_act act acts)) → RowActs t n act last
  acts_on act stands = record { was = was; is = is; found = sym found; set = set; stands = stands }

  pub put_back : is ≡ was → last ≡ t
  put_back same = set ∙ ap (insert t n) same ∙ insert_same t n was (sym found)

  pub still_by : (now : ℕ) → AreBy now t → is.last ≤ now → AreBy now last
  still_by now h le = subst (λ (m : FinMap nat_cmp (Kept E)). AreBy now m) (sym set) (by_insert now n t is h le)
