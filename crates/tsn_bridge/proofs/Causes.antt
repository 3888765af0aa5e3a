-- The causes of a command on a key are in the order of their numbers, so the least is the first.
use Rattle.std.proofs.Common.{◌≡◌, ℕ, Bool, true, false, refl, ◌∙◌, arith, List, [], ◌∷◌, Option, Some, None}
use Rattle.std.specs.Prelude.{is_some}
use Rattle.std.specs.Option.{option_or}
use Rattle.std.specs.FinMap.{get}
use Rattle.tsn_types.specs.declared.keys.Key.{Key}
use Rattle.tsn_types.specs.declared.refusals.Field.TheVariants as fields
use Rattle.tsn_types.specs.declared.refusals.Refusal.{Refusal}
use Rattle.tsn_types.specs.declared.refusals.Refusal.TheVariants.{Missing, NoSession, Range, Shape}
use Rattle.tsn_types.specs.Limits.{first_cause, holds_key, unless}
use Rattle.tsn_types.specs.Refusals.{least}
use Rattle.tsn_types.proofs.Ordered.{IsOrdered, causes_of, is_unless, least-ordered}
use Rattle.tsn_undo.specs.Ledger.{present}
use Rattle.tsn_bridge.specs.Acts.{has_list, key_causes, list_causes}
use Rattle.tsn_bridge.specs.Rule.{is_given}
use Rattle.tsn_bridge.specs.State.{State}

-- causes one by one, and then others
grouped : (a b c d m : Option Refusal)
    → option_or a (option_or b (option_or c (option_or d m))) ≡ option_or (option_or a (option_or b (option_or c (option_or d None)))) m
grouped None None None None m = refl
grouped (Some a) b c d m = refl
grouped None (Some b) c d m = refl
grouped None None (Some c) d m = refl
grouped None None None (Some d) m = refl

module _ (s : State) (n : ℕ) (k : Key) (more : List (ℕ × Option Refusal)) (h : IsOrdered 6 more) where
  numbered_key : List (ℕ × Option Refusal)
  numbered_key = (4, unless (holds_key s.book.limits k) (Range fields.Key)) ∷ (5, unless (is_given s n) NoSession)
      ∷ (6, unless (is_some (get (present s.book) k)) (Missing k)) ∷ more

  ordered_key : IsOrdered 3 numbered_key
  unfolding numbered_key
  ordered_key = (
    omega arith,
    is_unless (holds_key s.book.limits k) (Range fields.Key),
    (omega arith, is_unless (is_given s n) NoSession, (omega arith, is_unless (is_some (get (present s.book) k)) (Missing k), h)),
  )

  pub least_key : least (key_causes s n k (causes_of more)) ≡ option_or (first_cause (key_causes s n k [])) (first_cause (causes_of more))
  unfolding numbered_key
  least_key =
      least-ordered numbered_key (omega arith, ordered_key.1, ordered_key.2)
      ∙ grouped None (unless (holds_key s.book.limits k) (Range fields.Key)) (unless (is_given s n) NoSession)
      (unless (is_some (get (present s.book) k)) (Missing k)) (first_cause (causes_of more))

  pub least_list : least (list_causes s n k (causes_of more)) ≡ option_or (first_cause (list_causes s n k []))
      (first_cause (causes_of more))
  unfolding numbered_key
  least_list =
      least-ordered ((3, unless (has_list k) Shape) ∷ numbered_key) (omega arith, is_unless (has_list k) Shape, ordered_key)
      ∙ grouped (unless (has_list k) Shape) (unless (holds_key s.book.limits k) (Range fields.Key)) (unless (is_given s n) NoSession)
      (unless (is_some (get (present s.book) k)) (Missing k)) (first_cause (causes_of more))

-- nothing refuses: the key is within the limits and there, and has a list
passed : (a b c d : Bool) (w x y z : Refusal)
    → option_or (unless a w) (option_or (unless b x) (option_or (unless c y) (option_or (unless d z) None))) ≡ None
    → (a ≡ true) × (b ≡ true) × (d ≡ true)
passed true true true true w x y z e = (refl, refl, refl)
passed true true true false w x y z e = (cc)
passed true true false d w x y z e = (cc)
passed true false c d w x y z e = (cc)
passed false b c d w x y z e = (cc)

pub there_key : (s : State) (n : ℕ) (k : Key) → first_cause (key_causes s n k []) ≡ None → is_some (get (present s.book) k) ≡ true
there_key s n k e = (passed true (holds_key s.book.limits k) (is_given s n) (is_some (get (present s.book) k)) Shape (Range fields.Key)
    NoSession (Missing k) e).2

passed_list : (s : State) (n : ℕ) (k : Key) → first_cause (list_causes s n k []) ≡ None
    → (has_list k ≡ true) × (holds_key s.book.limits k ≡ true) × (is_some (get (present s.book) k) ≡ true)
passed_list s n k e = passed (has_list k) (holds_key s.book.limits k) (is_given s n) (is_some (get (present s.book) k)) Shape
    (Range fields.Key) NoSession (Missing k) e

pub there_list : (s : State) (n : ℕ) (k : Key) → first_cause (list_causes s n k []) ≡ None
    → (has_list k ≡ true) × (is_some (get (present s.book) k) ≡ true)
there_list s n k e = let p = passed_list s n k e in (p.0, p.2)

pub within_list : (s : State) (n : ℕ) (k : Key) → first_cause (list_causes s n k []) ≡ None → holds_key s.book.limits k ≡ true
within_list s n k e = (passed_list s n k e).1

-- and the other way round
pub none_of_list : (s : State) (n : ℕ) (k : Key) → has_list k ≡ true → holds_key s.book.limits k ≡ true → is_given s n ≡ true
    → is_some (get (present s.book) k) ≡ true → first_cause (list_causes s n k []) ≡ None
none_of_list s n k listed within given there =
    λ i. first_cause (unless (listed i) Shape ∷ unless (within i) (Range fields.Key) ∷ unless (given i) NoSession
    ∷ unless (there i) (Missing k) ∷ [])
