-- Causes in the order of their ranks: the least is the first.
use Rattle.std.proofs.Common.{◌≡◌, ◌≤◌, ◌<◌, ℕ, Bool, true, false, refl, sym, ap, ◌∙◌, arith, List, [], ◌∷◌, ◌++◌, Option, Some, None}
use Rattle.std.proofs.lemmas.Grind.{common_steps}
use Rattle.std.specs.Prelude.{nat_lt}
use Rattle.std.specs.Option.{option_or}
use Rattle.std.proofs.lemmas.Bool.Decides.{nat_tests}
use Rattle.tsn_types.specs.declared.refusals.Refusal.{Refusal}
use Rattle.tsn_types.specs.Limits.{unless, first_cause}
use Rattle.tsn_types.specs.Refusals.{least, lesser, rank_of}

-- a cause, if it is one, has the rank
abbrev pub Is : ℕ → Option Refusal → Type 0
Is n None = Unit {0}
Is n (Some why) = rank_of why ≡ n

-- each cause has a rank of its own, none less than the one before
abbrev pub IsOrdered : ℕ → List (ℕ × Option Refusal) → Type 0
IsOrdered n [] = Unit {0}
IsOrdered n (o ∷ os) = (n ≤ o.0) × Is o.0 o.1 × IsOrdered o.0 os

abbrev pub causes_of : List (ℕ × Option Refusal) → List (Option Refusal)
causes_of [] = []
causes_of (o ∷ os) = o.1 ∷ causes_of os

abbrev AtLeast : ℕ → Option Refusal → Type 0
AtLeast n None = Unit {0}
AtLeast n (Some why) = n ≤ rank_of why

not_less : (n m : ℕ) → n ≤ m → nat_lt m n ≡ false
not_less n m h = grind (arith, nat_tests)

lower : (n m : ℕ) (o : Option Refusal) → n ≤ m → AtLeast m o → AtLeast n o
lower n m o le h = grind arith

first_of_two : (n : ℕ) (o p : Option Refusal) → Is n o → AtLeast n p → lesser o p ≡ option_or o p
first_of_two n o p is h = grind (arith, not_less)

bound : (n : ℕ) (o p : Option Refusal) → Is n o → AtLeast n p → AtLeast n (option_or o p)
bound n o p is h = grind arith

record IsFirst (n : ℕ) (os : List (ℕ × Option Refusal)) : Type 0 where
  same : least (causes_of os) ≡ first_cause (causes_of os)
  no_less : AtLeast n (first_cause (causes_of os))

first : (n : ℕ) (os : List (ℕ × Option Refusal)) → IsOrdered n os → IsFirst n os
first n [] h = record { same = refl; no_less = tt }
first n (o ∷ os) h = grind (arith, first_of_two, lower, bound, (first o.0 os h.2))

-- of causes in the order of their ranks the least is the first
pub least-ordered : (os : List (ℕ × Option Refusal)) → IsOrdered 0 os → least (causes_of os) ≡ first_cause (causes_of os)
least-ordered os h = (first 0 os h).same

pub is_unless : (b : Bool) (why : Refusal) → Is (rank_of why) (unless b why)
is_unless b why = grind arith

pub is_either : (n : ℕ) (o p : Option Refusal) → Is n o → Is n p → Is n (option_or o p)
is_either n o p h k = grind arith

-- ---- a cause ahead of a full journal

-- no cause of a greater rank
abbrev pub AtMost : ℕ → Option Refusal → Type 0
AtMost n None = Unit {0}
AtMost n (Some why) = rank_of why ≤ n

abbrev pub AreAtMost : ℕ → List (ℕ × Option Refusal) → Type 0
AreAtMost n [] = Unit {0}
AreAtMost n (o ∷ os) = (o.0 ≤ n) × AreAtMost n os

most_either : (n m : ℕ) (o p : Option Refusal) → m ≤ n → Is m o → AtMost n p → AtMost n (option_or o p)
most_either n m o p le is h = grind arith

pub first-most : (n k : ℕ) (os : List (ℕ × Option Refusal)) → IsOrdered k os → AreAtMost n os → AtMost n (first_cause (causes_of os))
first-most n k [] ordered h = tt
first-most n k (o ∷ os) ordered h = most_either n o.0 o.1 (first_cause (causes_of os)) h.0 ordered.1 (first-most n o.0 os ordered.2 h.1)

pub least-before : (n : ℕ) (o : Option Refusal) (b : Bool) (why : Refusal) → AtMost n o → n ≤ rank_of why
    → least (o ∷ unless b why ∷ []) ≡ option_or o (unless b why)
least-before n o b why h le = grind (arith, not_less)

-- ---- the least of two lists

pub lesser-none : (o : Option Refusal) → lesser o None ≡ o
lesser-none o = grind arith

not_below : (n m : ℕ) → nat_lt m n ≡ false → n ≤ m
not_below n m h = grind (arith, nat_tests)

is_below : (n m : ℕ) → nat_lt m n ≡ true → m < n
is_below n m h = grind (arith, nat_tests)

below : (n m : ℕ) → m < n → nat_lt m n ≡ true
below n m h = grind (arith, nat_tests)

-- of three causes, whichever two are looked at first
lesser-three : (a b c : Refusal) (u v : Bool) → nat_lt (rank_of b) (rank_of a) ≡ u → nat_lt (rank_of c) (rank_of b) ≡ v
    → lesser (lesser (Some a) (Some b)) (Some c) ≡ lesser (Some a) (lesser (Some b) (Some c))
lesser-three a b c u v first second = grind (arith, first, below, is_below, not_less, not_below)

lesser-assoc : (o p q : Option Refusal) → lesser (lesser o p) q ≡ lesser o (lesser p q)
lesser-assoc o p q = grind (arith, lesser-none, lesser-three)

-- the least of a list and more is the lesser of the two leasts
pub least-append : (os ps : List (Option Refusal)) → least (os ++ ps) ≡ lesser (least os) (least ps)
least-append [] ps = refl
least-append (o ∷ os) ps = ap (lesser o) (least-append os ps) ∙ sym (lesser-assoc o (least os) (least ps))

pub lesser-most : (n : ℕ) (o p : Option Refusal) → AtMost n o → AtMost n p → AtMost n (lesser o p)
lesser-most n o p h k = grind (arith, common_steps)
