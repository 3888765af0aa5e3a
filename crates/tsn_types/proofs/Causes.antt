-- The first cause of a list, and the first of two options.
use Rattle.std.proofs.Common.{◌≡◌, Bool, true, List, [], ◌∷◌, ◌++◌, refl, Option, Some, None, arith}
use Rattle.std.specs.Option.{option_or}
use Rattle.std.specs.List.{AllByRecursion}
use Rattle.tsn_types.specs.declared.refusals.Refusal.{Refusal}
use Rattle.tsn_types.specs.Limits.{unless, first_cause}

pub option_or-None : {A : Type 0} (o : Option A) → option_or o None ≡ o
option_or-None o = grind arith

-- where the first of two is none, both are
pub option_or_parts : {A : Type 0} (o p : Option A) → option_or o p ≡ None → (o ≡ None) × (p ≡ None)
option_or_parts o p h = grind arith

-- where the first cause is none, each is
pub each_none : (os : List (Option Refusal)) → first_cause os ≡ None → AllByRecursion (λ o. o ≡ None) os
each_none [] h = tt
each_none (o ∷ os) h = let both = option_or_parts o (first_cause os) h in (both.0, each_none os both.1)

-- the first cause is one of the first ones, or else one of those behind them
pub first_cause-append : (os ps : List (Option Refusal)) → first_cause (os ++ ps) ≡ option_or (first_cause os) (first_cause ps)
first_cause-append [] ps = refl
first_cause-append (None ∷ os) ps = first_cause-append os ps
first_cause-append (Some x ∷ os) ps = refl

pub unless-None : (b : Bool) (why : Refusal) → unless b why ≡ None → b ≡ true
unless-None b why h = grind arith

pub unless-true : (b : Bool) (why : Refusal) → b ≡ true → unless b why ≡ None
unless-true b why h = (cc)
