-- Numbers told apart by their order, and what is said of an option.
use Rattle.std.proofs.Common.{◌≡◌, ◌⊎◌, IsSome, ℕ, ◌<◌, ◌≤◌, Bool, true, false, Option, None, arith, nat_lt}
use Rattle.std.specs.Prelude.{T}
use Rattle.std.specs.Ordering.{nat_cmp, is_lt}
use Rattle.std.specs.declared.cmp.Ordering.TheVariants.{Less, Equal, Greater}
use Rattle.std.proofs.lemmas.Bool.Decides.{nat_tests}

pub by_bool : {G : Type 0} (b : Bool) → (b ≡ true → G) → (b ≡ false → G) → G
by_bool b f g = grind arith

pub less_is : (a b : ℕ) → is_lt (nat_cmp a b) ≡ true → a < b
less_is a b h = grind (arith, nat_tests)

pub is_greater : (k x : ℕ) → nat_lt x k ≡ true → nat_cmp k x ≡ Greater
is_greater k x h = grind (arith, nat_tests)

pub is_less : (k x : ℕ) → k < x → nat_cmp k x ≡ Less
is_less k x h = grind (arith, nat_tests)

pub is_equal : (k x : ℕ) → x ≡ k → nat_cmp k x ≡ Equal
is_equal k x h = grind (arith, nat_tests)

pub of_T : (b : Bool) → T b → b ≡ true
of_T b h = grind arith

pub room : {A : Type 0} (o : Option A) (n : ℕ) → IsSome o ⊎ (1 ≤ n) → o ≡ None → 1 ≤ n
room o n h none = grind arith
