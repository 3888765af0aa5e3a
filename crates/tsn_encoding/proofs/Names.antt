-- How long the names of refusals and of members and the texts of keys are.
use Rattle.std.proofs.Common.{◌≡◌, ℕ, ◌+◌, ◌≤◌, ◌++◌, List, length, decimal, ap, ◌∙◌, arith, length-append, lit≤}
use Rattle.std.proofs.lemmas.Fmt.{length-decimal-le}
use Rattle.tsn_types.specs.Numbers.{greatest_instance}
use Rattle.tsn_types.specs.Refusals.{name_of, field_name}
use Rattle.tsn_types.specs.declared.refusals.Field.{Field}
use Rattle.tsn_types.specs.declared.refusals.Field.TheVariants as fields
use Rattle.tsn_types.specs.declared.refusals.Refusal.{Refusal}
use Rattle.tsn_types.specs.declared.refusals.Refusal.TheVariants as refusals

pub name_short : (r : Refusal) → length (name_of r) ≤ 15
name_short refusals.TooLong = lit≤ tt
name_short r = lit≤ tt

pub field_name_short : (f : Field) → length (field_name f) ≤ 11
field_name_short fields.S = lit≤ tt
field_name_short f = lit≤ tt

-- the number of a key has five digits at most
pub number_short : (t0 t1 : List ℕ) (n : ℕ) → n ≤ greatest_instance → t1 ≡ t0 ++ decimal n → length t1 ≤ length t0 + 5
number_short t0 t1 n small e =
    let digits : length (decimal n) ≤ 5 = length-decimal-le 5 n (omega arith) (omega (arith, small)) (omega (arith, small)) in
    let whole : length t1 ≡ length t0 + length (decimal n) = ap length e ∙ length-append t0 (decimal n) in
    omega (arith, digits, whole)
