use Rattle.std.proofs.Common.{◌≡◌, Some, pos, refl, arith}
use Rattle.std.proofs.lemmas.Grind.{common_steps}
use Rattle.tsn_setup.specs.Toml.{natural}
use Rattle.tsn_setup.proofs.Values.{number_read}
use Rattle.tsn_setup.proofs.given.U64Given.given.Goals as goal

pub returns-in_ok-natural-in-Integer-clause-value : goal.returns-in_ok-natural-in-Integer-clause-value
returns-in_ok-natural-in-Integer-clause-value c =
    let number = c.in-Integer.number in
    let is : natural number ≡ Some c.in_ok-natural-in-Integer.field-0 = grind (arith, common_steps) in
    number_read c.in_ok-natural-in-Integer.field-0 number c.args.text.now c.in_ok-scalar.rest.now
    (rw c.in-Integer.is at c.in_ok-scalar.ensures.value) is

pub returns-in-Some-clause-value : goal.returns-in-Some-clause-value
returns-in-Some-clause-value c =
    number_read c.in-Some.number (pos c.in-Some.number) c.args.text.now c.in-Some.rest.now c.in-Some.ensures.value refl
