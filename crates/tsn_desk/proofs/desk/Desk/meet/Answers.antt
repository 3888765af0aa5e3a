use Rattle.std.proofs.Common.{ap}
use Rattle.tsn_desk.specs.Seats.{seen}
use Rattle.tsn_machine.proofs.Begin.{begins_either}
use Rattle.tsn_desk.proofs.desk.Desk.meet.Goals as goal

pub returns-clause-one_line : goal.returns-clause-one_line
returns-clause-one_line g c =
    let one = ap seen c.into_inner-one.ensures.same in
    let other = ap seen c.into_inner-other.ensures.same in
    let both = c.tell.ensures.to in
    begins_either _ _ (seen c.tell.new.to) (rw one at both.learned) (rw other at both.kept)
