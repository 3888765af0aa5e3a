use Rattle.tsn_bridge.proofs.AtOnce.{undone, free}
use Rattle.tsn_bridge.proofs.laws.edit_at_once_undone.Goals as goal

pub returns-clause-undone : goal.returns-clause-undone
returns-clause-undone c before edited between after session batch entry number of is ranges sound made' same back =
    undone before edited between session batch entry is ranges sound made' same after number of back

pub returns-clause-refused : goal.returns-clause-refused
returns-clause-refused c before edited between after session batch entry why is ranges sound made' same more back =
    free before edited between session batch entry is ranges sound made' same more after why back
