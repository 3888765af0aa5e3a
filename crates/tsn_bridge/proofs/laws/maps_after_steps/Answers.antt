use Rattle.tsn_bridge.proofs.AtOnce.{edited_map, taken_map}
use Rattle.tsn_bridge.proofs.laws.maps_after_steps.Goals as goal

pub returns-clause-edit : goal.returns-clause-edit
returns-clause-edit c before after session batch entry is step = edited_map before after session batch entry is step

pub returns-clause-undo : goal.returns-clause-undo
returns-clause-undo c before after session number of step = taken_map before after session number of step
