use Rattle.tsn_bridge.proofs.Examples.{filters_left, frame_1, frame_2, frame_3, gates_left, left_is, told_3}
use Rattle.tsn_bridge.proofs.laws.examples.Goals as goal

pub returns-clause-undo_all_leaves : goal.returns-clause-undo_all_leaves
returns-clause-undo_all_leaves c = (left_is, filters_left, gates_left)

pub returns-clause-gate_octets_frames : goal.returns-clause-gate_octets_frames
returns-clause-gate_octets_frames c = (frame_1, frame_2, frame_3, told_3)
