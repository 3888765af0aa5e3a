use Rattle.tsn_replay.specs.Handling.{Handles}
use Rattle.tsn_replay.proofs.LeadingBack.{lived}
use Rattle.tsn_replay.proofs.Running.{handles_within}
use Rattle.tsn_replay.proofs.laws.lived.Goals as goal

pub returns : goal.returns
returns c line most start now lives written h = lived (Handles line most) (handles_within line most) lives start now written h
