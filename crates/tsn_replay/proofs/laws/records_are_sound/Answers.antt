use Rattle.tsn_replay.specs.Handling.{Handles}
use Rattle.tsn_replay.proofs.Lost.{recorded_again, records_in_range, whole_again}
use Rattle.tsn_replay.proofs.Running.{handles_within}
use Rattle.tsn_replay.proofs.laws.records_are_sound.Goals as goal

pub returns-clause-again : goal.returns-clause-again
returns-clause-again c line most start asks now comes = recorded_again (Handles line most) (handles_within line most) start asks now comes

pub returns-clause-in_range : goal.returns-clause-in_range
returns-clause-in_range c asks ranges = records_in_range asks ranges

pub returns-clause-whole : goal.returns-clause-whole
returns-clause-whole c limits records front moment opens ranges back = whole_again limits records front moment opens ranges back
