use Rattle.tsn_bridge.specs.Beginning.{begun}
use Rattle.tsn_bridge.specs.Histories.{Answers}
use Rattle.tsn_replay.specs.Handling.{Handles}
use Rattle.tsn_replay.proofs.LeadingBack.{comes_of, replayed}
use Rattle.tsn_replay.proofs.Running.{answers_within, handles_within}
use Rattle.tsn_replay.proofs.laws.replayed.Goals as goal

pub returns-clause-replayed : goal.returns-clause-replayed
returns-clause-replayed c limits records asks now leads =
    replayed Answers answers_within (begun limits records) asks now (comes_of asks (begun limits records) now leads)

pub returns-clause-with_a_recorder : goal.returns-clause-with_a_recorder
returns-clause-with_a_recorder c line most start asks now comes =
    replayed (Handles line most) (handles_within line most) start asks now comes
