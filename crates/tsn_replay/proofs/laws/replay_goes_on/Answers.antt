use Rattle.tsn_replay.proofs.LeadingBack.{replays_on}
use Rattle.tsn_replay.proofs.laws.replay_goes_on.Goals as goal

pub returns : goal.returns
returns c done rest start between now one other = replays_on done rest start between now one other
