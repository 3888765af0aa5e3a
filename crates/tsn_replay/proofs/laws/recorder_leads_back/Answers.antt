use Rattle.tsn_replay.proofs.Running.{recorder_back}
use Rattle.tsn_replay.proofs.laws.recorder_leads_back.Goals as goal

pub returns : goal.returns
returns c line most start asks now told runs = recorder_back line most start asks now told runs
