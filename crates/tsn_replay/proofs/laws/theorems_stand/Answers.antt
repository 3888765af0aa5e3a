use Rattle.tsn_replay.proofs.Running.{stands_alone}
use Rattle.tsn_replay.proofs.laws.theorems_stand.Goals as goal

pub returns : goal.returns
returns c line most start asks now told runs = stands_alone line most start asks now told runs
