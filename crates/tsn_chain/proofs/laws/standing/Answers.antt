use Rattle.tsn_chain.proofs.Standing.{stand_act, stand_apply, stand_begin, stand_follow}
use Rattle.tsn_chain.proofs.laws.standing.Goals as goal

pub returns : goal.returns
returns c = record { beginning = stand_begin; following = stand_follow; acting = stand_act; applying = stand_apply }
