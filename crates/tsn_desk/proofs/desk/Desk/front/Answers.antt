use Rattle.std.proofs.Common.{rules}
use Rattle.tsn_desk.proofs.Keeps.{sees_front}
use Rattle.tsn_desk.proofs.desk.Desk.front.Goals as goal

pub load-front-requires : goal.load-front-requires
load-front-requires g c = (search rules, search rules, sees_front _ _ _ _ _ _)
