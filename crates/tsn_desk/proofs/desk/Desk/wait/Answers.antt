use Rattle.std.proofs.Common.{rules, ap, ◌∙◌}
use Rattle.tsn_desk.proofs.Keeps.{looks}
use Rattle.tsn_desk.proofs.desk.Desk.wait.Goals as goal

pub load-serving-requires : goal.load-serving-requires
load-serving-requires g c =
    (search rules, search rules, looks _ _ _ _ _ _ c.args.ticket (ap (λ m. m.0.stage) c.loop.invariant.2 ∙ c.requires.1))
