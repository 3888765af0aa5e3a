use Rattle.std.proofs.Common.{◌≡◌, ◌∷◌, rules, arith}
use Rattle.tsn_config.proofs.Batches.{result_at, result_beside}
use Rattle.tsn_config.proofs.Config.is_there_after.Goals as goal

pub returns-then-eq : goal.returns-then-eq
returns-then-eq c =
    let e = c.in-Some.first.now in
    let is : c.loop-first.rest.now ≡ e ∷ c.in-Some.others.now = search rules in grind (arith, result_at)

pub loop-first-preserved : goal.loop-first-preserved
loop-first-preserved c = grind (arith, result_beside)
