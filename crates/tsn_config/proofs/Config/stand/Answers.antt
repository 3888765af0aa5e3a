use Rattle.std.proofs.Common.{◌+◌, sym, ◌∙◌, drop}
use Rattle.tsn_config.proofs.Suffixes.{next_left, not_standing, stand_left}
use Rattle.tsn_config.proofs.Config.stand.Goals as goal

pub returns-then-not-stands-clause-stand : goal.returns-then-not-stands-clause-stand
returns-then-not-stands-clause-stand c =
    let ps = c.args.parts.now in
    let m = c.args.self.now.map in
    let i = c.loop-part.part-index in
    let p = c.part-item.result in
    let left = next_left ps i p c.loop-part-test.true c.part-item.is in (
      λ never. (cc),
      λ all. absurd (not_standing c.args.way (drop i ps) (drop (i + 1) ps) p left m
          (λ is. let no = c.if-not-stands.ensures.1 (is ∙ sym c.before_of.ensures) in (cc)) (stand_left c.args.way m i ps all)),
    )
