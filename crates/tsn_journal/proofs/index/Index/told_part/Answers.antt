use Rattle.std.proofs.Common.{◌∙◌, ap, arith}
use Rattle.tsn_journal.specs.Index.{above}
use Rattle.tsn_journal.proofs.Blocked.{part_told}
use Rattle.tsn_journal.proofs.index.Index.told_part.Goals as goal

pub returns : goal.returns
returns c = λ ms e can on.
    ap (above e.number)
    (grind arith)
    ∙ part_told ms c.args.self.now e can c.args.part.now c.refs_of-refs.result c.refs_of-refs.ensures on
