use Rattle.std.proofs.Common.{sym, arith}
use Rattle.tsn_config.proofs.Indexed.{moved, same_options, unmoved}
use Rattle.tsn_config.proofs.filters.move_in.Goals as goal

pub returns-then-eq-clause-indexes : goal.returns-then-eq-clause-indexes
returns-then-eq-clause-indexes c =
    λ about fs value was is indexes. unmoved about fs c.args.id c.args.before c.args.after value was is c.args.index.now.map
    (same_options c.args.before c.args.after (sym c.if-eq.ensures)) indexes

pub returns-clause-indexes : goal.returns-clause-indexes
returns-clause-indexes c = λ about fs value was is indexes. grind (arith, moved)
