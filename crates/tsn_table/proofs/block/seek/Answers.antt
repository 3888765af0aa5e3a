use Rattle.tsn_table.proofs.Blocks.{searched}
use Rattle.tsn_table.proofs.block.seek.Goals as goal

pub returns-clause-place : goal.returns-clause-place
returns-clause-place c = searched c.args.id c.args.numbers.now c.binary_search.result c.requires.rising c.binary_search.ensures.bound
    c.binary_search.ensures.position
