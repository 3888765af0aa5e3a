use Rattle.tsn_table.specs.Blocks.{numbers_in}
use Rattle.tsn_table.specs.Tree.{numbers_of}
use Rattle.tsn_table.proofs.Rising.{after_only, rising_back}
use Rattle.tsn_table.proofs.Trees.{empty_height, empty_nodes, one_more}
use Rattle.tsn_table.proofs.tree.next_after.Goals as goal

pub first_in-requires : goal.first_in-requires
first_in-requires c =
    let node = c.args.node.now in
    record { rising = rising_back (numbers_in node.block) (numbers_of node.right) (rising_back (numbers_of node.left) _ c.requires.rising) }

pub returns-clause-rising : goal.returns-clause-rising
returns-clause-rising c =
    let node = c.args.node.now in
    rising_back (numbers_in node.block) (numbers_of node.right) (rising_back (numbers_of node.left) _ c.requires.rising)

pub returns-clause-rest : goal.returns-clause-rest
returns-clause-rest c =
    let node = c.args.node.now in
    after_only c.args.id (numbers_of node.left) (numbers_in node.block) (numbers_of node.right) c.first_in.result c.requires.only
    c.requires.rising c.first_in.ensures

pub returns-clause-none : goal.returns-clause-none
returns-clause-none c = empty_nodes c.args.node.now.right c.first_in.result c.first_in.ensures

pub returns-clause-alone : goal.returns-clause-alone
returns-clause-alone c =
    let node = c.args.node.now in
    one_more (numbers_of node.left) (numbers_in node.block) (numbers_of node.right) c.args.id c.first_in.result c.requires.only
    c.first_in.ensures

pub returns-clause-flat : goal.returns-clause-flat
returns-clause-flat c = empty_height c.args.node.now.right c.first_in.result c.first_in.ensures
