use Rattle.std.proofs.Common.{◌∷◌, ◌++◌, ap, subst}
use Rattle.tsn_table.specs.Rising.{IsRising}
use Rattle.tsn_table.specs.Tree.{numbers_of}
use Rattle.tsn_table.proofs.Rising.{around, rising_front, rising_back, finds_left, finds_right}
use Rattle.tsn_table.proofs.tree.first_in.Goals as goal

pub loop-tree-preserved-then-least-from : goal.loop-tree-preserved-then-least-from
loop-tree-preserved-then-least-from c =
    let node = c.in-Fork.node.value in
    let ahead = c.loop-tree.before.now ++ numbers_of node.left in
    let behind = node.block.more.items ++ numbers_of node.right in
    let is = around c.loop-tree.before.now _ (numbers_of node.left) node.block.least node.block.more.items (numbers_of node.right)
    (ap numbers_of c.in-Fork.is) in
    rw (c.more-before.ensures, c.deref-then-least-from.ensures, c.deref-then-least-from-2.ensures) (record {
      rising = (rising_back ahead (node.block.least ∷ behind) (subst IsRising is c.loop-tree.invariant.rising)).1;
      same = finds_right c.args.from node.block.least _ ahead behind c.loop-tree.above _ is
          (rw (c.least.ensures, c.deref.ensures) at c.if-least-from.true) c.loop-tree.invariant.rising c.loop-tree.invariant.same;
    })

pub loop-tree-preserved : goal.loop-tree-preserved
loop-tree-preserved c =
    let node = c.in-Fork.node.value in
    let ahead = c.loop-tree.before.now ++ numbers_of node.left in
    let behind = node.block.more.items ++ numbers_of node.right in
    let is = around c.loop-tree.before.now _ (numbers_of node.left) node.block.least node.block.more.items (numbers_of node.right)
    (ap numbers_of c.in-Fork.is) in
    rw (c.least-else-least-from.ensures, c.deref-else-least-from.ensures, c.deref-else-least-from-2.ensures) (record {
      rising = rising_front ahead (node.block.least ∷ behind) (subst IsRising is c.loop-tree.invariant.rising);
      same = finds_left c.args.from node.block.least _ ahead behind c.loop-tree.above _ is
          (rw (c.least.ensures, c.deref.ensures) at c.if-least-from.false) c.loop-tree.invariant.same;
    })
