use Rattle.std.proofs.Common.{◌<◌, sym, ap, subst, ◌∙◌}
use Rattle.tsn_table.specs.Blocks.{numbers_in}
use Rattle.tsn_table.specs.Rising.{AllNumbers}
use Rattle.tsn_table.specs.Tree.{numbers_of}
use Rattle.tsn_table.proofs.Rising.{rising_back}
use Rattle.tsn_table.proofs.Sides.{belongs_left, belongs_here, belongs_right, left_below, right_above, right_of, rising_block}
use Rattle.tsn_table.proofs.tree.side_of.Goals as goal

pub ends_below-requires : goal.ends_below-requires
ends_below-requires c =
    let node = c.args.node.now in
    record { rising = rising_block (numbers_of node.left) (numbers_in node.block) (numbers_of node.right) c.requires.rising }

pub returns-in-Empty : goal.returns-in-Empty
returns-in-Empty c =
    let node = c.args.node.now in
    let x = c.args.id in
    let left = subst (AllNumbers (λ y. y < x)) (sym (ap numbers_of c.in-Empty.is)) tt in
    let right = right_of x (numbers_of node.left) node.block.least node.block.more.items (numbers_of node.right)
    (rw c.least.ensures at c.if-id-least.true) c.requires.rising in
    belongs_here x (numbers_of node.left) (numbers_in node.block) (numbers_of node.right) left right c.requires.rising

pub returns-in-Fork : goal.returns-in-Fork
returns-in-Fork c =
    let node = c.args.node.now in
    belongs_left c.args.id (numbers_of node.left) node.block.least node.block.more.items (numbers_of node.right)
    (rw c.least.ensures at c.if-id-least.true) c.requires.rising

pub returns-in-Empty-right : goal.returns-in-Empty-right
returns-in-Empty-right c =
    let node = c.args.node.now in
    let x = c.args.id in
    let left = left_below x (numbers_of node.left) node.block.least _ (rw c.least.ensures at c.if-id-least.false) c.requires.rising in
    let right = subst (AllNumbers (λ y. x < y)) (sym (ap numbers_of c.in-Empty-right.is)) tt in
    belongs_here x (numbers_of node.left) (numbers_in node.block) (numbers_of node.right) left right c.requires.rising

pub returns-in-Fork-right : goal.returns-in-Fork-right
returns-in-Fork-right c =
    let node = c.args.node.now in
    let none = sym c.ends_below.ensures ∙ c.if-ends_below.true in
    belongs_right c.args.id (numbers_of node.left) node.block.least node.block.more.items (numbers_of node.right)
    (rw c.least.ensures at c.if-id-least.false) none c.requires.rising

pub returns-else-ends_below : goal.returns-else-ends_below
returns-else-ends_below c =
    let node = c.args.node.now in
    let x = c.args.id in
    let left = left_below x (numbers_of node.left) node.block.least _ (rw c.least.ensures at c.if-id-least.false) c.requires.rising in
    let some = sym c.ends_below.ensures ∙ c.if-ends_below.false in
    let right = right_above x (numbers_in node.block) (numbers_of node.right) some
    (rising_back (numbers_of node.left) _ c.requires.rising) in
    belongs_here x (numbers_of node.left) (numbers_in node.block) (numbers_of node.right) left right c.requires.rising
