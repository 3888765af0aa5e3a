-- The numbers of a tree in their order, its nodes, and the nodes that a set has for its numbers.
use Rattle.std.specs.Prelude.{◌≡◌, ℕ, ◌+◌, ◌*◌, ◌^◌, ◌<◌, ◌≤◌, ◌⊎◌, length, List, [], ◌++◌}
use Rattle.tsn_table.specs.Blocks.{numbers_in}
use Rattle.tsn_table.specs.declared.tree.Tree.{Tree}
use Rattle.tsn_table.specs.declared.tree.Tree.TheBlock.{Fork'}
use Rattle.tsn_table.specs.declared.tree.Tree.TheVariants.{Empty}
use Rattle.tsn_table.specs.declared.tree.Node.{Node}

abbrev pub numbers_of : Tree → List ℕ
numbers_of Empty = []
numbers_of (Fork' place block left_height right_height left right) = numbers_of left ++ (numbers_in block ++ numbers_of right)

-- those of a node and of both its sides
abbrev pub numbers_below : Node → List ℕ
numbers_below node = numbers_of node.left ++ (numbers_in node.block ++ numbers_of node.right)

-- how many nodes a tree has
abbrev pub nodes_of : Tree → ℕ
nodes_of Empty = 0
nodes_of (Fork' place block left_height right_height left right) = nodes_of left + nodes_of right + 1

abbrev pub nodes_below : Node → ℕ
nodes_below node = nodes_of node.left + nodes_of node.right + 1

-- no node has a left side, so the nodes stand in one vine
abbrev pub IsVine : Tree → Type 0
IsVine Empty = Unit {0}
IsVine (Fork' place block left_height right_height left right) = (left ≡ Empty) × IsVine right

-- Two nodes of a vine that stand side by side have 64 numbers or more: so its nodes are few. This is what is known of their sum,
-- where the numbers of the first node count twice.
abbrev pub IsPacked : Tree → Type 0
IsPacked Empty = Unit {0}
IsPacked (Fork' place block left_height right_height left right) =
    64 * (nodes_of left + nodes_of right + 1) + length (numbers_in block)
    ≤ 2 * length (numbers_of left ++ (numbers_in block ++ numbers_of right)) + 64

-- how many numbers a set has for each of its nodes but one, if it has all that it has room for
abbrev pub share : ℕ
share = 24

-- So many nodes are enough for room more numbers beside count that are there: packed, all these numbers leave a node over. A set of
-- no number needs none where it has room for none.
abbrev pub HasRoom : ℕ → ℕ → ℕ → Type 0
HasRoom room count nodes = ((room ≡ 0) × (count ≡ 0)) ⊎ ((room + count + share ≤ share * nodes) × (room + count < 2 ^ 64))
