-- What a set of numbers keeps of its tree and of the nodes that wait.
use Rattle.std.specs.Prelude.{◌≡◌, ℕ, ◌+◌, ◌≤◌, length}
use Rattle.tsn_table.specs.Levels.{IsLevel}
use Rattle.tsn_table.specs.Rising.{IsRising}
use Rattle.tsn_table.specs.Tree.{HasRoom, nodes_of, numbers_of}
use Rattle.tsn_table.specs.declared.tree.Tree.{Tree}

-- The numbers rise, and are counted. The tree is level, so its height and the stack that a call takes grow with the logarithm of its
-- nodes. Some nodes wait, there is a place for those of the tree beside them, and all are enough for the
-- room.
pub record IsKept (tree : Tree) (waiting places room count nodes : ℕ) : Type 0 where
  pub rising : IsRising (numbers_of tree)
  pub level : IsLevel tree
  pub numbers : count ≡ length (numbers_of tree)
  pub nodes_are : nodes ≡ nodes_of tree + waiting
  pub place : nodes ≤ places
  pub enough : HasRoom room count nodes
