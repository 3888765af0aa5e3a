-- Where a number belongs in a tree: on one side of a node's block, or in the block.
use Rattle.std.specs.Prelude.{◌≡◌, ℕ, ◌<◌, List, ◌++◌, length}
use Rattle.tsn_table.specs.Blocks.{numbers_in}
use Rattle.tsn_table.specs.Rising.{IsRising, put_number, without_number}
use Rattle.tsn_table.specs.Tree.{numbers_of}
use Rattle.tsn_table.specs.declared.tree.Node.{Node}
use Rattle.tsn_table.specs.declared.tree.Side.{Side}
use Rattle.tsn_table.specs.declared.tree.Side.TheVariants.{Left, Here, Right}

-- x is put in, or taken out, where it is done so on the left, in the midst or on the right of these numbers
pub record BelongsLeft (x : ℕ) (l b r : List ℕ) : Type 0 where
  pub put : put_number x (l ++ (b ++ r)) ≡ put_number x l ++ (b ++ r)
  pub without : without_number x (l ++ (b ++ r)) ≡ without_number x l ++ (b ++ r)
  pub rising : IsRising l
  pub shorter : length l < length (l ++ (b ++ r))

pub record BelongsHere (x : ℕ) (l b r : List ℕ) : Type 0 where
  pub put : put_number x (l ++ (b ++ r)) ≡ l ++ (put_number x b ++ r)
  pub without : without_number x (l ++ (b ++ r)) ≡ l ++ (without_number x b ++ r)
  pub rising : IsRising b

pub record BelongsRight (x : ℕ) (l b r : List ℕ) : Type 0 where
  pub put : put_number x (l ++ (b ++ r)) ≡ l ++ (b ++ put_number x r)
  pub without : without_number x (l ++ (b ++ r)) ≡ l ++ (b ++ without_number x r)
  pub rising : IsRising r
  pub shorter : length r < length (l ++ (b ++ r))

abbrev pub Belongs : ℕ → Node → Side → Type 0
Belongs x node Left = BelongsLeft x (numbers_of node.left) (numbers_in node.block) (numbers_of node.right)
Belongs x node Here = BelongsHere x (numbers_of node.left) (numbers_in node.block) (numbers_of node.right)
Belongs x node Right = BelongsRight x (numbers_of node.left) (numbers_in node.block) (numbers_of node.right)
