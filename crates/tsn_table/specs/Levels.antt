-- How high a tree is, and that it is level (after Adelson-Velsky and Landis).
use Rattle.std.specs.Prelude.{◌≡◌, ◌≢◌, ℕ, ◌+◌, ◌*◌, ◌^◌, ◌<◌, ◌≤◌, ◌⊎◌, max, Bool, true}
use Rattle.tsn_table.specs.declared.tree.Tree.{Tree}
use Rattle.tsn_table.specs.declared.tree.Tree.TheBlock.{Fork'}
use Rattle.tsn_table.specs.declared.tree.Tree.TheVariants.{Empty}
use Rattle.tsn_table.specs.declared.tree.Node.{Node}

-- how many nodes stand on the longest way down
abbrev pub height_of : Tree → ℕ
height_of Empty = 0
height_of (Fork' place block left_height right_height left right) = max (height_of left) (height_of right) + 1

abbrev pub height_below : Node → ℕ
height_below node = max (height_of node.left) (height_of node.right) + 1

-- each node tells the heights of its sides, and they differ by one at most
abbrev pub IsLevel : Tree → Type 0
IsLevel Empty = Unit {0}
IsLevel (Fork' place block left_height right_height left right) =
    (left_height ≡ height_of left) × (right_height ≡ height_of right) × (left_height ≤ right_height + 1) × (right_height ≤ left_height + 1)
    × IsLevel left × IsLevel right

-- the sides of a node are level, it tells their heights, and these differ by so much at most
abbrev pub Differs : ℕ → Node → Type 0
Differs most node =
    (node.left_height ≡ height_of node.left) × (node.right_height ≡ height_of node.right) × (node.left_height ≤ node.right_height + most)
    × (node.right_height ≤ node.left_height + most) × IsLevel node.left × IsLevel node.right

-- the same of the root, if there is one
abbrev pub MayDiffer : ℕ → Tree → Type 0
MayDiffer most Empty = Unit {0}
MayDiffer most (Fork' place block left_height right_height left right) =
    (left_height ≡ height_of left) × (right_height ≡ height_of right) × (left_height ≤ right_height + most)
    × (right_height ≤ left_height + most) × IsLevel left × IsLevel right

-- the root's sides are as high as each other
abbrev pub IsEven : Tree → Type 0
IsEven Empty = Unit {0}
IsEven (Fork' place block left_height right_height left right) = height_of left ≡ height_of right

-- a node from which a put came back: one side is the higher one and higher than it was, or all is as high as it was
abbrev pub Rises : Node → Node → Bool → Type 0
Rises old new true = Differs 2 new × (height_of new.left ≢ height_of new.right) × (height_below new ≡ height_below old + 1)
Rises old new _ = Differs 1 new × (height_below new ≡ height_below old)

-- and one from which a removal came back: one side is lower, and was not as high as the other, or all is as high as it was
abbrev pub Falls : Node → Node → Bool → Type 0
Falls old new true = Differs 2 new
    × (((height_of new.left ≡ height_of new.right) × (height_below new + 1 ≡ height_below old))
    ⊎ ((height_of new.left ≢ height_of new.right) × (height_below new ≡ height_below old)))
Falls old new _ = Differs 1 new × (height_below new ≡ height_below old)

-- one of the root's sides is higher than the other by two
abbrev pub Turns : Tree → Type 0
Turns Empty = ⊥
Turns (Fork' place block left_height right_height left right) = (left_height ≡ right_height + 2) ⊎ (right_height ≡ left_height + 2)

-- how high a level tree of so many nodes is: the digits of their count in base two
pub record IsHeightFor (count height : ℕ) : Type 0 where
  pub above : count < 2 ^ height
  pub below : ((count ≡ 0) × (height ≡ 0)) ⊎ (2 ^ height ≤ 2 * count)
