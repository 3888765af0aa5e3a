-- Trees, and the nodes that they have.
use Rattle.std.proofs.Common.{◌≡◌, ℕ, ◌+◌, arith, List, [], ◌∷◌, ◌++◌, length, length-append, Option, Some, None, refl, sym}
use Rattle.std.specs.Prelude.{IfNone}
use Rattle.std.specs.Option.{option_or}
use Rattle.tsn_table.proofs.Rising.{no_next}
use Rattle.tsn_table.specs.Levels.{height_of}
use Rattle.tsn_table.specs.Rising.{first_from}
use Rattle.tsn_table.specs.Tree.{nodes_of, numbers_of}
use Rattle.tsn_table.specs.declared.tree.Tree.{Tree}
use Rattle.tsn_table.specs.declared.tree.Tree.TheBlock.{Fork'}
use Rattle.tsn_table.specs.declared.tree.Tree.TheVariants.{Empty}

not_nothing : (l : List ℕ) (k : ℕ) (m : List ℕ) → l ++ k ∷ m ≡ [] → ⊥
not_nothing [] k m is = absurd (cc)
not_nothing (x ∷ l) k m is = absurd (cc)

-- a tree in which no number is the first is the empty one, of which there is nothing to count
empty_counts : (count : Tree → ℕ) → count Empty ≡ 0 → (tree : Tree) (first : Option ℕ)
    → first ≡ option_or (first_from 0 (numbers_of tree)) None → IfNone first (count tree ≡ 0)
empty_counts count none Empty None is = none
empty_counts count none Empty (Some n) is = tt
empty_counts count none (Fork' place block left_height right_height left right) None is =
    absurd (not_nothing (numbers_of left) block.least _ (no_next _ (sym is)))
empty_counts count none (Fork' place block left_height right_height left right) (Some n) is = tt

pub empty_nodes : (tree : Tree) (first : Option ℕ) → first ≡ option_or (first_from 0 (numbers_of tree)) None
    → IfNone first (nodes_of tree ≡ 0)
empty_nodes = empty_counts nodes_of refl

pub empty_height : (tree : Tree) (first : Option ℕ) → first ≡ option_or (first_from 0 (numbers_of tree)) None
    → IfNone first (height_of tree ≡ 0)
empty_height = empty_counts height_of refl

-- where none is behind the only number of a block, there is one more with it than before it
pub one_more : (l b r : List ℕ) (x : ℕ) (first : Option ℕ) → b ≡ x ∷ [] → first ≡ option_or (first_from 0 r) None
    → IfNone first (length (l ++ (b ++ r)) ≡ length l + 1)
one_more l b r x first only is = grind (arith, length-append, no_next)
