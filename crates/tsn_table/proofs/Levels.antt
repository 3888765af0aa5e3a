-- How high level trees are.
use Rattle.std.proofs.Common.{◌≡◌, inl, inr, ℕ, zero, suc, ◌+◌, ◌*◌, ◌^◌, ◌<◌, ◌≤◌, arith}
use Rattle.std.proofs.lemmas.Grind.{common_steps}
use Rattle.std.specs.Prelude.{max}
use Rattle.std.proofs.Math.Nat.{lt_of_not-le, pow-succ'}
use Rattle.std.proofs.Math.Pow.{pow_mono}
use Rattle.tsn_table.specs.Levels.{height_of, IsHeightFor, IsLevel}
use Rattle.tsn_table.specs.Tree.{nodes_of}
use Rattle.tsn_table.specs.declared.tree.Tree.{Tree}
use Rattle.tsn_table.specs.declared.tree.Tree.TheBlock.{Fork'}
use Rattle.tsn_table.specs.declared.tree.Tree.TheVariants.{Empty}

-- a level tree has twice as many nodes for each two that it is higher
pub deep : (tree : Tree) (k : ℕ) → IsLevel tree → 2 * k ≤ height_of tree → 2 ^ k ≤ nodes_of tree + 1
deep Empty zero level high = omega arith
deep Empty (suc k) level high = absurd (omega (arith, high))
deep (Fork' place block left_height right_height left right) zero level high = omega arith
deep (Fork' place block left_height right_height left right) (suc k) level high =
    let on_left : 2 * k ≤ height_of left = omega (arith, high, level.0, level.1, level.2, level.3) in
    let on_right : 2 * k ≤ height_of right = omega (arith, high, level.0, level.1, level.2, level.3) in
    let twice : 2 ^ suc k ≡ 2 * 2 ^ k = pow-succ' 2 k in
    omega (arith, twice, deep left k level.4 on_left, deep right k level.5 on_right)

-- so no tree is high
pub low : (tree : Tree) → IsLevel tree → nodes_of tree < 2 ^ 64 → height_of tree < 240
low tree level few = lt_of_not-le (λ high.
    let many : 2 ^ 65 ≤ nodes_of tree + 1 = deep tree 65 level (omega (arith, high)) in
    omega (arith, many, few))

-- the sides of a tree that is halved differ by one at most
module _ (l r h k : ℕ) (left : IsHeightFor l h) (right : IsHeightFor r k) where
  pub no_lower : r ≤ l → k ≤ h
  no_lower le = le_of_not_lt (λ higher.
      let most : 2 ^ suc h ≤ 2 ^ k = pow_mono {i = suc h} {j = k} (omega (arith, higher)) in
      let twice : 2 ^ suc h ≡ 2 * 2 ^ h = pow-succ' 2 h in
      elim right.below [
        | inl none ↦ omega (arith, none.1, higher)
        | inr below ↦ omega (arith, most, twice, below, left.above, le)
      ])
    where
      le_of_not_lt : ((h < k) → ⊥) → k ≤ h
      le_of_not_lt never = omega (arith, lt_of_not-le {n = suc h} {m = k} (λ le. never (omega (arith, le))))

  pub no_higher : l ≤ r + 1 → h ≤ k + 1
  no_higher le = le_of_not_lt (λ higher.
      let most : 2 ^ suc (suc k) ≤ 2 ^ h = pow_mono {i = suc (suc k)} {j = h} (omega (arith, higher)) in
      let twice : 2 ^ suc k ≡ 2 * 2 ^ k = pow-succ' 2 k in
      let again : 2 ^ suc (suc k) ≡ 2 * 2 ^ suc k = pow-succ' 2 (suc k) in
      elim left.below [
        | inl none ↦ omega (arith, none.1, higher)
        | inr below ↦ omega (arith, most, twice, again, below, right.above, le)
      ])
    where
      le_of_not_lt : ((k + 1 < h) → ⊥) → h ≤ k + 1
      le_of_not_lt never = omega (arith, lt_of_not-le {n = suc (k + 1)} {m = h} (λ le. never (omega (arith, le))))

  pub joined : r ≤ l → l ≤ r + 1 → IsHeightFor (l + r + 1) (max h k + 1)
  joined le near = grind (arith, common_steps, no_lower, pow-succ')

pub low_for : (count height : ℕ) → IsHeightFor count height → count < 2 ^ 64 → height < 240
low_for count height for few = lt_of_not-le (λ high.
    let most : 2 ^ 66 ≤ 2 ^ height = pow_mono {i = 66} {j = height} (omega (arith, high)) in
    elim for.below [
      | inl none ↦ omega (arith, none.1, high)
      | inr below ↦ omega (arith, most, below, few)
    ])
