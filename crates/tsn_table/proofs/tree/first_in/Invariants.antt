use Rattle.std.proofs.Common.{◌≡◌, ◌++◌}
use Rattle.std.specs.Option.{option_or}
use Rattle.tsn_table.specs.Rising.{IsRising, first_from}
use Rattle.tsn_table.specs.Tree.{numbers_of}
use Rattle.tsn_table.proofs.tree.first_in.Given as goal

-- the answer is among the numbers before the tree, in the tree, or above it
abbrev pub invariant-loop-tree : goal.invariant-loop-tree
invariant-loop-tree l = record {
  rising : IsRising (l.before ++ numbers_of l.tree);
  same : option_or (first_from l.from (l.before ++ numbers_of l.tree)) l.above ≡ option_or (first_from l.fn.from (numbers_of l.fn.tree))
      l.fn.above;
}
