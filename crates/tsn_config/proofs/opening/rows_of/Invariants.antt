use Rattle.std.proofs.Common.{◌≡◌, length}
use Rattle.std.specs.Vec.Iter.{into_iter_items, into_iter_len}
use Rattle.tsn_config.proofs.Opened.{IsFilled}
use Rattle.tsn_config.proofs.opening.rows_of.Given as goal

-- the iterator has what is left to put in
abbrev pub invariant-loop-key : goal.invariant-loop-key
invariant-loop-key l = record {
  can_next : (goal.iterator-loop-key).can_next l.key-iterator;
  is_finite : (goal.iterator-loop-key).is_finite l.key-iterator;
  len : into_iter_len l.key-iterator ≡ length (into_iter_items l.key-iterator);
  filled : IsFilled l.fn.items.items l.rows.map (into_iter_items l.key-iterator);
}
