use Rattle.std.proofs.Common.{◌≡◌, ◌+◌, ◌≤◌}
use Rattle.std.specs.Vec.{vec_len, vec_capacity}
use Rattle.tsn_table.proofs.tree.fill_pool.Given as goal

abbrev pub invariant-loop-made : goal.invariant-loop-made
invariant-loop-made l = record {
  longer : vec_len l.pool ≡ vec_len l.fn.pool + l._made;
  place : l.nodes + l.missing ≤ vec_capacity l.pool;
  first : vec_len l.fn.pool ≤ l.nodes;
}
