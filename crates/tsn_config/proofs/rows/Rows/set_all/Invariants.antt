use Rattle.std.proofs.Common.{◌≡◌, ◌+◌, ◌≤◌, length}
use Rattle.tsn_edit.specs.Changes.{put_all}
use Rattle.tsn_config.specs.Kinds.{AreOfKinds}
use Rattle.tsn_config.proofs.rows.Rows.set_all.Given as goal

-- the parts that are left make the map that all of them make, and there is room for them
abbrev pub invariant-loop-part : goal.invariant-loop-part
invariant-loop-part l = record {
  map : put_all l.self.map l.parts.items ≡ put_all l.fn.self.map l.fn.parts.items;
  kinds : AreOfKinds l.parts.items;
  room : length l.parts.items ≤ l.self.spare;
  spare : l.fn.self.spare + length l.parts.items ≤ l.self.spare + length l.fn.parts.items;
}

abbrev pub decreases-loop-part : goal.decreases-loop-part
decreases-loop-part l = length l.parts.items
