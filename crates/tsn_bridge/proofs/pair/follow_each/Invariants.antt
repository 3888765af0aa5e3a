use Rattle.std.proofs.Common.{◌≡◌, ◌+◌, ◌≤◌}
use Rattle.tsn_chain.specs.Following.{frames_after, runners_after}
use Rattle.tsn_bridge.specs.Together.{followed, room_behind}
use Rattle.tsn_bridge.proofs.pair.follow_each.Given as goal

-- the changes so far are followed, and there is room for the others
abbrev pub invariant-loop-place : goal.invariant-loop-place
invariant-loop-place l =
    (l.runtime.runners ≡ followed runners_after l.journal.entries l.fn.runtime.runners l.first l.place)
    × (l.runtime.frames ≡ followed (frames_after l.fn.runtime.time) l.journal.entries l.fn.runtime.frames l.first l.place)
    × (l.runtime.time ≡ l.fn.runtime.time)
    × (room_behind l.journal.entries l.first l.count ≤ l.runtime.spare + room_behind l.journal.entries l.first l.place)
