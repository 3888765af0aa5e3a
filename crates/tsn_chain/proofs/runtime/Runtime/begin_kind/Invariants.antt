use Rattle.std.proofs.Common.{◌≡◌, drop}
use Rattle.tsn_chain.specs.Begun.{frames_from, frames_of_kind, runners_from, runners_of_kind}
use Rattle.tsn_chain.proofs.runtime.Runtime.begin_kind.Given as goal

-- the keys that are left lead to what all of them lead to
abbrev pub invariant-loop-id : goal.invariant-loop-id
invariant-loop-id l =
    (runners_from l.config.map l.kind l.self.runners (drop l.id-index l.id-items) ≡ runners_of_kind l.config.map l.fn.self.runners l.kind)
    × (frames_from l.config.map l.kind l.self.frames (drop l.id-index l.id-items) ≡ frames_of_kind l.config.map l.fn.self.frames l.kind)
    × (l.self.time ≡ 0)
