use Rattle.std.proofs.Common.{◌≡◌, ◌+◌, ◌≤◌, drop}
use Rattle.tsn_chain.specs.Following.{frames_after, runners_after}
use Rattle.tsn_chain.proofs.runtime.Runtime.follow.Given as goal

-- the parts that are left lead where all of them lead
abbrev pub invariant-loop-part : goal.invariant-loop-part
invariant-loop-part l = record {
  runners : runners_after l.self.runners (drop l.part-index l.parts) ≡ runners_after l.initial.self.runners l.parts;
  frames : frames_after l.initial.self.time l.self.frames (drop l.part-index l.parts) ≡ frames_after l.initial.self.time
      l.initial.self.frames l.parts;
  time : l.self.time ≡ l.initial.self.time;
  spare : l.initial.self.spare ≤ l.self.spare + l.part-index;
}
