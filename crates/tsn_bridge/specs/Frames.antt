-- The rule of a frame: it moves the bridge time, makes no entry, and leaves what the filter chain says of it.
use Rattle.std.specs.Prelude.{ℕ, false, [], ◌∷◌, option_map}
use Rattle.tsn_chain.specs.declared.frame.Frame.{Frame}
use Rattle.tsn_chain.specs.declared.frame.Verdict.{Verdict}
use Rattle.tsn_chain.specs.Frames.{GateActs, framed}
use Rattle.tsn_chain.specs.Instances.{FrameData}
use Rattle.tsn_undo.specs.Ledger.{Ledger, present}
use Rattle.tsn_commands.specs.declared.reply.Reply.{Reply}
use Rattle.tsn_commands.specs.declared.reply.Reply.TheVariants as replies
use Rattle.tsn_bridge.specs.Acts.{instant}
use Rattle.tsn_bridge.specs.Objects.{gate_at}
use Rattle.tsn_bridge.specs.Rule.{Rule, no_session}
use Rattle.tsn_bridge.specs.State.{State}

-- the acts of each gate in the journal
abbrev pub acts_of_gates : Ledger → GateActs
acts_of_gates b n = (gate_at b n).acts

-- the state after a frame
abbrev pub framed_state : State → ℕ → FrameData → State
framed_state s now f = record s { time = instant s now; frames = f }

abbrev pub frame_rule : State → ℕ → Frame → ℕ → Rule
frame_rule s n frame now = record {
  causes = no_session s n ∷ [];
  done = option_map {T = Verdict × FrameData} {U = Reply × State} (λ x. (replies.Framed x.0, framed_state s now x.1))
      (framed (present s.book) s.frames (acts_of_gates s.book) frame (instant s now));
  takes_memory = false;
}
