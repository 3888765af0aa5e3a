-- A frame that the filter chain took is a step.
use Rattle.std.proofs.Common.{◌≡◌, ℕ, true, sym, ◌∙◌, ap, [], ◌∷◌, Some, max}
use Rattle.std.specs.Prelude.{option_map}
use Rattle.tsn_types.specs.declared.refusals.Refusal.TheVariants.{NoSession}
use Rattle.tsn_types.specs.Limits.{unless}
use Rattle.tsn_types.specs.Refusals.{least}
use Rattle.tsn_chain.specs.declared.frame.Frame.{Frame}
use Rattle.tsn_chain.specs.declared.frame.Verdict.{Verdict}
use Rattle.tsn_chain.specs.Frames.{framed}
use Rattle.tsn_chain.specs.Instances.{FrameData}
use Rattle.tsn_undo.specs.Ledger.{present}
use Rattle.tsn_commands.specs.declared.reply.Reply.{Reply}
use Rattle.tsn_commands.specs.declared.reply.Reply.TheVariants.{Framed}
use Rattle.tsn_bridge.specs.Frames.{acts_of_gates, frame_rule, framed_state}
use Rattle.tsn_bridge.specs.Names.{GivenOut}
use Rattle.tsn_bridge.specs.Pair.{PairState}
use Rattle.tsn_bridge.specs.Rule.{Allows, is_given}
use Rattle.tsn_bridge.specs.State.{State}
use Rattle.tsn_bridge.proofs.Stepping.{is_done, seen}

pub framed_step : (p p' : PairState) (k : GivenOut) (s : State) (n : ℕ) (frame : Frame) (now : ℕ) (v : Verdict) → ◌≡◌ {A = State} (seen p k)
    s → is_given s n ≡ true
    → p'.ledger ≡ p.ledger → p'.time ≡ max p.time now
    → framed (present p.ledger) p.frames (acts_of_gates p.ledger) frame (max p.time now) ≡ Some (v, p'.frames)
    → Allows (frame_rule s n frame now) s (Framed v) (seen p' k)
framed_step p p' k s n frame now v view known same time is =
    let done : (frame_rule s n frame now).done ≡ Some (Framed v, seen p' k) =
    sym (ap (λ (x : State). (frame_rule x n frame now).done) view)
    ∙ ap (option_map {T = Verdict × FrameData} {U = Reply × State} (λ x. (Framed x.0, framed_state (seen p k) now x.1))) is
    ∙ (λ i. Some (Framed v, record { book = sym same i; sessions = k.count; names = k.names; time = sym time i; frames = p'.frames })) in
    is_done (frame_rule s n frame now) s (Framed v) (seen p' k) (ap (λ g. least (unless g NoSession ∷ [])) known) done
