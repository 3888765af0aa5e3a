-- A recorder's turns, one after another: what they put behind its text, and where they lead its bridge.
use Rattle.std.proofs.Common.{◌≡◌, ℕ, refl, ◌∙◌, ap, subst, List, [], ◌∷◌, ◌++◌, Option, Some, None, inl, inr}
use Rattle.std.specs.List.{cons_option}
use Rattle.std.proofs.lemmas.List.{append_cancel_left}
use Rattle.tsn_types.specs.declared.refusals.Refusal.TheVariants.{Memory, TooLong}
use Rattle.tsn_commands.specs.declared.command.Ask.{Ask}
use Rattle.tsn_commands.specs.declared.reply.Reply.{Reply}
use Rattle.tsn_bridge.specs.Histories.{AreInRange, Answered, Answers, Leads}
use Rattle.tsn_bridge.specs.State.{State}
use Rattle.tsn_replay.specs.Handling.{Handles}
use Rattle.tsn_replay.specs.Recorder.{IsTurn, Runs, text_of, text_of_all}
use Rattle.tsn_replay.specs.Recording.{all_recorded, recorded}
use Rattle.tsn_replay.specs.Replaying.{Comes, IsReplayed}
use Rattle.tsn_replay.proofs.LeadingBack.{AreWithin, IsWithin, replayed}

module _ (line : Ask → List ℕ) (most : ℕ) where
  -- what a bridge with a recorder does beside a step is a refusal that changes nothing
  within_of : (s : State) (a : Ask) (reply : Reply) (new : State) → Handles line most s a reply new → IsWithin s a reply new
  within_of s a reply new (inl step) = inl step
  within_of s a reply new (inr (inl hello)) = inr (record { why = Memory; refused = hello.refused; same = hello.same })
  within_of s a reply new (inr (inr long)) = inr (record { why = TooLong; refused = long.refused; same = long.same })

  pub handles_within : AreWithin (Handles line most)
  handles_within = within_of

  -- but for these refusals, what was asked is asked of the machine
  steps_alone : (asks : List Answered) (s now : State) → AreInRange asks → Comes (Handles line most) s asks now
      → (others : List Answered) × AreInRange others × Leads s others now
  steps_alone [] s now ranges same = ([], tt, same)
  steps_alone (t ∷ ts) s now ranges (between, turn, on) =
      elim (within_of s t.ask t.reply between turn) as (λ _. (others : List Answered) × AreInRange others × Leads s others now) [
        | inl step ↦ (let more = steps_alone ts between now ranges.1 on in (t ∷ more.0, (ranges.0, more.1), (between, step, more.2)))
        | inr still ↦ steps_alone ts s now ranges.1 (subst (λ (x : State). Comes (Handles line most) x ts now) still.same on)
      ]

  one_more : (o : Option Answered) (ts : List Answered) → text_of line o ++ text_of_all line ts ≡ text_of_all line (cons_option o ts)
  one_more None ts = refl
  one_more (Some t) ts = refl

  -- what a turn puts behind the text is the line of the recorded command
  added_is : (s : State) (t : Answered) (between : State) (added : List ℕ) → IsTurn line most s t between added
      → added ≡ text_of line (recorded t)
  added_is s t between added turn = append_cancel_left turn.before added (text_of line (recorded t)) turn.records.grows

  -- all that was asked is in range, is handled, and leaves just its lines
  record HasRun (s : State) (asks : List Answered) (now : State) (told : List ℕ) : Type 0 where
    ranges : AreInRange asks
    comes : Comes (Handles line most) s asks now
    text : told ≡ text_of_all line (all_recorded asks)

  has_run : (asks : List Answered) (s now : State) (told : List ℕ) → Runs line most s asks now told → HasRun s asks now told
  has_run [] s now told h = record { ranges = tt; comes = h.0; text = h.1 }
  has_run (t ∷ ts) s now told (between, added, rest, turn, on, is) =
      let more = has_run ts between now rest on in
      record {
        ranges = (turn.records.ranges, more.ranges);
        comes = (between, turn.records.handles, more.comes);
        text =
            is
            ∙ ap (λ (xs : List ℕ). xs ++ rest) (added_is s t between added turn)
            ∙ ap (λ (xs : List ℕ). text_of line (recorded t) ++ xs) more.text
            ∙ one_more (recorded t) (all_recorded ts);
      }

  pub recorder_back : (start : State) (asks : List Answered) (now : State) (told : List ℕ) → Runs line most start asks now told
      → (told ≡ text_of_all line (all_recorded asks)) × IsReplayed (Handles line most) start asks now
  recorder_back start asks now told h =
      let r = has_run asks start now told h in (r.text, replayed (Handles line most) handles_within start asks now r.comes)

  pub stands_alone : (start : State) (asks : List Answered) (now : State) (told : List ℕ) → Runs line most start asks now told
      → (others : List Answered) × AreInRange others × Leads start others now
  stands_alone start asks now told h = let r = has_run asks start now told h in steps_alone asks start now r.ranges r.comes

-- a step of the machine is one
pub answers_within : AreWithin Answers
answers_within = λ s a reply new step. inl step
