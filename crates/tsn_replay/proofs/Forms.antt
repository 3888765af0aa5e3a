-- A turn at what is kept of a command is one at the command, and what is recorded of it is what is kept.
use Rattle.std.proofs.Common.{◌≡◌, ◌≤◌, ℕ, Bool, true, false, cond, refl, sym, ◌∙◌, ap, subst, List, [], ◌∷◌, ◌++◌, append_assoc, Option, Some, None, inl, inr, length, append-nil}
use Rattle.tsn_types.specs.declared.refusals.Refusal.{Refusal}
use Rattle.tsn_types.specs.declared.refusals.Refusal.TheVariants.{TooLong}
use Rattle.tsn_commands.specs.declared.command.Ask.{Ask}
use Rattle.tsn_commands.specs.declared.command.Command.{Command}
use Rattle.tsn_commands.specs.declared.command.Command.TheVariants as commands
use Rattle.tsn_commands.specs.declared.reply.Reply.{Reply}
use Rattle.tsn_commands.specs.declared.reply.Reply.TheVariants.{Known, Refused}
use Rattle.tsn_bridge.specs.Acts.{act_rule, instant}
use Rattle.tsn_bridge.specs.Histories.{Answered, Answers}
use Rattle.tsn_commands.specs.Commands.{CommandInRange}
use Rattle.tsn_bridge.specs.Families.{Acting, Family, Greeting, family}
use Rattle.tsn_bridge.specs.Machine.{Goes, Step}
use Rattle.tsn_bridge.specs.Rule.{Allows, Rule, may_change}
use Rattle.tsn_bridge.specs.State.{State}
use Rattle.tsn_replay.specs.Forms.{IsWithoutMemory, Keeps}
use Rattle.tsn_replay.specs.Handling.{Handles}
use Rattle.tsn_replay.specs.Recorder.{HasLine, IsOneLine, Recording, Records, line_feed, text_of}
use Rattle.tsn_replay.specs.Recording.{counted, instant_told, is_accepted, kept, kept_of, recorded, with_reply, counted_in, kept_in}
use Rattle.tsn_replay.specs.Replaying.{Replays}
use Rattle.tsn_replay.proofs.Recorded.{AHello, AnAct, Itself, KeptAs, accepts, act_family, again, kept_as, recorded_by, told_at}

-- a step at what is kept of a command at the instant that counts is one at the command
step_as : (s : State) (n : ℕ) (reply : Reply) (after : State) (at : ℕ) (command : Command) (a : Ask) → KeptAs n at command a
    → at ≡ counted s command → Answers s a reply after → Step s n command reply after
step_as s n reply after at command a (Itself c from is) then step = step
step_as s n reply after at command a (AHello name) then step = step
step_as s n reply after at command a (AnAct act k now) then step =
    let instant_is : at ≡ instant s now = then ∙ ap (counted_in s) (act_family act k now) in
    let did : Allows (act_rule s n act k at) s reply after = subst (λ f. Goes s n f reply after) (act_family act k at) step in
    subst (λ f. Goes s n f reply after) (sym (act_family act k now))
    (subst (λ (rule : Rule). Allows rule s reply after) (ap (act_rule s n act k) instant_is ∙ again s n act k now) did)

module _ (s : State) (n : ℕ) (reply : Reply) (after : State) where
  same_step : (command : Command) (a : Ask) → kept n command (counted s command) ≡ Some a → Answers s a reply after
      → Step s n command reply after
  same_step command a is step = step_as s n reply after (counted s command) command a (kept_as n command (counted s command) a is) refl step

  told_in : (command : Command) (f : Family) → may_change reply ≡ true → Goes s n f reply after
      → kept_in n command (instant_told reply) f ≡ kept_in n command (counted_in s f) f
  told_in command (Acting act k now) accepted step =
      ap (λ at. kept_in n command at (Acting act k now)) (told_at s n act k now reply after (accepts reply accepted) step)
  told_in command f accepted step = refl

  kept_told : (command : Command) → may_change reply ≡ true → Step s n command reply after
      → kept n command (instant_told reply) ≡ kept n command (counted s command)
  kept_told command accepted step = told_in command (family command) accepted step

-- only of a hello is a hello kept
hello_as : (n at : ℕ) (command : Command) (a : Ask) (name : Option (List ℕ)) → KeptAs n at command a → a.command ≡ commands.Hello name
    → command ≡ commands.Hello name
hello_as n at command a name (Itself c from is) hello = hello
hello_as n at command a name (AHello said) hello = hello
hello_as n at command a name (AnAct act k now) hello =
    (let never : Acting act k at ≡ Greeting name = sym (act_family act k at) ∙ ap family hello in absurd (cc))

hello_of : (n : ℕ) (command : Command) (at : ℕ) (a : Ask) (name : Option (List ℕ)) → kept n command at ≡ Some a
    → a.command ≡ commands.Hello name → command ≡ commands.Hello name
hello_of n command at a name is hello = hello_as n at command a name (kept_as n command at a is) hello

-- ---- a turn at what is kept is one at what was asked

module _ (line : Ask → List ℕ) (most : ℕ) (ask : Ask) (reply : Reply) (ranges : CommandInRange ask.command) where
  abbrev of_ask : Option Answered
  of_ask = recorded (record { ask = ask; reply = reply })

  -- what is not recorded leaves the text
  unrecorded : (old new : Recording) → Handles line most old.bridge ask reply new.bridge → new.text ≡ old.text → of_ask ≡ None
      → Records line most old ask reply new
  unrecorded old new handles same none = record {
    ranges = ranges;
    handles = handles;
    grows = same ∙ sym (append-nil old.text) ∙ ap (λ o. old.text ++ text_of line o) (sym none);
    has_line = subst (HasLine line most) (sym none) tt;
  }

  refused_none : may_change reply ≡ false → of_ask ≡ None
  refused_none refused = ap (λ b. recorded_by reply b (kept ask.session ask.command (instant_told reply))) refused

  -- one of which nothing is kept
  passing_none : (s : State) (after : State) → kept_of s ask ≡ None → Step s ask.session ask.command reply after → (b : Bool)
      → may_change reply ≡ b → of_ask ≡ None
  passing_none s after none step false refused = refused_none refused
  passing_none s after none step true accepted =
      ap (λ b. recorded_by reply b (kept ask.session ask.command (instant_told reply))) accepted
      ∙ ap (recorded_by reply true) (kept_told s ask.session reply after ask.command accepted step ∙ none)

  pub passing_records : (old new : Recording) → kept_of old.bridge ask ≡ None → Answers old.bridge ask reply new.bridge
      → new.text ≡ old.text → Records line most old ask reply new
  passing_records old new none step same =
      unrecorded old new (inl step) same (passing_none old.bridge new.bridge none step (may_change reply) refl)

  module _ (a : Ask) (old new : Recording) (is : kept_of old.bridge ask ≡ Some a) where
    by_kept : (b : Bool) → may_change reply ≡ b → Answers old.bridge a reply new.bridge
        → new.text ≡ cond b (old.text ++ line a ++ line_feed ∷ []) old.text → IsOneLine (line a) → length (line a) ≤ most
        → Records line most old ask reply new
    by_kept false refused step text one within =
        unrecorded old new (inl (same_step old.bridge ask.session reply new.bridge ask.command a is step)) text (refused_none refused)
    by_kept true accepted step text one within =
        let there = same_step old.bridge ask.session reply new.bridge ask.command a is step in
        let some : of_ask ≡ Some (with_reply reply a) =
        ap (λ b. recorded_by reply b (kept ask.session ask.command (instant_told reply))) accepted
        ∙ ap (recorded_by reply true) (kept_told old.bridge ask.session reply new.bridge ask.command accepted there ∙ is) in
        record {
          ranges = ranges;
          handles = inl there;
          grows = text ∙ append_assoc old.text (line a) (line_feed ∷ []) ∙ ap (λ o. old.text ++ text_of line o) (sym some);
          has_line = subst (HasLine line most) (sym some) (one, within);
        }

    refused_by_kept : Handles line most old.bridge ask reply new.bridge → (why : Refusal) → reply ≡ Refused why → new ≡ old
        → Records line most old ask reply new
    refused_by_kept handles why refused same =
        unrecorded old new handles (ap (λ (x : Recording). x.text) same) (refused_none (ap may_change refused))

    left : new ≡ old → new.bridge ≡ old.bridge
    left same = ap (λ (x : Recording). x.bridge) same

    wanting_handles : (why : Refusal) → reply ≡ Refused why → IsWithoutMemory old.bridge a why → new ≡ old
        → Handles line most old.bridge ask reply new.bridge
    wanting_handles why refused (inl step) same =
        inl (same_step old.bridge ask.session reply new.bridge ask.command a is
        (subst (λ (x : State). Answers old.bridge a reply x) (sym (left same))
        (subst (λ (r : Reply). Answers old.bridge a r old.bridge) (sym refused) step)))
    wanting_handles why refused (inr hello) same =
        inr (inl (record {
          name = hello.name;
          hello = hello_of ask.session ask.command (counted old.bridge ask.command) a hello.name is hello.hello;
          free = hello.free;
          refused = refused ∙ hello.refused;
          same = left same;
        }))

    pub kept_records : Keeps line most old a reply new → Records line most old ask reply new
    kept_records (inl made) = by_kept (may_change reply) refl made.step made.grows made.one_line made.within
    kept_records (inr (inl long)) =
        refused_by_kept (inr (inr (record { to_keep = a; is = is; over = long.over; refused = long.refused; same = left long.same })))
        TooLong long.refused long.same
    kept_records (inr (inr want)) =
        refused_by_kept (wanting_handles want.why want.refused want.wanting want.same) want.why want.refused want.same

-- ---- one recorded command replayed

-- what is no refusal is accepted
pub no_refusal : (reply : Reply) → ((why : Refusal) → reply ≡ Refused why → ⊥) → is_accepted reply ≡ true
no_refusal (Refused why) other = absurd (other why refl)
no_refusal reply other = refl

-- what is neither a refusal nor a session that goes by a name may have changed the state
pub no_rest : (reply : Reply) → ((why : Refusal) → reply ≡ Refused why → ⊥) → ((n : ℕ) → reply ≡ Known n → ⊥) → may_change reply ≡ true
no_rest (Refused why) refused known = absurd (refused why refl)
no_rest (Known n) refused known = absurd (known n refl)
no_rest reply refused known = refl

pub one_replayed : (s : State) (a : Ask) (reply : Reply) (new : State) → Answers s a reply new → is_accepted reply ≡ true
    → Replays s (a ∷ []) new
one_replayed s a reply new step accepted = (reply, new, step, accepted, refl)
