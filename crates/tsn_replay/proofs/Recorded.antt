-- What is recorded of a step is a step again, and answered from what lasts; what is not recorded leaves what lasts.
use Rattle.std.proofs.Common.{◌≡◌, ℕ, Bool, true, false, ◌≤◌, ◌+◌, arith, List, [], ◌∷◌, ◌++◌, refl, sym, ◌∙◌, ap, subst, cond, Option, Some, None, inl, inr, length}
use Rattle.std.specs.Prelude.{◌⊎◌, option_map}
use Rattle.tsn_types.specs.declared.keys.Key.{Key}
use Rattle.tsn_edit.proofs.KeyFacts.{by_option}
use Rattle.tsn_entries.specs.declared.entries.Act.{Act as Asked}
use Rattle.tsn_entries.specs.declared.entries.Act.TheVariants as asked
use Rattle.tsn_entries.specs.declared.entries.What.TheVariants.{Acted}
use Rattle.tsn_entries.specs.Entries.{no_room}
use Rattle.tsn_chain.specs.declared.frame.Verdict.{Verdict}
use Rattle.tsn_chain.specs.Frames.{framed}
use Rattle.tsn_chain.specs.Instances.{FrameData}
use Rattle.tsn_undo.specs.Ledger.{enter, present}
use Rattle.tsn_commands.specs.declared.command.Ask.{Ask}
use Rattle.tsn_commands.specs.declared.command.Command.{Command}
use Rattle.tsn_commands.specs.declared.command.Command.TheVariants as commands
use Rattle.tsn_commands.specs.declared.reply.Reply.{Reply}
use Rattle.tsn_commands.specs.declared.reply.Reply.TheVariants as replies
use Rattle.tsn_bridge.specs.Acts.{act_causes, act_change, act_rule, instant, list_causes}
use Rattle.tsn_bridge.specs.Families.{Acting, Counting, Family, Framing, Greeting, Looking, family, seen_by_looks}
use Rattle.tsn_commands.specs.Commands.{act_command}
use Rattle.tsn_bridge.specs.Frames.{acts_of_gates, frame_rule, framed_state}
use Rattle.tsn_bridge.specs.Histories.{Answered, Answers}
use Rattle.tsn_bridge.specs.Machine.{Goes, Step}
use Rattle.tsn_bridge.specs.Rule.{Allows, Rule, may_change}
use Rattle.tsn_bridge.specs.State.{State}
use Rattle.tsn_bridge.proofs.AtOnce.{done_of}
use Rattle.tsn_bridge.proofs.Families.{IsStill, done_each, leaves, looked, outcome, reply_of}
use Rattle.tsn_replay.specs.Answering.{IsFromLasting, IsFromLastingIn}
use Rattle.tsn_replay.specs.Lasting.{lasting}
use Rattle.tsn_replay.specs.Recording.{instant_told, is_accepted, kept, kept_in, recorded, with_reply}

-- ---- what is kept of a command

pub act_family : (act : Asked) (k : Key) (now : ℕ) → family (act_command act k now) ≡ Acting act k now
act_family asked.Enable k now = refl
act_family act k now = refl

a_hello : (command : Command) (name : Option (List ℕ)) → family command ≡ Greeting name → command ≡ commands.Hello name
a_hello (commands.Hello said) name is = let same : said ≡ name = (cc) in ap commands.Hello same
a_hello command name is = absurd (cc)

same_act : (a b : Asked) (k q : Key) (t u : ℕ) → Acting a k t ≡ Acting b q u → act_command a k t ≡ act_command b q u
same_act a b k q t u is =
    let act : a ≡ b = (cc) in let key : k ≡ q = (cc) in let at : t ≡ u = (cc) in λ i. act_command (act i) (key i) (at i)

an_act : (command : Command) (act : Asked) (k : Key) (now : ℕ) → family command ≡ Acting act k now → command ≡ act_command act k now
an_act (commands.Enable key t) act k now is = same_act asked.Enable act key k t now is
an_act (commands.Disable key t) act k now is = same_act asked.Disable act key k t now is
an_act (commands.Apply key t) act k now is = same_act asked.Apply act key k t now is
an_act command act k now is = absurd (cc)

-- Kept is the ask itself, whose answer follows from what lasts; or of a hello, one of no session; or of an act, one at the instant.
pub data KeptAs (n at : ℕ) : Command → Ask → Type 0 where
  Itself : (command : Command) → ((time : ℕ) → IsFromLasting time command)
      → ((time : ℕ) → kept n command time ≡ Some (record { session = n; command = command }))
      → KeptAs n at command (record { session = n; command = command })
  AHello : (name : Option (List ℕ)) → KeptAs n at (commands.Hello name) (record { session = 0; command = commands.Hello name })
  AnAct : (act : Asked) (k : Key) (now : ℕ) → KeptAs n at (act_command act k now) (record { session = n; command = act_command act k at })

kept_as_in : (n : ℕ) (command : Command) (at : ℕ) (a : Ask) (f : Family) → family command ≡ f → kept_in n command at f ≡ Some a
    → KeptAs n at command a
kept_as_in n command at a (Greeting name) of is =
    subst (λ c. KeptAs n at c a) (sym (a_hello command name of)) (subst (KeptAs n at (commands.Hello name)) (done_of _ _ is) (AHello name))
kept_as_in n command at a (Acting act k now) of is =
    subst (λ c. KeptAs n at c a) (sym (an_act command act k now of))
    (subst (KeptAs n at (act_command act k now)) (done_of _ _ is) (AnAct act k now))
kept_as_in n command at a (Framing frame now) of is = absurd (cc)
kept_as_in n command at a (Looking look) of is = absurd (cc)
kept_as_in n command at a (Counting look) of is = absurd (cc)
kept_as_in n command at a f of is =
    subst (KeptAs n at command) (done_of _ _ is)
    (Itself command (λ time. subst (IsFromLastingIn time) (sym of) tt) (λ time. ap (kept_in n command time) of))

pub kept_as : (n : ℕ) (command : Command) (at : ℕ) (a : Ask) → kept n command at ≡ Some a → KeptAs n at command a
kept_as n command at a is = kept_as_in n command at a (family command) refl is

-- what may change the state was accepted
pub accepts : (reply : Reply) → may_change reply ≡ true → is_accepted reply ≡ true
accepts (replies.Refused why) may = (cc)
accepts reply may = refl

-- ---- an act at the instant that counted

module _ (s : State) (n : ℕ) (act : Asked) (k : Key) (now : ℕ) where
  -- is the same act
  pub again : act_rule s n act k (instant s now) ≡ act_rule s n act k now
  again =
      let at : instant s (instant s now) ≡ instant s now = omega arith in
      let rule_at : ℕ → Rule = λ a. record {
        causes = list_causes s n k (act_causes s.book act k ++ no_room s.book.entries 1 ∷ []);
        done = Some (
          replies.Acted (act_change s.book act k a) (length s.book.entries + 1) a,
          record s
              { book = enter s.book n (Acted act k a); time = a },
        );
        takes_memory = true;
      } in
      ap rule_at at

  -- which the reply tells, where it is accepted
  pub told_at : (reply : Reply) (after : State) → is_accepted reply ≡ true → Allows (act_rule s n act k now) s reply after
      → instant_told reply ≡ instant s now
  told_at reply after accepted step =
      elim (outcome (act_rule s n act k now) s reply after step) as (λ _. instant_told reply ≡ instant s now) [
        | inl still ↦ (let never : true ≡ false = sym accepted ∙ ap is_accepted still.refused in absurd (cc))
        | inr did ↦ ap instant_told (sym (reply_of _ reply _ after did.done))
      ]

-- ---- what a record says of a step

-- nothing is recorded, what lasts stays, and the bridge time is no less
pub record IsPassing (s : State) (t : Answered) (after : State) : Type 0 where
  pub nothing : recorded t ≡ None
  pub same : lasting after ≡ lasting s
  pub time : s.time ≤ after.time

-- what is recorded is the same step
pub record IsKept (s : State) (t : Answered) (after : State) : Type 0 where
  pub ask : Ask
  pub accepted : may_change t.reply ≡ true
  pub is : recorded t ≡ Some (with_reply t.reply ask)
  pub fixed : recorded (with_reply t.reply ask) ≡ Some (with_reply t.reply ask)
  pub step : Answers s ask t.reply after
  pub from : IsFromLasting s.time ask.command

abbrev pub IsTold : State → Answered → State → Type 0
IsTold s t after = IsPassing s t after ⊎ IsKept s t after

abbrev pub answered_by : ℕ → Command → Reply → Answered
answered_by n command reply = record { ask = record { session = n; command = command }; reply = reply }

-- what is recorded, by whether the reply accepts and by what is kept
abbrev pub recorded_by : Reply → Bool → Option Ask → Option Answered
recorded_by reply b o = cond b (option_map (with_reply reply) o) None

-- ---- of what nothing is kept

abbrev Stays : State → State → Type 0
Stays s after = (lasting after ≡ lasting s) × (s.time ≤ after.time)

at_rest : (s after : State) → after ≡ s → Stays s after
at_rest s after same = subst (Stays s) (sym same) (refl, omega arith)

passing : (s : State) (n : ℕ) (command : Command) (at : ℕ) (reply : Reply) (after : State) (f : Family) → kept_in n command at f ≡ None
    → Goes s n f reply after → Stays s after
passing s n command at reply after (Framing frame now) none step =
    elim (outcome (frame_rule s n frame now) s reply after step) as (λ _. Stays s after) [
      | inl still ↦ at_rest s after still.same
      | inr did ↦
          done_each {A = Verdict × FrameData} (λ _. Stays s) (λ x. replies.Framed x.0) (λ x. framed_state s now x.1)
          (framed (present s.book) s.frames (acts_of_gates s.book) frame (instant s now)) reply after (λ x is. (refl, omega arith)) did.done
    ]
passing s n command at reply after (Looking look) none step = at_rest s after (looked (look (seen_by_looks s) n) s reply after step)
passing s n command at reply after (Counting look) none step = at_rest s after (looked (look s n) s reply after step)
passing s n command at reply after f none step = absurd (cc)

-- ---- what is kept

kept_step : (s : State) (n : ℕ) (reply : Reply) (after : State) (at : ℕ) (command : Command) (a : Ask) → KeptAs n at command a
    → at ≡ instant_told reply → may_change reply ≡ true
    → Step s n command reply after → (kept a.session a.command at ≡ Some a) × Answers s a reply after × IsFromLasting s.time a.command
kept_step s n reply after at command a (Itself c from is) told accepted step = (is at, step, from s.time)
kept_step s n reply after at command a (AHello name) told accepted step = (refl, step, tt)
kept_step s n reply after at command a (AnAct act k now) told accepted step =
    let did : Allows (act_rule s n act k now) s reply after = subst (λ f. Goes s n f reply after) (act_family act k now) step in
    let then : at ≡ instant s now = told ∙ told_at s n act k now reply after (accepts reply accepted) did in
    let same : Allows (act_rule s n act k at) s reply after = subst (λ (rule : Rule). Allows rule s reply after)
    (sym (ap (act_rule s n act k) then ∙ again s n act k now)) did in
    let family_is = sym (act_family act k at) in (
      ap (kept_in n (act_command act k at) at) (act_family act k at),
      subst (λ f. Goes s n f reply after) family_is same,
      subst (IsFromLastingIn s.time) family_is (omega (arith, then)),
    )

-- ---- each step

module _ (s : State) (n : ℕ) (reply : Reply) (after : State) (command : Command) where
  -- what changes nothing is not recorded
  at_rest_passes : may_change reply ≡ false → after ≡ s → IsTold s (answered_by n command reply) after
  at_rest_passes none same =
      let left = at_rest s after same in
      inl (record {
        nothing = ap (λ b. recorded_by reply b (kept n command (instant_told reply))) none;
        same = left.0;
        time = left.1;
      })

  pub still_passes : IsStill s reply after → IsTold s (answered_by n command reply) after
  still_passes h = at_rest_passes (ap may_change h.refused) h.same

  told : (b : Bool) → may_change reply ≡ b → Step s n command reply after → IsTold s (answered_by n command reply) after
  told false none step = at_rest_passes none ((leaves s n (family command) reply after step).stays none)
  told true accepted step =
      let at = instant_told reply in
      by_option (kept n command at)
      (λ none.
      let left = passing s n command at reply after (family command) none step in
      inl (record {
        nothing = ap (λ b. recorded_by reply b (kept n command at)) accepted
            ∙ ap (recorded_by reply true) none;
        same = left.0;
        time = left.1;
      }))
      (λ a some.
      let k = kept_step s n reply after at command a (kept_as n command at a some) refl accepted step in
      inr (record {
        ask = a;
        accepted = accepted;
        is = ap (λ b. recorded_by reply b (kept n command at)) accepted ∙ ap (recorded_by reply true) some;
        fixed = ap (λ b. recorded_by reply b (kept a.session a.command at)) accepted ∙ ap (recorded_by reply true) k.0;
        step = k.1;
        from = k.2;
      }))

  pub each_told : Step s n command reply after → IsTold s (answered_by n command reply) after
  each_told step = told (may_change reply) refl step
