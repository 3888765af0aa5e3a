-- What doesn't last, where it shows; and what recorded commands keep.
use Rattle.std.proofs.Common.{◌≡◌, ℕ, true, false, cond, ◌<◌, ◌≤◌, refl, sym, ◌∙◌, ap, subst, arith, max, List, [], ◌∷◌, Option, Some, None}
use Rattle.std.specs.Prelude.{nat_lt, option_map}
use Rattle.std.specs.List.{cons_option}
use Rattle.std.specs.Option.{option_map_or}
use Rattle.std.proofs.lemmas.Bool.Decides.{nat_tests}
use Rattle.tsn_edit.proofs.KeyFacts.{by_option}
use Rattle.tsn_types.specs.declared.keys.Key.{Key}
use Rattle.tsn_types.specs.declared.keys.Key.TheVariants.{Port}
use Rattle.tsn_types.specs.declared.limits.Limits.{Limits}
use Rattle.tsn_types.specs.declared.records.Record.{Record}
use Rattle.tsn_schedule.specs.Counters.{change_in, is_pending}
use Rattle.tsn_entries.specs.declared.entries.Act.{Act as Asked}
use Rattle.tsn_entries.specs.declared.entries.Act.TheVariants as asked
use Rattle.tsn_chain.specs.declared.state.Counters.TheVariants as counters
use Rattle.tsn_chain.specs.Counters.{list_counters}
use Rattle.tsn_undo.specs.Ledger.{Ledger}
use Rattle.tsn_commands.specs.declared.command.Ask.{Ask}
use Rattle.tsn_commands.specs.declared.command.Command.{Command}
use Rattle.tsn_commands.specs.declared.reply.Reply.TheVariants.{Acted}
use Rattle.tsn_bridge.specs.Acts.{act_rule}
use Rattle.tsn_bridge.specs.Beginning.{Opens, begun}
use Rattle.tsn_bridge.specs.Histories.{AreInRange, Answered}
use Rattle.tsn_commands.specs.Commands.{CommandInRange, act_command}
use Rattle.tsn_bridge.specs.Later.{IsWhole}
use Rattle.tsn_bridge.specs.Looking.{counted_at}
use Rattle.tsn_bridge.specs.Objects.{port_at}
use Rattle.tsn_bridge.specs.Rule.{Allows, may_change}
use Rattle.tsn_bridge.specs.State.{State}
use Rattle.tsn_bridge.proofs.Later.{all_go_on, whole_begun}
use Rattle.tsn_replay.specs.Lasting.{Lasting, Resumes}
use Rattle.tsn_replay.specs.Recording.{AreRecorded, all_recorded, instant_told, kept, with_reply}
use Rattle.tsn_replay.specs.Replaying.{Comes, LeadsBack, Turn}
use Rattle.tsn_replay.proofs.Recorded.{AHello, AnAct, Itself, KeptAs, kept_as, told_at}
use Rattle.tsn_replay.proofs.LeadingBack.{AreWithin, itself, reaches}

-- ---- acts before a time that frames had moved

pub earlier_act : (moment again after there : State) (n m : ℕ) (act : Asked) (k : Key) (now : ℕ) (change other : Option ℕ)
    (entry number at counted : ℕ)
    → Resumes moment again → again.time < moment.time → now < moment.time
    → Allows (act_rule moment n act k now) moment (Acted change entry at) after
    → Allows (act_rule again m act k now) again (Acted other number counted) there → counted < at
earlier_act moment again after there n m act k now change other entry number at counted resumes moved before step also =
    let one : at ≡ max moment.time now = told_at moment n act k now (Acted change entry at) after refl step in
    let two : counted ≡ max again.time now = told_at again m act k now (Acted other number counted) there refl also in
    omega (arith, one, two, moved, before)

-- ---- counters

pub port_counters : (moment again : State) (m : ℕ) → Resumes moment again
    → counted_at again.book again.frames again.time (Port m)
    ≡ Some (counters.Port (record (list_counters moment.time (port_at moment.book m).acts)
    { pending = is_pending (port_at moment.book m).acts again.time }))
port_counters moment again m resumes =
    ap (λ (b : Ledger). Some (counters.Port (list_counters again.time (port_at b m).acts))) (ap (λ (x : Lasting). x.ledger) resumes.same)

comes_before : (early late : ℕ) (change : Option ℕ) → early ≤ late → option_map_or (nat_lt late) change false ≡ true
    → option_map_or (nat_lt early) change false ≡ true
comes_before early late None le h = h
comes_before early late (Some change) le h = grind (arith, nat_tests)

pub still_pending : (moment again : State) (m : ℕ) → Resumes moment again → is_pending (port_at moment.book m).acts moment.time ≡ true
    → is_pending (port_at again.book m).acts again.time ≡ true
still_pending moment again m resumes h =
    ap (λ (b : Ledger). is_pending (port_at b m).acts again.time) (ap (λ (x : Lasting). x.ledger) resumes.same)
    ∙ comes_before again.time moment.time (change_in (port_at moment.book m).acts) resumes.time h

-- ---- recorded commands

fixed : (ts : List Answered) → AreRecorded ts → all_recorded ts ≡ ts
fixed [] h = refl
fixed (t ∷ ts) h = ap (λ (o : Option Answered). cons_option o (all_recorded ts)) h.0.1 ∙ ap (λ (xs : List Answered). t ∷ xs) (fixed ts h.1)

pub recorded_again : (turn : Turn) → AreWithin turn → (start : State) (asks : List Answered) (now : State) → Comes turn start asks now
    → all_recorded (all_recorded asks) ≡ all_recorded asks
recorded_again turn within start asks now comes =
    fixed (all_recorded asks) (reaches turn within asks start start now (itself start) comes).are

-- what is kept of a command in range is in range
act_in_range : (act : Asked) (k : Key) (now : ℕ) → CommandInRange (act_command act k now)
act_in_range asked.Enable k now = tt
act_in_range act k now = tt

kept_in_range : (n at : ℕ) (command : Command) (a : Ask) → KeptAs n at command a → CommandInRange command → CommandInRange a.command
kept_in_range n at command a (Itself c from is) h = h
kept_in_range n at command a (AHello name) h = h
kept_in_range n at command a (AnAct act k now) h = act_in_range act k at

pub records_in_range : (asks : List Answered) → AreInRange asks → AreInRange (all_recorded asks)
records_in_range [] h = tt
records_in_range (t ∷ ts) h = elim (may_change t.reply) as
    (λ b. AreInRange (cons_option (cond b (option_map (with_reply t.reply) (kept t.ask.session t.ask.command (instant_told t.reply))) None)
    (all_recorded ts))) [
      | true ↦ by_option (kept t.ask.session t.ask.command (instant_told t.reply))
          (λ none. subst (λ (o : Option Ask). AreInRange (cons_option (option_map (with_reply t.reply) o) (all_recorded ts))) (sym none)
          (records_in_range ts h.1))
          (λ a some. subst (λ (o : Option Ask). AreInRange (cons_option (option_map (with_reply t.reply) o) (all_recorded ts))) (sym some) (
            kept_in_range t.ask.session (instant_told t.reply) t.ask.command a
                (kept_as t.ask.session t.ask.command (instant_told t.reply) a some) h.0,
            records_in_range ts h.1,
          ))
      | false ↦ records_in_range ts h.1
    ]

pub whole_again : (limits : Limits) (given : List (Key × Record)) (front : List Answered) (moment : State) → Opens limits given
    → AreInRange front → (back : LeadsBack (begun limits given) front moment) → IsWhole back.again
whole_again limits given front moment opens ranges back =
    (all_go_on front (begun limits given) back.again (whole_begun limits given opens) ranges back.leads).0
