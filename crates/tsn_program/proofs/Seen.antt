-- From a new bridge on, once its port is enabled, nothing refuses a look at the port.
use Rattle.std.proofs.Common.{◌≡◌, ◌≤◌, ℕ, Bool, true, false, cond, refl, sym, ◌∙◌, ap, subst, arith, List, [], ◌∷◌, Option, Some, None}
use Rattle.std.specs.Prelude.{is_some}
use Rattle.std.specs.FinMap.{get}
use Rattle.std.proofs.lemmas.Bool.{le-leb}
use Rattle.tsn_types.specs.declared.keys.Key.TheVariants.{Port}
use Rattle.tsn_types.specs.declared.records.PortEntry.{PortEntry}
use Rattle.tsn_types.specs.declared.refusals.Field.TheVariants as fields
use Rattle.tsn_types.specs.declared.refusals.Refusal.{Refusal}
use Rattle.tsn_types.specs.declared.refusals.Refusal.TheVariants.{Missing, NoSession, Range}
use Rattle.tsn_types.specs.Limits.{holds_key, unless}
use Rattle.tsn_types.specs.Refusals.{least}
use Rattle.tsn_edit.proofs.KeyFacts.{same_itself}
use Rattle.tsn_edit.specs.Runs.{run}
use Rattle.tsn_schedule.specs.Acts.{last_instant}
use Rattle.tsn_entries.specs.declared.entries.Act.{Act as Asked}
use Rattle.tsn_entries.specs.declared.entries.Act.TheVariants as asked
use Rattle.tsn_entries.specs.declared.entries.What.TheVariants.{Acted}
use Rattle.tsn_entries.specs.Entries.{no_room}
use Rattle.tsn_undo.specs.Ledger.{present}
use Rattle.tsn_undo.proofs.Adding.{nothing_push}
use Rattle.tsn_bridge.specs.Acts.{acted_state, apply_rule, enable_rule, instant, list_causes}
use Rattle.tsn_bridge.specs.Looking.{last_at, states_rule}
use Rattle.tsn_bridge.specs.Objects.{Object, object, port_at, port_schedule, with_asked}
use Rattle.tsn_bridge.specs.Rule.{Allows, Rule, is_given}
use Rattle.tsn_bridge.specs.Sessions.{hello_rule}
use Rattle.tsn_bridge.specs.State.{State}
use Rattle.tsn_commands.specs.declared.command.Command.TheVariants as commands
use Rattle.tsn_commands.specs.declared.reply.Reply.{Reply}
use Rattle.tsn_bridge.proofs.LastActs.{asked_last}
use Rattle.tsn_bridge.proofs.Following.{object_push}
use Rattle.tsn_bridge.proofs.Families.{state_of}
use Rattle.tsn_bridge.proofs.Stepping.{accepted}
use Rattle.tsn_program.specs.Listing.{Applies, IsSeenFrom, Takes, refusal_told}
use Rattle.tsn_initial.specs.Opening.{IsNew}
use Rattle.tsn_config.proofs.Batches.{none_lesser}
use Rattle.tsn_types.proofs.Causes.{unless-None}

-- ---- causes

-- a command on the list of a port that nothing refuses finds the port and its session
module _ (s : State) (p : ℕ) (more : List (Option Refusal)) (none : least (list_causes s 1 (Port p) more) ≡ None) where
  listed : (holds_key s.book.limits (Port p) ≡ true) × (is_given s 1 ≡ true) × (is_some (get (present s.book) (Port p)) ≡ true)
  listed =
      let missing = unless (is_some (get (present s.book) (Port p))) (Missing (Port p)) in
      let session = unless (is_given s 1) NoSession in
      let first = none_lesser (unless (holds_key s.book.limits (Port p)) (Range fields.Key)) (least (session ∷ missing ∷ more)) none in
      let second = none_lesser session (least (missing ∷ more)) first.1 in
      let third = none_lesser missing (least more) second.1 in
      (unless-None _ _ first.0, unless-None _ _ second.0, unless-None _ _ third.0)

-- what was taken has no cause and was done
taken : (rule : Rule) (s new : State) (reply : Reply) → Allows rule s reply new → refusal_told reply ≡ None
    → (least rule.causes ≡ None) × (rule.done ≡ Some (reply, new))
taken rule s new reply step told =
    accepted rule s reply new (λ why is. let never : Some why ≡ None = sym (ap refusal_told is) ∙ told in (cc)) step

-- ---- the last act on a port

acted_last : (s : State) (act : Asked) (p now t : ℕ) → instant s now ≤ t → last_at s.book (Port p) ≤ t
    → last_at (acted_state s 1 act (Port p) now).book (Port p) ≤ t
acted_last s act p now t at before =
    let o = port_at s.book p in
    let acts = with_asked act (port_schedule o.value) (instant s now) o.acts in
    let push = ap (λ (x : Object PortEntry). last_instant x.acts)
    (object_push port_schedule (Port p) (get s.book.opening (Port p)) s.book.entries _) in
    let own = ap (λ b. last_instant (cond b (record { value = o.value; acts = acts }) o).acts) (same_itself (Port p)) in
    subst (λ m. m ≤ t) (sym (push ∙ own)) (asked_last act (port_schedule o.value) (instant s now) t o.acts at before)

-- an act leaves the port and the session
acted_seen : (s : State) (act : Asked) (p now : ℕ) → s.time ≤ now → IsSeenFrom s p now → IsSeenFrom (acted_state s 1 act (Port p) now) p now
acted_seen s act p now early seen = record {
  within = seen.within;
  given = seen.given;
  there = ap (λ c. is_some (get (run s.book.opening c) (Port p))) (nothing_push s.book.entries 1 (Acted act (Port p) (instant s now)) refl)
      ∙ seen.there;
  last = acted_last s act p now now (omega arith) seen.last;
}

-- ---- the commands before the first line

pub greeted : (s new : State) → IsNew s → Takes s 0 (commands.Hello None) new → IsNew new
greeted s new is h =
    let done = taken (hello_rule s None) s new h.0 h.1 h.2 in
    subst IsNew (state_of _ h.0 _ new done.1) is

new_last : (s : State) (p now : ℕ) → IsNew s → last_at s.book (Port p) ≤ now
new_last s p now is =
    let none = ap (λ es. last_instant (object port_schedule (Port p) (get s.book.opening (Port p)) es).acts) is.0 in
    subst (λ m. m ≤ now) (sym none) (omega arith)

pub enabled : (s new : State) (p now : ℕ) → IsNew s → Takes s 1 (commands.Enable (Port p) now) new → IsSeenFrom new p now × (new.time ≤ now)
enabled s new p now is h =
    let done = taken (enable_rule s 1 (Port p) now) s new h.0 h.1 h.2 in
    let there = listed s p (no_room s.book.entries 1 ∷ []) done.0 in
    let seen : IsSeenFrom s p now = record { within = there.0; given = there.1; there = there.2; last = new_last s p now is } in
    let early : s.time ≤ now = omega (arith, is.1) in
    subst (λ (x : State). IsSeenFrom x p now × (x.time ≤ now)) (state_of _ h.0 _ new done.1)
    (acted_seen s asked.Enable p now early seen, omega arith)

pub applied : (is_listed : Bool) (s new : State) (p now : ℕ) → s.time ≤ now → IsSeenFrom s p now → Applies is_listed s p now new
    → IsSeenFrom new p now
applied true s new p now early seen h =
    let done = taken (apply_rule s 1 (Port p) now) s new h.0 h.1 h.2 in
    subst (λ (x : State). IsSeenFrom x p now) (state_of _ h.0 _ new done.1) (acted_seen s asked.Apply p now early seen)
applied false s new p now early seen h = subst (λ (x : State). IsSeenFrom x p now) (sym h) seen

-- ---- looks

-- nothing refuses a look
pub unrefused : (s : State) (p t : ℕ) → IsSeenFrom s p t → least (states_rule s 1 (Port p) t).causes ≡ None
unrefused s p t seen = rw (seen.within, seen.given, seen.there, le-leb (last_at s.book (Port p)) t seen.last) refl
