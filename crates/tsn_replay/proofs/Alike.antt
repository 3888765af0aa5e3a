-- What each family of commands is answered, and what of it lasts, follows from what lasts before it.
use Rattle.std.proofs.Common.{◌≡◌, ℕ, ◌≤◌, ◌+◌, refl, sym, ◌∙◌, ap, arith, max, List, [], ◌∷◌, Option, Some, None, inl, inr, length}
use Rattle.std.specs.Prelude.{⊤, IsTrue, option_map}
use Rattle.tsn_types.specs.Refusals.{least}
use Rattle.tsn_edit.specs.Parts.{inverse}
use Rattle.tsn_entries.specs.declared.entries.What.TheVariants.{Acted}
use Rattle.tsn_entries.specs.Entries.{Applied, no_room, redone, undone}
use Rattle.tsn_entries.specs.Finding.{last_of, redo_of}
use Rattle.tsn_chain.specs.Instances.{FrameData}
use Rattle.tsn_undo.specs.Ledger.{enter}
use Rattle.tsn_undo.specs.Redo.{redo_cause}
use Rattle.tsn_commands.specs.declared.command.Command.{Command}
use Rattle.tsn_commands.specs.declared.reply.Reply.{Reply}
use Rattle.tsn_commands.specs.declared.reply.Reply.TheVariants.{EntryOf}
use Rattle.tsn_commands.specs.declared.reply.Reply.TheVariants as replies
use Rattle.tsn_bridge.specs.Acts.{act_change, act_rule, acted_state, instant}
use Rattle.tsn_bridge.specs.Edits.{changed_state, edit_rule, next, redo_rule, undo_all_rule, undo_rule}
use Rattle.tsn_bridge.specs.Families.{Acting, Counting, Editing, Family, Framing, Greeting, Looking, Redoing, Settling, Undoing, UndoingAll, family, seen_by_looks}
use Rattle.tsn_bridge.specs.Machine.{Goes, Step}
use Rattle.tsn_bridge.specs.Rule.{Allows, Look, Rule, look_rule}
use Rattle.tsn_bridge.specs.Names.{known}
use Rattle.tsn_bridge.specs.Sessions.{hello_as, known_look, new_session}
use Rattle.tsn_bridge.specs.Settling.{settle_rule}
use Rattle.tsn_bridge.specs.State.{State}
use Rattle.tsn_replay.specs.Answering.{IsFromLasting, IsFromLastingIn}
use Rattle.tsn_replay.specs.Lasting.{lasting}
use Rattle.tsn_replay.proofs.Carrying.{IsCarried, KeepsAlike, beside, carry, told_each}

-- an instant that is not before the time counts as it is
pub counts : (time now : ℕ) → time ≤ now → max time now ≡ now
counts time now late = omega (arith, late)

module _ (s : State) (time : ℕ) (frames : FrameData) where
  abbrev t : State
  t = beside s time frames

  -- done at once, or for what may be there, in both alike
  each : {A : Type 0} (one other : Rule) (r : A → Reply) (x y : A → State) (o : Option A)
      → ◌≡◌ {A = Option (Reply × State)} one.done (option_map (λ a. (r a, x a)) o)
      → ◌≡◌ {A = Option (Reply × State)} other.done (option_map (λ a. (r a, y a)) o)
      → other.causes ≡ one.causes → (IsTrue one.takes_memory → IsTrue other.takes_memory) → ((a : A) → KeepsAlike s t (x a) (y a))
      → (reply : Reply) (after : State) → Allows one s reply after → IsCarried s t other reply after
  each one other r x y o is also causes memory alike reply after step =
      carry s t refl one other reply after causes memory
      (λ done. let c = told_each s t refl r x y o reply after (sym is ∙ done) alike in (c.0, also ∙ c.1, c.2)) step

  once : (one other : Rule) (r : Reply) (x y : State) → ◌≡◌ {A = Option (Reply × State)} one.done (Some (r, x))
      → ◌≡◌ {A = Option (Reply × State)} other.done (Some (r, y))
      → other.causes ≡ one.causes → (IsTrue one.takes_memory → IsTrue other.takes_memory) → KeepsAlike s t x y
      → (reply : Reply) (after : State) → Allows one s reply after → IsCarried s t other reply after
  once one other r x y is also causes memory alike =
      each {A = ⊤} one other (λ _. r) (λ _. x) (λ _. y) (Some tt) is also causes memory (λ _. alike)

  -- a look, in both alike
  looked : (l : Look) (reply : Reply) (after : State) → Allows (look_rule s l) s reply after → IsCarried s t (look_rule t l) reply after
  looked l reply after step =
      each (look_rule s l) (look_rule t l) (λ r. r) (λ r. s) (λ r. t) l.answer refl refl refl (λ m. m)
      (λ r. record { same = refl; times = inl (refl, refl) }) reply after step

  -- a hello, by the session that goes by its name, if there is one
  greeted : (name : Option (List ℕ)) (o : Option ℕ) (reply : Reply) (after : State) → Allows (hello_as s name o) s reply after
      → IsCarried s t (hello_as t name o) reply after
  greeted name None reply after step =
      once (new_session s name) (new_session t name) _ _ _ refl refl refl (λ m. m) (record { same = refl; times = inl (refl, refl) }) reply
      after step
  greeted name (Some m) reply after step = looked (known_look m) reply after step

  -- each family whose answer follows from what lasts
  alike_in : (n : ℕ) (f : Family) (reply : Reply) (after : State) → IsFromLastingIn s.time f → IsFromLastingIn time f
      → Goes s n f reply after → (there : State) × Goes t n f reply there × KeepsAlike s t after there
  alike_in n (Greeting name) reply after from also step = greeted name (known s.names name) reply after step
  alike_in n (Editing batch) reply after from also step =
      once (edit_rule s n batch) (edit_rule t n batch) _ _ _ refl refl refl (λ m. m) (record { same = refl; times = inl (refl, refl) })
      reply after step
  alike_in n Undoing reply after from also step =
      each (undo_rule s n) (undo_rule t n) (λ (x : Applied). EntryOf (next s) x.number)
      (λ x. changed_state s n (undone x) (inverse x.change)) (λ x. changed_state t n (undone x) (inverse x.change))
      (last_of s.book.entries n) refl refl
      refl (λ m. m) (λ x. record { same = refl; times = inl (refl, refl) }) reply after step
  alike_in n UndoingAll reply after from also step =
      once (undo_all_rule s n) (undo_all_rule t n) _ _ _ refl refl refl (λ m. m) (record { same = refl; times = inl (refl, refl) }) reply
      after step
  alike_in n Redoing reply after from also step =
      let cause = least (redo_cause s.book.entries (redo_of s.book.entries n) step.fits ∷ no_room s.book.entries 1 ∷ []) in
      let c = each (redo_rule s n cause) (redo_rule t n cause) (λ (u : Applied). EntryOf (next s) u.number)
      (λ u. changed_state s n (redone u) (inverse u.change)) (λ u. changed_state t n (redone u) (inverse u.change))
      (redo_of s.book.entries n) refl refl
      refl (λ m. m) (λ u. record { same = refl; times = inl (refl, refl) }) reply after step.holds in
      (c.0, record { fits = step.fits; tells = step.tells; holds = c.1 }, c.2)
  alike_in n (Settling upto) reply after from also step =
      once (settle_rule s n upto) (settle_rule t n upto) _ _ _ refl refl refl (λ m. m) (record { same = refl; times = inl (refl, refl) })
      reply after step
  -- an act at an instant that is before neither time
  alike_in n (Acting act k now) reply after late also_late step =
      let at : instant s now ≡ instant t now = counts s.time now late ∙ sym (counts time now also_late) in
      let there = acted_state t n act k now in
      once (act_rule s n act k now) (act_rule t n act k now)
      (replies.Acted (act_change s.book act k (instant t now)) (length s.book.entries + 1) (instant t now)) (acted_state s n act k now)
      there
      (ap (λ (a : ℕ). Some (replies.Acted (act_change s.book act k a) (length s.book.entries + 1) a, acted_state s n act k now)) at) refl
      refl (λ m. m)
      (record { same = ap (λ (a : ℕ). lasting (record s { book = enter s.book n (Acted act k a) })) (sym at); times = inr (sym at) })
      reply after step
  alike_in n (Framing frame now) reply after from also step = absurd from
  alike_in n (Looking look) reply after from also step =
      looked (look (seen_by_looks s) n) reply after step
  alike_in n (Counting look) reply after from also step = absurd from

  -- each command whose answer does
  pub each_alike : (n : ℕ) (command : Command) (reply : Reply) (after : State) → IsFromLasting s.time command → IsFromLasting time command
      → Step s n command reply after
      → (there : State) × Step t n command reply there × KeepsAlike s t after there
  each_alike n command reply after from also step = alike_in n (family command) reply after from also step
