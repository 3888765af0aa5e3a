-- What a step is, of whatever family: one rule allows it, and it leaves the state in one of a few ways.
use Rattle.std.proofs.Common.{◌≡◌, ℕ, Bool, true, false, ◌+◌, List, [], ◌∷◌, refl, sym, ◌∙◌, ap, subst, Option, Some, None, inl, inr}
use Rattle.std.specs.Prelude.{◌⊎◌, ⊤, option_map}
use Rattle.tsn_types.specs.declared.keys.Key.{Key}
use Rattle.tsn_types.specs.declared.refusals.Refusal.{Refusal}
use Rattle.tsn_types.specs.declared.refusals.Refusal.TheVariants.{Conflict, Memory, RedoConflict}
use Rattle.tsn_types.specs.Refusals.{least}
use Rattle.tsn_edit.specs.declared.Edit.TheVariants as edits
use Rattle.tsn_edit.specs.Batches.{EditsInRange, IsBatch, change_of}
use Rattle.tsn_edit.specs.Changes.{Fits}
use Rattle.tsn_edit.specs.Parts.{Change, inverse}
use Rattle.tsn_edit.proofs.Batched.{batch_of_one}
use Rattle.tsn_config.proofs.Batches.{batch_fits}
use Rattle.tsn_chain.specs.declared.frame.Frame.{Frame}
use Rattle.tsn_chain.specs.declared.frame.Verdict.{Verdict}
use Rattle.tsn_chain.specs.Frames.{framed}
use Rattle.tsn_chain.specs.Instances.{FrameData}
use Rattle.tsn_entries.specs.declared.entries.Act.{Act as Asked}
use Rattle.tsn_entries.specs.declared.entries.What.{What}
use Rattle.tsn_entries.specs.declared.entries.What.TheVariants.{Made}
use Rattle.tsn_entries.specs.Entries.{Applied, applies, no_room, redone, undone}
use Rattle.tsn_entries.specs.Finding.{find_redo_conflict, last_of, own_standing, redo_of}
use Rattle.tsn_undo.specs.Ledger.{Ledger, present}
use Rattle.tsn_undo.specs.Redo.{IsRedoable, TellsFit, redo_cause}
use Rattle.tsn_undo.specs.Steps.{edit_refusal, undo_refusal}
use Rattle.tsn_undo.specs.UndoAll.{undo_all_refusal}
use Rattle.tsn_undo.proofs.Free.{edit_admitted, or_none}
use Rattle.tsn_undo.proofs.Making.{edit_sound, kept_now, undo_step_now}
use Rattle.tsn_undo.proofs.Redone.{inverse_fits, redo_refusal-first, redo_sound, undone_split}
use Rattle.tsn_edit.proofs.KeyFacts.{by_option}
use Rattle.tsn_commands.specs.declared.command.Command.{Command}
use Rattle.tsn_commands.specs.declared.command.Command.TheVariants as commands
use Rattle.tsn_commands.specs.declared.reply.Reply.{Reply}
use Rattle.tsn_commands.specs.declared.reply.Reply.TheVariants as replies
use Rattle.tsn_bridge.specs.Acts.{act_rule, acted_state, instant}
use Rattle.tsn_bridge.specs.Edits.{changed_state, edit_rule, next, redo_rule, undo_all_rule, undo_rule, undone_state}
use Rattle.tsn_bridge.specs.Families.{Acting, Counting, Editing, Family, Framing, Greeting, Looking, OfRule, Redoing, Settling, Undoing, UndoingAll, family, seen_by_looks}
use Rattle.tsn_bridge.specs.Frames.{acts_of_gates, frame_rule, framed_state}
use Rattle.tsn_bridge.specs.Histories.{StateIsSound}
use Rattle.tsn_commands.specs.Commands.{CommandInRange}
use Rattle.tsn_bridge.specs.Machine.{Goes, Step}
use Rattle.tsn_bridge.specs.Rule.{Allows, Look, Rule, is_given, look_rule, may_change}
use Rattle.tsn_bridge.specs.Names.{known, with_name}
use Rattle.tsn_bridge.specs.Sessions.{hello_as, known_look, new_session}
use Rattle.tsn_bridge.specs.Settling.{settle_rule, settled_state}
use Rattle.tsn_bridge.specs.State.{State}
use Rattle.tsn_bridge.proofs.AtOnce.{done_of}
use Rattle.tsn_bridge.proofs.Stepping.{AllowsAt, was_given}

-- ---- one rule

-- what would be redone fits or not, and so the cause is one
same_cause : (b : Ledger) (o : Option Applied) (f g : Bool) → TellsFit b o f → TellsFit b o g
    → redo_cause b.entries o f ≡ redo_cause b.entries o g
same_cause b None f g h k = refl
same_cause b (Some u) true true h k = refl
same_cause b (Some u) false false h k = refl
same_cause b (Some u) true false h k = let never : false ≡ true = k.1 (h.0 refl) in (cc)
same_cause b (Some u) false true h k = let never : false ≡ true = h.1 (k.0 refl) in (cc)

-- what holds of the rule of a family, and what else does, hold of one rule
pub one_rule : (s : State) (n : ℕ) (f : Family) (P Q : Rule → Type 0) → OfRule s n f P → OfRule s n f Q → (rule : Rule) × P rule × Q rule
one_rule s n Redoing P Q p q =
    let found = redo_of s.book.entries n in
    let cause_of : Bool → Option Refusal = λ fits. least (redo_cause s.book.entries found fits ∷ no_room s.book.entries 1 ∷ []) in
    let same : cause_of q.fits ≡ cause_of p.fits =
    ap (λ (c : Option Refusal). least (c ∷ no_room s.book.entries 1 ∷ [])) (same_cause s.book found q.fits p.fits q.tells p.tells) in
    (redo_rule s n (cause_of p.fits), p.holds, subst (λ (c : Option Refusal). Q (redo_rule s n c)) same q.holds)
one_rule s n f P Q p q = (_, p, q)

-- ---- refused, or done

-- a refusal, and the state stays
pub record IsStill (s : State) (reply : Reply) (new : State) : Type 0 where
  pub why : Refusal
  pub refused : reply ≡ replies.Refused why
  pub same : new ≡ s

-- nothing refuses it, and it is done
pub record IsDone (rule : Rule) (reply : Reply) (new : State) : Type 0 where
  pub none : least rule.causes ≡ None
  pub done : ◌≡◌ {A = Option (Reply × State)} rule.done (Some (reply, new))

outcome_at : (o : Option Refusal) (rule : Rule) (s : State) (reply : Reply) (new : State) → least rule.causes ≡ o
    → AllowsAt o rule s reply new → IsStill s reply new ⊎ IsDone rule reply new
outcome_at None rule s reply new none (inl done) = inr (record { none = none; done = done })
outcome_at None rule s reply new none (inr memory) = inl (record { why = Memory; refused = memory.1; same = memory.2 })
outcome_at (Some why) rule s reply new some cause = inl (record { why = why; refused = cause.0; same = cause.1 })

pub outcome : (rule : Rule) (s : State) (reply : Reply) (new : State) → Allows rule s reply new
    → IsStill s reply new ⊎ IsDone rule reply new
outcome rule s reply new step = outcome_at (least rule.causes) rule s reply new refl step

-- the reply, and the state that is done
pub reply_of : (r reply : Reply) (t new : State) → ◌≡◌ {A = Option (Reply × State)} (Some (r, t)) (Some (reply, new)) → r ≡ reply
reply_of r reply t new h = ap (λ (p : Reply × State). p.0) (done_of _ _ h)

pub state_of : (r reply : Reply) (t new : State) → ◌≡◌ {A = Option (Reply × State)} (Some (r, t)) (Some (reply, new)) → t ≡ new
state_of r reply t new h = ap (λ (p : Reply × State). p.1) (done_of _ _ h)

-- What holds of the reply and the state of each that an option may have, holds of those that are done.
pub done_each : {A : Type 0} (P : Reply → State → Type 0) (f : A → Reply) (g : A → State) (o : Option A) (reply : Reply) (new : State)
    → ((x : A) → o ≡ Some x → P (f x) (g x)) → ◌≡◌ {A = Option (Reply × State)} (option_map (λ x. (f x, g x)) o) (Some (reply, new))
    → P reply new
done_each P f g None reply new each done = absurd (cc)
done_each P f g (Some x) reply new each done =
    subst (λ (t : State). P reply t) (state_of (f x) reply (g x) new done)
    (subst (λ (r : Reply). P r (g x)) (reply_of (f x) reply (g x) new done) (each x refl))

-- ---- what a step leaves

-- the numbers of a family's edits are in their ranges, and these are a batch
abbrev pub FamilyInRange : Family → Type 0
FamilyInRange (Editing batch) = IsBatch batch × EditsInRange batch
FamilyInRange f = ⊤

pub in_range : (command : Command) → CommandInRange command → FamilyInRange (family command)
in_range (commands.Create k r) ranges = (batch_of_one (edits.Create k r), (ranges, tt))
in_range (commands.Replace k r) ranges = (batch_of_one (edits.Replace k r), (ranges, tt))
in_range (commands.Remove k) ranges = (batch_of_one (edits.Remove k), (tt, tt))
in_range (commands.Batch batch) ranges = ranges
in_range command ranges = tt

-- The state is as it was; or a session more is given out; or an entry applied a change, which in a sound journal fits; or all that the
-- session had standing is taken back; or an entry settles, or is an act; or a frame was taken.
pub data Left (s : State) (n : ℕ) (f : Family) : State → Type 0 where
  Same : Left s n f s
  Greeted : (name : Option (List ℕ)) → Left s n f (record s { sessions = s.sessions + 1; names = with_name s.names (s.sessions + 1) name })
  Changed : (w : What) (e : Change) → applies w ≡ Some e
      → (StateIsSound s → FamilyInRange f → Fits s.book.limits (present s.book) e × StateIsSound (changed_state s n w e))
      → Left s n f (changed_state s n w e)
  AllUndone : undo_all_refusal s.book n ≡ None → Left s n f (undone_state s n (own_standing s.book.entries n))
  SettledTo : (upto : ℕ) → Left s n f (settled_state s n upto)
  ActDone : (act : Asked) (k : Key) (now : ℕ) → least (act_rule s n act k now).causes ≡ None → Left s n f (acted_state s n act k now)
  FrameTaken : (frame : Frame) (now : ℕ) (x : Verdict × FrameData) → f ≡ Framing frame now
      → framed (present s.book) s.frames (acts_of_gates s.book) frame (instant s now) ≡ Some x → Left s n f (framed_state s now x.1)

-- what nothing refuses to redo fits
redo_fits : (s : State) (n : ℕ) (u : Applied) (fits : Bool) → StateIsSound s → redo_of s.book.entries n ≡ Some u
    → TellsFit s.book (Some u) fits → redo_cause s.book.entries (Some u) fits ≡ None
    → Fits s.book.limits (present s.book) (inverse u.change)
redo_fits s n u true sound some tells none = tells.0 refl
redo_fits s n u false sound some tells none = by_option (find_redo_conflict s.book.entries u)
    (λ free. inverse_fits s.book.limits s.book.opening s.book.entries u sound
    (undone_split s.book.limits s.book.opening s.book.entries n u sound some) free)
    (λ f found. let never : Some _ ≡ None = sym (ap (option_map (λ (x : Applied). Conflict 0 x.number)) found)
    ∙ named (find_redo_conflict s.book.entries u) none in (cc))
  where
    named : (o : Option Applied) → option_map (λ (x : Applied). RedoConflict x.number) o ≡ None
        → option_map (λ (x : Applied). Conflict 0 x.number) o ≡ None
    named None h = refl
    named (Some x) h = (cc)

-- what a step leaves; and that this is the state, where the reply tells so
pub record Leaves (s : State) (n : ℕ) (f : Family) (reply : Reply) (new : State) : Type 0 where
  pub how : Left s n f new
  pub stays : may_change reply ≡ false → new ≡ s

-- what looks leaves the state
pub looked : (l : Look) (s : State) (reply : Reply) (new : State) → Allows (look_rule s l) s reply new → new ≡ s
looked l s reply new step = elim (outcome (look_rule s l) s reply new step) as (λ _. new ≡ s) [
  | inl still ↦ still.same
  | inr did ↦ done_each (λ _ (t : State). t ≡ s) (λ r. r) (λ r. s) l.answer reply new (λ r is. refl) did.done
]

module _ (s : State) (n : ℕ) (f : Family) (reply : Reply) (new : State) where
  unchanged : new ≡ s → Leaves s n f reply new
  unchanged same = record { how = subst (Left s n f) (sym same) Same; stays = λ is. same }

  -- where it is what an option has, and no refusal
  by_each : {A : Type 0} (rule : Rule) (r : A → Reply) (t : A → State) (o : Option A)
      → ◌≡◌ {A = Option (Reply × State)} rule.done (option_map (λ x. (r x, t x)) o)
      → ((x : A) → may_change (r x) ≡ true) → (least rule.causes ≡ None → (x : A) → o ≡ Some x → Left s n f (t x))
      → Allows rule s reply new → Leaves s n f reply new
  by_each rule r t o is may how step = elim (outcome rule s reply new step) as (λ _. Leaves s n f reply new) [
    | inl still ↦ unchanged still.same
    | inr did ↦ done_each (Leaves s n f) r t o reply new
        (λ x some. record { how = how did.none x some; stays = λ told. (let never : true ≡ false = sym (may x) ∙ told in absurd (cc)) })
        (sym is ∙ did.done)
  ]

  -- where it is there at once
  at_once : (rule : Rule) (r : Reply) (t : State) → ◌≡◌ {A = Option (Reply × State)} rule.done (Some (r, t))
      → may_change r ≡ true → (least rule.causes ≡ None → Left s n f t)
      → Allows rule s reply new → Leaves s n f reply new
  at_once rule r t is may how = by_each {A = ⊤} rule (λ _. r) (λ _. t) (Some tt) is (λ _. may) (λ none _ _. how none)

-- a hello, by the session that goes by its name, if there is one
greeted : (s : State) (n : ℕ) (name : Option (List ℕ)) (reply : Reply) (new : State) (o : Option ℕ) → Allows (hello_as s name o) s reply new
    → Leaves s n (Greeting name) reply new
greeted s n name reply new None step = at_once s n (Greeting name) reply new (new_session s name) _ _ refl refl (λ none. Greeted name) step
greeted s n name reply new (Some m) step = unchanged s n (Greeting name) reply new (looked (known_look m) s reply new step)

pub leaves : (s : State) (n : ℕ) (f : Family) (reply : Reply) (new : State) → Goes s n f reply new → Leaves s n f reply new
leaves s n (Greeting name) reply new step = greeted s n name reply new (known s.names name) step
leaves s n (Editing batch) reply new step =
    let e = change_of (present s.book) batch in
    at_once s n (Editing batch) reply new (edit_rule s n batch) _ _ refl refl
    (λ none. Changed (Made e) e refl
    (λ sound ranges.
    let admitted = (was_given (is_given s n) (edit_refusal s.book batch) none).1 in
    let fits = batch_fits s.book.limits (present s.book) (kept_now s.book sound) batch ranges.0 ranges.1
    (edit_admitted s.book batch admitted).0 in
    (fits, edit_sound s.book n batch sound fits))) step
leaves s n Undoing reply new step =
    by_each s n Undoing reply new (undo_rule s n) (λ (x : Applied). replies.EntryOf (next s) x.number)
    (λ x. changed_state s n (undone x) (inverse x.change)) (last_of s.book.entries n) refl (λ x. refl)
    (λ none x some. Changed (undone x) (inverse x.change) refl
    (λ sound ranges.
    let made = undo_step_now s.book n x.number sound
    (record { newest = x; newest_is = some; free = (was_given (is_given s n) (undo_refusal s.book n) none).1; of_is = refl }) in
    (made.fits, made.sound))) step
leaves s n UndoingAll reply new step =
    at_once s n UndoingAll reply new (undo_all_rule s n) _ _ refl refl
    (λ none. AllUndone (was_given (is_given s n) (undo_all_refusal s.book n) none).1) step
leaves s n Redoing reply new step =
    let cause = least (redo_cause s.book.entries (redo_of s.book.entries n) step.fits ∷ no_room s.book.entries 1 ∷ []) in
    by_each s n Redoing reply new (redo_rule s n cause) (λ (u : Applied). replies.EntryOf (next s) u.number)
    (λ u. changed_state s n (redone u) (inverse u.change)) (redo_of s.book.entries n) refl (λ x. refl)
    (λ none u some. Changed (redone u) (inverse u.change) refl
    (λ sound ranges.
    let both = or_none _ _ (sym (redo_refusal-first s.book.entries (redo_of s.book.entries n) step.fits)
    ∙ (was_given (is_given s n) cause none).1) in
    let fits = redo_fits s n u step.fits sound some (subst (λ o. TellsFit s.book o step.fits) some step.tells)
    (sym (ap (λ o. redo_cause s.book.entries o step.fits) some) ∙ both.0) in
    let is : IsRedoable s.book n u.number = record { undone = u; undone_is = some; fits = fits; room = both.1; of_is = refl } in
    (fits, redo_sound s.book n u.number sound is))) step.holds
leaves s n (Settling upto) reply new step =
    at_once s n (Settling upto) reply new (settle_rule s n upto) _ _ refl refl (λ none. SettledTo upto) step
leaves s n (Acting act k now) reply new step =
    at_once s n (Acting act k now) reply new (act_rule s n act k now) _ _ refl refl (λ none. ActDone act k now none) step
leaves s n (Framing frame now) reply new step =
    by_each s n (Framing frame now) reply new {A = Verdict × FrameData} (frame_rule s n frame now) (λ x. replies.Framed x.0)
    (λ x. framed_state s now x.1)
    (framed (present s.book) s.frames (acts_of_gates s.book) frame (instant s now)) refl (λ x. refl)
    (λ none x is. FrameTaken frame now x refl is) step
leaves s n (Looking look) reply new step = unchanged s n (Looking look) reply new (looked (look (seen_by_looks s) n) s reply new step)
leaves s n (Counting look) reply new step = unchanged s n (Counting look) reply new (looked (look s n) s reply new step)

-- a refused step changes nothing
pub refused_stays : (s : State) (n : ℕ) (why : Refusal) (new : State) (command : Command) → Step s n command (replies.Refused why) new
    → new ≡ s
refused_stays s n why new command step = (leaves s n (family command) (replies.Refused why) new step).stays refl
