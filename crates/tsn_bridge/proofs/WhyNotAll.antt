-- Why an undo of all is refused.
use Rattle.std.proofs.Common.{◌≡◌, ◌+◌, ℕ, Bool, true, false, cond, not, List, [], ◌∷◌, refl, sym, ◌∙◌, ap, subst, Option, Some, None, inl, inr, length}
use Rattle.std.specs.Prelude.{◌==◌, filter, nat_le, nat_lt, option_map}
use Rattle.std.specs.Option.{option_or}
use Rattle.tsn_types.specs.declared.refusals.Refusal.{Refusal}
use Rattle.tsn_types.specs.declared.refusals.Refusal.TheVariants.{Conflict, JournalFull, NoSession, NothingToUndo}
use Rattle.tsn_types.specs.Limits.{unless}
use Rattle.tsn_types.specs.Refusals.{least, rank_of}
use Rattle.tsn_edit.specs.Runs.{run}
use Rattle.tsn_edit.proofs.KeyFacts.{by_bool}
use Rattle.tsn_entries.specs.Entries.{Applied, changes, most_entries, no_room, standing}
use Rattle.tsn_entries.specs.Finding.{find_conflict_of_others, find_own_in_conflict, own_standing}
use Rattle.tsn_undo.specs.Ledger.{base_of}
use Rattle.tsn_undo.specs.UndoAll.{BlocksAll, conflict_with_others, undo_all_cause, undo_all_refusal}
use Rattle.tsn_undo.proofs.Named.{names_conflict}
use Rattle.tsn_undo.proofs.UndoAll.{undo_all_refusal-first}
use Rattle.tsn_commands.specs.declared.command.Command.TheVariants as commands
use Rattle.tsn_commands.specs.declared.reply.Reply.{Reply}
use Rattle.tsn_commands.specs.declared.reply.Reply.TheVariants.{Refused, TakenBack}
use Rattle.tsn_bridge.specs.Edits.{undo_all_rule}
use Rattle.tsn_bridge.specs.Headline.{WhyNotAll}
use Rattle.tsn_bridge.specs.Histories.{StateIsSound}
use Rattle.tsn_bridge.specs.Machine.{Step}
use Rattle.tsn_bridge.specs.Rule.{is_given}
use Rattle.tsn_bridge.specs.State.{State}
use Rattle.tsn_bridge.proofs.AtOnce.{done_of}
use Rattle.tsn_bridge.proofs.Blocking.{finds_pair, named_first}
use Rattle.tsn_bridge.proofs.Families.{outcome}
use Rattle.tsn_bridge.proofs.Stepping.{AllowsAt, given, refused}

-- where none passes a test, all pass its opposite
all_others : (p : Applied → Bool) (xs : List Applied) → filter p xs ≡ [] → filter (λ x. not (p x)) xs ≡ xs
all_others p [] h = refl
all_others p (x ∷ xs) h = by_bool (p x)
    (λ on. let never : x ∷ filter p xs ≡ [] = sym (ap (λ b. cond b (x ∷ filter p xs) (filter p xs)) on) ∙ h in (cc))
    (λ off. ap (λ b. cond (not b) (x ∷ filter (λ x. not (p x)) xs) (filter (λ x. not (p x)) xs)) off
    ∙ ap (λ ys. x ∷ ys) (all_others p xs (sym (ap (λ b. cond b (x ∷ filter p xs) (filter p xs)) off) ∙ h)))

module _ (s : State) (n : ℕ) (sound : StateIsSound s) where
  -- a cause of the book's, whose rank is not less than that of a session not given out
  abbrev Named : Refusal → Type 0
  Named why = WhyNotAll s n why × (nat_lt (rank_of why) 5 ≡ false)

  nothing : own_standing s.book.entries n ≡ [] → Named NothingToUndo
  nothing none = (
    (
      none,
      sym sound.same
          ∙ ap (λ xs. run (base_of s.book) (changes xs)) (sym (all_others (λ x. x.session == n) (standing s.book.entries) none)),
    ),
    refl,
  )

  full_at : (b : Bool) (why : Refusal) → no_room s.book.entries (length (own_standing s.book.entries n)) ≡ unless b JournalFull
      → unless b JournalFull ≡ Some why → Named why
  full_at true why is h = (cc)
  full_at false why is h = let same : JournalFull ≡ why = (cc) in subst Named same (is, refl)

  full : (why : Refusal) → no_room s.book.entries (length (own_standing s.book.entries n)) ≡ Some why → Named why
  full why h = full_at (nat_le (length s.book.entries + length (own_standing s.book.entries n)) most_entries) why refl h

  named : (why : Refusal) → undo_all_refusal s.book n ≡ Some why → Named why
  named why h = from (own_standing s.book.entries n) refl (sym (undo_all_refusal-first s.book n) ∙ h)
    where
      latest : (x : Applied) (o : Option Applied) → find_own_in_conflict s.book.entries n ≡ Some x
          → find_conflict_of_others s.book.entries x ≡ o
          → option_or (option_map (λ f. Conflict x.number f.number) o) (no_room s.book.entries (length (own_standing s.book.entries n)))
          ≡ Some why → Named why
      latest x None mine theirs e = full why e
      latest x (Some f) mine theirs e =
          let same : Conflict x.number f.number ≡ why = (cc) in
          subst Named same (
            named_first s.book.entries n sound.numbered x f mine theirs
                (names_conflict s.book n x.number f.number sound (h ∙ ap Some (sym same))),
            refl,
          )

      conflict : (o : Option Applied) → find_own_in_conflict s.book.entries n ≡ o
          → option_or (conflict_with_others s.book.entries o) (no_room s.book.entries (length (own_standing s.book.entries n))) ≡ Some why
          → Named why
      conflict None mine e = full why e
      conflict (Some x) mine e = latest x (find_conflict_of_others s.book.entries x) mine refl e

      from : (xs : List Applied) → own_standing s.book.entries n ≡ xs
          → option_or (undo_all_cause s.book.entries n xs) (no_room s.book.entries (length (own_standing s.book.entries n))) ≡ Some why
          → Named why
      from [] is e = let same : NothingToUndo ≡ why = (cc) in subst Named same (nothing is)
      from (x ∷ xs) is e = conflict (find_own_in_conflict s.book.entries n) refl e

  least_cause : (g : Bool) (o : Option Refusal) (why : Refusal) → is_given s n ≡ g → undo_all_refusal s.book n ≡ o
      → least (unless g NoSession ∷ o ∷ []) ≡ Some why → WhyNotAll s n why
  least_cause true None why known is h = (cc)
  least_cause true (Some cause) why known is h = (named why (is ∙ h)).0
  least_cause false None why known is h = let same : NoSession ≡ why = (cc) in subst (WhyNotAll s n) same known
  least_cause false (Some cause) why known is h =
      let first : Some NoSession ≡ Some why = sym (ap (λ b. cond b (Some cause) (Some NoSession)) (named cause is).1) ∙ h in
      let same : NoSession ≡ why = (cc) in
      subst (WhyNotAll s n) same known

-- a refused undo of all changed nothing, and its cause is one of these
pub not_all : (s : State) (n : ℕ) (why : Refusal) (new : State) → StateIsSound s → Step s n commands.UndoAll (Refused why) new
    → (new ≡ s) × WhyNotAll s n why
not_all s n why new sound step = (
  elim (outcome (undo_all_rule s n) s (Refused why) new step) as (λ _. new ≡ s)
      [ inl still ↦ still.same | inr did ↦ absurd (never did.done) ],
  elim (refused (undo_all_rule s n) s new why never step) as (λ _. WhyNotAll s n why) [
    | inl cause ↦ least_cause s n sound (is_given s n) (undo_all_refusal s.book n) why refl refl cause
    | inr memory ↦ subst (WhyNotAll s n) (sym memory) tt
  ],
)
  where
    taken_is_none : {t : State} {count entry : ℕ} → ◌≡◌ {A = Option (Reply × State)} (Some (TakenBack count entry, t))
        (Some (Refused why, new)) → ⊥
    taken_is_none h = let reply : TakenBack _ _ ≡ Refused why = ap (λ (p : Reply × State). p.0) (done_of _ _ h) in (cc)

    never : (undo_all_rule s n).done ≡ Some (Refused why, new) → ⊥
    never done = taken_is_none done

-- where a pair of entries is in the way, an undo of all is refused for a conflict
pub surely_blocked : (s : State) (n x y : ℕ) (reply : Reply) (new : State) → StateIsSound s → BlocksAll s.book.entries n x y
    → is_given s n ≡ true → Step s n commands.UndoAll reply new
    → (own : ℕ) × (other : ℕ) × (reply ≡ Refused (Conflict own other))
surely_blocked s n x y reply new sound pair known step =
    let es = s.book.entries in
    let found = finds_pair es n sound.numbered x y pair in
    let why = Conflict found.own.number found.other.number in
    let named : conflict_with_others es (find_own_in_conflict es n) ≡ Some why =
    ap (conflict_with_others es) found.own_is ∙ ap (option_map (λ (f : Applied). Conflict found.own.number f.number)) found.other_is in
    let cause : undo_all_cause es n (own_standing es n) ≡ Some why = there (own_standing es n) why found.some_own named in
    let refusal : undo_all_refusal s.book n ≡ Some why = undo_all_refusal-first s.book n
    ∙ ap (λ o. option_or o (no_room es (length (own_standing es n)))) cause in
    let at : AllowsAt (Some why) (undo_all_rule s n) s reply new =
    subst (λ o. AllowsAt o (undo_all_rule s n) s reply new) (given (is_given s n) (undo_all_refusal s.book n) known ∙ refusal) step in
    (found.own.number, found.other.number, at.0)
  where
    there : (xs : List Applied) (why : Refusal) → (xs ≡ [] → ⊥)
        → conflict_with_others s.book.entries (find_own_in_conflict s.book.entries n) ≡ Some why
        → undo_all_cause s.book.entries n xs ≡ Some why
    there [] why some h = absurd (some refl)
    there (z ∷ xs) why some h = h
