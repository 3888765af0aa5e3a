-- The inverse of an applied change fits where no later change is in conflict, and what a redo leaves of a sound ledger.
use Rattle.std.proofs.Common.{◌≡◌, ℕ, ◌+◌, Bool, true, false, cond, List, [], ◌∷◌, ◌++◌, refl, sym, ◌∙◌, ap, subst, Option, Some, None, arith, length}
use Rattle.std.specs.Prelude.{◌==◌, ◌↔◌, IfSome, IsSome, IsTrue, is_some, nat_le}
use Rattle.std.specs.List.{AllByRecursion, cons_option, find}
use Rattle.std.specs.Option.{option_or}
use Rattle.tsn_types.specs.declared.limits.Limits.{Limits}
use Rattle.tsn_types.specs.declared.refusals.Refusal.{Refusal}
use Rattle.tsn_types.specs.declared.refusals.Refusal.TheVariants.{JournalFull}
use Rattle.tsn_types.specs.Refusals.{least}
use Rattle.tsn_types.proofs.Ordered.{AtMost, least-before}
use Rattle.tsn_edit.specs.Parts.{Change, inverse}
use Rattle.tsn_edit.specs.Configuration.{Configuration}
use Rattle.tsn_edit.specs.Changes.{Fits, conflicts}
use Rattle.tsn_edit.specs.Runs.{run, IsGood}
use Rattle.tsn_edit.proofs.Inverses.{end_kept, good_front, good_rest, run-append, undoable}
use Rattle.tsn_edit.proofs.KeyFacts.{by_bool, by_option}
use Rattle.tsn_entries.specs.declared.entries.What.{What}
use Rattle.tsn_entries.specs.declared.entries.Entry.{Entry}
use Rattle.tsn_entries.specs.Entries.{Applied, IsNumbered, applied, applies, changes, collect, most_entries, no_room, redone, with_entry}
use Rattle.tsn_entries.specs.Finding.{change_at, entry, find_redo_conflict, later_than, redo_of, undone_entry}
use Rattle.tsn_journal.proofs.Numbers.{Rises, changes-append, last_where_none, later_than_rest, rises_collect}
use Rattle.tsn_journal.proofs.Standing.{entry_applied, redo_found, undone_change, undone_is_entry}
use Rattle.tsn_undo.specs.Ledger.{Ledger, enter, present}
use Rattle.tsn_undo.specs.Redo.{IsRedoCause, IsRedoable, Redoes, TellsFit, redo_cause}
use Rattle.tsn_undo.specs.Soundness.{IsSound, configuration}
use Rattle.tsn_undo.proofs.Adding.{configuration_push, sound_added}
use Rattle.tsn_undo.proofs.Free.{number_of}
use Rattle.tsn_undo.proofs.Making.{SoundLedger}
use Rattle.tsn_undo.proofs.Undoing.{each_change}

-- ---- an applied change and what follows it

pub record IsSplit (xs : List Applied) (x : Applied) : Type 0 where
  pub front : List Applied
  pub rest : List Applied
  pub is : xs ≡ front ++ x ∷ rest

split_after : (o : Option Applied) (xs : List Applied) (x : Applied) → IsSplit xs x → IsSplit (cons_option o xs) x
split_after None xs x s = s
split_after (Some y) xs x s = record { front = y ∷ s.front; rest = s.rest; is = ap (λ zs. y ∷ zs) s.is }

split_here : (o : Option Applied) (xs : List Applied) (x : Applied) → o ≡ Some x → IsSplit (cons_option o xs) x
split_here o xs x is = record { front = []; rest = xs; is = ap (λ p. cons_option p xs) is }

pub split_applied : (pick : What → Option Change) (n : ℕ) (es : List Entry) (e : Entry) (x : Applied) → entry es n ≡ Some e
    → applied pick e ≡ Some x → IsSplit (collect pick es) x
split_applied pick n [] e x found is = (cc)
split_applied pick n (f ∷ es) e x found is = by_bool (f.number == n)
    (λ here.
    let both : Some f ≡ Some e = sym (ap (λ b. cond b (Some f) (find (λ g. g.number == n) es)) here) ∙ found in
    let same : f ≡ e = (cc) in
    split_here (applied pick f) (collect pick es) x (ap (applied pick) same ∙ is))
    (λ other.
    split_after (applied pick f) (collect pick es) x
    (split_applied pick n es e x (sym (ap (λ b. cond b (Some f) (find (λ g. g.number == n) es)) other) ∙ found) is))

-- ---- where nothing later is in conflict, the inverse fits

module _ (l : Limits) (opening : Configuration) (es : List Entry) (u : Applied) (sound : IsSound l opening es)
    (p : IsSplit (collect applies es) u) (none : find_redo_conflict es u ≡ None) where
  apart : AllByRecursion (λ e. conflicts e u.change ≡ false) (changes p.rest)
  apart =
      let rises : Rises 1 (p.front ++ u ∷ p.rest) = subst (Rises 1) p.is (rises_collect applies 1 es sound.numbered) in
      let later : later_than u.number (collect applies es) ≡ p.rest = ap (later_than u.number) p.is
      ∙ later_than_rest 1 p.front u p.rest rises in
      each_change (λ e. conflicts e u.change ≡ false) p.rest
      (subst (AllByRecursion (λ (f : Applied). conflicts f.change u.change ≡ false)) later
      (last_where_none (λ f. conflicts f.change u.change) (later_than u.number (collect applies es)) none))

  pub inverse_fits : Fits l (configuration opening es) (inverse u.change)
  inverse_fits =
      let split : changes (collect applies es) ≡ changes p.front ++ u.change ∷ changes p.rest = ap changes p.is
      ∙ changes-append p.front (u ∷ p.rest) in
      let good : IsGood l opening (changes p.front ++ u.change ∷ changes p.rest) = subst (IsGood l opening) split sound.replays in
      let c = run opening (changes p.front) in
      let is = undoable l c u.change (changes p.rest)
      (end_kept l opening (changes p.front) sound.kept (good_front l opening (changes p.front) (u.change ∷ changes p.rest) good))
      (good_rest l opening (changes p.front) (u.change ∷ changes p.rest) good) apart in
      subst (λ (m : Configuration). Fits l m (inverse u.change))
      (sym (run-append opening (changes p.front) (u.change ∷ changes p.rest)) ∙ ap (run opening) (sym split)) is.fits

-- the change of what a session may redo is among those that were applied
pub undone_split : (l : Limits) (opening : Configuration) (es : List Entry) (s : ℕ) (u : Applied) → IsSound l opening es
    → redo_of es s ≡ Some u → IsSplit (collect applies es) u
undone_split l opening es s u sound is =
    let at = undone_is_entry es u.number u sound.numbered (redo_found 1 s es u sound.numbered is).1 in
    split_applied applies u.number es at.found u at.found_is (entry_applied es u.number u at)

-- so where a redo doesn't fit there is an entry to name
pub redo_names : (l : Limits) (opening : Configuration) (es : List Entry) (s : ℕ) (u : Applied) → IsSound l opening es
    → redo_of es s ≡ Some u → ¬ (Fits l (configuration opening es) (inverse u.change)) → IsSome (find_redo_conflict es u)
redo_names l opening es s u sound is not_fits = grind (arith, inverse_fits, undone_split)

-- ---- why a redo is refused

cause_most : (es : List Entry) (o : Option Applied) (fits : Bool) → AtMost 17 (redo_cause es o fits)
cause_most es o fits = grind arith

-- the cause of a redo comes before a full journal
pub cause_first : (es : List Entry) (o : Option Applied) (fits : Bool)
    → (redo_cause es o fits ≡ redo_cause es o fits) × AtMost 17 (redo_cause es o fits)
cause_first es o fits = (refl, cause_most es o fits)

pub redo_refusal-first : (es : List Entry) (o : Option Applied) (fits : Bool)
    → least (redo_cause es o fits ∷ no_room es 1 ∷ []) ≡ option_or (redo_cause es o fits) (no_room es 1)
redo_refusal-first es o fits =
    least-before 17 (redo_cause es o fits) (nat_le (length es + 1) most_entries) JournalFull (cause_most es o fits) (omega arith)

-- ---- what a session may redo, by its number

-- the Undone entry that a session may redo, and its change, are at its number
pub undone_there : (es : List Entry) (s : ℕ) → IsNumbered 1 es
    → (redo_of es s ≡ redo_of es s)
    × IfSome (redo_of es s) (λ u. (undone_entry es u.number ≡ Some u) × (change_at es u.number ≡ Some u.change))
undone_there es s numbered = grind (arith, redo_found, undone_change)

is_mapped : (o : Option Applied) → is_some (number_of o) ≡ is_some o
is_mapped o = grind arith

-- where it doesn't fit, the finder names an entry
pub names_one : (b : Ledger) (s of : ℕ) (es : List Entry) (fits : Bool) (r : Option ℕ) → SoundLedger b → es ≡ b.entries
    → number_of (redo_of b.entries s) ≡ Some of
    → ((e : Change) → change_at b.entries of ≡ Some e → IsTrue fits ↔ Fits b.limits (present b) (inverse e)) → fits ≡ false
    → ((u : Applied) → undone_entry es of ≡ Some u → r ≡ number_of (find_redo_conflict es u)) → is_some r ≡ true
names_one b s of es fits r sound same named tells off finds = by_option (redo_of b.entries s)
    (λ none. let never : Some of ≡ None = sym named ∙ ap number_of none in (cc))
    (λ u some.
    let both : Some of ≡ Some u.number = sym named ∙ ap number_of some in
    let at : of ≡ u.number = (cc) in
    let there : undone_entry b.entries of ≡ Some u = ap (undone_entry b.entries) at ∙ (redo_found 1 s b.entries u sound.numbered some).1 in
    let change : change_at b.entries of ≡ Some u.change = undone_change b.entries of u sound.numbered there in
    let found : r ≡ number_of (find_redo_conflict b.entries u) = finds u (ap (λ es. undone_entry es of) same ∙ there)
    ∙ ap (λ es. number_of (find_redo_conflict es u)) same in
    let not_fits : ¬ (Fits b.limits (present b) (inverse u.change)) = λ f. let t : fits ≡ true = (tells u.change change).1 f in (cc) in
    ap is_some found ∙ is_mapped (find_redo_conflict b.entries u) ∙ redo_names b.limits b.opening b.entries s u sound some not_fits)

-- where it doesn't fit, a cause is told
fits_untold : (b : Ledger) (s : ℕ) (u : Applied) (fits : Bool) → SoundLedger b → redo_of b.entries s ≡ Some u → TellsFit b (Some u) fits
    → redo_cause b.entries (Some u) fits ≡ None → Fits b.limits (present b) (inverse u.change)
fits_untold b s u true sound is tells none = tells.0 refl
fits_untold b s u false sound is tells none = grind (arith, inverse_fits, undone_split)

-- what the session may redo, by its number, is redoable where no cause refuses it
pub may_redo : (b : Ledger) (s of : ℕ) (cause : Option Refusal) → SoundLedger b → number_of (redo_of b.entries s) ≡ Some of
    → IsRedoCause b s cause → cause ≡ None → no_room b.entries 1 ≡ None → IsRedoable b s of
may_redo b s of cause sound named why none room = grind (arith, number_of, fits_untold)

-- ---- what a redo leaves

module _ (b : Ledger) (s of : ℕ) (sound : SoundLedger b) (is : IsRedoable b s of) where
  pub redo_change : change_at b.entries of ≡ Some is.undone.change
  redo_change = ap (change_at b.entries) is.of_is
      ∙ undone_change b.entries is.undone.number is.undone sound.numbered (redo_found 1 s b.entries is.undone sound.numbered is.undone_is).1

  pub redo_sound : IsSound b.limits b.opening (with_entry b.entries s (redone is.undone))
  redo_sound =
      sound_added b.limits b.opening b.entries s (redone is.undone) sound tt (λ n. refl) (inverse is.undone.change) refl refl is.fits

  pub makes_redo : (number : ℕ) (new : Ledger) → number ≡ length b.entries + 1 → new ≡ enter b s (redone is.undone)
      → Redoes b s number of new
  makes_redo number new number_is after = record {
    redoable = is;
    number_is = number_is;
    after = after;
    map = ap present after ∙ configuration_push b.opening b.entries s (redone is.undone) (inverse is.undone.change) refl;
  }
