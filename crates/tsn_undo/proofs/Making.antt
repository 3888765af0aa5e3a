-- What an edit and an undo leave of a sound ledger.
use Rattle.std.proofs.Common.{◌≡◌, ℕ, ◌+◌, List, refl, sym, subst, ◌∙◌, ap, None, length}
use Rattle.std.specs.Prelude.{◌==◌}
use Rattle.tsn_edit.specs.declared.Edit.{Edit}
use Rattle.tsn_edit.specs.Batches.{IsBatch, change_of, refusal}
use Rattle.tsn_edit.specs.Configuration.{Configuration, IsWellKept}
use Rattle.tsn_edit.specs.Changes.{Fits, after_change}
use Rattle.tsn_edit.specs.Parts.{Change}
use Rattle.tsn_types.specs.declared.limits.Limits.{Limits}
use Rattle.tsn_edit.specs.Runs.{run, IsGood}
use Rattle.tsn_edit.proofs.InOrder.{change_is_result}
use Rattle.tsn_edit.proofs.Inverses.{end_kept}
use Rattle.tsn_entries.specs.declared.entries.Entry.{Entry}
use Rattle.tsn_entries.specs.declared.entries.What.TheVariants.{Made}
use Rattle.tsn_entries.specs.Entries.{applies, changes, collect, standing, undone, with_entry}
use Rattle.tsn_journal.proofs.Numbers.{last_where_some}
use Rattle.tsn_undo.specs.Ledger.{IsBook, Ledger, enter, present}
use Rattle.tsn_undo.specs.Soundness.{IsSound, base}
use Rattle.tsn_undo.specs.Steps.{Edits, IsFree, LeavesStanding, TakesBack, edit_refusal, standing_without}
use Rattle.tsn_undo.proofs.Adding.{configuration_push, sound_added}
use Rattle.tsn_undo.proofs.Free.{undo_free}
use Rattle.tsn_undo.proofs.Rewinding.{changed_book, changed_ledger, seen}
use Rattle.tsn_undo.proofs.Undoing.{IsUndoStep, undo_step}

abbrev pub SoundLedger : Ledger → Type 0
SoundLedger b = IsSound b.limits b.opening b.entries

pub kept_now : (b : Ledger) → SoundLedger b → IsWellKept b.limits (present b)
kept_now b sound = end_kept b.limits b.opening (changes (collect applies b.entries)) sound.kept sound.replays

-- ---- an edit

pub edit_sound : (b : Ledger) (s : ℕ) (batch : List Edit) → SoundLedger b → Fits b.limits (present b) (change_of (present b) batch)
    → IsSound b.limits b.opening (with_entry b.entries s (Made (change_of (present b) batch)))
edit_sound b s batch sound fits =
    sound_added b.limits b.opening b.entries s (Made (change_of (present b) batch)) sound tt (λ n. refl) (change_of (present b) batch) refl
    refl fits

module _ (b : Ledger) (s : ℕ) (batch : List Edit) (fits : Fits b.limits (present b) (change_of (present b) batch)) where
  pub makes_edit : IsBatch batch → edit_refusal b batch ≡ None → (number : ℕ) (new : Ledger) → number ≡ length b.entries + 1
      → new ≡ enter b s (Made (change_of (present b) batch)) → Edits b s batch number new
  makes_edit is admitted number new number_is after = record {
    admitted = admitted;
    fits = fits;
    number_is = number_is;
    after = after;
    map = ap present after ∙ configuration_push b.opening b.entries s (Made (change_of (present b) batch)) (change_of (present b) batch)
        refl ∙ change_is_result (present b) batch is;
  }

-- ---- an edit, seen from the book's own map

module _ (l : Limits) (m : Configuration) (es : List Entry) (now : Ledger) (view : seen l m es ≡ now) (book : IsBook l m es)
    (batch : List Edit) where
  pub own_map : m ≡ present now
  own_map = sym book.is ∙ ap present view

  pub own_limits : l ≡ now.limits
  own_limits = ap (λ (b : Ledger). b.limits) view

  pub own_refusal : refusal l m batch ≡ refusal now.limits (present now) batch
  own_refusal = λ i. refusal (own_limits i) (own_map i) batch

  pub own_change : change_of m batch ≡ change_of (present now) batch
  own_change = ap (λ (c : Configuration). change_of c batch) own_map

  pub own_fits : Fits l m (change_of m batch) → Fits now.limits (present now) (change_of (present now) batch)
  own_fits fits = subst (λ (t : Limits × Configuration). Fits t.0 t.1 (change_of t.1 batch)) (λ i. (own_limits i, own_map i)) fits

  own_sound : SoundLedger now
  own_sound = subst SoundLedger view book.sound

  module _ (s : ℕ) (l' : Limits) (m' : Configuration) (es' : List Entry) (e : Change) (limits : l' ≡ l) (change : e ≡ change_of m batch)
      (fits : Fits l m (change_of m batch)) (map' : m' ≡ after_change m (change_of m batch)) (entries : es' ≡ with_entry es s (Made e))
    where
      abbrev made : Change
      made = change_of (present now) batch

      sound_made : IsSound now.limits now.opening (with_entry now.entries s (Made made))
      sound_made = edit_sound now s batch own_sound (own_fits fits)

      entries_made : es' ≡ with_entry es s (Made made)
      entries_made = entries ∙ ap (λ c. with_entry es s (Made c)) (change ∙ own_change)

      map_made : m' ≡ after_change m made
      map_made = map' ∙ ap (after_change m) own_change

      pub made_book : IsBook l' m' es'
      made_book =
          changed_book l m es now view book s (Made made) sound_made l' m' es' limits entries_made made refl (own_fits fits) map_made

      pub made_ledger : seen l' m' es' ≡ enter now s (Made made)
      made_ledger =
          changed_ledger l m es now view book s (Made made) sound_made l' m' es' limits entries_made made refl (own_fits fits) map_made

-- ---- an undo

module _ (b : Ledger) (s of : ℕ) (sound : SoundLedger b) (free : IsFree b s of) where
  pub undo_step_now : IsUndoStep b.limits b.opening b.entries s free.newest
  undo_step_now =
      let found = last_where_some (λ x. x.session == s) (standing b.entries) free.newest free.newest_is in
      undo_step b.limits b.opening b.entries s free.newest sound (record { front = found.front; rest = found.rest; is = found.is })
      (undo_free b s free.newest free.newest_is free.free).0

  -- what is left standing, and that its run gives the map
  left_standing : (new : Ledger) → new ≡ enter b s (undone free.newest) → LeavesStanding new (standing_without b.entries of)
  left_standing new after =
      let left : standing (with_entry b.entries s (undone free.newest)) ≡ standing_without b.entries of = undo_step_now.stands
      ∙ ap (standing_without b.entries) (sym free.of_is) in
      subst (λ (l : Ledger). LeavesStanding l (standing_without b.entries of)) (sym after) (record {
        stands = left;
        good = subst (λ xs. IsGood b.limits (base b.opening (with_entry b.entries s (undone free.newest))) (changes xs)) left
            undo_step_now.sound.good;
        run_is =
            sym undo_step_now.sound.same ∙ ap (λ xs. run (base b.opening (with_entry b.entries s (undone free.newest))) (changes xs)) left;
      })

  pub makes_undo : (number : ℕ) (new : Ledger) → number ≡ length b.entries + 1 → new ≡ enter b s (undone free.newest)
      → TakesBack b s number of new
  makes_undo number new number_is after = record {
    newest = free.newest;
    newest_is = free.newest_is;
    free = free.free;
    fits = undo_step_now.fits;
    number_is = number_is;
    of_is = free.of_is;
    after = after;
    map = ap present after ∙ undo_step_now.after;
    leaves = left_standing new after;
  }
