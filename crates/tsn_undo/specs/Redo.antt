-- What a redo does to a book, and why it is refused.
use Rattle.std.specs.Prelude.{◌≡◌, ◌↔◌, ℕ, ◌+◌, Bool, List, [], ◌∷◌, Option, Some, None, option_map, length, IsTrue, if◌then◌else◌}
use Rattle.tsn_types.specs.declared.refusals.Refusal.{Refusal}
use Rattle.tsn_types.specs.declared.refusals.Refusal.TheVariants.{NothingToRedo, RedoConflict}
use Rattle.tsn_types.specs.Refusals.{least}
use Rattle.tsn_edit.specs.Changes.{Fits, restored}
use Rattle.tsn_edit.specs.Parts.{inverse}
use Rattle.tsn_entries.specs.declared.entries.Entry.{Entry}
use Rattle.tsn_entries.specs.Entries.{Applied, no_room, redone}
use Rattle.tsn_entries.specs.Finding.{find_redo_conflict, redo_of}
use Rattle.tsn_undo.specs.Ledger.{Ledger, enter, present}

-- whether the inverse of the undone change fits the configuration, where there is an undone change
abbrev pub TellsFit : Ledger → Option Applied → Bool → Type 0
TellsFit b None fits = Unit {0}
TellsFit b (Some u) fits = IsTrue fits ↔ Fits b.limits (present b) (inverse u.change)

-- there is nothing to redo, or what there is doesn't fit: named is the latest later entry in conflict with it
abbrev pub redo_cause : List Entry → Option Applied → Bool → Option Refusal
redo_cause es None fits = Some NothingToRedo
redo_cause es (Some u) fits = if fits then None else option_map (λ f. RedoConflict f.number) (find_redo_conflict es u)

-- the cause is that of a redo of the session, told before a full journal
pub record IsRedoCause (b : Ledger) (s : ℕ) (cause : Option Refusal) : Type 0 where
  pub fits : Bool
  pub tells : TellsFit b (redo_of b.entries s) fits
  pub is : cause ≡ redo_cause b.entries (redo_of b.entries s) fits

-- P holds of why a redo of the session is refused: nothing to redo, it doesn't fit, a full journal.
-- Read alone, this knows no cause where what would be redone doesn't fit and no later entry is in conflict with it, so that a
-- redo which is refused there could only tell of want of memory. No book comes to that: its ledger is sound, and in a sound
-- one there is such an entry, by the law `redo_has_an_entry_to_name`.
pub record WhyNoRedo (b : Ledger) (s : ℕ) (P : Option Refusal → Type 0) : Type 0 where
  pub fits : Bool
  pub tells : TellsFit b (redo_of b.entries s) fits
  pub holds : P (least (redo_cause b.entries (redo_of b.entries s) fits ∷ no_room b.entries 1 ∷ []))

-- the entry of the number is what the session may redo, and it fits
pub record IsRedoable (b : Ledger) (s of : ℕ) : Type 0 where
  pub undone : Applied
  pub undone_is : redo_of b.entries s ≡ Some undone
  pub fits : Fits b.limits (present b) (inverse undone.change)
  pub room : no_room b.entries 1 ≡ None
  pub of_is : of ≡ undone.number

-- a redo makes one entry, which takes back the Undone entry of the number: the map is the one before, with the value
-- before that entry's change put back
pub record Redoes (b : Ledger) (s number of : ℕ) (new : Ledger) : Type 0 where
  pub redoable : IsRedoable b s of
  pub number_is : number ≡ length b.entries + 1
  pub after : new ≡ enter b s (redone redoable.undone)
  pub map : present new ≡ restored (present b) redoable.undone.change
