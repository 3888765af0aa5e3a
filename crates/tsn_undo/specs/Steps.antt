-- What an edit and an undo do to a book, and why they are refused. An edit is a batch: of one edit, or of several at once.
use Rattle.std.specs.Prelude.{◌≡◌, ℕ, ◌+◌, ◌==◌, not, filter, List, [], ◌∷◌, Option, Some, None, option_map, length}
use Rattle.tsn_types.specs.declared.refusals.Refusal.{Refusal}
use Rattle.tsn_types.specs.declared.refusals.Refusal.TheVariants.{NothingToUndo, Conflict}
use Rattle.tsn_types.specs.Refusals.{least}
use Rattle.tsn_edit.specs.declared.Edit.{Edit}
use Rattle.tsn_edit.specs.Batches.{change_of, refusal, result}
use Rattle.tsn_edit.specs.Changes.{Fits, restored}
use Rattle.tsn_edit.specs.Parts.{inverse}
use Rattle.tsn_edit.specs.Runs.{run, IsGood}
use Rattle.tsn_entries.specs.declared.entries.Entry.{Entry}
use Rattle.tsn_entries.specs.declared.entries.What.TheVariants.{Made}
use Rattle.tsn_entries.specs.Entries.{Applied, changes, no_room, standing, undone}
use Rattle.tsn_entries.specs.Finding.{find_conflict, last_of}
use Rattle.tsn_undo.specs.Ledger.{Ledger, base_of, enter, present}

-- why an edit is refused: by the configuration, or by a full journal
abbrev pub edit_refusal : Ledger → List Edit → Option Refusal
edit_refusal b batch = least (refusal b.limits (present b) batch ∷ no_room b.entries 1 ∷ [])

-- the latest later standing entry in conflict with e, named with it
abbrev pub conflict_with : List Entry → Applied → Option Refusal
conflict_with es e = option_map (λ f. Conflict e.number f.number) (find_conflict es e)

-- nothing stands, or what stands is in conflict
abbrev pub undo_cause : List Entry → Option Applied → Option Refusal
undo_cause es None = Some NothingToUndo
undo_cause es (Some e) = conflict_with es e

-- why an undo is refused: nothing of the session stands, its newest standing entry is in conflict, a full journal
abbrev pub undo_refusal : Ledger → ℕ → Option Refusal
undo_refusal b s = least (undo_cause b.entries (last_of b.entries s) ∷ no_room b.entries 1 ∷ [])

-- an admitted batch makes one entry, with the batch's change, and the map is what all its edits make
pub record Edits (b : Ledger) (s : ℕ) (batch : List Edit) (number : ℕ) (new : Ledger) : Type 0 where
  pub admitted : edit_refusal b batch ≡ None
  pub fits : Fits b.limits (present b) (change_of (present b) batch)
  pub number_is : number ≡ length b.entries + 1
  pub after : new ≡ enter b s (Made (change_of (present b) batch))
  pub map : present new ≡ result (present b) batch

-- the standing entries but the one of the number
abbrev pub standing_without : List Entry → ℕ → List Applied
standing_without es n = filter (λ x. not (n == x.number)) (standing es)

-- a ledger in which just these entries stand: their run from the base is good, and gives the map
pub record LeavesStanding (new : Ledger) (xs : List Applied) : Type 0 where
  pub stands : standing new.entries ≡ xs
  pub good : IsGood new.limits (base_of new) (changes xs)
  pub run_is : present new ≡ run (base_of new) (changes xs)

-- an undo makes one entry, which takes back the session's newest standing entry: the map is the one before, with the
-- value before that entry's change put back, and the good run of the standing entries without it
pub record TakesBack (b : Ledger) (s number of : ℕ) (new : Ledger) : Type 0 where
  pub newest : Applied
  pub newest_is : last_of b.entries s ≡ Some newest
  pub free : undo_refusal b s ≡ None
  pub fits : Fits b.limits (present b) (inverse newest.change)
  pub number_is : number ≡ length b.entries + 1
  pub of_is : of ≡ newest.number
  pub after : new ≡ enter b s (undone newest)
  pub map : present new ≡ restored (present b) newest.change
  pub leaves : LeavesStanding new (standing_without b.entries of)

-- the entry of the number is the session's newest standing one, and may be taken back
pub record IsFree (b : Ledger) (s of : ℕ) : Type 0 where
  pub newest : Applied
  pub newest_is : last_of b.entries s ≡ Some newest
  pub free : undo_refusal b s ≡ None
  pub of_is : of ≡ newest.number
