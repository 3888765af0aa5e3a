-- What an undo of all that a session has standing does to a book, and why it is refused.
use Rattle.std.specs.Prelude.{◌≡◌, ℕ, ◌+◌, ◌<◌, ◌==◌, true, false, List, [], ◌∷◌, Option, Some, None, option_map, length}
use Rattle.tsn_types.specs.declared.refusals.Refusal.{Refusal}
use Rattle.tsn_types.specs.declared.refusals.Refusal.TheVariants.{NothingToUndo, Conflict}
use Rattle.tsn_types.specs.Refusals.{least}
use Rattle.tsn_edit.specs.Configuration.{Configuration}
use Rattle.tsn_edit.specs.Changes.{conflicts, room_of}
use Rattle.tsn_edit.specs.Parts.{inverse}
use Rattle.tsn_edit.specs.Runs.{run, IsGood}
use Rattle.tsn_entries.specs.declared.entries.Entry.{Entry}
use Rattle.tsn_entries.specs.Entries.{Applied, changes, no_room, standing, undone, with_entry}
use Rattle.tsn_entries.specs.Finding.{find_conflict_of_others, find_own_in_conflict, others_standing, own_standing, standing_entry}
use Rattle.tsn_undo.specs.declared.book.TakingBack.{TakingBack}
use Rattle.tsn_undo.specs.Ledger.{Ledger, base_of, present}

-- what the standing entries of the other sessions alone give
abbrev pub others_alone : Ledger → ℕ → Configuration
others_alone b s = run (base_of b) (changes (others_standing b.entries s))

-- the own entry, with the latest later standing entry of another session in conflict with it
abbrev pub conflict_with_others : List Entry → Option Applied → Option Refusal
conflict_with_others es None = None
conflict_with_others es (Some e) = option_map (λ f. Conflict e.number f.number) (find_conflict_of_others es e)

-- nothing of the session stands, or an own entry is in conflict with a later one of another session
abbrev pub undo_all_cause : List Entry → ℕ → List Applied → Option Refusal
undo_all_cause es s [] = Some NothingToUndo
undo_all_cause es s (x ∷ xs) = conflict_with_others es (find_own_in_conflict es s)

-- why an undo of all is refused: nothing stands, a conflict with another session, too little room for all the entries
abbrev pub undo_all_refusal : Ledger → ℕ → Option Refusal
undo_all_refusal b s =
    least (undo_all_cause b.entries s (own_standing b.entries s) ∷ no_room b.entries (length (own_standing b.entries s)) ∷ [])

-- the entries with an Undone entry more for each of xs, the last of them first
abbrev pub with_undone : List Entry → ℕ → List Applied → List Entry
with_undone es s [] = es
with_undone es s (x ∷ xs) = with_entry (with_undone es s xs) s (undone x)

-- the ledger once all standing entries of the session are taken back
abbrev pub all_undone : Ledger → ℕ → Ledger
all_undone b s = record b { entries = with_undone b.entries s (own_standing b.entries s) }

-- what takes a standing entry back
abbrev pub taking_back : Applied → TakingBack
taking_back x = record { of = x.number; entered = inverse x.change; applied = inverse x.change }

-- the parts of all that is still to be applied
abbrev pub room_left : List TakingBack → ℕ
room_left [] = 0
room_left (x ∷ xs) = room_of x.applied + room_left xs

-- an undo of all makes an Undone entry for each standing entry of the session, newest first: what stands is then what
-- stood of the other sessions, whose run alone is good and gives the map
pub record TakesAllBack (b : Ledger) (s count last : ℕ) (new : Ledger) : Type 0 where
  pub free : undo_all_refusal b s ≡ None
  pub count_is : count ≡ length (own_standing b.entries s)
  pub last_is : last ≡ length b.entries + count
  pub after : new ≡ record b { entries = with_undone b.entries s (own_standing b.entries s) }
  pub stands : standing new.entries ≡ others_standing b.entries s
  pub good : IsGood b.limits (base_of b) (changes (others_standing b.entries s))
  pub map : present new ≡ others_alone b s

-- the entry own stands and is the session's, and the later entry other stands, is another session's and is in conflict with it
pub record BlocksAll (es : List Entry) (s own other : ℕ) : Type 0 where
  pub mine : Applied
  pub theirs : Applied
  pub mine_is : standing_entry es own ≡ Some mine
  pub theirs_is : standing_entry es other ≡ Some theirs
  pub is_own : mine.session ≡ s
  pub is_other : (theirs.session == s) ≡ false
  pub later : own < other
  pub conflict : conflicts theirs.change mine.change ≡ true
