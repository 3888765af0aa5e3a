-- How a journal keeps its entries: each with a mark that is on until a later entry takes it back or settles it.
use Rattle.std.specs.Prelude.{◌≡◌, ℕ, zero, suc, ◌+◌, ◌≤◌, Bool, false, not, ◌||◌, ◌&&◌, is_some, List, [], ◌∷◌, Option, Some, None, ◌==◌, drop, map, length, nat_lt, option_map, if◌then◌else◌, refl}
use Rattle.std.specs.Option.{option_and_then}
use Rattle.std.specs.Coded.{Coded, code_by, coded×, coded_list, coded_ℕ}
use Rattle.tsn_edit.specs.Changes.{conflicts}
use Rattle.tsn_edit.specs.Parts.{Change}
use Rattle.tsn_entries.specs.contracts.entries.Entry as entry_row
use Rattle.tsn_entries.specs.declared.entries.Entry.{Entry}
use Rattle.tsn_entries.specs.declared.entries.MarkedEntry.{MarkedEntry}
use Rattle.tsn_entries.specs.declared.entries.What.{What}
use Rattle.tsn_entries.specs.Entries.{Applied, IsNumbered, added_parts, adds, applied, applies, closes, is_closed, is_made, most_entries, undoes}
use Rattle.tsn_entries.specs.Finding.{last_where}

-- what contracts see of a journal: its entries, how many more it certainly has room for, and for how many parts of changes
pub record Log : Type 0 where
  pub entries : List Entry
  pub spare : ℕ
  pub parts : ℕ

abbrev pub log_code : Coded Log
log_code =
    code_by (List Entry × (ℕ × ℕ)) (coded× (coded_list entry_row.the_row.coded) (coded× coded_ℕ coded_ℕ))
    (λ l. (l.entries, (l.spare, l.parts))) (λ p. record { entries = p.0; spare = p.1.0; parts = p.1.1 }) (λ _. refl)

-- the entry that is kept with a mark
abbrev pub entry_in : MarkedEntry → Entry
entry_in m = m.entry

abbrev pub entries_of : List MarkedEntry → List Entry
entries_of ms = map (λ m. m.entry) ms

-- how many parts these add to what may stand
abbrev pub added_in : List MarkedEntry → ℕ
added_in [] = 0
added_in (m ∷ ms) = added_parts m.entry.what + added_in ms

-- so many entries there are, whose changes add so many parts
pub record IsTally (entries parts : ℕ) (ms : List MarkedEntry) : Type 0 where
  pub count : entries ≡ length ms
  pub added : parts ≡ added_in ms

-- each mark is on unless a later entry takes its entry back, or settles it
abbrev pub AreMarked : List MarkedEntry → Type 0
AreMarked [] = Unit {0}
AreMarked (m ∷ ms) = (m.is_open ≡ not (is_closed m.entry (entries_of ms))) × AreMarked ms

pub record IsJournal (ms : List MarkedEntry) : Type 0 where
  pub numbered : IsNumbered 1 (entries_of ms)
  pub marked : AreMarked ms
  pub few : length ms ≤ most_entries

-- the marks of the entries that w takes back or settles are put off
abbrev pub mark_off : What → MarkedEntry → MarkedEntry
mark_off w m = if closes w m.entry then record { entry = m.entry; is_open = false } else m

-- the marks of the first n are off
abbrev pub AreOff : ℕ → List MarkedEntry → Type 0
AreOff zero ms = Unit {0}
AreOff (suc n) [] = Unit {0}
AreOff (suc n) (m ∷ ms) = (m.is_open ≡ false) × AreOff n ms

-- the change of a marked entry, where it stands
abbrev pub stands : MarkedEntry → Option Applied
stands m = if m.is_open then applied adds m.entry else None

-- the change of a marked entry, where it stands
abbrev pub standing_change : MarkedEntry → Option Change
standing_change m = if m.is_open then adds m.entry.what else None

-- whether a marked entry stands and is the session's
abbrev pub is_own : ℕ → MarkedEntry → Bool
is_own s m = is_some (stands m) && (m.entry.session == s)

-- whether the change, if there is one, is in conflict with the earlier e
abbrev pub is_in_conflict : Option Change → Change → Bool
is_in_conflict None e = false
is_in_conflict (Some f) e = conflicts f e

-- the latest entry after e that passes the test and applied a change in conflict with e's
abbrev pub conflict_after : (MarkedEntry → Bool) → List MarkedEntry → Entry → Option MarkedEntry
conflict_after p ms e =
    option_and_then (λ c. last_where (λ m. p m && is_in_conflict (applies m.entry.what) c) (drop e.number ms)) (applies e.what)

-- whether a marked entry stands and is another session's
abbrev pub is_others : ℕ → MarkedEntry → Bool
is_others s m = is_some (stands m) && not (m.entry.session == s)

-- the latest standing entry of another session after e that is in conflict with e
abbrev pub conflict_of_others : List MarkedEntry → Entry → Option MarkedEntry
conflict_of_others ms e = conflict_after (is_others e.session) ms e

-- the number of the newest own standing entry with a later standing entry of another session among `others` in conflict
abbrev pub newest_blocked : ℕ → List MarkedEntry → List MarkedEntry → Option ℕ
newest_blocked s others ms =
    option_map (λ m. m.entry.number) (last_where (λ m. is_own s m && is_some (conflict_of_others others m.entry)) ms)

-- the later of two numbers, or the one that there is
abbrev pub later_of : Option ℕ → Option ℕ → Option ℕ
later_of None k = k
later_of (Some n) None = Some n
later_of (Some n) (Some k) = Some (if nat_lt n k then k else n)

-- whether a search for what a session may redo ends at this entry of its own: an edit, or an Undone entry whose mark is on
abbrev pub ends_redo : MarkedEntry → Bool
ends_redo m = is_made m.entry.what || (is_some (undoes m.entry.what) && m.is_open)
