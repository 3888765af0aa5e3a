-- What blocks a redo, as the rows of keys tell it: of each key the newest entry on it, and the newest one that refers to it.
-- Entries of every kind count, whether they stand or were taken back, and so no number ever falls.
use Rattle.std.specs.Prelude.{◌≡◌, ℕ, zero, suc, ◌-◌, ◌<◌, ◌≤◌, ◌⊎◌, Bool, true, List, [], Option, Some, None, length, option_map}
use Rattle.std.specs.List.{slice_get}
use Rattle.tsn_types.specs.declared.keys.Key.{Key}
use Rattle.tsn_types.specs.Keys.{has}
use Rattle.tsn_edit.specs.Changes.{keys_of, refs_after}
use Rattle.tsn_edit.specs.Parts.{Change, parts}
use Rattle.tsn_entries.specs.declared.entries.Entry.{Entry}
use Rattle.tsn_entries.specs.declared.entries.MarkedEntry.{MarkedEntry}
use Rattle.tsn_journal.specs.declared.index.Index.{Index}
use Rattle.tsn_entries.specs.Entries.{IsNumbered, applies}
use Rattle.tsn_entries.specs.Finding.{entry, last_where}
use Rattle.tsn_journal.specs.Index.{above, is_on, refers}
use Rattle.tsn_journal.specs.Latest.{TakesRows, key_row, latest_of, referred_of, touched_of}
use Rattle.tsn_entries.specs.Marks.{entries_of}
use Rattle.tsn_journal.specs.declared.groups.Group.{Group}

-- whether the entry applied a change on the key, and one of which a value after refers to the key
abbrev pub touches : Key → Entry → Bool
touches k e = is_on k (applies e.what)

abbrev pub mentions : Key → Entry → Bool
mentions k e = refers k (applies e.what)

-- the number of the last entry that passes the test
abbrev pub newest : (Entry → Bool) → List Entry → Option ℕ
newest test es = option_map (λ e. e.number) (last_where test es)

-- the number that is told, and 0 tells of none
abbrev pub some_number : ℕ → Option ℕ
some_number zero = None
some_number (suc n) = Some (suc n)

-- the two numbers that the row of the key tells
abbrev pub touched : Index → Key → ℕ
touched a k = touched_of (key_row a.latest k)

abbrev pub referred : Index → Key → ℕ
referred a k = referred_of (key_row a.latest k)

-- The rows tell of each key the last entry on it and, where an entry e is on it, the last one that refers to it after e. They
-- tell of what is later than the newest stray entry, whose number alone is kept: an Undone entry on a key that no entry was on
-- before.
pub record Tells (es : List Entry) (a : Index) : Type 0 where
  pub on : (k : Key) → above a.stray (some_number (touched a k)) ≡ above a.stray (newest (touches k) es)
  pub to : (k : Key) (e : Entry) → entry es e.number ≡ Some e → touches k e ≡ true → a.stray < e.number
      → above e.number (some_number (referred a k)) ≡ above e.number (newest (mentions k) es)
  pub stray_within : a.stray ≤ length es
  pub on_within : (k : Key) → touched a k ≤ length es
  pub to_within : (k : Key) → referred a k ≤ length es

-- the rows tell the same
pub record TellsSame (a b : Index) : Type 0 where
  pub stray : b.stray ≡ a.stray
  pub on : (k : Key) → touched b k ≡ touched a k
  pub to : (k : Key) → referred b k ≡ referred a k

-- b tells what a does, and beside it that the entry of the number n is on the keys and refers to the references; or it is told
-- to be a stray one. A reference to a key that no entry was on need not be told.
pub record Told (n : ℕ) (keys refs : List Key) (a b : Index) : Type 0 where
  pub stray : (b.stray ≡ a.stray) ⊎ (b.stray ≡ n)
  pub on : (k : Key) → has keys k ≡ true → (touched b k ≡ n) ⊎ (b.stray ≡ n)
  pub on_or_same : (k : Key) → (touched b k ≡ touched a k) ⊎ ((has keys k ≡ true) × (touched b k ≡ n))
  pub to : (k : Key) → has refs k ≡ true → (referred b k ≡ n) ⊎ (touched a k ≡ 0)
  pub to_or_same : (k : Key) → (referred b k ≡ referred a k) ⊎ ((has refs k ≡ true) × (referred b k ≡ n))

-- the keys of a change, and what its values after refer to, if there is one
abbrev pub keys_in : Option Change → List Key
keys_in None = []
keys_in (Some c) = keys_of (parts c)

abbrev pub refs_in : Option Change → List Key
refs_in None = []
refs_in (Some c) = refs_after (parts c)

-- the newest entry, of the number n, is told
abbrev pub NewestTold : List MarkedEntry → ℕ → Index → Index → Type 0
NewestTold ms n a b =
    (m : MarkedEntry) → slice_get ms (n - 1) ≡ Some m → Told n (keys_in (applies m.entry.what)) (refs_in (applies m.entry.what)) a b

-- b has the nodes of a, the newest ones of groups too, and its room
pub record KeepsNodes (a b : Index) : Type 0 where
  pub nodes : b.nodes ≡ a.nodes
  pub latest : (g : Group) → latest_of b.latest g ≡ latest_of a.latest g
  pub rows : TakesRows 0 a.latest b.latest

-- the newest entry on the key, if there is a key
abbrev pub told_on : Index → Option Key → Option ℕ
told_on a None = None
told_on a (Some k) = some_number (touched a k)

-- the rows tell the entries, and this one, which is among them, is later than the newest stray one
pub record CanTell (ms : List MarkedEntry) (a : Index) (e : Entry) : Type 0 where
  pub tells : Tells (entries_of ms) a
  pub numbered : IsNumbered 1 (entries_of ms)
  pub there : entry (entries_of ms) e.number ≡ Some e
  pub later : a.stray < e.number
