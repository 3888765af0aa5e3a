-- Up to which number a standing entry may have a later standing one of another session in conflict with it.
use Rattle.std.specs.Prelude.{◌≡◌, ◌⊎◌, ℕ, ◌+◌, ◌-◌, ◌<◌, ◌≤◌, Bool, true, false, not, ◌&&◌, List, Option, Some, None, ◌==◌, length}
use Rattle.std.specs.List.{list_any, slice_get}
use Rattle.tsn_edit.specs.Changes.{conflicts, keys_of}
use Rattle.tsn_edit.specs.Parts.{Change, parts}
use Rattle.tsn_entries.specs.declared.entries.Entry.{Entry}
use Rattle.tsn_entries.specs.declared.entries.MarkedEntry.{MarkedEntry}
use Rattle.tsn_entries.specs.Entries.{adds}
use Rattle.tsn_entries.specs.Marks.{standing_change}
use Rattle.tsn_journal.specs.Index.{belongs_to_others, is_on}
use Rattle.tsn_journal.specs.declared.groups.Group.TheVariants.{On}
use Rattle.tsn_types.specs.declared.keys.Key.{Key}
use Rattle.tsn_types.specs.declared.keys.Key.TheVariants.{Port, Filter, Gate, Meter}

-- whether the later change f conflicts with a change, if there is one
abbrev pub is_hit : Change → Option Change → Bool
is_hit f None = false
is_hit f (Some c) = conflicts f c

-- whether the later change f, if there is one, conflicts with a change, if there is one
abbrev pub hits : Option Change → Option Change → Bool
hits None o = false
hits (Some f) o = is_hit f o

-- whether e stands and is another session's, and the session's later change f, if there is one, conflicts with its
abbrev pub crosses : Option Change → ℕ → MarkedEntry → Bool
crosses f s e = hits f (standing_change e) && not (e.entry.session == s)

-- the session's change f, if there is one, conflicts with none of these above the number n
abbrev pub NoneCrossed : ℕ → Option Change → ℕ → List MarkedEntry → Type 0
NoneCrossed n f s ms = (i : ℕ) (e : MarkedEntry) → n ≤ i → slice_get ms i ≡ Some e → crosses f s e ≡ false

-- no entry above the number n has a later standing one of another session in conflict with it
abbrev pub IsFreeAbove : ℕ → List MarkedEntry → Type 0
IsFreeAbove n ms = (i j : ℕ) (e m : MarkedEntry) → n ≤ i → i < j → slice_get ms i ≡ Some e → slice_get ms j ≡ Some m
    → crosses (standing_change m) m.entry.session e ≡ false

-- above the number n, other sessions have nothing standing on the key
abbrev pub NoneOn : ℕ → Key → ℕ → List MarkedEntry → Type 0
NoneOn n k s ms = (i : ℕ) (e : MarkedEntry) → n ≤ i → slice_get ms i ≡ Some e → belongs_to_others (On k) s e ≡ false

-- whether a value may refer to what has the key: a filter refers to gates and meters
abbrev pub is_referred : Key → Bool
is_referred (Port n) = false
is_referred (Filter n) = false
is_referred (Gate n) = true
is_referred (Meter n) = true

-- whether the change, if there is one, is on such a key
abbrev pub is_on_referred : Option Change → Bool
is_on_referred None = false
is_on_referred (Some c) = list_any is_referred (keys_of (parts c))

-- nothing that stands above the number n is on such a key
abbrev pub NoneReferred : ℕ → List MarkedEntry → Type 0
NoneReferred n ms = (i : ℕ) (e : MarkedEntry) → n ≤ i → slice_get ms i ≡ Some e → is_on_referred (standing_change e) ≡ false

-- a later entry than that of the number n, of another session, on one of its keys
pub record IsMet (n : ℕ) (e : Entry) (es : List Entry) : Type 0 where
  pub later : Entry
  pub place : ℕ
  pub at : slice_get es place ≡ Some later
  pub after : n ≤ place
  pub other : (e.session == later.session) ≡ false
  pub key : Key
  pub on : is_on key (adds e.what) ≡ true
  pub later_on : is_on key (adds later.what) ≡ true

-- why the entry of the number n has to be looked at: it is on a gate or a meter, or a later one of another session is on a key of its own
pub record IsWanted (n : ℕ) (es : List Entry) : Type 0 where
  pub some : 1 ≤ n
  pub entry : Entry
  pub at : slice_get es (n - 1) ≡ Some entry
  pub why : (is_on_referred (adds entry.what) ≡ true) ⊎ IsMet n entry es

-- the number is no greater than it has to be: 0, or that of such an entry
abbrev pub IsNeeded : ℕ → List Entry → Type 0
IsNeeded n es = (n ≡ 0) ⊎ IsWanted n es

-- the number n is that of an entry of another session than this on a key of the change
pub record IsOther (n : ℕ) (ms : List MarkedEntry) (s : ℕ) (f : Option Change) : Type 0 where
  pub some : 1 ≤ n
  pub entry : MarkedEntry
  pub at : slice_get ms (n - 1) ≡ Some entry
  pub other : (entry.entry.session == s) ≡ false
  pub key : Key
  pub on : is_on key (adds entry.entry.what) ≡ true
  pub later_on : is_on key f ≡ true

-- the session's next entry, which adds the change, raises the number to its own where it is on a gate or a meter, or to that of an entry
-- of another session on one of its keys, or not at all
abbrev pub IsRaised : ℕ → ℕ → List MarkedEntry → ℕ → Option Change → Type 0
IsRaised before n ms s f = (n ≡ before) ⊎ (((n ≡ length ms + 1) × (is_on_referred f ≡ true)) ⊎ IsOther n ms s f)

-- the number stays, or becomes that of an entry that stands on the key and is of another session
pub record IsFound (n : ℕ) (ms : List MarkedEntry) (s : ℕ) (k : Key) : Type 0 where
  pub some : 1 ≤ n
  pub entry : MarkedEntry
  pub at : slice_get ms (n - 1) ≡ Some entry
  pub passes : belongs_to_others (On k) s entry ≡ true

abbrev pub IsFoundOn : ℕ → ℕ → List MarkedEntry → ℕ → Key → Type 0
IsFoundOn before n ms s k = (n ≡ before) ⊎ IsFound n ms s k
