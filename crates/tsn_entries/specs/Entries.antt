-- The entries of a journal, and which of them stand. Entries are numbered from 1.
use Rattle.std.specs.Prelude.{◌≡◌, ℕ, ◌+◌, Bool, true, false, not, ◌&&◌, max, List, [], ◌∷◌, ◌++◌, Option, Some, None, map, option_map, is_some, is_none, ◌==◌, nat_le, length, if◌then◌else◌, ⊤}
use Rattle.std.specs.List.{list_any, filter_map, cons_option}
use Rattle.tsn_types.specs.declared.keys.Key.{Key}
use Rattle.tsn_types.specs.declared.refusals.Refusal.{Refusal}
use Rattle.tsn_types.specs.declared.refusals.Refusal.TheVariants.{JournalFull}
use Rattle.tsn_types.specs.Limits.{unless}
use Rattle.std.specs.Option.{option_map_or}
use Rattle.tsn_edit.specs.Changes.{room_of}
use Rattle.tsn_edit.specs.Parts.{Change, inverse}
use Rattle.tsn_entries.specs.declared.entries.Act.{Act}
use Rattle.tsn_entries.specs.declared.entries.What.{What}
use Rattle.tsn_entries.specs.declared.entries.What.TheVariants.{Made, Undone, Redone, Acted, Settled}
use Rattle.tsn_entries.specs.declared.entries.Entry.{Entry}

-- how many entries a journal holds at most
abbrev pub most_entries : ℕ
most_entries = 262144

-- there is no room for n entries more
abbrev pub no_room : List Entry → ℕ → Option Refusal
no_room es n = unless (nat_le (length es + n) most_entries) JournalFull

-- a change that an entry applied, with the entry's number and session
pub record Applied : Type 0 where
  pub number : ℕ
  pub session : ℕ
  pub change : Change

abbrev pub changes : List Applied → List Change
changes xs = map (λ x. x.change) xs

-- the change that an entry of any kind applied; an act and a settle apply none
abbrev pub applies : What → Option Change
applies (Made e) = Some e
applies (Undone n e) = Some e
applies (Redone n e) = Some e
applies (Acted act key now) = None
applies (Settled upto) = None

-- the number of the entry that it takes back, if it takes one back
abbrev pub names : What → Option ℕ
names (Made e) = None
names (Undone n e) = Some n
names (Redone n e) = Some n
names (Acted act key now) = None
names (Settled upto) = None

-- an act that was asked for, on a key, at the instant that counted
pub record Asked : Type 0 where
  pub act : Act
  pub key : Key
  pub now : ℕ

-- the act that an entry is, if it is one
abbrev pub act_of : What → Option Asked
act_of (Acted act key now) = Some (record { act = act; key = key; now = now })
act_of w = None

-- whether it is an Undone entry
abbrev pub is_undo : What → Bool
is_undo (Undone n e) = true
is_undo w = false

-- whether it is a Made entry: it applied a change and takes back none
abbrev pub is_made : What → Bool
is_made w = is_some (applies w) && is_none (names w)

-- the change of an entry that may stand: one that was made or redone
abbrev pub adds : What → Option Change
adds w = if is_undo w then None else applies w

-- how many parts of changes it adds to what may stand: none where it takes back an edit, or is an act
abbrev pub added_parts : What → ℕ
added_parts w = option_map_or room_of (adds w) 0

-- the change by which an entry took back another's
abbrev pub undoes : What → Option Change
undoes w = if is_undo w then applies w else None

-- the entry with the change that is picked of it
abbrev pub applied : (What → Option Change) → Entry → Option Applied
applied pick e = option_map (λ c. record { number = e.number; session = e.session; change = c }) (pick e.what)

-- what the entries applied of one kind, in number order
abbrev pub collect : (What → Option Change) → List Entry → List Applied
collect pick es = filter_map (applied pick) es

-- whether the number, if there is one, is n
abbrev pub is_number : ℕ → Option ℕ → Bool
is_number n None = false
is_number n (Some m) = m == n

-- whether w takes back e: an Undone entry takes back one that may stand, a Redone entry an Undone one
abbrev pub takes_back : What → Entry → Bool
takes_back w e = is_number e.number (names w) && is_some ((if is_undo w then adds else undoes) e.what)

-- up to which number it settles the entries, and 0 where it settles none
abbrev pub settles_to : What → ℕ
settles_to (Settled upto) = upto
settles_to w = 0

-- it settles none
abbrev pub IsNoSettle : What → Type 0
IsNoSettle (Settled upto) = ⊥
IsNoSettle w = ⊤

-- whether w closes the earlier entry e: it takes it back, or settles it
abbrev pub closes : What → Entry → Bool
closes (Settled upto) e = nat_le e.number upto
closes w e = takes_back w e

-- whether one of the later entries closes e
abbrev pub is_closed : Entry → List Entry → Bool
is_closed e later = list_any (λ w. closes w.what e) later

-- standing are the Made and Redone entries that no later entry takes back or settles, in number order
abbrev pub standing : List Entry → List Applied
standing [] = []
standing (e ∷ es) = cons_option (if is_closed e es then None else applied adds e) (standing es)

-- up to which number the entries are settled: the greatest that one of them names, and 0 where none does
abbrev pub settled : List Entry → ℕ
settled [] = 0
settled (e ∷ es) = max (settles_to e.what) (settled es)

-- whether e stood until it was settled: of the later entries the first that closes it takes no entry back
abbrev pub is_settled : Entry → List Entry → Bool
is_settled e [] = false
is_settled e (w ∷ later) = if closes w.what e then not (takes_back w.what e) else is_settled e later

-- settled edits are the Made and Redone entries that stood until they were settled, in number order: they belong to nobody
abbrev pub settled_edits : List Entry → List Applied
settled_edits [] = []
settled_edits (e ∷ es) = cons_option (if is_settled e es then applied adds e else None) (settled_edits es)

-- the entries and one more, of the next number
abbrev pub with_entry : List Entry → ℕ → What → List Entry
with_entry es s w = es ++ record { number = length es + 1; session = s; what = w } ∷ []

-- what an entry does that takes x back: the inverse of x's change
abbrev pub undone : Applied → What
undone x = Undone x.number (inverse x.change)

-- what an entry does that takes the Undone entry u back: the inverse of u's change
abbrev pub redone : Applied → What
redone u = Redone u.number (inverse u.change)

-- the entries are numbered one by one from n
abbrev pub IsNumbered : ℕ → List Entry → Type 0
IsNumbered n [] = Unit {0}
IsNumbered n (e ∷ es) = (e.number ≡ n) × IsNumbered (n + 1) es
