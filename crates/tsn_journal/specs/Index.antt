-- The index of a journal: of each entry a node in each group that it belongs to, linked to the node before it in that group,
-- and to the last node before it there that is of another session.
use Rattle.std.specs.Prelude.{◌≡◌, ℕ, zero, suc, ◌+◌, ◌-◌, ◌*◌, ◌++◌, ◌<◌, ◌≤◌, Bool, true, false, not, ◌&&◌, ◌||◌, List, [], ◌∷◌, Option, Some, None, ◌==◌, flat_map, length, map, nat_lt, if◌then◌else◌}
use Rattle.std.specs.List.{slice_get}
use Rattle.std.specs.Vec.{vec_capacity, vec_len}
use Rattle.tsn_types.specs.declared.keys.Key.{Key}
use Rattle.tsn_types.specs.Keys.{has, refs_of}
use Rattle.tsn_edit.specs.Changes.{keys_of, refs_after}
use Rattle.tsn_edit.specs.Parts.{Change, Part, parts}
use Rattle.tsn_entries.specs.declared.entries.MarkedEntry.{MarkedEntry}
use Rattle.tsn_journal.specs.declared.groups.Group.{Group}
use Rattle.tsn_journal.specs.declared.groups.Group.TheVariants.{On, RefersTo, Of, EndsRedo}
use Rattle.tsn_journal.specs.declared.index.Index.{Index}
use Rattle.tsn_journal.specs.declared.index.Node.{Node}
use Rattle.tsn_journal.specs.Latest.{HasRows, TakesRows, latest_of, same_group}
use Rattle.tsn_entries.specs.Entries.{added_parts, adds, is_made, most_entries}
use Rattle.tsn_entries.specs.Marks.{ends_redo, is_own, standing_change}

-- whether the change, if there is one, is on the key
abbrev pub is_on : Key → Option Change → Bool
is_on k None = false
is_on k (Some c) = has (keys_of (parts c)) k

-- whether a value after of the change, if there is one, refers to the key
abbrev pub refers : Key → Option Change → Bool
refers k None = false
refers k (Some c) = has (refs_after (parts c)) k

-- whether a marked entry belongs to the group
abbrev pub belongs : Group → MarkedEntry → Bool
belongs (On k) m = is_on k (standing_change m)
belongs (RefersTo k) m = refers k (standing_change m)
belongs (Of s) m = is_own s m
belongs (EndsRedo s) m = (m.entry.session == s) && ends_redo m

-- whether it belongs to the group and is of another session
abbrev pub belongs_to_others : Group → ℕ → MarkedEntry → Bool
belongs_to_others g s m = belongs g m && not (m.entry.session == s)

-- whether the entry, if there is one, is the session's
abbrev pub is_by : ℕ → Option MarkedEntry → Bool
is_by s None = false
is_by s (Some m) = m.entry.session == s

-- the groups of a part: on its key, and referring to what its value after refers to
abbrev pub part_groups : Part → List (Option Group)
part_groups p = Some (On p.key) ∷ map (λ k. Some (RefersTo k)) (refs_of p.after)

abbrev pub groups_of_parts : List Part → List (Option Group)
groups_of_parts ps = flat_map (λ p. part_groups p) ps

-- whether the group is among the groups
abbrev pub is_among : List (Option Group) → Group → Bool
is_among [] g = false
is_among (None ∷ hs) g = is_among hs g
is_among (Some h ∷ hs) g = same_group h g || is_among hs g

-- the node, counted from 1, if there is one
abbrev pub node_at : List Node → ℕ → Option Node
node_at ps zero = None
node_at ps (suc i) = slice_get ps i

abbrev pub number_of : Option Node → ℕ
number_of None = 0
number_of (Some p) = p.number

-- the number of the entry at the node, and 0 for none
abbrev pub number_at : List Node → ℕ → ℕ
number_at ps j = number_of (node_at ps j)

abbrev pub is_of : Group → Option Node → Bool
is_of g None = true
is_of g (Some p) = same_group p.group g

-- no entry above the number n and below the number limit passes the test
abbrev pub NoneBetween : (MarkedEntry → Bool) → List MarkedEntry → ℕ → ℕ → Type 0
NoneBetween t ms n limit = (i : ℕ) (m : MarkedEntry) → n ≤ i → i + 1 < limit → slice_get ms i ≡ Some m → t m ≡ false

-- nothing from n on passes
abbrev pub NoneFrom : {A : Type 0} → (A → Bool) → List A → ℕ → Type 0
NoneFrom {A} t xs n = (i : ℕ) (x : A) → n ≤ i → slice_get xs i ≡ Some x → t x ≡ false

-- at the node j, or at none, is the last of the entries of the group below the limit that may pass the test
pub record IsLast (g : Group) (t : MarkedEntry → Bool) (ms : List MarkedEntry) (ps : List Node) (j limit : ℕ) : Type 0 where
  pub within : j ≤ length ps
  pub group : is_of g (node_at ps j) ≡ true
  pub none_later : NoneBetween t ms (number_at ps j) limit

-- a node is of an entry, and linked to the last node before it that may belong to its group, and to the last one that may and is of
-- another session
pub record IsNode (ms : List MarkedEntry) (ps : List Node) (i : ℕ) (p : Node) : Type 0 where
  pub some : 1 ≤ p.number
  pub within : p.number ≤ length ms
  pub earlier : p.before ≤ i
  pub less : number_at ps p.before < p.number
  pub last : IsLast p.group (belongs p.group) ms ps p.before p.number
  pub other_earlier : p.other ≤ i
  pub other : (s : ℕ) → is_by s (slice_get ms (p.number - 1)) ≡ true → IsLast p.group (belongs_to_others p.group s) ms ps p.other p.number

abbrev pub AreNodes : List MarkedEntry → List Node → Type 0
AreNodes ms ps = (i : ℕ) (p : Node) → slice_get ps i ≡ Some p → IsNode ms ps i p

-- nodes and the newest ones of groups have all entries, but the newest entry in the groups that are pending
pub record IsIndexedBut (pending : List (Option Group)) (ms : List MarkedEntry) (ps : List Node) (latest : Group → ℕ) : Type 0 where
  pub nodes : AreNodes ms ps
  pub latest_is : (g : Group) → IsLast g (belongs g) ms ps (latest g) (if is_among pending g then length ms else (length ms + 1))

-- the index has all entries
abbrev pub IsIndexed : List MarkedEntry → Index → Type 0
IsIndexed ms a = IsIndexedBut [] ms a.nodes.items (latest_of a.latest)

-- the index has all entries but the newest one
pub record IsIndexedButNewest (ms : List MarkedEntry) (a : Index) : Type 0 where
  pub nodes : AreNodes ms a.nodes.items
  pub latest_is : (g : Group) → IsLast g (belongs g) ms a.nodes.items (latest_of a.latest g) (length ms)

-- the newest entry, of the number n, is open, is the session's and made or redid the change; whether it ends a search for a redo
pub record IsNewest (ms : List MarkedEntry) (n s : ℕ) (c : Change) (ends : Bool) : Type 0 where
  pub count : n ≡ length ms
  pub some : 1 ≤ n
  pub by : is_by s (slice_get ms (n - 1)) ≡ true
  pub change : (m : MarkedEntry) → slice_get ms (n - 1) ≡ Some m → adds m.entry.what ≡ Some c
  pub end : (m : MarkedEntry) → slice_get ms (n - 1) ≡ Some m → is_made m.entry.what ≡ ends
  pub is_open : (m : MarkedEntry) → slice_get ms (n - 1) ≡ Some m → m.is_open ≡ true

-- the newest entry adds so many parts
abbrev pub NewestAdds : List MarkedEntry → ℕ → Type 0
NewestAdds ms n = (m : MarkedEntry) → slice_get ms (length ms - 1) ≡ Some m → added_parts m.entry.what ≡ n

-- the group, where it is wanted
abbrev pub group_if : Bool → Group → Option Group
group_if true g = Some g
group_if false g = None

-- the newest nodes, with j for the group
abbrev pub set_at : Group → ℕ → (Group → ℕ) → Group → ℕ
set_at g j latest q = if same_group g q then j else latest q

-- how many nodes a journal may have, and make room for
abbrev pub most_nodes : ℕ
most_nodes = 100 * most_entries

-- the nodes of so many entries that add so many parts: two of its session for each entry, and for each part one on its
-- key and one for each of two references
abbrev pub nodes_for : ℕ → ℕ → ℕ
nodes_for entries parts = 2 * entries + 3 * parts

-- there is room for n nodes more
pub record HasNodes (n : ℕ) (a : Index) : Type 0 where
  pub capacity : vec_len a.nodes + n ≤ vec_capacity a.nodes
  pub few : length a.nodes.items + n ≤ most_nodes

-- the index has room for n nodes more, each of a group of its own
pub record HasRoom (n : ℕ) (a : Index) : Type 0 where
  pub nodes : HasNodes n a
  pub rows : HasRows n a.latest

-- b has the room of a but for n nodes
pub record TakesNodes (n : ℕ) (a b : Index) : Type 0 where
  pub len : vec_len b.nodes ≤ vec_len a.nodes + n
  pub items : length b.nodes.items ≤ length a.nodes.items + n
  pub capacity : vec_capacity b.nodes ≡ vec_capacity a.nodes

pub record TakesRoom (n : ℕ) (a b : Index) : Type 0 where
  pub nodes : TakesNodes n a b
  pub rows : TakesRows n a.latest b.latest

-- b has at least the room of a
pub record TakesNoRoom (a b : Index) : Type 0 where
  pub nodes : vec_len b.nodes ≡ vec_len a.nodes
  pub items : b.nodes.items ≡ a.nodes.items
  pub capacity : vec_capacity a.nodes ≤ vec_capacity b.nodes
  pub rows : TakesRows 0 a.latest b.latest

-- the node j, or the one that it is linked to of another session, where its entry is the session's
abbrev pub other_from : List MarkedEntry → ℕ → ℕ → Option Node → ℕ
other_from ms s j None = 0
other_from ms s j (Some p) = if is_by s (slice_get ms (p.number - 1)) then p.other else j

abbrev pub other_of : List MarkedEntry → List Node → ℕ → ℕ → ℕ
other_of ms ps s j = other_from ms s j (node_at ps j)

-- the nodes with one more, of the session's entry of the number in the group, whose newest node was `before`; none more where it is not
-- wanted, or where that node is of the entry
pub record Adds (ms : List MarkedEntry) (wanted : Bool) (g : Group) (n s before : ℕ) (ps qs : List Node) (j : ℕ) : Type 0 where
  pub nodes : wanted ≡ true → number_at ps before < n → qs ≡ ps
      ++ record { group = g; number = n; before = before; other = other_of ms ps s before } ∷ []
  pub node : wanted ≡ true → number_at ps before < n → j ≡ length ps + 1
  pub there : n ≤ number_at ps before → qs ≡ ps
  pub there_node : n ≤ number_at ps before → j ≡ before
  pub unwanted : wanted ≡ false → qs ≡ ps
  pub unwanted_node : wanted ≡ false → j ≡ before

-- whose entries are sought: any session's, or those of others than one
abbrev pub is_sought : Option ℕ → MarkedEntry → Bool
is_sought None m = true
is_sought (Some s) m = not (m.entry.session == s)

-- whether a marked entry stands and is on the key, if there is a key
abbrev pub is_on_any : Option Key → MarkedEntry → Bool
is_on_any None m = false
is_on_any (Some k) m = belongs (On k) m

-- the number, where it is greater than the other
abbrev pub above : ℕ → Option ℕ → Option ℕ
above n None = None
above n (Some k) = if nat_lt n k then Some k else None
