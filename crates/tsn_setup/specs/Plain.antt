-- The plain spelling of a setup: what is known of a table's members as its lines are read one after another.
use Rattle.std.specs.Prelude.{◌≡◌, ℕ, suc, ◌<◌, ◌≤◌, nat_lt, Bool, true, ◌&&◌, List, [], ◌∷◌, length, map, if◌then◌else◌, Option, Some, None, option_map, Result, Ok, ⊤}
use Rattle.std.specs.List.{list_all}
use Rattle.std.specs.Str.{bytes_eq}
use Rattle.toml_parser.specs.Lexical.{is_bare}
use Rattle.toml.specs.Data.{Data, table, as_array, as_bool, Items, no_items, Members, get_member}
use Rattle.toml.specs.Parse.{keyval, val, items, members, lines, parse_document}
use Rattle.toml.specs.Tables.{Nodes, no_nodes, Node, value, open_table, open_array, get_node, close, Edit, along_header, Document}
use Rattle.tsn_types.specs.declared.keys.Kind.{Kind}
use Rattle.tsn_records.specs.Answers.{◌>>=◌, each, or_shape}
use Rattle.tsn_records.specs.Keys.{kind_text}
use Rattle.tsn_records.specs.declared.drafts.PortEntryDraft.{PortEntryDraft}
use Rattle.tsn_records.specs.declared.drafts.GateEntryDraft.{GateEntryDraft}
use Rattle.tsn_records.specs.declared.unread.Unread.{Unread}
use Rattle.tsn_records.specs.Records.{port_entry_shape, gate_entry_shape}
use Rattle.tsn_setup.specs.Tables.{table_shape, items_given}
use Rattle.tsn_setup.specs.Toml.{are_among, if_given, items_list, as_toml, whole}
use Rattle.tsn_setup.specs.declared.drafts.TableDraft.{TableDraft}

-- A member that a table may have, with its value where that was read.
pub data Tray : Type 0 where
  number : Option ℕ → Tray
  flag : Option Bool → Tray
  port_list : Option (List PortEntryDraft) → Tray
  gate_list : Option (List GateEntryDraft) → Tray
  tables : Kind → List TableDraft → Tray

-- the entries of a list, where it is given
abbrev pub list_given : {E : Type 0} → (Data → Result E Unread) → Option Data → Result (Option (List E)) Unread
list_given entry None = Ok None
list_given entry (Some d) = or_shape (as_array d) >>= λ items. each entry (items_list items) >>= λ entries. Ok (Some entries)

-- the tables of a kind, where there are some
abbrev pub tables_given : Kind → Option Data → Result (List TableDraft) Unread
tables_given kind found = if_given as_array found >>= λ items. each (table_shape kind) (items_given items)

-- what stands under a name is what the tray says
abbrev pub Stands : Tray → Option Data → Type 0
Stands (number n) found = if_given whole found ≡ Ok n
Stands (flag b) found = if_given as_bool found ≡ Ok b
Stands (port_list es) found = list_given (port_entry_shape as_toml) found ≡ Ok es
Stands (gate_list es) found = list_given (gate_entry_shape as_toml) found ≡ Ok es
Stands (tables kind ts) found = tables_given kind found ≡ Ok ts

-- nothing was read there yet
abbrev pub IsOpen : Tray → Type 0
IsOpen (number n) = n ≡ None
IsOpen (flag b) = b ≡ None
IsOpen (port_list es) = es ≡ None
IsOpen (gate_list es) = es ≡ None
IsOpen (tables kind ts) = ⊥

-- the names that a table may have, each with its tray
abbrev pub Trays : Type 0
Trays = List (List ℕ × Tray)

-- the tray of a name, where the table may have it
abbrev pub tray_at : List ℕ → Trays → Option Tray
tray_at k [] = None
tray_at k (s ∷ trays) = if bytes_eq k s.0 then Some s.1 else tray_at k trays

-- the trays with another one at a name
abbrev pub put_tray : List ℕ → Tray → Trays → Trays
put_tray k filled [] = []
put_tray k filled (s ∷ trays) = (s.0, if bytes_eq k s.0 then filled else s.1) ∷ put_tray k filled trays

-- no member was read yet
abbrev pub AreOpen : Trays → Type 0
AreOpen [] = ⊤
AreOpen (s ∷ trays) = IsOpen s.1 × AreOpen trays

-- the members have just these values under these names
abbrev pub Tells : Members → Trays → Type 0
Tells ms [] = ⊤
Tells ms (s ∷ trays) = Stands s.1 (get_member s.0 ms) × Tells ms trays

abbrev pub names : Trays → List (List ℕ)
names trays = map (λ s. s.0) trays

-- The trays say what the members are, and there are no others.
pub record TellsAll (ms : Members) (trays : Trays) : Type 0 where
  pub tells : Tells ms trays
  pub only : are_among (names trays) ms ≡ true

-- The text begins with a value that has no more than n brackets in one another, and that the tray holds.
pub record ReadsValue (n : ℕ) (text : List ℕ) (tray : Tray) (rest : List ℕ) : Type 0 where
  pub value : Data
  pub reads : (m : ℕ) → n ≤ m → val m text ≡ Some (value, rest)
  pub stands : Stands tray (Some value)

-- The text begins with a name, whose tray was open before and is filled after, and with its value.
pub record Fills (n : ℕ) (text : List ℕ) (name : List ℕ) (before after : Tray) (rest : List ℕ) : Type 0 where
  pub value : Data
  pub reads : (m : ℕ) → n ≤ m → keyval (val m) text ≡ Some ((([], name), value), rest)
  pub empty : IsOpen before
  pub full : Stands after (Some value)

-- The text begins with a member that may come, and with its value.
pub record ReadsMember (n : ℕ) (text : List ℕ) (before after : Trays) (rest : List ℕ) : Type 0 where
  pub name : List ℕ
  pub value : Data
  pub tray : Tray
  pub filled : Tray
  pub reads : (m : ℕ) → n ≤ m → keyval (val m) text ≡ Some ((([], name), value), rest)
  pub known : tray_at name before ≡ Some tray
  pub empty : IsOpen tray
  pub full : Stands filled (Some value)
  pub put : after ≡ put_tray name filled before

-- The text begins with the rest of an inline table, behind its opening brace, and the trays say its members.
pub record ReadsTable (text : List ℕ) (trays : Trays) (rest : List ℕ) : Type 0 where
  pub found : Members
  pub reads : (m n : ℕ) → length text < n → members (val m) n no_nodes text ≡ Some (found, rest)
  pub tells : TellsAll found trays

-- A table whose edits are edits of the whole document: frame says what the document is around it.
abbrev pub Frames : List (List ℕ) → (Nodes → Nodes) → Type 0
Frames path frame = (edit : Edit) (ns : Nodes) → along_header path edit (frame ns) ≡ option_map frame (edit ns)

-- The lines of the text, of which there are fewer than n, lead from one document to another, and the rest of them follows.
pub record Leads (n : ℕ) (before : Document) (text : List ℕ) (after : Document) (rest : List ℕ) : Type 0 where
  pub turns : ℕ
  pub room : length rest < turns
  pub same : lines n before text ≡ lines turns after rest

-- The text begins with the lines of a table, and the trays say its members.
pub record ReadsLines (text : List ℕ) (trays : Trays) (rest : List ℕ) : Type 0 where
  pub found : Nodes
  pub leads : (path : List (List ℕ)) (frame : Nodes → Nodes) → Frames path frame → (n : ℕ) → length text < n
      → Leads n (frame no_nodes, path) text (frame found, path) rest
  pub tells : TellsAll (close found) trays

-- a name of letters, digits, dashes and underscores
abbrev pub is_name : List ℕ → Bool
is_name name = nat_lt 0 (length name) && list_all is_bare name

-- nothing, or an array of tables that a header may add to
abbrev pub IsArray : Option Node → Type 0
IsArray None = ⊤
IsArray (Some (value d)) = ⊥
IsArray (Some (open_table origin inner)) = ⊥
IsArray (Some (open_array done last)) = ⊤

-- The text begins with the lines of a document, and the trays say its members; each kind has an array of tables or none.
pub record ReadsDocument (text : List ℕ) (trays : Trays) (rest : List ℕ) : Type 0 where
  pub root : Nodes
  pub path : List (List ℕ)
  pub leads : Leads (suc (length text)) (no_nodes, []) text (root, path) rest
  pub tells : TellsAll (close root) trays
  pub arrays : (kind : Kind) → IsArray (get_node (kind_text kind) root)

-- The text begins with the rest of an inline table, behind its opening brace, whose value has the shape of the entry.
pub record ReadsEntry {E : Type 0} (shape : Data → Result E Unread) (text : List ℕ) (entry : E) (rest : List ℕ) : Type 0 where
  pub found : Members
  pub reads : (m n : ℕ) → length text < n → members (val m) n no_nodes text ≡ Some (found, rest)
  pub shaped : shape (table found) ≡ Ok entry

-- The text begins with the rest of an array, behind its opening bracket, whose items have the shapes of the entries.
pub record ReadsEntries {E : Type 0} (shape : Data → Result E Unread) (text : List ℕ) (entries : List E) (rest : List ℕ) : Type 0 where
  pub found : Items
  pub reads : (m n : ℕ) → length text < n → items (val (suc m)) n no_items text ≡ Some (found, rest)
  pub shaped : each shape (items_list found) ≡ Ok entries

-- The same of members that go on: the text begins with some members of an inline table, and the trays say them.
pub record TableSoFar (text : List ℕ) (trays : Trays) (rest : List ℕ) : Type 0 where
  pub found : Nodes
  pub reads : (m n : ℕ) → length text < n → (k : ℕ) × ((length rest < k) × (members (val m) n no_nodes text ≡ members (val m) k found rest))
  pub tells : TellsAll (close found) trays

-- The same of items that go on.
pub record EntriesSoFar {E : Type 0} (shape : Data → Result E Unread) (text : List ℕ) (entries : List E) (rest : List ℕ) : Type 0 where
  pub found : Items
  pub reads : (m n : ℕ) → length text < n
      → (k : ℕ) × ((length rest < k) × (items (val (suc m)) n no_items text ≡ items (val (suc m)) k found rest))
  pub shaped : each shape (items_list found) ≡ Ok entries

-- The text begins with the lines of a table of that kind, which the draft tells.
pub record ReadsTableOf (kind : Kind) (text : List ℕ) (draft : TableDraft) (rest : List ℕ) : Type 0 where
  pub found : Nodes
  pub leads : (path : List (List ℕ)) (frame : Nodes → Nodes) → Frames path frame → (n : ℕ) → length text < n
      → Leads n (frame no_nodes, path) text (frame found, path) rest
  pub shaped : table_shape kind (table (close found)) ≡ Ok draft

-- The text is a document, and the trays say its members.
pub record ReadsWhole (text : List ℕ) (trays : Trays) : Type 0 where
  pub found : Members
  pub reads : parse_document text ≡ Some found
  pub tells : TellsAll found trays
