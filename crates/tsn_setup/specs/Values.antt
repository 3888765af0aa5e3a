-- The value of a setup: what a document is that gives it. A table of a document holds each name once, in ascending order
-- of the names, whatever their order in the text; so two tables with the same members are one value.
use Rattle.std.specs.Prelude.{◌≡◌, ◌↔◌, ℕ, ◌≤◌, pos, Bool, List, [], ◌∷◌, ◌++◌, length, map, filter, Option, Some, None, option_map, unwrap_or, Ok, IsSomeAnd, IsSome, Contains, codes}
use Rattle.std.specs.Cmp.Lexicographic.{slice_cmp}
use Rattle.std.specs.List.{AllByRecursion}
use Rattle.std.specs.Ordering.{match_ordering, nat_cmp}
use Rattle.toml.specs.Data.{Data, integer, boolean, array, table, no_items, Members, no_members, member, get}
use Rattle.toml.specs.View.{items_of}
use Rattle.tsn_types.specs.Bounds.{AreInRange}
use Rattle.tsn_types.specs.InRange.{KeyedInRange}
use Rattle.tsn_types.specs.Keys.{number_of}
use Rattle.tsn_types.specs.declared.keys.Key.{Key}
use Rattle.tsn_types.specs.declared.keys.Kind.{Kind}
use Rattle.tsn_types.specs.declared.keys.Kind.TheVariants as kinds
use Rattle.tsn_types.specs.declared.limits.Limits.{Limits}
use Rattle.tsn_types.specs.declared.records.Record.{Record}
use Rattle.tsn_config.specs.Ids.{is_of}
use Rattle.tsn_config.specs.Opening.{standard_limits}
use Rattle.tsn_config.specs.declared.setup.Setup.{Setup}
use Rattle.tsn_records.specs.Keys.{kind_text}
use Rattle.tsn_records.specs.Members.{rows_of, setup_names}
use Rattle.tsn_records.specs.Values.{kind_of_draft, values_of, record_draft}
use Rattle.tsn_records.specs.declared.allowed.Allowed.{Allowed}
use Rattle.tsn_records.specs.declared.drafts.GateEntryDraft.{GateEntryDraft}
use Rattle.tsn_records.specs.declared.drafts.MemberDraft.{MemberDraft}
use Rattle.tsn_records.specs.declared.drafts.MemberDraft.TheVariants.{Unread, Number, Maybe, Flag, PortList, GateList}
use Rattle.tsn_records.specs.declared.drafts.PortEntryDraft.{PortEntryDraft}
use Rattle.tsn_setup.specs.Setups.{document_of, longest_setup, setup_of}

-- What a member is: a number, a number that may be none, true or false.
abbrev pub number : ℕ → Option Data
number n = Some (integer (pos n))

abbrev pub number_or_none : Option ℕ → Option Data
number_or_none o = option_map (λ n. integer (pos n)) o

abbrev pub flag : Bool → Option Data
flag b = Some (boolean b)

-- names, and what there is at each
abbrev pub Rows : Type 0
Rows = List (List ℕ × Option Data)

-- the members that there are: a name that has none is left out
abbrev pub given : Rows → Members
given [] = no_members
given ((name, None) ∷ rest) = given rest
given ((name, Some d) ∷ rest) = member name d (given rest)

abbrev pub table_with : Rows → Data
table_with rows = table (given rows)

abbrev pub tables_of : {A : Type 0} → (A → Rows) → List A → Data
tables_of rows xs = array (items_of (map (λ x. table_with (rows x)) xs))

-- `{gates = .., interval = ..}`
abbrev pub port_entry_rows : PortEntryDraft → Rows
port_entry_rows e = (codes "gates", number e.gates) ∷ (codes "interval", number e.interval) ∷ []

-- `{open = .., ipv = .., interval = .., octets = ..}`
abbrev pub gate_entry_rows : GateEntryDraft → Rows
gate_entry_rows e =
    (codes "interval", number e.interval)
    ∷ (codes "ipv", number_or_none e.ipv)
    ∷ (codes "octets", number_or_none e.octets)
    ∷ (codes "open", flag e.is_open)
    ∷ []

-- what a table has where a member is such
abbrev pub toml_value : MemberDraft → Option Data
toml_value Unread = None
toml_value (Number n) = number n
toml_value (Maybe o) = number_or_none o
toml_value (Flag b) = flag b
toml_value (PortList es) = Some (tables_of port_entry_rows es)
toml_value (GateList es) = Some (tables_of gate_entry_rows es)

-- a row where it belongs: the names ascend
abbrev pub put_row : List ℕ → Option Data → Rows → Rows
put_row name d [] = (name, d) ∷ []
put_row name d (row ∷ rows) =
    match_ordering (slice_cmp nat_cmp name row.0) ((name, d) ∷ row ∷ rows) ((name, d) ∷ rows) (row ∷ put_row name d rows)

-- each member under its name
abbrev pub named_rows : List (List ℕ × Allowed) → List MemberDraft → Rows
named_rows [] vs = []
named_rows (m ∷ ms) [] = []
named_rows (m ∷ ms) (v ∷ vs) = put_row m.0 (toml_value v) (named_rows ms vs)

-- a record: its identifier, and the members of its draft by the table of members
abbrev pub record_rows : ℕ → Record → Rows
record_rows id r =
    let draft = record_draft r in
    put_row (codes "id") (number id) (named_rows (rows_of (kind_of_draft draft)) (values_of draft))

abbrev pub keyed_rows : Key × Record → Rows
keyed_rows e = record_rows (number_of e.0) e.1

-- the records of a kind, in their order
abbrev pub of_kind : Kind → List (Key × Record) → List (Key × Record)
of_kind kind rs = filter (λ e. is_of kind e.0) rs

-- what a document has at a name, or what stands for it where it is left out
abbrev pub given_or : Data → List ℕ → Data → Data
given_or left_out name d = unwrap_or (get name d) left_out

-- the limit of that name is this number, given or left out
abbrev pub HasLimit : List ℕ → ℕ → ℕ → Data → Type 0
HasLimit name standard n d = given_or (integer (pos standard)) name d ≡ integer (pos n)

-- what a document says of limits, of which those of the standard setup may be left out
pub record HasLimits (l : Limits) (d : Data) : Type 0 where
  pub ports : HasLimit (codes "ports") standard_limits.ports l.ports d
  pub max_filters : HasLimit (codes "max_filters") standard_limits.filters l.filters d
  pub max_gates : HasLimit (codes "max_gates") standard_limits.gates l.gates d
  pub max_meters : HasLimit (codes "max_meters") standard_limits.meters l.meters d
  pub list_max : HasLimit (codes "list_max") standard_limits.list l.list d

-- A document of a setup: its limits; the tables of each kind, which may be left out where there are none; and nothing else.
pub record IsDocumentOf (s : Setup) (d : Data) : Type 0 where
  pub limits : HasLimits s.limits d
  pub records : (kind : Kind) → given_or (array no_items) (kind_text kind) d ≡ tables_of keyed_rows (of_kind kind s.records)
  pub nothing_else : (name : List ℕ) → IsSome (get name d) → Contains setup_names name

-- what a document may give: every number in its range, and records of their keys' kinds, ports before filters before
-- gates before meters
pub record MayBeGiven (s : Setup) : Type 0 where
  pub limits : AreInRange s.limits
  pub records : AllByRecursion (λ e. KeyedInRange e.0 e.1) s.records
  pub order : s.records ≡ of_kind kinds.Port s.records ++ of_kind kinds.Filter s.records ++ of_kind kinds.Gate s.records
      ++ of_kind kinds.Meter s.records

-- A text is accepted as a setup exactly where that may be given and the text is a document of it, short enough.
abbrev pub AcceptsValues : Type 0
AcceptsValues = (text : List ℕ) (s : Setup) →
    (setup_of text ≡ Ok s) ↔ ((length text ≤ longest_setup) × MayBeGiven s × IsSomeAnd (document_of text) (IsDocumentOf s))
