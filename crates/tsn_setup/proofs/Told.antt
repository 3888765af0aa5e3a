-- What the trays of a table tell is its shape.
use Rattle.std.proofs.Common.{◌≡◌, ℕ, List, [], ◌∷◌, map, Bool, true, Option, Some, None, Result, Ok, Err, codes, refl, ap, subst, ◌∙◌}
use Rattle.std.specs.Prelude.{option_and_then, option_map}
use Rattle.std.specs.List.{zip}
use Rattle.toml.specs.Data.{Data, Items, Members, table, get, get_member, as_bool, as_array}
use Rattle.toml.specs.Tables.{close}
use Rattle.tsn_records.specs.Answers.{◌>>=◌, each, or_shape}
use Rattle.tsn_types.specs.declared.keys.Kind.{Kind}
use Rattle.tsn_types.specs.declared.keys.Kind.TheVariants as kinds
use Rattle.tsn_records.specs.declared.allowed.Allowed.{Allowed}
use Rattle.tsn_records.specs.declared.allowed.Allowed.TheVariants as allowed
use Rattle.tsn_records.specs.declared.drafts.MemberDraft.{MemberDraft}
use Rattle.tsn_records.specs.declared.drafts.MemberDraft.TheVariants.{Unread, Number, Maybe, Flag, PortList, GateList}
use Rattle.tsn_records.specs.declared.drafts.RecordDraft.{RecordDraft}
use Rattle.tsn_records.specs.declared.unread.Unread.{Unread as NotRead}
use Rattle.tsn_records.specs.Members.{names_of, rows_of}
use Rattle.tsn_records.specs.Records.{port_entry_shape, gate_entry_shape, member_shape}
use Rattle.tsn_records.specs.Values.{AllFit, Fits, kind_of_draft, values_of}
use Rattle.tsn_setup.specs.Tables.{table_shape}
use Rattle.tsn_setup.specs.Toml.{are_among, has_only, if_given, items_list, as_toml, whole}
use Rattle.tsn_setup.specs.Plain.{Tray, Trays, number, flag, port_list, gate_list, list_given, names, Stands, Tells, ReadsTable, ReadsEntry, ReadsLines, ReadsTableOf}
use Rattle.tsn_setup.specs.PlainTrays.{port_entry_trays, gate_entry_trays}
use Rattle.tsn_setup.specs.declared.drafts.PlainPortEntry.{PlainPortEntry}
use Rattle.tsn_setup.specs.declared.drafts.PlainGateEntry.{PlainGateEntry}
use Rattle.tsn_records.proofs.Shapes.{record_shaped, values_fit}

-- a member that is given is there
there_at : {A : Type 0} (f : Data → Option A) (d : Data) (o : Option A) (a : A) → f d ≡ o → or_shape o >>= (λ y. Ok (Some y)) ≡ Ok (Some a)
    → or_shape (f d) ≡ Ok a
there_at f d None a is h = cc
there_at f d (Some x) a is h = let e : Some x ≡ Some a = (let e2 : Ok (Some x) ≡ Ok (Some a) = h in cc) in ap or_shape is ∙ ap or_shape e

there : {A : Type 0} (f : Data → Option A) (found : Option Data) (a : A) → if_given f found ≡ Ok (Some a)
    → or_shape (option_and_then f found) ≡ Ok a
there f None a h = cc
there f (Some d) a h = there_at f d (f d) a refl h

-- no other members
pub only : (names : List (List ℕ)) (ms : Members) → are_among names ms ≡ true → has_only names (table ms) ≡ Ok tt
only names ms h = rw h refl

-- an inline table that was read is an entry, where its members are of that shape
entry_told : {E : Type 0} (shape : Data → Result E NotRead) (text rest : List ℕ) (trays : Trays) (x : E) (read : ReadsTable text trays rest)
    → shape (table read.found) ≡ Ok x → ReadsEntry shape text x rest
entry_told shape text rest trays x read shaped = record { found = read.found; reads = read.reads; shaped = shaped }

pub port_entry_told : (text rest : List ℕ) (m : PlainPortEntry) (gates interval : ℕ) → ReadsTable text (port_entry_trays m) rest
    → m.gates ≡ Some gates → m.interval ≡ Some interval
    → ReadsEntry (port_entry_shape as_toml) text (record { gates = gates; interval = interval }) rest
unfolding port_entry_shape
port_entry_told text rest m gates interval read g i = entry_told _ text rest (port_entry_trays m) _ read (rw (
  only (names (port_entry_trays m)) read.found read.tells.only,
  there whole (get_member (codes "gates") read.found) gates (read.tells.tells.0 ∙ ap Ok g),
  there whole (get_member (codes "interval") read.found) interval (read.tells.tells.1.0 ∙ ap Ok i),
) refl)

pub gate_entry_told : (text rest : List ℕ) (m : PlainGateEntry) (is_open : Bool) (interval : ℕ)
    → ReadsTable text (gate_entry_trays m) rest → m.open ≡ Some is_open → m.interval ≡ Some interval
    → ReadsEntry (gate_entry_shape as_toml) text (record { is_open = is_open; ipv = m.ipv; interval = interval; octets = m.octets }) rest
unfolding gate_entry_shape
gate_entry_told text rest m is_open interval read o i =
    let told = read.tells.tells in
    entry_told _ text rest (gate_entry_trays m) _ read (rw (
      only (names (gate_entry_trays m)) read.found read.tells.only,
      there as_bool (get_member (codes "open") read.found) is_open (told.0 ∙ ap Ok o),
      told.1.0,
      there whole (get_member (codes "interval") read.found) interval (told.1.1.0 ∙ ap Ok i),
      told.1.1.1.0,
    ) refl)

-- ---- tables that have lines

list_in : {E : Type 0} (r : Result (List E) NotRead) (es : List E) → r >>= (λ xs. Ok (Some xs)) ≡ Ok (Some es) → r ≡ Ok es
list_in (Ok xs) es h = (let e : Ok (Some xs) ≡ Ok (Some es) = h in let f : xs ≡ es = cc in ap Ok f)
list_in (Err e) es h = cc

list_at : {E : Type 0} (entry : Data → Result E NotRead) (o : Option Items) (es : List E)
    → or_shape o >>= (λ items. each entry (items_list items) >>= λ xs. Ok (Some xs)) ≡ Ok (Some es)
    → or_shape (option_map items_list o) >>= each entry ≡ Ok es
list_at entry None es h = cc
list_at entry (Some items) es h = list_in (each entry (items_list items)) es h

list_told : {E : Type 0} (entry : Data → Result E NotRead) (found : Option Data) (es : List E) → list_given entry found ≡ Ok (Some es)
    → or_shape (option_map items_list (option_and_then as_array found)) >>= each entry ≡ Ok es
list_told entry None es told = cc
list_told entry (Some d) es told = list_at entry (as_array d) es told

-- the tray of a member that was read
abbrev pub tray_of : MemberDraft → Tray
tray_of Unread = number None
tray_of (Number n) = number (Some n)
tray_of (Maybe o) = number o
tray_of (Flag b) = flag (Some b)
tray_of (PortList es) = port_list (Some es)
tray_of (GateList es) = gate_list (Some es)

member_told : (kind : Kind) (row : Allowed) (v : MemberDraft) (found : Option Data) → Fits kind row v → Stands (tray_of v) found
    → member_shape as_toml kind row found ≡ Ok v
unfolding member_shape
member_told kind (allowed.Number least most) (Number n) found fits told = rw (there whole found n told) refl
member_told kind (allowed.NumberOrNone least most) (Maybe o) found fits told = rw told refl
member_told kind allowed.Flag (Flag b) found fits told = rw (there as_bool found b told) refl
member_told kinds.Port (allowed.List most) (PortList es) found fits told = rw (list_told (port_entry_shape as_toml) found es told) refl
member_told kinds.Gate (allowed.List most) (GateList es) found fits told = rw (list_told (gate_entry_shape as_toml) found es told) refl
member_told kind row v found fits told = absurd fits

-- the names of members, each with its tray
abbrev pub told_rows : List (List ℕ × Allowed) → List MemberDraft → Trays
told_rows rows vs = zip (map (λ row. row.0) rows) (map tray_of vs)

members_told : (kind : Kind) (ms : Members) (rows : List (List ℕ × Allowed)) (vs : List MemberDraft) → AllFit kind rows vs
    → Tells ms (told_rows rows vs) → each (λ row. member_shape as_toml kind row.1 (get row.0 (table ms))) rows ≡ Ok vs
members_told kind ms [] [] fits told = refl
members_told kind ms (row ∷ rows) (v ∷ vs) fits told =
    rw (member_told kind row.1 v (get_member row.0 ms) fits.0 told.0, members_told kind ms rows vs fits.1 told.1) refl
members_told kind ms rows vs fits told = absurd fits

-- the lines of a table with all of a record's members, whatever its kind
pub record_told : (r : RecordDraft) (id : ℕ) (text rest : List ℕ) (trays : Trays) → ReadsLines text trays rest
    → names trays ≡ names_of (kind_of_draft r)
    → trays ≡ (codes "id", number (Some id)) ∷ told_rows (rows_of (kind_of_draft r)) (values_of r)
    → ReadsTableOf (kind_of_draft r) text (record { id = id; value = r }) rest
unfolding table_shape
record_told r id text rest trays read named are = record {
  found = read.found;
  leads = read.leads;
  shaped =
      let kind = kind_of_draft r in
      let ms = close read.found in
      let told = subst (Tells ms) are read.tells.tells in
      let names_are : are_among (names_of kind) ms ≡ true = subst (λ ns. are_among ns ms ≡ true) named read.tells.only in
      rw (
        there whole (get_member (codes "id") ms) id told.0,
        record_shaped as_toml kind (table ms) r (record {
          only = only (names_of kind) ms names_are;
          of = refl;
          members = members_told kind ms (rows_of kind) (values_of r) (values_fit r) told.1;
        }),
      ) refl;
}
