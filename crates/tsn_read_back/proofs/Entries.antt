-- Entries of a list that are read back: inline tables, each on a line of its own.
use Rattle.std.proofs.Common.{◌≡◌, ℕ, ◌+◌, ◌<◌, ◌≤◌, ◌^◌, ◌||◌, List, [], ◌∷◌, ◌++◌, map, Bool, true, false, cond, ◌==◌, length, length-drop, drop, codes, decimal, Option, Some, None, IfSome, Result, refl, sym, ap, subst, ◌∙◌, arith, append_assoc, length-append, append-nil}
use Rattle.std.proofs.lemmas.Bool.Decides.{nat_tests}
use Rattle.std.specs.List.{AllByRecursion, flat_map}
use Rattle.toml_parser.specs.Lexical.{first, skip_blank}
use Rattle.toml.specs.Data.{Data}
use Rattle.toml.specs.Parse.{after_element}
use Rattle.toml.proofs.Blanks.{starts_value, strip, skip_none, skip_start, skip_space, skip_newline}
use Rattle.toml.proofs.ReadValues.{EndsValue}
use Rattle.tsn_types.specs.Numbers.{greatest_priority, most_octets}
use Rattle.tsn_types.specs.InRange.{PortEntryInRange, GateEntryInRange}
use Rattle.tsn_types.specs.declared.records.PortEntry.{PortEntry}
use Rattle.tsn_types.specs.declared.records.GateEntry.{GateEntry}
use Rattle.tsn_records.specs.Values.{port_entry_draft, gate_entry_draft}
use Rattle.tsn_records.specs.declared.unread.Unread.{Unread}
use Rattle.tsn_records.specs.Records.{port_entry_shape, gate_entry_shape}
use Rattle.tsn_setup.specs.Plain.{Tray, number, flag, port_list, gate_list, IsOpen, Trays, tray_at, put_tray, ReadsMember, ReadsValue, ReadsTable, ReadsEntry, ReadsEntries, TableSoFar, EntriesSoFar, is_name}
use Rattle.tsn_setup.specs.PlainTrays.{port_entry_trays, gate_entry_trays}
use Rattle.tsn_setup.specs.Toml.{as_toml}
use Rattle.tsn_setup.specs.declared.drafts.PlainPortEntry.{PlainPortEntry}
use Rattle.tsn_setup.specs.declared.drafts.PlainGateEntry.{PlainGateEntry}
use Rattle.tsn_setup.proofs.Told.{port_entry_told, gate_entry_told}
use Rattle.tsn_setup.proofs.Turning.{table_begun, table_more, table_ended, entries_begun, entries_more, entries_ended}
use Rattle.tsn_setup.proofs.Values.{port_list_read, gate_list_read}
use Rattle.tsn_export.specs.Text.{inner_number, inner_number_or_none, flag_text, port_entry_line, gate_entry_line, list_lines}
use Rattle.tsn_read_back.proofs.Joined.{in_three, in_four, in_six}
use Rattle.tsn_read_back.proofs.Lines.{Spelled, name_start, member_read, number_spelled, flag_spelled, small, Reads, line_read}

-- ---- a member of an inline table

-- a comma stands here, or the brace that closes
abbrev pub ends_member : List ℕ → Bool
ends_member text = first text == 44 || first text == 125

next_at : (b : Bool) (text : List ℕ) → b || first text == 125 ≡ true
    → cond b (Some (drop 1 text)) (cond (first text == 125) (Some text) None) ≡ Some (cond b (drop 1 text) text)
next_at true text h = refl
next_at false text h = rw h refl

next_member : (text : List ℕ) → ends_member text ≡ true → after_element 125 text ≡ Some (strip text)
unfolding after_element
next_member text h =
    let whole : skip_blank text ≡ text = skip_none text (first text) refl (grind (arith, nat_tests)) in
    rw whole (next_at (first text == 44) text h)

stripped_at : (b : Bool) (text : List ℕ) → length (cond b (drop 1 text) text) ≤ length text
stripped_at true text = omega (arith, length-drop 1 text)
stripped_at false text = omega arith

member_end : (text : List ℕ) → ends_member text ≡ true → EndsValue text
member_end text h = ((grind (arith, nat_tests), grind (arith, nat_tests)), (grind (arith, nat_tests), grind (arith, nat_tests)))

inner_read : (text name at_value after rest : List ℕ) (trays : Trays) (tray full : Tray) → is_name name ≡ true
    → Spelled 0 at_value full after → tray_at name trays ≡ Some tray → IsOpen tray
    → ends_member after ≡ true → length after ≤ length at_value → skip_blank rest ≡ name ++ (codes " = " ++ at_value)
    → length (name ++ (codes " = " ++ at_value)) ≤ length rest → TableSoFar text trays rest
    → TableSoFar text (put_tray name full trays) (strip after)
inner_read text name at_value after rest trays tray full bare value at unread ends within whole room so =
    let start = name_start name (codes " = " ++ at_value) bare in
    let goes : (first (skip_blank rest) == 125) ≡ false = rw whole (grind (arith, nat_tests)) in
    let member : ReadsMember 0 (skip_blank rest) trays (put_tray name full trays) after =
    rw whole (member_read 0 name at_value after trays tray full bare value at unread) in
    table_more text trays (put_tray name full trays) rest after (strip after) so goes member (next_member after ends)
    (omega (arith, stripped_at (first after == 44) after, length-append name (codes " = " ++ at_value), within, room))

-- the first member, behind the brace
first_read : (name at_value after : List ℕ) (trays : Trays) (tray full : Tray) → is_name name ≡ true → Spelled 0 at_value full after
    → tray_at name trays ≡ Some tray → IsOpen tray
    → ends_member after ≡ true → length after ≤ length at_value
    → TableSoFar (name ++ (codes " = " ++ at_value)) trays (name ++ (codes " = " ++ at_value))
    → TableSoFar (name ++ (codes " = " ++ at_value)) (put_tray name full trays) (strip after)
first_read name at_value after trays tray full bare value at unread ends within so =
    let s = name ++ (codes " = " ++ at_value) in
    let start = name_start name (codes " = " ++ at_value) bare in
    let begins : starts_value (first s) ≡ true = grind (arith, nat_tests) in
    inner_read s name at_value after s trays tray full bare value at unread ends within (skip_start s begins) (omega arith) so

-- a member behind another
inner_number_back : (text name more : List ℕ) (n : ℕ) (trays : Trays) → is_name name ≡ true → n < 2 ^ 63
    → tray_at name trays ≡ Some (number None) → ends_member more ≡ true → TableSoFar text trays (strip (inner_number name n ++ more))
    → TableSoFar text (put_tray name (number (Some n)) trays) (strip more)
inner_number_back text name more n trays bare small at ends so =
    let s = name ++ (codes " = " ++ (decimal n ++ more)) in
    let pieces : inner_number name n ++ more ≡ 44 ∷ 32 ∷ s = simp append_assoc refl in
    let here : TableSoFar text trays (32 ∷ s) = subst (λ t. TableSoFar text trays (strip t)) pieces so in
    let start = name_start name (codes " = " ++ (decimal n ++ more)) bare in
    let begins : starts_value (first s) ≡ true = grind (arith, nat_tests) in
    inner_read text name (decimal n ++ more) more (32 ∷ s) trays (number None) (number (Some n)) bare
    (number_spelled n more small (member_end more ends)) at refl ends
    (omega (arith, length-append (decimal n) more)) (skip_space s ∙ skip_start s begins) (omega arith) here

-- the same of one that may be none
pub inner_number_or_none_back : (text name more : List ℕ) (o : Option ℕ) (trays : Trays) → is_name name ≡ true → IfSome o (λ n. n < 2 ^ 63)
    → tray_at name trays ≡ Some (number None) → put_tray name (number None) trays ≡ trays
    → ends_member more ≡ true → TableSoFar text trays (strip (inner_number_or_none name o ++ more))
    → TableSoFar text (put_tray name (number o) trays) (strip more)
inner_number_or_none_back text name more (Some n) trays bare small at same ends so =
    inner_number_back text name more n trays bare small at ends so
inner_number_or_none_back text name more None trays bare small at same ends so = subst (λ s. TableSoFar text s (strip more)) (sym same) so

or_none_ends : (name more : List ℕ) (o : Option ℕ) → ends_member more ≡ true → ends_member (inner_number_or_none name o ++ more) ≡ true
or_none_ends name more (Some n) ends = refl
or_none_ends name more None ends = ends

-- ---- entries

-- The text begins with a line that is an entry, with the draft that is read of it.
pub record EntryRead {E : Type 0} (shape : Data → Result E Unread) (text : List ℕ) (draft : E) (more : List ℕ) : Type 0 where
  pub inside : List ℕ
  pub is : text ≡ 32 ∷ 32 ∷ 123 ∷ inside
  pub read : ReadsEntry shape inside draft (44 ∷ 10 ∷ more)
  pub shorter : length more < length inside

closed : (text : List ℕ) (trays : Trays) (rest : List ℕ) → TableSoFar text trays (125 ∷ rest) → ReadsTable text trays rest
closed text trays rest so =
    let whole : skip_blank (125 ∷ rest) ≡ 125 ∷ rest = skip_none (125 ∷ rest) 125 refl refl in
    subst (λ t. ReadsTable text trays (drop 1 t)) whole (table_ended text trays (125 ∷ rest) so (rw whole refl))

pub port_entry_back : (e : PortEntry) (more : List ℕ) → PortEntryInRange e
    → EntryRead (port_entry_shape as_toml) (port_entry_line e ++ more) (port_entry_draft e) more
port_entry_back e more fits =
    let end = 125 ∷ 44 ∷ 10 ∷ more in
    let tail = inner_number (codes "interval") e.interval ++ end in
    let inside = codes "gates" ++ (codes " = " ++ (decimal e.gates ++ tail)) in
    let none : PlainPortEntry = record { gates = None; interval = None } in
    let all : PlainPortEntry = record { gates = Some e.gates; interval = Some e.interval } in
    let gates = first_read (codes "gates") (decimal e.gates ++ tail) tail (port_entry_trays none) (number None) (number (Some e.gates)) refl
    (number_spelled e.gates tail (omega (arith, fits.gates)) (member_end tail refl)) refl refl
    refl (omega (arith, length-append (decimal e.gates) tail)) (table_begun inside (port_entry_trays none) (refl, (refl, tt))) in
    let interval : TableSoFar inside (port_entry_trays all) end =
    inner_number_back inside (codes "interval") end e.interval _ refl (omega (arith, fits.interval.1)) refl refl gates in
    record {
      inside = inside;
      is = in_four (codes "  {gates = ") (decimal e.gates) (inner_number (codes "interval") e.interval) (codes "},\n") more;
      read = port_entry_told inside (44 ∷ 10 ∷ more) all e.gates e.interval (closed inside (port_entry_trays all) (44 ∷ 10 ∷ more) interval)
          refl refl;
      shorter = omega (arith, length-append (decimal e.gates) tail, length-append (inner_number (codes "interval") e.interval) end);
    }

pub gate_entry_back : (e : GateEntry) (more : List ℕ) → GateEntryInRange e
    → EntryRead (gate_entry_shape as_toml) (gate_entry_line e ++ more) (gate_entry_draft e) more
gate_entry_back e more fits =
    let end = 125 ∷ 44 ∷ 10 ∷ more in
    let octets = inner_number_or_none (codes "octets") e.octets ++ end in
    let interval = inner_number (codes "interval") e.interval ++ octets in
    let tail = inner_number_or_none (codes "ipv") e.ipv ++ interval in
    let inside = codes "open" ++ (codes " = " ++ (flag_text e.is_open ++ tail)) in
    let none : PlainGateEntry = record { «open» = None; ipv = None; interval = None; octets = None } in
    let all : PlainGateEntry = record { «open» = Some e.is_open; ipv = e.ipv; interval = Some e.interval; octets = e.octets } in
    let tail_ends : ends_member tail ≡ true = or_none_ends (codes "ipv") interval e.ipv refl in
    let octets_end : ends_member octets ≡ true = or_none_ends (codes "octets") end e.octets refl in
    let a = first_read (codes "open") (flag_text e.is_open ++ tail) tail (gate_entry_trays none) (flag None) (flag (Some e.is_open)) refl
    (flag_spelled e.is_open tail (member_end tail tail_ends)) refl refl
    tail_ends (omega (arith, length-append (flag_text e.is_open) tail))
    (table_begun inside (gate_entry_trays none) (refl, (refl, (refl, (refl, tt))))) in
    let b = inner_number_or_none_back inside (codes "ipv") interval e.ipv _ refl (small e.ipv greatest_priority fits.ipv (omega arith)) refl
    refl refl a in
    let c = inner_number_back inside (codes "interval") octets e.interval _ refl (omega (arith, fits.interval.1)) refl octets_end b in
    let d : TableSoFar inside (gate_entry_trays all) end = inner_number_or_none_back inside (codes "octets") end e.octets _ refl
    (small e.octets most_octets fits.octets (omega arith)) refl refl refl c in
    record {
      inside = inside;
      is = in_six (codes "  {open = ") (flag_text e.is_open) (inner_number_or_none (codes "ipv") e.ipv)
          (inner_number (codes "interval") e.interval) (inner_number_or_none (codes "octets") e.octets) (codes "},\n") more;
      read = gate_entry_told inside (44 ∷ 10 ∷ more) all e.is_open e.interval (closed inside (gate_entry_trays all) (44 ∷ 10 ∷ more) d)
          refl refl;
      shorter = omega (
        arith,
        length-append (flag_text e.is_open) tail,
        length-append (inner_number_or_none (codes "ipv") e.ipv) interval,
        length-append (inner_number (codes "interval") e.interval) octets,
        length-append (inner_number_or_none (codes "octets") e.octets) end,
      );
    }

-- ---- the lines of a list

-- Each entry of a list is read back.
abbrev AreRead : {E D : Type 0} → (Data → Result D Unread) → (E → List ℕ) → (E → D) → (E → Type 0) → Type 0
AreRead {E} {D} shape line draft InRange = (e : E) (more : List ℕ) → InRange e → EntryRead shape (line e ++ more) (draft e) more

next_entry : {D : Type 0} (shape : Data → Result D Unread) (text : List ℕ) (list : List D) (draft : D) (line more : List ℕ)
    → EntryRead shape line draft more → EntriesSoFar shape text list (10 ∷ line)
    → EntriesSoFar shape text (list ++ draft ∷ []) (10 ∷ more)
unfolding after_element
next_entry shape text list draft line more entry so =
    let opens = 123 ∷ entry.inside in
    let whole : skip_blank (10 ∷ line) ≡ opens =
    skip_newline line ∙ ap skip_blank entry.is ∙ skip_space (32 ∷ opens) ∙ skip_space opens ∙ skip_none opens 123 refl refl in
    let size : length line ≡ 3 + length entry.inside = ap length entry.is ∙ omega arith in
    let comma : after_element 93 (44 ∷ 10 ∷ more) ≡ Some (10 ∷ more) = rw (skip_none (44 ∷ 10 ∷ more) 44 refl refl) refl in
    entries_more shape text list draft (10 ∷ line) (44 ∷ 10 ∷ more) (10 ∷ more) so (rw whole refl) (rw whole refl) (rw whole refl)
    (rw whole (omega arith))
    (rw whole entry.read) comma (omega (arith, size, entry.shorter))

entries_back : {E D : Type 0} (shape : Data → Result D Unread) (line : E → List ℕ) (draft : E → D) (InRange : E → Type 0)
    → AreRead shape line draft InRange → (es : List E) (text more : List ℕ) (list : List D) → AllByRecursion InRange es
    → EntriesSoFar shape text list (10 ∷ (flat_map line es ++ more)) → EntriesSoFar shape text (list ++ map draft es) (10 ∷ more)
entries_back shape line draft InRange one [] text more list fits so =
    subst (λ l. EntriesSoFar shape text l (10 ∷ more)) (sym (append-nil list)) so
entries_back {E} {D} shape line draft InRange one (e ∷ es) text more list fits so =
    let tail = flat_map line es ++ more in
    let here : EntriesSoFar shape text list (10 ∷ (line e ++ tail)) =
    subst (λ t. EntriesSoFar shape text list (10 ∷ t)) (append_assoc (line e) (flat_map line es) more) so in
    let next = next_entry shape text list (draft e) (line e ++ tail) tail (one e tail fits.0) here in
    subst (λ l. EntriesSoFar shape text l (10 ∷ more)) (append_assoc list (draft e ∷ []) (map draft es))
    (entries_back shape line draft InRange one es text more (list ++ draft e ∷ []) fits.1 next)

-- The text begins with the lines of a list, whose entries are read as those of the drafts.
record ListRead {D : Type 0} (shape : Data → Result D Unread) (text : List ℕ) (list : List D) (more : List ℕ) : Type 0 where
  inside : List ℕ
  is : text ≡ codes "list" ++ (codes " = " ++ (91 ∷ inside))
  read : ReadsEntries shape inside list (10 ∷ more)
  shorter : length more < length inside

list_ended : {D : Type 0} (shape : Data → Result D Unread) (text : List ℕ) (list : List D) (rest more : List ℕ)
    → skip_blank rest ≡ 93 ∷ 10 ∷ more → EntriesSoFar shape text list rest → ReadsEntries shape text list (10 ∷ more)
list_ended shape text list rest more whole so =
    subst (λ t. ReadsEntries shape text list (drop 1 t)) whole (entries_ended shape text list rest so (rw whole refl))

list_read : {E D : Type 0} (shape : Data → Result D Unread) (line : E → List ℕ) (draft : E → D) (InRange : E → Type 0)
    → AreRead shape line draft InRange → (es : List E) (more : List ℕ) → AllByRecursion InRange es
    → ListRead shape (list_lines line es ++ more) (map draft es) more
list_read shape line draft InRange one [] more fits =
    let inside = 93 ∷ 10 ∷ more in
    record {
      inside = inside;
      is = refl;
      read = list_ended shape inside [] inside more (skip_none inside 93 refl refl) (entries_begun shape inside);
      shorter = omega arith;
    }
list_read {E} {D} shape line draft InRange one (e ∷ es) more fits =
    let ends = 93 ∷ 10 ∷ more in
    let lines = flat_map line (e ∷ es) in
    let inside = 10 ∷ (lines ++ ends) in
    let some : ListRead shape (list_lines line (e ∷ es) ++ more) (map draft (e ∷ es)) more = record {
      inside = inside;
      is = in_three (codes "list = [\n") lines (codes "]\n") more;
      read = list_ended shape inside (map draft (e ∷ es)) (10 ∷ ends) more (skip_newline ends ∙ skip_none ends 93 refl refl)
          (entries_back shape line draft InRange one (e ∷ es) inside ends [] fits (entries_begun shape inside));
      shorter = omega (arith, length-append lines ends);
    } in
    some

-- the list is read into its tray
list_back : {E D : Type 0} (shape : Data → Result D Unread) (line : E → List ℕ) (draft : E → D) (InRange : E → Type 0)
    → AreRead shape line draft InRange → (tray : Option (List D) → Tray)
    → ((list : List D) (text rest : List ℕ) → (first text == 91) ≡ true → length (drop 1 text) < length text
    → ReadsEntries shape (drop 1 text) list rest → ReadsValue 2 text (tray (Some list)) rest)
    → IsOpen (tray None) → (text more : List ℕ) (es : List E) (trays : Trays) → AllByRecursion InRange es
    → tray_at (codes "list") trays ≡ Some (tray None) → Reads text trays (list_lines line es ++ more)
    → Reads text (put_tray (codes "list") (tray (Some (map draft es))) trays) more
list_back shape line draft InRange one tray read open_yet text more es trays fits at so =
    let r = list_read shape line draft InRange one es more fits in
    let list = map draft es in
    let value : Spelled 2 (91 ∷ r.inside) (tray (Some list)) (10 ∷ more) =
    record { starts = refl; read = read list (91 ∷ r.inside) (10 ∷ more) refl (omega arith) r.read } in
    line_read 2 text (codes "list") (91 ∷ r.inside) more trays (tray None) (tray (Some list)) (omega arith) refl value at open_yet
    (omega (arith, r.shorter)) (subst (Reads text trays) r.is so)

pub port_list_back : (text more : List ℕ) (es : List PortEntry) (trays : Trays) → AllByRecursion PortEntryInRange es
    → tray_at (codes "list") trays ≡ Some (port_list None) → Reads text trays (list_lines port_entry_line es ++ more)
    → Reads text (put_tray (codes "list") (port_list (Some (map port_entry_draft es))) trays) more
port_list_back = list_back (port_entry_shape as_toml) port_entry_line port_entry_draft PortEntryInRange port_entry_back
    (λ list. port_list list) port_list_read refl

pub gate_list_back : (text more : List ℕ) (es : List GateEntry) (trays : Trays) → AllByRecursion GateEntryInRange es
    → tray_at (codes "list") trays ≡ Some (gate_list None) → Reads text trays (list_lines gate_entry_line es ++ more)
    → Reads text (put_tray (codes "list") (gate_list (Some (map gate_entry_draft es))) trays) more
gate_list_back = list_back (gate_entry_shape as_toml) gate_entry_line gate_entry_draft GateEntryInRange gate_entry_back
    (λ list. gate_list list) gate_list_read refl
