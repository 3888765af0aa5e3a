-- A table of an accepted shape is the table of its draft, and the table of a record has the shape of its draft.
use Rattle.std.proofs.Common.{◌≡◌, ℕ, pos, List, [], ◌∷◌, ◌&&◌, map, Bool, true, Option, Some, None, option_map, option_and_then, Result, Ok, IfSome, codes, refl, ap, ap₂, subst, ◌∙◌}
use Rattle.std.specs.List.{list_all}
use Rattle.std.proofs.lemmas.Bool.{and_parts}
use Rattle.toml.specs.Data.{Data, integer, boolean, array, table, Items, no_items, item, Members, no_members, member, get, get_member, as_bool, as_array}
use Rattle.toml.specs.View.{items_of}
use Rattle.std.specs.Prelude.{⊤}
use Rattle.tsn_types.specs.declared.keys.Kind.{Kind}
use Rattle.tsn_types.specs.declared.keys.Kind.TheVariants as kinds
use Rattle.tsn_types.specs.declared.records.Record.{Record}
use Rattle.tsn_types.specs.declared.records.Record.TheVariants as records
use Rattle.tsn_records.specs.Answers.{each, or_shape}
use Rattle.tsn_records.specs.Members.{names_of, entry_names_of, rows_of}
use Rattle.tsn_records.specs.Records.{port_entry_shape, gate_entry_shape, list_shape, member_shape, record_shape}
use Rattle.tsn_records.specs.Values.{AllFit, Fits, kind_of_draft, values_of, record_draft}
use Rattle.tsn_records.specs.declared.allowed.Allowed.{Allowed}
use Rattle.tsn_records.specs.declared.allowed.Allowed.TheVariants as allowed
use Rattle.tsn_records.specs.declared.drafts.GateEntryDraft.{GateEntryDraft}
use Rattle.tsn_records.specs.declared.drafts.MemberDraft.{MemberDraft}
use Rattle.tsn_records.specs.declared.drafts.MemberDraft.TheVariants.{Number, Maybe, Flag, PortList, GateList}
use Rattle.tsn_records.specs.declared.drafts.PortEntryDraft.{PortEntryDraft}
use Rattle.tsn_records.specs.declared.unread.Unread.{Unread}
use Rattle.tsn_setup.specs.Toml.{has_only, whole, if_given, number_at, items_list, as_toml}
use Rattle.tsn_setup.specs.Values.{number, number_or_none, flag, Rows, table_with, tables_of, port_entry_rows, gate_entry_rows, named_rows, put_row, record_rows, toml_value}
use Rattle.tsn_records.proofs.NameOrder.{if_found, order}
use Rattle.tsn_setup.proofs.Ordered.{IsOrdered, EachOrdered, AreOrdered}
use Rattle.tsn_records.proofs.Shapes.{port_entry_has, gate_entry_has, port_entry_of, gate_entry_of, record_has, record_shaped, values_fit}
use Rattle.tsn_records.proofs.Steps.{last_step, mapped_there, only, steps, there}
use Rattle.tsn_records.proofs.Pairs.{◌&◌}
use Rattle.tsn_setup.proofs.Rows.{looked_up, is_rising, rows_among, at_name, differ, only_these, put_found, put_other, whole_table}

-- ---- what is at a name

whole_is : (d : Data) (n : ℕ) → or_shape (whole d) ≡ Ok n → d ≡ integer (pos n)
whole_is (integer (pos m)) n h = ap (λ k. integer (pos k)) (only (Ok m) m n refl h)
whole_is d n h = cc

flag_is : (d : Data) (b : Bool) → or_shape (as_bool d) ≡ Ok b → d ≡ boolean b
flag_is (boolean c) b h = ap boolean (only (Ok c) c b refl h)
flag_is d b h = cc

array_is : (d : Data) (ds : Items) → or_shape (as_array d) ≡ Ok ds → d ≡ array ds
array_is (array es) ds h = ap array (only (Ok es) es ds refl h)
array_is d ds h = cc

-- what there is, or none, and of which value it is
given_there : {A : Type 0} (f : Data → Option A) (value : A → Data) → ((d : Data) (a : A) → or_shape (f d) ≡ Ok a → d ≡ value a)
    → (o : Option Data) (x : Option A) → if_given f o ≡ Ok x → o ≡ option_map value x
given_there f value is None x h = ap (option_map value) (only (Ok None) None x refl h)
given_there f value is (Some d) x h =
    steps (or_shape (f d)) _ x h (λ a a_is a_next. ap Some (is d a a_is)
    ∙ ap (option_map value) (only (Ok (Some a)) (Some a) x refl a_next))

pub number_there : (o : Option Data) (n : ℕ) → or_shape (option_and_then whole o) ≡ Ok n → o ≡ number n
number_there = there whole (λ n. integer (pos n)) whole_is

pub number_or_none_there : (o : Option Data) (n : Option ℕ) → if_given whole o ≡ Ok n → o ≡ number_or_none n
number_or_none_there = given_there whole (λ n. integer (pos n)) whole_is

flag_there : (o : Option Data) (b : Bool) → or_shape (option_and_then as_bool o) ≡ Ok b → o ≡ flag b
flag_there = there as_bool boolean flag_is

items_there : (o : Option Data) (ds : Items) → or_shape (option_and_then as_array o) ≡ Ok ds → o ≡ Some (array ds)
items_there = there as_array array array_is

list_there : (o : Option Data) (ds : List Data) → or_shape (option_map items_list (option_and_then as_array o)) ≡ Ok ds
    → (items : Items) × (o ≡ Some (array items)) × (items_list items ≡ ds)
list_there o ds h =
    let found = mapped_there items_list (option_and_then as_array o) ds h in (found.0, items_there o found.0 (ap or_shape found.1), found.2)

pub items_or_none_there : (o : Option Data) (ds : Option Items) → if_given as_array o ≡ Ok ds → o ≡ option_map array ds
items_or_none_there = given_there as_array array array_is

-- ---- what rows have at a name

pub number_got : (name : List ℕ) (rows : Rows) (n : ℕ) → is_rising rows ≡ true → looked_up name rows ≡ number n
    → number_at name (table_with rows) ≡ Ok n
number_got name rows n rise is = ap (λ o. or_shape (option_and_then whole o)) (at_name name rows (number n) rise is)

given_back : (o : Option ℕ) → if_given whole (number_or_none o) ≡ Ok o
given_back None = refl
given_back (Some n) = refl

number_or_none_got : (name : List ℕ) (rows : Rows) (o : Option ℕ) → is_rising rows ≡ true → looked_up name rows ≡ number_or_none o
    → if_given whole (get name (table_with rows)) ≡ Ok o
number_or_none_got name rows o rise is = ap (if_given whole) (at_name name rows (number_or_none o) rise is) ∙ given_back o

flag_got : (name : List ℕ) (rows : Rows) (b : Bool) → is_rising rows ≡ true → looked_up name rows ≡ flag b
    → or_shape (option_and_then as_bool (get name (table_with rows))) ≡ Ok b
flag_got name rows b rise is = ap (λ o. or_shape (option_and_then as_bool o)) (at_name name rows (flag b) rise is)

-- ---- a member of what is ordered is ordered

member_ordered : (k : List ℕ) (ms : Members) → AreOrdered ms → IfSome (get_member k ms) IsOrdered
member_ordered k no_members h = tt
member_ordered k (member l e ms) h = if_found IsOrdered (order k l) e (get_member k ms) h.1.0 (member_ordered k ms h.1.1)

got_ordered : (k : List ℕ) (d : Data) → IsOrdered d → IfSome (get k d) IsOrdered
got_ordered k (table ms) h = member_ordered k ms h
got_ordered k d h = tt

pub inner_ordered : (k : List ℕ) (d e : Data) → IsOrdered d → get k d ≡ Some e → IsOrdered e
inner_ordered k d e h is = subst (λ o. IfSome o IsOrdered) is (got_ordered k d h)

-- ---- entries of an accepted shape

port_entry_is : (d : Data) (e : PortEntryDraft) → IsOrdered d → port_entry_shape as_toml d ≡ Ok e → d ≡ table_with (port_entry_rows e)
port_entry_is d e ordered h =
    let has = port_entry_has as_toml d e h in
    whole_table (entry_names_of kinds.Port) d (port_entry_rows e) tt ordered has.only refl refl
    (number_there _ _ has.gates & number_there _ _ has.interval & tt)

gate_entry_is : (d : Data) (e : GateEntryDraft) → IsOrdered d → gate_entry_shape as_toml d ≡ Ok e → d ≡ table_with (gate_entry_rows e)
gate_entry_is d e ordered h =
    let has = gate_entry_has as_toml d e h in
    whole_table (entry_names_of kinds.Gate) d (gate_entry_rows e) tt ordered has.only refl refl
    (flag_there _ _ has.is_open & number_or_none_there _ _ has.ipv & number_there _ _ has.interval &
    number_or_none_there _ _ has.octets & tt)

-- the tables of a list are those of its entries
abbrev AreTables : {E : Type 0} (shape : Data → Result E Unread) (rows : E → Rows) → Type 0
AreTables {E} shape rows = (d : Data) (e : E) → IsOrdered d → shape d ≡ Ok e → d ≡ table_with (rows e)

each_is : {E : Type 0} (shape : Data → Result E Unread) (rows : E → Rows) → AreTables shape rows
    → (ds : Items) (es : List E) → EachOrdered ds → each shape (items_list ds) ≡ Ok es → ds ≡ items_of (map (λ e. table_with (rows e)) es)
each_is shape rows one no_items es ordered h = ap (λ l. items_of (map (λ e. table_with (rows e)) l)) (only (Ok []) [] es refl h)
each_is shape rows one (item d ds) es ordered h =
    steps (shape d) _ es h (λ first first_is first_next.
    last_step (each shape (items_list ds)) es (λ l. item d ds ≡ items_of (map (λ e. table_with (rows e)) l))
    (λ rest. first ∷ rest) first_next
    (λ rest rest_is. ap₂ item (one d first ordered.0 first_is) (each_is shape rows one ds rest ordered.1 rest_is)))

-- ---- the members of a record

-- the members that are read stand under their names
abbrev AreGiven : Data → List (List ℕ × Allowed) → List MemberDraft → Type 0
AreGiven d [] vs = ⊤
AreGiven d (row ∷ rows) [] = ⊤
AreGiven d (row ∷ rows) (v ∷ vs) = (get row.0 d ≡ toml_value v) × AreGiven d rows vs

list_given : {E : Type 0} (shape : Data → Result E Unread) (rows : E → Rows) → AreTables shape rows → (found : Option Data) (es : List E)
    → IfSome found IsOrdered → list_shape as_toml shape found ≡ Ok es → found ≡ Some (tables_of rows es)
list_given shape rows one found es ordered h =
    steps (as_toml.items found) _ es h (λ ds ds_is ds_next.
    let here = list_there found ds ds_is in
    let inner : IsOrdered (array here.0) = subst (λ o. IfSome o IsOrdered) here.1 ordered in
    here.1 ∙ ap (λ l. Some (array l)) (each_is shape rows one here.0 es inner (ap (each shape) here.2 ∙ ds_next)))

member_given : (kind : Kind) (row : Allowed) (found : Option Data) (v : MemberDraft) → IfSome found IsOrdered
    → member_shape as_toml kind row found ≡ Ok v → found ≡ toml_value v
unfolding member_shape
member_given kind (allowed.Number least most) found v ordered h =
    last_step (as_toml.number found) v (λ x. found ≡ toml_value x) Number h (λ n is. number_there found n is)
member_given kind (allowed.NumberOrNone least most) found v ordered h =
    last_step (as_toml.number_or_none found) v (λ x. found ≡ toml_value x) Maybe h (λ o is. number_or_none_there found o is)
member_given kind allowed.Flag found v ordered h =
    last_step (as_toml.flag found) v (λ x. found ≡ toml_value x) Flag h (λ b is. flag_there found b is)
member_given kinds.Port (allowed.List most) found v ordered h =
    last_step (list_shape as_toml (port_entry_shape as_toml) found) v (λ x. found ≡ toml_value x) PortList h
    (λ es is. list_given (port_entry_shape as_toml) port_entry_rows port_entry_is found es ordered is)
member_given kinds.Gate (allowed.List most) found v ordered h =
    last_step (list_shape as_toml (gate_entry_shape as_toml) found) v (λ x. found ≡ toml_value x) GateList h
    (λ es is. list_given (gate_entry_shape as_toml) gate_entry_rows gate_entry_is found es ordered is)
member_given kind row found v ordered h = cc

members_given : (kind : Kind) (d : Data) (rows : List (List ℕ × Allowed)) (vs : List MemberDraft) → IsOrdered d
    → each (λ row. member_shape as_toml kind row.1 (get row.0 d)) rows ≡ Ok vs → AreGiven d rows vs
members_given kind d [] vs ordered h = tt
members_given kind d (row ∷ rows) vs ordered h =
    steps (member_shape as_toml kind row.1 (get row.0 d)) _ vs h (λ v v_is v_next.
    last_step (each (λ r. member_shape as_toml kind r.1 (get r.0 d)) rows) vs (AreGiven d (row ∷ rows)) (λ ws. v ∷ ws) v_next
    (λ ws ws_is. (member_given kind row.1 (get row.0 d) v (got_ordered row.0 d ordered) v_is, members_given kind d rows ws ordered ws_is)))

-- what a table of the shape of a record's draft has
abbrev HasAll : Data → Record → Type 0
HasAll d r = (has_only (names_of (kind_of_draft (record_draft r))) d ≡ Ok tt)
    × AreGiven d (rows_of (kind_of_draft (record_draft r))) (values_of (record_draft r))

all_there : (d : Data) (r : Record) → IsOrdered d → record_shape as_toml (kind_of_draft (record_draft r)) d ≡ Ok (record_draft r)
    → HasAll d r
all_there d r ordered h =
    let q = kind_of_draft (record_draft r) in
    let has = record_has as_toml q d (record_draft r) h in
    (has.only, members_given q d (rows_of q) (values_of (record_draft r)) ordered has.members)

-- the table of a record has the members of its draft
pub table_is : (d : Data) (id : ℕ) (r : Record) → IsOrdered d → number_at (codes "id") d ≡ Ok id
    → record_shape as_toml (kind_of_draft (record_draft r)) d ≡ Ok (record_draft r) → d ≡ table_with (record_rows id r)
table_is d id (records.Port r) ordered id_is h =
    let has = all_there d (records.Port r) ordered h in
    whole_table (names_of kinds.Port) d (record_rows id (records.Port r)) tt ordered has.0 refl refl (number_there _ id id_is, has.1)
table_is d id r ordered id_is h =
    let has = all_there d r ordered h in
    whole_table (names_of (kind_of_draft (record_draft r))) d (record_rows id r) tt ordered has.0 refl refl (number_there _ id id_is, has.1)

-- ---- the shape of a record's table

port_entry_shaped : (e : PortEntryDraft) → port_entry_shape as_toml (table_with (port_entry_rows e)) ≡ Ok e
port_entry_shaped e = port_entry_of as_toml (table_with (port_entry_rows e)) e (record {
  only = only_these (entry_names_of kinds.Port) (port_entry_rows e) refl;
  gates = number_got (codes "gates") (port_entry_rows e) e.gates refl refl;
  interval = number_got (codes "interval") (port_entry_rows e) e.interval refl refl;
})

gate_entry_shaped : (e : GateEntryDraft) → gate_entry_shape as_toml (table_with (gate_entry_rows e)) ≡ Ok e
gate_entry_shaped e =
    let rows = gate_entry_rows e in
    gate_entry_of as_toml (table_with rows) e (record {
      only = only_these (entry_names_of kinds.Gate) rows refl;
      is_open = flag_got (codes "open") rows e.is_open refl refl;
      ipv = number_or_none_got (codes "ipv") rows e.ipv refl refl;
      interval = number_got (codes "interval") rows e.interval refl refl;
      octets = number_or_none_got (codes "octets") rows e.octets refl refl;
    })

each_shaped : {E : Type 0} (shape : Data → Result E Unread) (rows : E → Rows) → ((e : E) → shape (table_with (rows e)) ≡ Ok e)
    → (es : List E) → each shape (items_list (items_of (map (λ e. table_with (rows e)) es))) ≡ Ok es
each_shaped shape rows one [] = refl
each_shaped shape rows one (e ∷ es) = rw (one e, each_shaped shape rows one es) refl

member_got : (kind : Kind) (row : Allowed) (v : MemberDraft) → Fits kind row v → member_shape as_toml kind row (toml_value v) ≡ Ok v
unfolding member_shape
member_got kind (allowed.Number least most) (Number n) fits = refl
member_got kind (allowed.NumberOrNone least most) (Maybe o) fits = rw (given_back o) refl
member_got kind allowed.Flag (Flag b) fits = refl
member_got kinds.Port (allowed.List most) (PortList es) fits =
    rw (each_shaped (port_entry_shape as_toml) port_entry_rows port_entry_shaped es) refl
member_got kinds.Gate (allowed.List most) (GateList es) fits =
    rw (each_shaped (gate_entry_shape as_toml) gate_entry_rows gate_entry_shaped es) refl
member_got kind row v fits = absurd fits

-- the rows have these members
abbrev Have : Rows → List (List ℕ × Allowed) → List MemberDraft → Type 0
Have whole [] vs = ⊤
Have whole (row ∷ rows) [] = ⊤
Have whole (row ∷ rows) (v ∷ vs) = (looked_up row.0 whole ≡ toml_value v) × Have whole rows vs

members_got : (kind : Kind) (whole : Rows) (rows : List (List ℕ × Allowed)) (vs : List MemberDraft) → is_rising whole ≡ true
    → Have whole rows vs → AllFit kind rows vs → each (λ row. member_shape as_toml kind row.1 (get row.0 (table_with whole))) rows ≡ Ok vs
members_got kind whole [] [] rise have fits = refl
members_got kind whole [] (v ∷ vs) rise have fits = absurd fits
members_got kind whole (row ∷ rows) [] rise have fits = absurd fits
members_got kind whole (row ∷ rows) (v ∷ vs) rise have fits =
    rw (
      at_name row.0 whole (toml_value v) rise have.0,
      member_got kind row.1 v fits.0,
      members_got kind whole rows vs rise have.1 fits.1,
    ) refl

-- the name is none of these
abbrev is_apart : List ℕ → List (List ℕ × Allowed) → Bool
is_apart k rows = list_all (λ row. differ row.0 k) rows

-- no two of the names are one
abbrev are_apart : List (List ℕ × Allowed) → Bool
are_apart [] = true
are_apart (row ∷ rows) = is_apart row.0 rows && are_apart rows

have_behind : (k : List ℕ) (d : Option Data) (whole : Rows) (rows : List (List ℕ × Allowed)) (vs : List MemberDraft)
    → is_apart k rows ≡ true → Have whole rows vs → Have (put_row k d whole) rows vs
have_behind k d whole [] vs apart have = tt
have_behind k d whole (row ∷ rows) [] apart have = tt
have_behind k d whole (row ∷ rows) (v ∷ vs) apart have =
    let parts = and_parts (differ row.0 k) (is_apart k rows) apart in
    (put_other row.0 k d whole parts.0 ∙ have.0, have_behind k d whole rows vs parts.1 have.1)

named_have : (rows : List (List ℕ × Allowed)) (vs : List MemberDraft) → are_apart rows ≡ true → Have (named_rows rows vs) rows vs
named_have [] vs apart = tt
named_have (row ∷ rows) [] apart = tt
named_have (row ∷ rows) (v ∷ vs) apart =
    let parts = and_parts (is_apart row.0 rows) (are_apart rows) apart in
    let others = named_have rows vs parts.1 in (
      put_found row.0 (toml_value v) (named_rows rows vs),
      have_behind row.0 (toml_value v) (named_rows rows vs) rows vs parts.0 others,
    )

-- the names of a kind's members are such
apart : (q : Kind) → is_apart (codes "id") (rows_of q) && are_apart (rows_of q) ≡ true
apart kinds.Port = refl
apart q = refl

rises : (id : ℕ) (r : Record) → is_rising (record_rows id r) ≡ true
rises id (records.Port r) = refl
rises id r = refl

among : (id : ℕ) (r : Record) → rows_among (names_of (kind_of_draft (record_draft r))) (record_rows id r) ≡ true
among id (records.Port r) = refl
among id r = refl

pub table_shaped : (id : ℕ) (r : Record)
    → record_shape as_toml (kind_of_draft (record_draft r)) (table_with (record_rows id r)) ≡ Ok (record_draft r)
table_shaped id r =
    let v = record_draft r in
    let q = kind_of_draft v in
    let parts = and_parts (is_apart (codes "id") (rows_of q)) (are_apart (rows_of q)) (apart q) in
    let named = named_have (rows_of q) (values_of v) parts.1 in
    let have = have_behind (codes "id") (number id) (named_rows (rows_of q) (values_of v)) (rows_of q) (values_of v) parts.0 named in
    record_shaped as_toml q (table_with (record_rows id r)) v (record {
      only = only_these (names_of q) (record_rows id r) (among id r);
      of = refl;
      members = members_got q (record_rows id r) (rows_of q) (values_of v) (rises id r) have (values_fit v);
    })
