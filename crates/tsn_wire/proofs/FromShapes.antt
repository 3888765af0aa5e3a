-- A value of an accepted shape is the value of its draft.
use Rattle.std.proofs.Common.{◌≡◌, ℕ, suc, List, [], ◌∷◌, map, Bool, Option, Some, None, option_and_then, option_map, Result, Ok, refl, sym, ap, ap₂, subst, ◌∙◌, arith}
use Rattle.std.specs.Prelude.{⊤}
use Rattle.serde_json.specs.Data.{Data, null, boolean, number, unsigned, string, array, Items, no_items, item, Members, no_members, member, put}
use Rattle.serde_json.specs.Find.{at, get, get_item, as_bool, as_str, as_array}
use Rattle.serde_json.specs.View.{items_of}
use Rattle.tsn_records.specs.Answers.{or_shape, each}
use Rattle.tsn_records.specs.Json.{items_list, items_len, whole, whole_or_null, has_items, as_json}
use Rattle.tsn_records.specs.Members.{rows_of}
use Rattle.tsn_records.specs.Records.{port_entry_shape, gate_entry_shape, list_shape, member_shape, record_shape}
use Rattle.tsn_records.specs.Values.{kind_of_draft, values_of}
use Rattle.tsn_records.specs.Shown.{draft_data, gate_entry_value, list_array, member_data, named, or_null, port_entry_value, whole_data}
use Rattle.tsn_wire.specs.Rows.{members_of}
use Rattle.tsn_types.specs.declared.keys.Kind.{Kind}
use Rattle.tsn_types.specs.declared.keys.Kind.TheVariants as kinds
use Rattle.tsn_records.specs.declared.allowed.Allowed.{Allowed}
use Rattle.tsn_records.specs.declared.allowed.Allowed.TheVariants as allowed
use Rattle.tsn_records.specs.declared.drafts.MemberDraft.{MemberDraft}
use Rattle.tsn_records.specs.declared.drafts.MemberDraft.TheVariants.{Number, Maybe, Flag, PortList, GateList}
use Rattle.tsn_records.specs.declared.drafts.RecordDraft.{RecordDraft}
use Rattle.tsn_records.specs.declared.drafts.RecordDraft.TheVariants as records
use Rattle.tsn_records.specs.declared.drafts.PortEntryDraft.{PortEntryDraft}
use Rattle.tsn_records.specs.declared.drafts.GateEntryDraft.{GateEntryDraft}
use Rattle.tsn_records.specs.declared.unread.Unread.{Unread}
use Rattle.tsn_records.proofs.Shapes.{RecordHas, port_entry_has, gate_entry_has, record_has}
use Rattle.tsn_records.proofs.Steps.{last_step, mapped_there, only, steps, there}
use Rattle.tsn_records.proofs.NameOrder.{at_order, order, same_name}
use Rattle.tsn_wire.proofs.Objects.{Holds, IsOrdered, Rise, counted, whole_object}

-- ---- members and items of one kind

whole_is : (d : Data) (n : ℕ) → or_shape (whole d) ≡ Ok n → d ≡ whole_data n
whole_is (number (unsigned m)) n h = ap whole_data (only (Ok m) m n refl h)
whole_is d n h = cc

or_null_is : (d : Data) (o : Option ℕ) → or_shape (whole_or_null d) ≡ Ok o → d ≡ or_null o
or_null_is null o h = ap or_null (only (Ok None) None o refl h)
or_null_is (number (unsigned m)) o h = ap or_null (only (Ok (Some m)) (Some m) o refl h)
or_null_is d o h = cc

flag_is : (d : Data) (b : Bool) → or_shape (as_bool d) ≡ Ok b → d ≡ boolean b
flag_is (boolean c) b h = ap boolean (only (Ok c) c b refl h)
flag_is d b h = cc

text_is : (d : Data) (s : List ℕ) → or_shape (as_str d) ≡ Ok s → d ≡ string s
text_is (string t) s h = ap string (only (Ok t) t s refl h)
text_is d s h = cc

array_is : (d : Data) (ds : Items) → or_shape (as_array d) ≡ Ok ds → d ≡ array ds
array_is (array es) ds h = ap array (only (Ok es) es ds refl h)
array_is d ds h = cc

pub number_there : (o : Option Data) (n : ℕ) → or_shape (option_and_then whole o) ≡ Ok n → o ≡ Some (whole_data n)
number_there = there whole whole_data whole_is

or_null_there : (o : Option Data) (n : Option ℕ) → or_shape (option_and_then whole_or_null o) ≡ Ok n → o ≡ Some (or_null n)
or_null_there = there whole_or_null or_null or_null_is

pub flag_there : (o : Option Data) (b : Bool) → or_shape (option_and_then as_bool o) ≡ Ok b → o ≡ Some (boolean b)
flag_there = there as_bool boolean flag_is

pub text_there : (o : Option Data) (s : List ℕ) → or_shape (option_and_then as_str o) ≡ Ok s → o ≡ Some (string s)
text_there = there as_str string text_is

pub items_there : (o : Option Data) (ds : Items) → or_shape (option_and_then as_array o) ≡ Ok ds → o ≡ Some (array ds)
items_there = there as_array array array_is

list_there : (o : Option Data) (ds : List Data) → or_shape (option_map items_list (option_and_then as_array o)) ≡ Ok ds
    → (items : Items) × (o ≡ Some (array items)) × (items_list items ≡ ds)
list_there o ds h =
    let found = mapped_there items_list (option_and_then as_array o) ds h in (found.0, items_there o found.0 (ap or_shape found.1), found.2)

pub value_there : {A : Type 0} (o : Option A) (a : A) → or_shape o ≡ Ok a → o ≡ Some a
value_there None a h = cc
value_there (Some b) a h = ap Some (only (Ok b) b a refl h)

-- ---- entries

-- an array of so many items
array_of : (n : ℕ) (d : Data) (u : Unit {0}) → has_items (suc n) d ≡ Ok u → (ds : Items) × (d ≡ array ds) × (items_len ds ≡ suc n)
array_of n (array ds) u h = (ds, refl, counted (items_len ds) (suc n) u h)
array_of n d u h = let none = counted 0 (suc n) u h in absurd (omega arith)

two : (ds : Items) (a b : Data) → items_len ds ≡ 2 → get_item 0 ds ≡ Some a → get_item 1 ds ≡ Some b → ds ≡ item a (item b no_items)
two (item x (item y no_items)) a b len e0 e1 = cc
two ds a b len e0 e1 = absurd (omega arith)

four : (ds : Items) (a b c d : Data) → items_len ds ≡ 4 → get_item 0 ds ≡ Some a → get_item 1 ds ≡ Some b → get_item 2 ds ≡ Some c
    → get_item 3 ds ≡ Some d → ds ≡ item a (item b (item c (item d no_items)))
four (item x (item y (item z (item w no_items)))) a b c d len e0 e1 e2 e3 = cc
four ds a b c d len e0 e1 e2 e3 = absurd (omega arith)

port_entry_known : (d : Data) (e : PortEntryDraft) → port_entry_shape as_json d ≡ Ok e → d ≡ port_entry_value e
port_entry_known d e h =
    let has = port_entry_has as_json d e h in
    let items = array_of 1 d tt has.only in
    let same = λ (i : ℕ). ap (at i) (sym items.1) in
    items.1 ∙ ap array (two items.0 _ _ items.2 (same 0 ∙ number_there _ _ has.gates) (same 1 ∙ number_there _ _ has.interval))

gate_entry_known : (d : Data) (e : GateEntryDraft) → gate_entry_shape as_json d ≡ Ok e → d ≡ gate_entry_value e
gate_entry_known d e h =
    let has = gate_entry_has as_json d e h in
    let items = array_of 3 d tt has.only in
    let same = λ (i : ℕ). ap (at i) (sym items.1) in
    items.1 ∙ ap array (four items.0 _ _ _ _ items.2 (same 0 ∙ flag_there _ _ has.is_open) (same 1 ∙ or_null_there _ _ has.ipv)
    (same 2 ∙ number_there _ _ has.interval) (same 3 ∙ or_null_there _ _ has.octets))

each_known : {E : Type 0} (shape : Data → Result E Unread) (value : E → Data) → ((d : Data) (e : E) → shape d ≡ Ok e → d ≡ value e)
    → (ds : Items) (es : List E) → each shape (items_list ds) ≡ Ok es → ds ≡ items_of (map value es)
each_known shape value one no_items es h = ap (λ l. items_of (map value l)) (only (Ok []) [] es refl h)
each_known shape value one (item d ds) es h =
    steps (shape d) _ es h (λ first first_is first_next.
    steps (each shape (items_list ds)) _ es first_next (λ rest rest_is rest_next.
    ap₂ item (one d first first_is) (each_known shape value one ds rest rest_is)
    ∙ ap (λ l. items_of (map value l)) (only (Ok (first ∷ rest)) (first ∷ rest) es refl rest_next)))

-- ---- records

-- the members that are read are held under their names
abbrev AreHeld : Data → List (List ℕ × Allowed) → List MemberDraft → Type 0
AreHeld d [] vs = ⊤
AreHeld d (row ∷ rows) [] = ⊤
AreHeld d (row ∷ rows) (v ∷ vs) = (get row.0 d ≡ Some (member_data v)) × AreHeld d rows vs

list_known : {E : Type 0} (shape : Data → Result E Unread) (value : E → Data) → ((d : Data) (e : E) → shape d ≡ Ok e → d ≡ value e)
    → (found : Option Data) (es : List E) → list_shape as_json shape found ≡ Ok es → found ≡ Some (list_array value es)
list_known shape value one found es h =
    steps (as_json.items found) _ es h (λ ds ds_is ds_next.
    let here = list_there found ds ds_is in
    here.1 ∙ ap (λ l. Some (array l)) (each_known shape value one here.0 es (ap (each shape) here.2 ∙ ds_next)))

member_known : (kind : Kind) (row : Allowed) (found : Option Data) (v : MemberDraft) → member_shape as_json kind row found ≡ Ok v
    → found ≡ Some (member_data v)
unfolding member_shape
member_known kind (allowed.Number least most) found v h =
    last_step (as_json.number found) v (λ x. found ≡ Some (member_data x)) Number h (λ n is. number_there found n is)
member_known kind (allowed.NumberOrNone least most) found v h =
    last_step (as_json.number_or_none found) v (λ x. found ≡ Some (member_data x)) Maybe h (λ o is. or_null_there found o is)
member_known kind allowed.Flag found v h =
    last_step (as_json.flag found) v (λ x. found ≡ Some (member_data x)) Flag h (λ b is. flag_there found b is)
member_known kinds.Port (allowed.List most) found v h =
    last_step (list_shape as_json (port_entry_shape as_json) found) v (λ x. found ≡ Some (member_data x)) PortList h
    (λ es is. list_known (port_entry_shape as_json) port_entry_value port_entry_known found es is)
member_known kinds.Gate (allowed.List most) found v h =
    last_step (list_shape as_json (gate_entry_shape as_json) found) v (λ x. found ≡ Some (member_data x)) GateList h
    (λ es is. list_known (gate_entry_shape as_json) gate_entry_value gate_entry_known found es is)
member_known kind row found v h = cc

members_known : (kind : Kind) (d : Data) (rows : List (List ℕ × Allowed)) (vs : List MemberDraft)
    → each (λ row. member_shape as_json kind row.1 (get row.0 d)) rows ≡ Ok vs → AreHeld d rows vs
members_known kind d [] vs h = tt
members_known kind d (row ∷ rows) vs h =
    steps (member_shape as_json kind row.1 (get row.0 d)) _ vs h (λ v v_is v_next.
    last_step (each (λ r. member_shape as_json kind r.1 (get r.0 d)) rows) vs (AreHeld d (row ∷ rows)) (λ ws. v ∷ ws) v_next
    (λ ws ws_is. (member_known kind row.1 (get row.0 d) v v_is, members_known kind d rows ws ws_is)))

-- a member more that is held
holds_put : (d : Data) (k : List ℕ) (e : Data) (ms : Members) → get k d ≡ Some e → Holds d ms → Holds d (put k e ms)
holds_put d k e no_members here held = (here, tt)
holds_put d k e (member l f ms) here held =
    at_order (Holds d) (order k l) (member k e (member l f ms)) (member l e ms) (member l f (put k e ms)) (λ _. (here, held))
    (λ is. (subst (λ n. get n d ≡ Some e) (same_name k l is) here, held.1)) (λ _. (held.0, holds_put d k e ms here held.1))

holds_named : (d : Data) (rows : List (List ℕ × Allowed)) (vs : List MemberDraft) → AreHeld d rows vs
    → Holds d (named rows (map member_data vs))
holds_named d [] vs h = tt
holds_named d (row ∷ rows) [] h = tt
holds_named d (row ∷ rows) (v ∷ vs) h =
    holds_put d row.0 (member_data v) (named rows (map member_data vs)) h.0 (holds_named d rows vs h.1)

-- the members of a record's object rise
pub record_rises : (r : RecordDraft) → Rise (members_of (draft_data r))
record_rises (records.Port r) = assumption
record_rises r = assumption

record_is : (d : Data) (r : RecordDraft) → IsOrdered d → RecordHas as_json (kind_of_draft r) d r
    → Holds d (members_of (draft_data r)) → d ≡ draft_data r
record_is d (records.Port r) ordered has held =
    whole_object 4 d (members_of (draft_data (records.Port r))) tt ordered has.only refl (record_rises (records.Port r)) held
record_is d (records.Filter r) ordered has held =
    whole_object 5 d (members_of (draft_data (records.Filter r))) tt ordered has.only refl (record_rises (records.Filter r)) held
record_is d (records.Gate r) ordered has held =
    whole_object 7 d (members_of (draft_data (records.Gate r))) tt ordered has.only refl (record_rises (records.Gate r)) held
record_is d (records.Meter r) ordered has held =
    whole_object 7 d (members_of (draft_data (records.Meter r))) tt ordered has.only refl (record_rises (records.Meter r)) held

-- a value of the shape of a record is the record's
pub record_known : (kind : Kind) (d : Data) (r : RecordDraft) → IsOrdered d → record_shape as_json kind d ≡ Ok r → d ≡ draft_data r
record_known kind d r ordered h =
    let has = record_has as_json kind d r h in
    let same : RecordHas as_json (kind_of_draft r) d r = subst (λ k. RecordHas as_json k d r) (sym has.of) has in
    record_is d r ordered same
    (holds_named d (rows_of (kind_of_draft r)) (values_of r) (members_known (kind_of_draft r) d (rows_of (kind_of_draft r)) (values_of r)
    same.members))
