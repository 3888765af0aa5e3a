-- Documents in the plain spelling: the limits, then one table after another.
use Rattle.std.proofs.Common.{◌≡◌, ℕ, suc, ◌-◌, ◌<◌, List, [], ◌∷◌, ◌++◌, map, Bool, true, false, ◌==◌, ◌||◌, length, Option, Some, None, option_map, Ok, refl, sym, ap, subst, ◌∙◌, arith}
use Rattle.std.proofs.lemmas.List.Folds.{list_any-append}
use Rattle.std.specs.Str.{bytes_eq, is_utf8}
use Rattle.toml_parser.specs.Lexical.{first, skip_blank}
use Rattle.toml.specs.Data.{Data, array, table, Items, no_items, push_item, Members, get_member}
use Rattle.toml.specs.Tables.{Node, value, open_table, open_array, Nodes, no_nodes, get_node, insert, replace, close_node, close, along_header, array_table, at_key, define}
use Rattle.toml.specs.Parse.{line, lines, skip_bom}
use Rattle.toml.proofs.NodeLaws.{get_node-insert, get_node-replace, replace-replace, replace-self, along_found}
use Rattle.toml.proofs.Turns.{lines_end, lines_more, document_some}
use Rattle.tsn_types.specs.declared.keys.Kind.{Kind}
use Rattle.tsn_types.specs.declared.keys.Kind.TheVariants as kinds
use Rattle.tsn_records.specs.Answers.{each}
use Rattle.tsn_records.specs.Keys.{kind_text}
use Rattle.tsn_records.specs.Members.{setup_names}
use Rattle.tsn_setup.specs.Tables.{table_shape, limits_shape, tables_of_kind, tables_shape}
use Rattle.tsn_setup.specs.Toml.{are_among, items_list}
use Rattle.tsn_setup.specs.Setups.{document_of, setup_shape}
use Rattle.tsn_setup.specs.Plain.{tables, tables_given, Trays, tray_at, put_tray, names, Tells, Frames, ReadsLines, IsArray, ReadsDocument, ReadsTableOf, ReadsWhole}
use Rattle.tsn_setup.specs.PlainTrays.{limits_trays, whole_trays, document_trays}
use Rattle.tsn_setup.specs.declared.drafts.LimitsDraft.{LimitsDraft}
use Rattle.tsn_setup.specs.declared.drafts.TableDraft.{TableDraft}
use Rattle.tsn_setup.specs.declared.plain_documents.DocumentTables.{DocumentTables}
use Rattle.tsn_setup.proofs.Filling.{closed_at, Changes, replaced, told_after, no_node, insert_other, replace_other, told_tray}
use Rattle.tsn_records.proofs.Pairs.{◌&◌}
use Rattle.tsn_records.proofs.NameOrder.{same_bytes, same_text}
use Rattle.tsn_setup.proofs.Rows.{is_among, known_at, other_member, all_among}
use Rattle.tsn_setup.proofs.Told.{only}
use Rattle.tsn_setup.proofs.Turning.{each_last, items_pushed}

-- ---- the table under a header

-- the document around the last table of a kind
abbrev around : List ℕ → Nodes → Items → Nodes → Nodes
around k root done ns = replace k (open_array done ns) root

framed_at : (k : List ℕ) (root : Nodes) (done : Items) (ns : Nodes) (o : Option Nodes)
    → option_map (λ new. replace k new (around k root done ns)) (option_map (open_array done) o) ≡ option_map (around k root done) o
framed_at k root done ns None = refl
framed_at k root done ns (Some m) = ap Some (replace-replace k (open_array done ns) (open_array done m) root)

around_frames : (k : List ℕ) (root : Nodes) (done : Items) (x : Node) → get_node k root ≡ Some x → Frames (k ∷ []) (around k root done)
unfolding along_header
around_frames k root done x there edit ns =
    along_found k [] edit (around k root done ns) (open_array done ns) (get_node-replace k (open_array done ns) root x there)
    ∙ framed_at k root done ns (edit ns)

-- the array that a header opens, where there was one or none
pub record Opens (kind : Kind) (root : Nodes) (ts : List TableDraft) : Type 0 where
  pub opened : Nodes
  pub done : Items
  pub step : at_key (kind_text kind) array_table root ≡ Some opened
  pub here : get_node (kind_text kind) opened ≡ Some (open_array done no_nodes)
  pub others : (l : List ℕ) → (l ≡ kind_text kind → ⊥) → get_node l opened ≡ get_node l root
  pub shaped : each (table_shape kind) (items_list done) ≡ Ok ts

opening_at : (kind : Kind) (root : Nodes) (ts : List TableDraft) (o : Option Node) → get_node (kind_text kind) root ≡ o → IsArray o
    → tables_given kind (option_map close_node o) ≡ Ok ts → Opens kind root ts
unfolding at_key
opening_at kind root ts None is may told = record {
  opened = insert (kind_text kind) (open_array no_items no_nodes) root;
  done = no_items;
  step = rw is refl;
  here = get_node-insert (kind_text kind) (open_array no_items no_nodes) root;
  others = λ l other. insert_other l (kind_text kind) (open_array no_items no_nodes) root other;
  shaped = told;
}
opening_at kind root ts (Some (value d)) is may told = absurd may
opening_at kind root ts (Some (open_table origin inner)) is may told = absurd may
opening_at kind root ts (Some (open_array done last)) is may told =
    let all = push_item done (table (close last)) in
    record {
      opened = replace (kind_text kind) (open_array all no_nodes) root;
      done = all;
      step = rw is refl;
      here = get_node-replace (kind_text kind) (open_array all no_nodes) root (open_array done last) is;
      others = λ l other. replace_other l (kind_text kind) (open_array all no_nodes) root other;
      shaped = told;
    }

opening : (kind : Kind) (root : Nodes) (ts : List TableDraft) → IsArray (get_node (kind_text kind) root)
    → tables_given kind (get_member (kind_text kind) (close root)) ≡ Ok ts → Opens kind root ts
opening kind root ts may told =
    opening_at kind root ts (get_node (kind_text kind) root) refl may
    (ap (tables_given kind) (sym (closed_at (kind_text kind) root)) ∙ told)

-- ---- one table more

header_defined : (k : List ℕ) (root opened : Nodes) (path : List (List ℕ)) → at_key k array_table root ≡ Some opened
    → define (root, path) (([], k), array_table) ≡ Some (opened, k ∷ [])
unfolding define along_header
header_defined k root opened path step = rw step refl

-- the members around one table more of a kind
around_changes : (kind : Kind) (root : Nodes) (ts : List TableDraft) (o : Opens kind root ts) (found : Nodes)
    → Changes (kind_text kind) (array (push_item o.done (table (close found)))) (close root)
    (close (around (kind_text kind) o.opened o.done found))
around_changes kind root ts o found =
    let change = replaced (kind_text kind) (open_array o.done found) (open_array o.done no_nodes) o.opened o.here in
    record {
      here = change.here;
      others =
          λ l other. change.others l other ∙ closed_at l o.opened ∙ ap (option_map close_node) (o.others l other) ∙ sym (closed_at l root);
    }

array_still : (b : Bool) (k l : List ℕ) (root opened : Nodes) (done : Items) (found : Nodes) (x : Node) → bytes_eq l k ≡ b
    → get_node k opened ≡ Some x → ((m : List ℕ) → (m ≡ k → ⊥) → get_node m opened ≡ get_node m root) → IsArray (get_node l root)
    → IsArray (get_node l (around k opened done found))
array_still true k l root opened done found x is here others may =
    let same = same_text l k is in
    subst (λ n. IsArray (get_node n (around k opened done found))) (sym same)
    (subst IsArray (sym (get_node-replace k (open_array done found) opened x here)) tt)
array_still false k l root opened done found x is here others may =
    let apart : l ≡ k → ⊥ = λ same. let equal = same_bytes l k same in cc in
    subst IsArray (sym (replace_other l k (open_array done found) opened apart ∙ others l apart)) may

pub table_added : (text : List ℕ) (trays : Trays) (rest behind after : List ℕ) (kind : Kind) (ts : List TableDraft) (draft : TableDraft)
    → ReadsDocument text trays rest → (length (skip_blank rest) == 0) ≡ false
    → line (skip_blank rest) ≡ Some ((([], kind_text kind), array_table), behind) → length behind < length rest
    → ReadsTableOf kind behind draft after → tray_at (kind_text kind) trays ≡ Some (tables kind ts)
    → ReadsDocument text (put_tray (kind_text kind) (tables kind (ts ++ draft ∷ [])) trays) after
table_added text trays rest behind after kind ts draft so some head shorter t at =
    let k = kind_text kind in
    let told = told_tray trays k (tables kind ts) (close so.root) at so.tells.tells in
    let o : Opens kind so.root ts = opening kind so.root ts (so.arrays kind) told in
    let lead = so.leads in
    let step = lines_more lead.turns (so.root, so.path) _ rest _ behind (omega (arith, lead.room)) some head
    (header_defined k so.root o.opened so.path o.step) in
    let inner = t.leads (k ∷ []) (around k o.opened o.done) (around_frames k o.opened o.done (open_array o.done no_nodes) o.here)
    (lead.turns - 1) (omega (arith, lead.room, shorter)) in
    let begins : lines (lead.turns - 1) (o.opened, k ∷ []) behind ≡ lines (lead.turns - 1) (around k o.opened o.done no_nodes, k ∷ [])
    behind =
    ap (λ ns. lines (lead.turns - 1) (ns, k ∷ []) behind) (sym (replace-self k (open_array o.done no_nodes) o.opened o.here)) in
    let full : tables_given kind (Some (array (push_item o.done (table (close t.found))))) ≡ Ok (ts ++ draft ∷ []) =
    ap (each (table_shape kind)) (items_pushed o.done (table (close t.found)))
    ∙ each_last (table_shape kind) (items_list o.done) ts (table (close t.found)) draft o.shaped t.shaped in
    record {
      root = around k o.opened o.done t.found;
      path = k ∷ [];
      leads = record { turns = inner.turns; room = inner.room; same = lead.same ∙ step ∙ begins ∙ inner.same };
      tells = told_after trays k (tables kind ts) (tables kind (ts ++ draft ∷ [])) _ (close so.root) _
          (around_changes kind so.root ts o t.found) at full so.tells;
      arrays = λ other. array_still (bytes_eq (kind_text other) k) k (kind_text other) so.root o.opened o.done t.found _ refl o.here
          o.others (so.arrays other);
    }

-- ---- the beginning and the end

as_it_is : (o : Option Nodes) → o ≡ option_map (λ ns. ns) o
as_it_is None = refl
as_it_is (Some x) = refl

whole_frames : Frames [] (λ ns. ns)
unfolding along_header
whole_frames edit ns = as_it_is (edit ns)

missing : (l : LimitsDraft) (kind : Kind) (ms : Members) → are_among (names (limits_trays l)) ms ≡ true
    → get_member (kind_text kind) ms ≡ None
missing l kinds.Port ms only = other_member (names (limits_trays l)) ms (kind_text kinds.Port) only refl
missing l kind ms only = other_member (names (limits_trays l)) ms (kind_text kind) only refl

wider : (xs ys : List (List ℕ)) (ms : Members) → are_among xs ms ≡ true → are_among (xs ++ ys) ms ≡ true
wider xs ys ms only = all_among (xs ++ ys) ms (λ k there.
    list_any-append (λ name. bytes_eq name k) xs ys
    ∙ ap (λ b. b || is_among ys k) (known_at (is_among xs k) xs ms k refl only there))

tells_joined : (ms : Members) (a b : Trays) → Tells ms a → Tells ms b → Tells ms (a ++ b)
tells_joined ms [] b first_ones others = others
tells_joined ms (s ∷ a) b first_ones others = (first_ones.0, tells_joined ms a b first_ones.1 others)

-- limits, and no tables
pub document_begun : (text rest : List ℕ) (l : LimitsDraft) → ReadsLines text (limits_trays l) rest
    → ReadsDocument text (whole_trays l (λ kind. [])) rest
document_begun text rest l read =
    let found = close read.found in
    let none = λ (kind : Kind). missing l kind found read.tells.only in
    let no_tables = λ (kind : Kind). ap (tables_given kind) (none kind) in
    let more : Trays = map (λ kind. (kind_text kind, tables kind [])) (kinds.Port ∷ kinds.Filter ∷ kinds.Gate ∷ kinds.Meter ∷ []) in
    record {
      root = read.found;
      path = [];
      leads = read.leads [] (λ ns. ns) whole_frames (suc (length text)) (omega arith);
      tells = record {
        tells = tells_joined found (limits_trays l) more read.tells.tells
            (no_tables kinds.Port & no_tables kinds.Filter & no_tables kinds.Gate & no_tables kinds.Meter & tt);
        only = wider (names (limits_trays l)) (names more) found read.tells.only;
      };
      arrays = λ kind.
          let empty = no_node (get_node (kind_text kind) read.found) (sym (closed_at (kind_text kind) read.found) ∙ none kind) in
          subst IsArray (sym empty) tt;
    }

-- the trays of what has no tables yet
pub none_yet : (l : LimitsDraft) (t : DocumentTables) → t.ports.items ≡ [] → t.filters.items ≡ [] → t.gates.items ≡ []
    → t.meters.items ≡ [] → whole_trays l (λ kind. []) ≡ document_trays l t
none_yet l t p f g m = λ i. limits_trays l
    ++ (kind_text kinds.Port, tables kinds.Port (sym p i)) ∷
    (kind_text kinds.Filter, tables kinds.Filter (sym f i)) ∷
    (kind_text kinds.Gate, tables kinds.Gate (sym g i)) ∷
    (kind_text kinds.Meter, tables kinds.Meter (sym m i)) ∷ []

no_mark : (text : List ℕ) → (first text == 0xEF) ≡ false → skip_bom text ≡ text
unfolding skip_bom
no_mark text other = rw other refl

pub document_ended : (text : List ℕ) (trays : Trays) (rest : List ℕ) → ReadsDocument text trays rest → length (skip_blank rest) ≡ 0
    → (first text == 0xEF) ≡ false → ReadsWhole text trays
document_ended text trays rest so ends other =
    let lead = so.leads in
    let all : lines (suc (length text)) (no_nodes, []) text ≡ Some (so.root, so.path) = lead.same
    ∙ lines_end lead.turns (so.root, so.path) rest (omega (arith, lead.room)) ends in
    record {
      found = close so.root;
      reads = document_some text (so.root, so.path) (ap (lines (suc (length text)) (no_nodes, [])) (no_mark text other) ∙ all);
      tells = so.tells;
    }

-- ---- the shape of the whole

pub document_shaped : (text : List ℕ) (l : LimitsDraft) (ts : Kind → List TableDraft) (all : List TableDraft) → is_utf8 text ≡ true
    → ReadsWhole text (whole_trays l ts) → all ≡ ts kinds.Port ++ ts kinds.Filter ++ ts kinds.Gate ++ ts kinds.Meter
    → (d : Data) × ((document_of text ≡ Some d) × (setup_shape d ≡ Ok (l, all)))
unfolding setup_shape limits_shape tables_shape tables_of_kind
document_shaped text l ts all utf8 read is =
    let told = read.tells.tells in (
      table read.found,
      (
        rw (utf8, read.reads) refl,
        rw (
          only setup_names read.found read.tells.only,
          told.0,
          told.1.0,
          told.1.1.0,
          told.1.1.1.0,
          told.1.1.1.1.0,
          told.1.1.1.1.1.0,
          told.1.1.1.1.1.1.0,
          told.1.1.1.1.1.1.1.0,
          told.1.1.1.1.1.1.1.1.0,
          is,
        ) refl,
      ),
    )

-- the tray of a kind
pub own_tray : (kind : Kind) (l : LimitsDraft) (ts : Kind → List TableDraft)
    → tray_at (kind_text kind) (whole_trays l ts) ≡ Some (tables kind (ts kind))
own_tray kinds.Port l ts = refl
own_tray kind l ts = refl
