-- What a document is read as holds the members of each table in ascending order of their names.
use Rattle.std.proofs.Common.{◌≡◌, ℕ, zero, suc, List, [], ◌∷◌, ◌&&◌, ◌==◌, Bool, true, false, cond, Option, Some, None, IfSome, option_map, Less, refl, subst, drop, length, slice_index}
use Rattle.std.specs.Prelude.{⊤}
use Rattle.std.specs.Str.{is_utf8}
use Rattle.std.proofs.lemmas.Cmp.{nat_list_cmp_total}
use Rattle.toml_parser.specs.Lexical.{Read, left_bracket, left_brace, right_bracket, right_brace, first, skip_ws, skip_blank}
use Rattle.toml_parser.specs.Strings.{Key, quoted, starts_string, recursion_limit}
use Rattle.toml_parser.specs.Numbers.{unquoted}
use Rattle.toml_parser.specs.declared.scalar.Scalar.{Scalar}
use Rattle.toml_parser.specs.declared.scalar.Scalar.TheVariants.{Boolean}
use Rattle.toml.specs.Data.{Data, array, table, Items, no_items, item, Members, no_members, member, same_key, push_item}
use Rattle.toml.specs.Parse.{after_byte, after_element, key_equals, keyval, items, members, scalar_data, atom, val, header_key, expression, ends_line, line, lines, skip_bom, parse_document}
use Rattle.toml.specs.Tables.{Origin, implicit, dotted, Node, value, open_table, open_array, Nodes, no_nodes, node, get_node, insert, replace, close_node, close, Edit, header_node, dot_node, by_header, by_dot, along_header, along_dots, Definition, key_value, std_table, array_table, Expression, new_node, redefine, at_found, at_key, put, Document, define_as, define}
use Rattle.tsn_records.proofs.NameOrder.{any, at_order, if_and_then, if_cond, if_map, order, turned}
use Rattle.tsn_setup.specs.Setups.{document_of}

-- every name is above k
abbrev pub Above : List ℕ → Members → Type 0
Above k no_members = ⊤
Above k (member l e ms) = (order k l ≡ Less) × Above k ms

-- each name is below those after it, also in the tables inside
abbrev mutual
  pub IsOrdered : Data → Type 0
  IsOrdered (array ds) = EachOrdered ds
  IsOrdered (table ms) = AreOrdered ms
  IsOrdered d = ⊤

  pub EachOrdered : Items → Type 0
  EachOrdered no_items = ⊤
  EachOrdered (item d ds) = IsOrdered d × EachOrdered ds

  pub AreOrdered : Members → Type 0
  AreOrdered no_members = ⊤
  AreOrdered (member k d ms) = Above k ms × (IsOrdered d × AreOrdered ms)

pub above_below : (k l : List ℕ) (ms : Members) → order k l ≡ Less → Above l ms → Above k ms
above_below k l no_members less h = tt
above_below k l (member m e ms) less h = (nat_list_cmp_total.trans k l m less h.0, above_below k l ms less h.1)

pushed : (ds : Items) (e : Data) → EachOrdered ds → IsOrdered e → EachOrdered (push_item ds e)
pushed no_items e h x = (x, tt)
pushed (item d ds) e h x = (h.0, pushed ds e h.1 x)

-- ---- nodes while a text is read

abbrev NodesAbove : List ℕ → Nodes → Type 0
NodesAbove k no_nodes = ⊤
NodesAbove k (node l x ns) = (order k l ≡ Less) × NodesAbove k ns

abbrev mutual
  NodeOrdered : Node → Type 0
  NodeOrdered (value d) = IsOrdered d
  NodeOrdered (open_table origin ns) = NodesOrdered ns
  NodeOrdered (open_array done ns) = EachOrdered done × NodesOrdered ns

  NodesOrdered : Nodes → Type 0
  NodesOrdered no_nodes = ⊤
  NodesOrdered (node k x ns) = NodesAbove k ns × (NodeOrdered x × NodesOrdered ns)

nodes_above_below : (k l : List ℕ) (ns : Nodes) → order k l ≡ Less → NodesAbove l ns → NodesAbove k ns
nodes_above_below k l no_nodes less h = tt
nodes_above_below k l (node m x ns) less h = (nat_list_cmp_total.trans k l m less h.0, nodes_above_below k l ns less h.1)

closed_above : (k : List ℕ) (ns : Nodes) → NodesAbove k ns → Above k (close ns)
closed_above k no_nodes h = tt
closed_above k (node l x ns) h = (h.0, closed_above k ns h.1)

mutual
  node_closed : (x : Node) → NodeOrdered x → IsOrdered (close_node x)
  node_closed (value d) h = h
  node_closed (open_table origin ns) h = closed ns h
  node_closed (open_array done ns) h = pushed done (table (close ns)) h.0 (closed ns h.1)

  closed : (ns : Nodes) → NodesOrdered ns → AreOrdered (close ns)
  closed no_nodes h = tt
  closed (node k x ns) h = (closed_above k ns h.0, (node_closed x h.1.0, closed ns h.1.1))

by_flag : {A : Type 0} (P : A → Type 0) (b : Bool) (x y : A) → P x → P y → P (cond b x y)
by_flag P true x y here later = here
by_flag P false x y here later = later

above_inserted : (l k : List ℕ) (x : Node) (ns : Nodes) → order l k ≡ Less → NodesAbove l ns → NodesAbove l (insert k x ns)
above_inserted l k x no_nodes less h = (less, tt)
above_inserted l k x (node m y ns) less h =
    at_order (NodesAbove l) (order k m) (node k x (node m y ns)) (node m x ns) (node m y (insert k x ns))
    (λ _. (less, h)) (λ _. h) (λ _. (h.0, above_inserted l k x ns less h.1))

inserted : (k : List ℕ) (x : Node) (ns : Nodes) → NodeOrdered x → NodesOrdered ns → NodesOrdered (insert k x ns)
inserted k x no_nodes fits h = (tt, (fits, tt))
inserted k x (node l y ns) fits h =
    at_order NodesOrdered (order k l) (node k x (node l y ns)) (node l x ns) (node l y (insert k x ns))
    (λ is. ((is, nodes_above_below k l ns is h.0), (fits, h))) (λ is. (h.0, (fits, h.1.1)))
    (λ is. (above_inserted l k x ns (turned k l is) h.0, (h.1.0, inserted k x ns fits h.1.1)))

above_replaced : (l k : List ℕ) (x : Node) (ns : Nodes) → NodesAbove l ns → NodesAbove l (replace k x ns)
above_replaced l k x no_nodes h = tt
above_replaced l k x (node m y ns) h =
    by_flag (NodesAbove l) (same_key k m) (node m x ns) (node m y (replace k x ns)) h (h.0, above_replaced l k x ns h.1)

replaced : (k : List ℕ) (x : Node) (ns : Nodes) → NodeOrdered x → NodesOrdered ns → NodesOrdered (replace k x ns)
replaced k x no_nodes fits h = tt
replaced k x (node l y ns) fits h =
    by_flag NodesOrdered (same_key k l) (node l x ns) (node l y (replace k x ns)) (h.0, (fits, h.1.1))
    (above_replaced l k x ns h.0, (h.1.0, replaced k x ns fits h.1.1))

got : (k : List ℕ) (ns : Nodes) → NodesOrdered ns → IfSome (get_node k ns) NodeOrdered
got k no_nodes h = tt
got k (node l y ns) h = if_cond NodeOrdered (same_key k l) (Some y) (get_node k ns) h.1.0 (got k ns h.1.1)

-- ---- edits

abbrev Keeps : Edit → Type 0
Keeps edit = (ns : Nodes) → NodesOrdered ns → IfSome (edit ns) NodesOrdered

header_kept : (edit : Edit) → Keeps edit → (x : Node) → NodeOrdered x → IfSome (header_node edit x) NodeOrdered
header_kept edit keeps (value d) h = tt
header_kept edit keeps (open_table origin ns) h =
    if_map NodesOrdered NodeOrdered (open_table origin) (λ a fits. fits) (edit ns) (keeps ns h)
header_kept edit keeps (open_array done ns) h =
    if_map NodesOrdered NodeOrdered (open_array done) (λ a fits. (h.0, fits)) (edit ns) (keeps ns h.1)

dots_kept : (edit : Edit) → Keeps edit → (x : Node) → NodeOrdered x → IfSome (dot_node edit x) NodeOrdered
dots_kept edit keeps (open_table implicit ns) h =
    if_map NodesOrdered NodeOrdered (open_table dotted) (λ a fits. fits) (edit ns) (keeps ns h)
dots_kept edit keeps (open_table dotted ns) h = if_map NodesOrdered NodeOrdered (open_table dotted) (λ a fits. fits) (edit ns) (keeps ns h)
dots_kept edit keeps x h = tt

-- a table that is begun, or a node that is edited, where it belongs
begun_kept : (k : List ℕ) (origin : Origin) (edit : Edit) (ns : Nodes) → Keeps edit → NodesOrdered ns
    → IfSome (option_map (λ new. insert k (open_table origin new) ns) (edit no_nodes)) NodesOrdered
begun_kept k origin edit ns keeps h =
    if_map NodesOrdered NodesOrdered _ (λ a fits. inserted k (open_table origin a) ns fits h) (edit no_nodes) (keeps no_nodes tt)

edited_kept : (k : List ℕ) (ns : Nodes) (o : Option Node) → NodesOrdered ns → IfSome o NodeOrdered
    → IfSome (option_map (λ new. replace k new ns) o) NodesOrdered
edited_kept k ns o h there = if_map NodeOrdered NodesOrdered _ (λ a fits. replaced k a ns fits h) o there

by_header_kept : (k : List ℕ) (edit : Edit) (ns : Nodes) (o : Option Node) → Keeps edit → NodesOrdered ns → IfSome o NodeOrdered
    → IfSome (by_header k edit ns o) NodesOrdered
by_header_kept k edit ns None keeps h there = begun_kept k implicit edit ns keeps h
by_header_kept k edit ns (Some x) keeps h there = edited_kept k ns (header_node edit x) h (header_kept edit keeps x there)

by_dot_kept : (k : List ℕ) (edit : Edit) (ns : Nodes) (o : Option Node) → Keeps edit → NodesOrdered ns → IfSome o NodeOrdered
    → IfSome (by_dot k edit ns o) NodesOrdered
by_dot_kept k edit ns None keeps h there = begun_kept k dotted edit ns keeps h
by_dot_kept k edit ns (Some x) keeps h there = edited_kept k ns (dot_node edit x) h (dots_kept edit keeps x there)

along_header_kept : (path : List (List ℕ)) (edit : Edit) → Keeps edit → Keeps (along_header path edit)
unfolding along_header
along_header_kept [] edit keeps ns h = keeps ns h
along_header_kept (k ∷ path) edit keeps ns h =
    by_header_kept k (along_header path edit) ns (get_node k ns) (along_header_kept path edit keeps) h (got k ns h)

along_dots_kept : (path : List (List ℕ)) (edit : Edit) → Keeps edit → Keeps (along_dots path edit)
unfolding along_dots
along_dots_kept [] edit keeps ns h = keeps ns h
along_dots_kept (k ∷ path) edit keeps ns h =
    by_dot_kept k (along_dots path edit) ns (get_node k ns) (along_dots_kept path edit keeps) h (got k ns h)

abbrev DefinesOrdered : Definition → Type 0
DefinesOrdered (key_value d) = IsOrdered d
DefinesOrdered std_table = ⊤
DefinesOrdered array_table = ⊤

new_ordered : (what : Definition) → DefinesOrdered what → NodeOrdered (new_node what)
new_ordered (key_value d) h = h
new_ordered std_table h = tt
new_ordered array_table h = (tt, tt)

redefined : (what : Definition) (x : Node) → NodeOrdered x → IfSome (redefine what x) NodeOrdered
redefined std_table (open_table implicit ns) h = h
redefined array_table (open_array done ns) h = (pushed done (table (close ns)) h.0 (closed ns h.1), tt)
redefined _ _ h = tt

found_kept : (k : List ℕ) (what : Definition) (ns : Nodes) (o : Option Node) → DefinesOrdered what → NodesOrdered ns → IfSome o NodeOrdered
    → IfSome (at_found k what ns o) NodesOrdered
found_kept k what ns None defines h there = inserted k (new_node what) ns (new_ordered what defines) h
found_kept k what ns (Some x) defines h there = edited_kept k ns (redefine what x) h (redefined what x there)

at_key_kept : (k : List ℕ) (what : Definition) → DefinesOrdered what → Keeps (at_key k what)
unfolding at_key
at_key_kept k what defines ns h = found_kept k what ns (get_node k ns) defines h (got k ns h)

put_kept : (k : Key) (d : Data) → IsOrdered d → Keeps (put k d)
put_kept k d fits = along_dots_kept k.0 (at_key k.1 (key_value d)) (at_key_kept k.1 (key_value d) fits)

-- ---- values

abbrev First : {A B : Type 0} → (A → Type 0) → A × B → Type 0
First P p = P p.0

abbrev ReadsOrdered : (List ℕ → Read Data) → Type 0
ReadsOrdered reads = (text : List ℕ) → IfSome (reads text) (First IsOrdered)

pair_ordered : (reads : List ℕ → Read Data) → ReadsOrdered reads → (text : List ℕ)
    → IfSome (keyval reads text) (λ (p : (Key × Data) × List ℕ). IsOrdered p.0.1)
pair_ordered reads ordered text =
    if_and_then (λ _. ⊤) (λ (p : (Key × Data) × List ℕ). IsOrdered p.0.1) _ (λ k _.
    if_map (First IsOrdered) (λ (p : (Key × Data) × List ℕ). IsOrdered p.0.1) _ (λ a fits. fits) (reads k.1) (ordered k.1))
    (key_equals text) (any (key_equals text))

items_ordered : (reads : List ℕ → Read Data) → ReadsOrdered reads → (n : ℕ) (found : Items) (text : List ℕ) → EachOrdered found
    → IfSome (items reads n found text) (First EachOrdered)
unfolding items
items_ordered reads ordered zero found text h = tt
items_ordered reads ordered (suc n) found text h =
    if_cond (First EachOrdered) (first (skip_blank text) == right_bracket) _ _ h (
    if_and_then (First IsOrdered) (First EachOrdered) _ (λ v fits.
    if_and_then (λ _. ⊤) (First EachOrdered) (items reads n (push_item found v.0))
    (λ rest _. items_ordered reads ordered n (push_item found v.0) rest (pushed found v.0 h fits)) (after_element right_bracket v.1)
    (any (after_element right_bracket v.1)))
    (reads (skip_blank text)) (ordered (skip_blank text)))

members_ordered : (reads : List ℕ → Read Data) → ReadsOrdered reads → (n : ℕ) (found : Nodes) (text : List ℕ) → NodesOrdered found
    → IfSome (members reads n found text) (First AreOrdered)
unfolding members
members_ordered reads ordered zero found text h = tt
members_ordered reads ordered (suc n) found text h =
    let start = skip_blank text in
    if_cond (First AreOrdered) (first start == right_brace) _ _ (closed found h) (
    if_and_then (λ (p : (Key × Data) × List ℕ). IsOrdered p.0.1) (First AreOrdered) _ (λ e fits.
    if_and_then NodesOrdered (First AreOrdered) _ (λ more kept.
    if_and_then (λ _. ⊤) (First AreOrdered) (members reads n more) (λ rest _. members_ordered reads ordered n more rest kept)
    (after_element right_brace e.1) (any (after_element right_brace e.1)))
    (put e.0.0 e.0.1 found) (put_kept e.0.0 e.0.1 fits found h))
    (keyval reads start) (pair_ordered reads ordered start))

scalar_ordered : (s : Scalar) → IsOrdered (scalar_data s)
scalar_ordered (Boolean b) = tt
scalar_ordered s = tt

atom_ordered : ReadsOrdered atom
unfolding atom
atom_ordered text =
    if_cond (First IsOrdered) (starts_string text) _ _
    (if_map (λ _. ⊤) (First IsOrdered) _ (λ a _. tt) (quoted text) (any (quoted text)))
    (if_map (λ _. ⊤) (First IsOrdered) _ (λ a _. scalar_ordered a.0) (unquoted text) (any (unquoted text)))

val_ordered : (depth : ℕ) → ReadsOrdered (val depth)
unfolding val
val_ordered zero text = atom_ordered text
val_ordered (suc depth) text =
    if_cond (First IsOrdered) (first text == left_bracket) _ _
    (if_map (First EachOrdered) (First IsOrdered) _ (λ a fits. fits) (items (val depth) (length text) no_items (drop 1 text))
    (items_ordered (val depth) (val_ordered depth) (length text) no_items (drop 1 text) tt))
    (if_cond (First IsOrdered) (first text == left_brace) _ _
    (if_map (First AreOrdered) (First IsOrdered) _ (λ a fits. fits) (members (val depth) (length text) no_nodes (drop 1 text))
    (members_ordered (val depth) (val_ordered depth) (length text) no_nodes (drop 1 text) tt))
    (atom_ordered text))

-- ---- documents

abbrev SaysOrdered : Expression × List ℕ → Type 0
SaysOrdered e = DefinesOrdered e.0.1

expression_ordered : (text : List ℕ) → IfSome (expression text) SaysOrdered
unfolding expression
expression_ordered text =
    if_cond SaysOrdered (first text == left_bracket && slice_index text 1 == left_bracket) _ _
    (if_and_then (λ _. ⊤) SaysOrdered _
    (λ k _. if_map (λ _. ⊤) SaysOrdered _ (λ a _. tt) (after_byte right_bracket k.1) (any (after_byte right_bracket k.1)))
    (header_key (drop 2 text)) (any (header_key (drop 2 text))))
    (if_cond SaysOrdered (first text == left_bracket) _ _
    (if_map (λ _. ⊤) SaysOrdered _ (λ a _. tt) (header_key (drop 1 text)) (any (header_key (drop 1 text))))
    (if_map (λ (p : (Key × Data) × List ℕ). IsOrdered p.0.1) SaysOrdered _ (λ a fits. fits) (keyval (val recursion_limit) text)
    (pair_ordered (val recursion_limit) (val_ordered recursion_limit) text)))

line_ordered : (text : List ℕ) → IfSome (line text) SaysOrdered
unfolding line
line_ordered text = if_and_then SaysOrdered SaysOrdered _ (λ e fits. if_cond SaysOrdered (ends_line (skip_ws e.1)) (Some e) None fits tt)
    (expression text) (expression_ordered text)

abbrev RootOrdered : Document → Type 0
RootOrdered doc = NodesOrdered doc.0

header_defined : (doc : Document) (k : Key) (what : Definition) → RootOrdered doc → DefinesOrdered what
    → IfSome (along_header k.0 (at_key k.1 what) doc.0) NodesOrdered
header_defined doc k what h defines = along_header_kept k.0 (at_key k.1 what) (at_key_kept k.1 what defines) doc.0 h

defined_as : (doc : Document) (k : Key) (what : Definition) → RootOrdered doc → DefinesOrdered what
    → IfSome (define_as doc k what) RootOrdered
defined_as doc k (key_value d) h fits =
    if_map NodesOrdered RootOrdered _ (λ a kept. kept) (along_header doc.1 (put k d) doc.0)
    (along_header_kept doc.1 (put k d) (put_kept k d fits) doc.0 h)
defined_as doc k std_table h fits =
    if_map NodesOrdered RootOrdered _ (λ a kept. kept) (along_header k.0 (at_key k.1 std_table) doc.0) (header_defined doc k std_table h tt)
defined_as doc k array_table h fits =
    if_map NodesOrdered RootOrdered _ (λ a kept. kept) (along_header k.0 (at_key k.1 array_table) doc.0)
    (header_defined doc k array_table h tt)

defined : (doc : Document) (e : Expression) → RootOrdered doc → DefinesOrdered e.1 → IfSome (define doc e) RootOrdered
unfolding define
defined doc e h fits = defined_as doc e.0 e.1 h fits

lines_ordered : (n : ℕ) (doc : Document) (text : List ℕ) → RootOrdered doc → IfSome (lines n doc text) RootOrdered
unfolding lines
lines_ordered zero doc text h = tt
lines_ordered (suc n) doc text h =
    let start = skip_blank text in
    if_cond RootOrdered (length start == 0) (Some doc) _ h (
    if_and_then SaysOrdered RootOrdered _ (λ e fits.
    if_and_then RootOrdered RootOrdered _ (λ next kept. lines_ordered n next e.1 kept) (define doc e.0) (defined doc e.0 h fits))
    (line start) (line_ordered start))

parsed_ordered : (text : List ℕ) → IfSome (parse_document text) AreOrdered
unfolding parse_document
parsed_ordered text =
    let found = lines (suc (length text)) (no_nodes, []) (skip_bom text) in
    if_map RootOrdered AreOrdered _ (λ doc h. closed doc.0 h) found (lines_ordered (suc (length text)) (no_nodes, []) (skip_bom text) tt)

document_ordered : (text : List ℕ) → IfSome (document_of text) IsOrdered
document_ordered text =
    if_cond IsOrdered (is_utf8 text) _ None (if_map AreOrdered IsOrdered table (λ ms h. h) (parse_document text) (parsed_ordered text)) tt

-- a text is read as an ordered value
pub text_ordered : (text : List ℕ) (d : Data) → document_of text ≡ Some d → IsOrdered d
text_ordered text d is = subst (λ o. IfSome o IsOrdered) is (document_ordered text)
