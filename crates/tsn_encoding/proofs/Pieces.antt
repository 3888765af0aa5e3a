-- A shown record in pieces, and what a writer took of a text whose end is held.
use Rattle.std.proofs.Common.{◌≡◌, ℕ, ◌+◌, ◌^◌, ◌<◌, ◌≤◌, ◌++◌, List, [], ◌∷◌, length, take, drop, get_or, map, true, false, Option, Result, Ok, Err, OnErr, codes, decimal, refl, sym, ap, subst, ◌∙◌, append_assoc, append-nil, length-append, take-append-drop, arith}
use Rattle.std.proofs.KnownBytes.{Appends-nil, Appends-trans}
use Rattle.std.specs.Io.KnownBytes.{Appends}
use Rattle.std.proofs.Math.Seq.{take-append-add}
use Rattle.std.proofs.lemmas.List.{take-append-le, take_more, drop_all}
use Rattle.json.specs.Print.{escape, escape_byte}
use Rattle.serde_json.specs.Data.{Data, string, boolean}
use Rattle.serde_json.specs.View.{items_of}
use Rattle.serde_json.specs.Written.{compact_text, items_text}
use Rattle.tsn_bytes.specs.Bytes.{IsCut}
use Rattle.tsn_types.specs.declared.keys.Key.{Key}
use Rattle.tsn_types.specs.declared.keys.Key.TheVariants as keys
use Rattle.tsn_types.specs.declared.keys.Kind.TheVariants as kinds
use Rattle.tsn_types.specs.Keys.{number_of}
use Rattle.tsn_types.specs.declared.records.PortEntry.{PortEntry}
use Rattle.tsn_types.specs.declared.records.GateEntry.{GateEntry}
use Rattle.tsn_types.specs.declared.records.PortGates.{PortGates}
use Rattle.tsn_types.specs.declared.records.StreamGate.{StreamGate}
use Rattle.tsn_types.specs.declared.records.StreamFilter.{StreamFilter}
use Rattle.tsn_types.specs.declared.records.FlowMeter.{FlowMeter}
use Rattle.tsn_types.specs.declared.records.Record.{Record}
use Rattle.tsn_types.specs.declared.records.Record.TheVariants as records
use Rattle.tsn_records.specs.Keys.{key_text}
use Rattle.tsn_records.specs.Shown.{or_null, port_entry_data, gate_entry_data, port_data, filter_data, gate_data, meter_data, record_data, whole_data}
use Rattle.tsn_encoding.proofs.Grown.{grown}
use Rattle.tsn_encoding.specs.Shown.{key_data, shown_data, ids_data}
use Rattle.tsn_encoding.specs.Pieces.{TakesFront, key_front, port_front, gate_front, gate_end, gate_rest}
use Rattle.tsn_records.proofs.Escaping.{escape_key}

-- ---- what is taken and what is held

pub none_gone : (a : Option (List ℕ)) (text : List ℕ) → TakesFront a a text text
none_gone a text = ([], Appends-nil a, refl)

-- a piece goes behind what is held
pub held_more : (a b : Option (List ℕ)) (text held piece : List ℕ) → TakesFront a b text held
    → TakesFront a b (text ++ piece) (held ++ piece)
held_more a b text held piece h = (h.0, h.1, ap (λ l. l ++ piece) h.2 ∙ append_assoc h.0 held piece)

pub goes_on : (a b c : Option (List ℕ)) (text held later : List ℕ) → TakesFront a b text held → TakesFront b c held later
    → TakesFront a c text later
goes_on a b c text held later h k =
    (h.0 ++ k.0, Appends-trans a b c h.0 k.0 h.1 k.1, h.2 ∙ ap (λ l. h.0 ++ l) k.2 ∙ sym (append_assoc h.0 k.0 later))

-- the rest is taken too
pub goes_out : (a b c : Option (List ℕ)) (text held : List ℕ) → TakesFront a b text held → Appends b c held → Appends a c text
goes_out a b c text held h took = subst (λ l. Appends a c l) (sym h.2) (Appends-trans a b c h.0 held h.1 took)

take_within : (held more : List ℕ) (n : ℕ) → n < length held → take n (held ++ more) ≡ take n held
take_within held more n h = take-append-le n held more (omega arith)

-- the rest is cut, of a text that may have more behind it
pub cut_out : (a b c : Option (List ℕ)) (text held more : List ℕ) → TakesFront a b text held → IsCut b c held → IsCut a c (text ++ more)
cut_out a b c text held more h cut =
    let whole : text ++ more ≡ h.0 ++ (held ++ more) = ap (λ l. l ++ more) h.2 ∙ append_assoc h.0 held more in
    let front : take (length h.0 + cut.0) (text ++ more) ≡ h.0 ++ take cut.0 held =
    ap (take (length h.0 + cut.0)) whole ∙ take-append-add h.0 (held ++ more) cut.0
    ∙ ap (λ l. h.0 ++ l) (take_within held more cut.0 cut.1) in
    let size : length (text ++ more) ≡ length h.0 + (length held + length more) = ap length whole ∙ length-append h.0 (held ++ more)
    ∙ ap (λ n. length h.0 + n) (length-append held more) in (
      length h.0 + cut.0,
      omega (arith, size, cut.1),
      subst (λ l. Appends a c l) (sym front) (Appends-trans a b c h.0 (take cut.0 held) h.1 cut.2),
    )

-- ---- items

-- items with a comma before each
pub behind : {I : Type 0} → (I → Data) → List I → List ℕ
behind f [] = []
behind f (x ∷ xs) = 44 ∷ (compact_text (f x) ++ behind f xs)

pub behind_more : {I : Type 0} (f : I → Data) (xs : List I) (x : I) → behind f (xs ++ x ∷ []) ≡ behind f xs ++ 44 ∷ compact_text (f x)
unfolding behind
behind_more f [] x = ap (λ l. 44 ∷ l) (append-nil (compact_text (f x)))
behind_more f (y ∷ xs) x = ap (λ l. 44 ∷ (compact_text (f y) ++ l)) (behind_more f xs x)
    ∙ ap (λ l. 44 ∷ l) (sym (append_assoc (compact_text (f y)) (behind f xs) (44 ∷ compact_text (f x))))

pub behind_none : {I : Type 0} (f : I → Data) → behind f [] ≡ []
unfolding behind
behind_none f = refl

pub behind_closed : {I : Type 0} (f : I → Data) (xs : List I) → items_text true (items_of (map f xs)) ≡ behind f xs ++ 93 ∷ []
unfolding behind
behind_closed f [] = refl
behind_closed f (x ∷ xs) = ap (λ l. 44 ∷ (compact_text (f x) ++ l)) (behind_closed f xs)
    ∙ ap (λ l. 44 ∷ l) (sym (append_assoc (compact_text (f x)) (behind f xs) (93 ∷ [])))

-- ---- keys

pub text_unescaped : (k : Key) → number_of k < 2 ^ 64 → escape (key_text k) ≡ key_text k
text_unescaped (keys.Port n) small = escape_key kinds.Port n small
text_unescaped (keys.Filter n) small = escape_key kinds.Filter n small
text_unescaped (keys.Gate n) small = escape_key kinds.Gate n small
text_unescaped (keys.Meter n) small = escape_key kinds.Meter n small

pub key_pieces : (k : Key) → number_of k < 2 ^ 64 → codes "{\"key\":\"" ++ (key_text k ++ codes "\",\"record\":") ≡ key_front k
key_pieces k small =
    sym (ap (λ l. codes "{\"key\":\"" ++ ((l ++ codes "\"") ++ codes ",\"record\":")) (text_unescaped k small)
    ∙ ap (λ l. codes "{\"key\":\"" ++ l) (append_assoc (key_text k) (codes "\"") (codes ",\"record\":")))

quoted_of : (key t0 t1 t2 t3 : List ℕ) → t1 ≡ t0 ++ codes "\"" → t2 ≡ t1 ++ key → t3 ≡ t2 ++ codes "\""
    → t3 ≡ t0 ++ (codes "\"" ++ (key ++ codes "\""))
quoted_of key t0 t1 t2 t3 e1 e2 e3 = rw (e3, e2, e1) (simp append_assoc)

pub quoted_pieces : (k : Key) (t0 t1 t2 t3 : List ℕ) → number_of k < 2 ^ 64 → t1 ≡ t0 ++ codes "\"" → t2 ≡ t1 ++ key_text k
    → t3 ≡ t2 ++ codes "\"" → t3 ≡ t0 ++ compact_text (key_data k)
quoted_pieces k t0 t1 t2 t3 small e1 e2 e3 =
    quoted_of (key_text k) t0 t1 t2 t3 e1 e2 e3 ∙ sym (ap (λ l. t0 ++ (codes "\"" ++ (l ++ codes "\""))) (text_unescaped k small))

-- ---- records

pub filter_pieces : (r : StreamFilter) (t0 t1 t2 t3 t4 t5 t6 t7 : List ℕ) → t1 ≡ t0 ++ (codes "{\"gate\":" ++ decimal r.gate)
    → t2 ≡ t1 ++ (codes ",\"handle\":" ++ compact_text (or_null r.handle))
    → t3 ≡ t2 ++ (codes ",\"max_sdu\":" ++ compact_text (or_null r.max_sdu))
    → t4 ≡ t3 ++ (codes ",\"meter\":" ++ compact_text (or_null r.meter))
    → t5 ≡ t4 ++ (codes ",\"oversize\":" ++ compact_text (boolean r.oversize))
    → t6 ≡ t5 ++ (codes ",\"priority\":" ++ compact_text (or_null r.priority)) → t7 ≡ t6 ++ codes "}"
    → t7 ≡ t0 ++ compact_text (filter_data r)
unfolding escape_byte
filter_pieces r t0 t1 t2 t3 t4 t5 t6 t7 e1 e2 e3 e4 e5 e6 e7 = rw (e7, e6, e5, e4, e3, e2, e1) (simp append_assoc)

pub meter_pieces : (r : FlowMeter) (t0 t1 t2 t3 t4 t5 t6 t7 t8 t9 : List ℕ)
    → t1 ≡ t0 ++ (codes "{\"all_red\":" ++ compact_text (boolean r.all_red))
    → t2 ≡ t1 ++ (codes ",\"aware\":" ++ compact_text (boolean r.aware)) → t3 ≡ t2 ++ (codes ",\"cbs\":" ++ decimal r.cbs)
    → t4 ≡ t3 ++ (codes ",\"cf\":" ++ compact_text (boolean r.cf)) → t5 ≡ t4 ++ (codes ",\"cir\":" ++ decimal r.cir)
    → t6 ≡ t5 ++ (codes ",\"drop_yellow\":" ++ compact_text (boolean r.drop_yellow)) → t7 ≡ t6 ++ (codes ",\"ebs\":" ++ decimal r.ebs)
    → t8 ≡ t7 ++ (codes ",\"eir\":" ++ decimal r.eir) → t9 ≡ t8 ++ codes "}" → t9 ≡ t0 ++ compact_text (meter_data r)
unfolding escape_byte
meter_pieces r t0 t1 t2 t3 t4 t5 t6 t7 t8 t9 e1 e2 e3 e4 e5 e6 e7 e8 e9 = rw (e9, e8, e7, e6, e5, e4, e3, e2, e1) (simp append_assoc)

pub port_pieces : (r : PortGates) (t0 t1 t2 t3 t4 t5 : List ℕ) → t1 ≡ t0 ++ (codes "{\"base\":" ++ decimal r.admin.base)
    → t2 ≡ t1 ++ (codes ",\"cycle\":" ++ decimal r.admin.cycle) → t3 ≡ t2 ++ (codes ",\"extension\":" ++ decimal r.admin.extension)
    → t4 ≡ t3 ++ (codes ",\"gates\":" ++ decimal r.gates) → t5 ≡ t4 ++ codes ",\"list\":[" → t5 ≡ t0 ++ port_front r
port_pieces r t0 t1 t2 t3 t4 t5 e1 e2 e3 e4 e5 = rw (e5, e4, e3, e2, e1) (simp append_assoc)

pub gate_pieces : (r : StreamGate) (t0 t1 t2 t3 t4 t5 t6 : List ℕ) → t1 ≡ t0 ++ (codes "{\"base\":" ++ decimal r.admin.base)
    → t2 ≡ t1 ++ (codes ",\"cycle\":" ++ decimal r.admin.cycle) → t3 ≡ t2 ++ (codes ",\"extension\":" ++ decimal r.admin.extension)
    → t4 ≡ t3 ++ (codes ",\"invalid_rx\":" ++ compact_text (boolean r.invalid_rx))
    → t5 ≡ t4 ++ (codes ",\"ipv\":" ++ compact_text (or_null r.ipv)) → t6 ≡ t5 ++ codes ",\"list\":[" → t6 ≡ t0 ++ gate_front r
gate_pieces r t0 t1 t2 t3 t4 t5 t6 e1 e2 e3 e4 e5 e6 =
    grown ((codes "{\"base\":" ++ decimal r.admin.base) ∷ (codes ",\"cycle\":" ++ decimal r.admin.cycle)
    ∷ (codes ",\"extension\":" ++ decimal r.admin.extension) ∷ (codes ",\"invalid_rx\":" ++ compact_text (boolean r.invalid_rx))
    ∷ (codes ",\"ipv\":" ++ compact_text (or_null r.ipv)) ∷ [])
    t0 t5 t6 (codes ",\"list\":[") (t1, e1, (t2, e2, (t3, e3, (t4, e4, (t5, e5, refl))))) e6

gate_end_of : (a b t0 t1 t2 t3 : List ℕ) → t1 ≡ t0 ++ (codes ",\"octets_exceeded\":" ++ a) → t2 ≡ t1 ++ (codes ",\"open\":" ++ b)
    → t3 ≡ t2 ++ codes "}" → t3 ≡ t0 ++ (codes ",\"octets_exceeded\":" ++ (a ++ (codes ",\"open\":" ++ (b ++ codes "}"))))
gate_end_of a b t0 t1 t2 t3 e1 e2 e3 = rw (e3, e2, e1) (simp append_assoc)

pub gate_end_pieces : (r : StreamGate) (t0 t1 t2 t3 : List ℕ)
    → t1 ≡ t0 ++ (codes ",\"octets_exceeded\":" ++ compact_text (boolean r.octets_exceeded))
    → t2 ≡ t1 ++ (codes ",\"open\":" ++ compact_text (boolean r.is_open)) → t3 ≡ t2 ++ codes "}" → t3 ≡ t0 ++ gate_end r
gate_end_pieces r = gate_end_of (compact_text (boolean r.octets_exceeded)) (compact_text (boolean r.is_open))

-- a record is its front, its list and its end

port_text_of : (base cycle extension gates items : List ℕ) → (codes "{\"base\":" ++ (base ++
    (codes ",\"cycle\":" ++ (cycle ++
    (codes ",\"extension\":" ++ (extension ++ (codes ",\"gates\":" ++ (gates ++ codes ",\"list\":[")))))))) ++ (items ++ codes "}")
    ≡ codes "{\"base\":" ++ (base ++
    (codes ",\"cycle\":" ++ (cycle ++
    (codes ",\"extension\":" ++ (extension ++ (codes ",\"gates\":" ++ (gates ++ (codes ",\"list\":[" ++ (items ++ codes "}")))))))))
port_text_of base cycle extension gates items = simp append_assoc

pub port_text : (r : PortGates) → port_front r ++ (items_text false (items_of (map port_entry_data r.admin.list)) ++ codes "}")
    ≡ compact_text (port_data r)
unfolding escape_byte
port_text r = port_text_of _ _ _ _ (items_text false (items_of (map port_entry_data r.admin.list)))

gate_text_of : (base cycle extension invalid_rx ipv items octets_exceeded is_open : List ℕ) → (codes "{\"base\":" ++ (base ++
    (codes ",\"cycle\":" ++ (cycle ++
    (codes ",\"extension\":" ++ (extension
    ++ (codes ",\"invalid_rx\":" ++ (invalid_rx ++ (codes ",\"ipv\":" ++ (ipv ++ codes ",\"list\":["))))))))))
    ++ (items ++ (codes ",\"octets_exceeded\":" ++ (octets_exceeded ++ (codes ",\"open\":" ++ (is_open ++ codes "}")))))
    ≡ codes "{\"base\":" ++ (base ++
    (codes ",\"cycle\":" ++ (cycle ++
    (codes ",\"extension\":" ++ (extension
    ++ (codes ",\"invalid_rx\":" ++ (invalid_rx ++ (codes ",\"ipv\":" ++ (ipv ++ (codes ",\"list\":["
    ++ (items ++ (codes ",\"octets_exceeded\":" ++ (octets_exceeded ++ (codes ",\"open\":" ++ (is_open ++ codes "}")))))))))))))))
gate_text_of base cycle extension invalid_rx ipv items octets_exceeded is_open = simp append_assoc

pub gate_text : (r : StreamGate) → gate_front r ++ (items_text false (items_of (map gate_entry_data r.admin.list)) ++ gate_end r)
    ≡ compact_text (gate_data r)
unfolding escape_byte
gate_text r = gate_text_of _ _ _ _ _ (items_text false (items_of (map gate_entry_data r.admin.list))) _ _

-- ---- lines

line_of_record : (key value : List ℕ) → (codes "{\"key\":" ++ (key ++ codes ",\"record\":"))
    ++ (value ++ codes "}\n") ≡ (codes "{\"key\":" ++ (key ++ (codes ",\"record\":" ++ (value ++ codes "}")))) ++ codes "\n"
line_of_record key value = simp append_assoc

-- the line of a key and a record
pub shown_line : (k : Key) (r : Record)
    → key_front k ++ (compact_text (record_data r) ++ codes "}\n") ≡ compact_text (shown_data k r) ++ codes "\n"
unfolding escape_byte
shown_line k r = line_of_record (compact_text (string (key_text k))) (compact_text (record_data r))

pub flat_line : (k : Key) (r : Record) (t1 t2 t3 : List ℕ) → t1 ≡ key_front k → t2 ≡ t1 ++ compact_text (record_data r)
    → t3 ≡ t2 ++ codes "}\n" → t3 ≡ compact_text (shown_data k r) ++ codes "\n"
flat_line k r t1 t2 t3 e1 e2 e3 =
    e3 ∙ ap (λ l. l ++ codes "}\n") (e2 ∙ ap (λ l. l ++ compact_text (record_data r)) e1)
    ∙ append_assoc (key_front k) (compact_text (record_data r)) (codes "}\n") ∙ shown_line k r

line_end : (key front items end : List ℕ)
    → (key ++ front) ++ (items ++ (end ++ codes "}\n")) ≡ key ++ ((front ++ (items ++ end)) ++ codes "}\n")
line_end key front items end = simp append_assoc

listed_line : (k : Key) (r : Record) (front end items : List ℕ) → front ++ (items ++ end) ≡ compact_text (record_data r)
    → (key_front k ++ front) ++ (items ++ (end ++ codes "}\n")) ≡ compact_text (shown_data k r) ++ codes "\n"
listed_line k r front end items e =
    line_end (key_front k) front items end ∙ ap (λ l. key_front k ++ (l ++ codes "}\n")) e ∙ shown_line k r

pub port_line : (k : Key) (r : PortGates) (t1 t2 rest : List ℕ) (es : List PortEntry) → es ≡ r.admin.list → t1 ≡ key_front k
    → t2 ≡ t1 ++ port_front r → rest ≡ codes "}}\n"
    → t2 ++ (items_text false (items_of (map port_entry_data es)) ++ rest) ≡ compact_text (shown_data k (records.Port r)) ++ codes "\n"
port_line k r t1 t2 rest es e e1 e2 e3 =
    rw (e, e2, e1, e3) (listed_line k (records.Port r) (port_front r) (codes "}")
    (items_text false (items_of (map port_entry_data r.admin.list))) (port_text r))

pub gate_line : (k : Key) (r : StreamGate) (t1 t2 rest : List ℕ) (es : List GateEntry) → es ≡ r.admin.list → t1 ≡ key_front k
    → t2 ≡ t1 ++ gate_front r → rest ≡ gate_rest r
    → t2 ++ (items_text false (items_of (map gate_entry_data es)) ++ rest) ≡ compact_text (shown_data k (records.Gate r)) ++ codes "\n"
gate_line k r t1 t2 rest es e e1 e2 e3 =
    rw (e, e2, e1, e3) (listed_line k (records.Gate r) (gate_front r) (gate_end r)
    (items_text false (items_of (map gate_entry_data r.admin.list))) (gate_text r))

ids_text_of : (items : List ℕ) → codes "{\"ids\":[" ++ (items ++ codes "}\n") ≡ (codes "{\"ids\":[" ++ (items ++ codes "}")) ++ codes "\n"
ids_text_of items = simp append_assoc

pub ids_line : (ids t rest : List ℕ) → t ≡ codes "{\"ids\":[" → rest ≡ codes "}\n"
    → t ++ (items_text false (items_of (map whole_data ids)) ++ rest) ≡ compact_text (ids_data ids) ++ codes "\n"
unfolding escape_byte
ids_line ids t rest e1 e2 = rw (e1, e2) (ids_text_of (items_text false (items_of (map whole_data ids))))

-- ---- lists

behind_split : {I : Type 0} (f : I → Data) (xs ys : List I) → behind f (xs ++ ys) ≡ behind f xs ++ behind f ys
unfolding behind
behind_split f [] ys = refl
behind_split f (x ∷ xs) ys = ap (λ l. 44 ∷ (compact_text (f x) ++ l)) (behind_split f xs ys)
    ∙ ap (λ l. 44 ∷ l) (sym (append_assoc (compact_text (f x)) (behind f xs) (behind f ys)))

in_parts : (front first done left rest : List ℕ)
    → front ++ ((first ++ ((done ++ left) ++ 93 ∷ [])) ++ rest) ≡ ((front ++ first) ++ done) ++ (left ++ 93 ∷ rest)
in_parts front first done left rest = simp append_assoc

-- a list in its front, its first items and those that are left
whole_at : {I : Type 0} (f : I → Data) (front rest t : List ℕ) (items others : List I) (first : I) (i : ℕ) → items ≡ first ∷ others
    → t ≡ front ++ compact_text (f first) → front ++ (items_text false (items_of (map f items)) ++ rest) ≡ (t ++ behind f (take i others))
    ++ (behind f (drop i others) ++ 93 ∷ rest)
whole_at f front rest t items others first i e et =
    let split : items_text true (items_of (map f others)) ≡ (behind f (take i others) ++ behind f (drop i others)) ++ 93 ∷ [] =
    behind_closed f others ∙ ap (λ l. behind f l ++ 93 ∷ []) (sym (take-append-drop i others))
    ∙ ap (λ l. l ++ 93 ∷ []) (behind_split f (take i others) (drop i others)) in
    ap (λ l. front ++ (items_text false (items_of (map f l)) ++ rest)) e
    ∙ ap (λ l. front ++ ((compact_text (f first) ++ l) ++ rest)) split
    ∙ in_parts front (compact_text (f first)) (behind f (take i others)) (behind f (drop i others)) rest
    ∙ ap (λ l. (l ++ behind f (take i others)) ++ (behind f (drop i others) ++ 93 ∷ rest)) (sym et)

-- before the second item
pub begun : {I : Type 0} (a : Option (List ℕ)) (f : I → Data) (t : List ℕ) → TakesFront a a (t ++ behind f []) t
begun a f t = subst (λ l. TakesFront a a l t) (sym (ap (λ l. t ++ l) (behind_none f) ∙ append-nil t)) (none_gone a t)

-- one item more
pub one_more : {I : Type 0} (a b c : Option (List ℕ)) (f : I → Data) (t held later h : List ℕ) (others : List I) (item d : I) (i : ℕ)
    → i < length others → item ≡ get_or others i d
    → TakesFront a b (t ++ behind f (take i others)) held → TakesFront b c held later → h ≡ later ++ (codes "," ++ compact_text (f item))
    → TakesFront a c (t ++ behind f (take (i + 1) others)) h
one_more a b c f t held later h others item d i within is taken went end =
    let piece = 44 ∷ compact_text (f item) in
    let more : behind f (take (i + 1) others) ≡ behind f (take i others) ++ piece =
    ap (behind f) (take_more others i d within ∙ ap (λ x. take i others ++ x ∷ []) (sym is)) ∙ behind_more f (take i others) item in
    let whole : t ++ behind f (take (i + 1) others) ≡ (t ++ behind f (take i others)) ++ piece =
    ap (λ l. t ++ l) more ∙ sym (append_assoc t (behind f (take i others)) piece) in
    subst (λ l. TakesFront a c l h) (sym whole)
    (subst (λ l. TakesFront a c ((t ++ behind f (take i others)) ++ piece) l) (sym end)
    (held_more a c (t ++ behind f (take i others)) later piece (goes_on a b c (t ++ behind f (take i others)) held later taken went)))

-- the writer failed before an item
pub cut_inside : {I : Type 0} (a b c : Option (List ℕ)) (f : I → Data) (front rest t held : List ℕ) (items others : List I) (first : I)
    (i : ℕ) → items ≡ first ∷ others → t ≡ front ++ compact_text (f first)
    → TakesFront a b (t ++ behind f (take i others)) held → IsCut b c held
    → IsCut a c (front ++ (items_text false (items_of (map f items)) ++ rest))
cut_inside a b c f front rest t held items others first i e et taken cut =
    subst (IsCut a c) (sym (whole_at f front rest t items others first i e et))
    (cut_out a b c (t ++ behind f (take i others)) held (behind f (drop i others) ++ 93 ∷ rest) taken cut)

-- all items, the bracket and the rest
pub ended : {I : Type 0} (a b : Option (List ℕ)) (f : I → Data) (front rest t held h1 h2 s : List ℕ) (items others : List I) (first : I)
    (i : ℕ) → items ≡ first ∷ others → t ≡ front ++ compact_text (f first) → length others ≤ i
    → TakesFront a b (t ++ behind f (take i others)) held → h1 ≡ held ++ codes "]" → h2 ≡ h1 ++ rest → s ≡ h2
    → TakesFront a b (front ++ (items_text false (items_of (map f items)) ++ rest)) s
ended a b f front rest t held h1 h2 s items others first i e et all taken e1 e2 e3 =
    let end : s ≡ held ++ 93 ∷ rest = e3 ∙ e2 ∙ ap (λ l. l ++ rest) e1 ∙ append_assoc held (codes "]") rest in
    let none : behind f (drop i others) ++ 93 ∷ rest ≡ 93 ∷ rest = ap (λ l. behind f l ++ 93 ∷ rest) (drop_all i others all)
    ∙ ap (λ l. l ++ 93 ∷ rest) (behind_none f) in
    let whole = whole_at f front rest t items others first i e et ∙ ap (λ l. (t ++ behind f (take i others)) ++ l) none in
    subst (λ l. TakesFront a b l s) (sym whole)
    (subst (λ l. TakesFront a b ((t ++ behind f (take i others)) ++ 93 ∷ rest) l) (sym end)
    (held_more a b (t ++ behind f (take i others)) held (93 ∷ rest) taken))

-- the rest is cut
pub cut_end : (a b c : Option (List ℕ)) (text held : List ℕ) → TakesFront a b text held → IsCut b c held → IsCut a c text
cut_end a b c text held h cut = subst (IsCut a c) (append-nil text) (cut_out a b c text held [] h cut)

-- ---- answers

pub at_err : {T E P : Type 0} (r : Result T E) → P → OnErr r P
at_err (Ok x) p = tt
at_err (Err e) p = p
