-- The text of a setup is ASCII, and so it is UTF-8.
use Rattle.std.proofs.Common.{◌≡◌, ℕ, suc, zero, ◌/◌, ◌%◌, ◌&&◌, ◌==◌, List, [], ◌∷◌, ◌++◌, Bool, true, false, cond, codes, decimal, Option, Some, None, refl, arith}
use Rattle.std.specs.Char.{is_ascii}
use Rattle.std.specs.Fmt.{digit_glyph, digits, digits_onto}
use Rattle.std.specs.List.{flat_map, list_all}
use Rattle.std.specs.Str.{IsAscii, is_utf8}
use Rattle.std.proofs.lemmas.Bool.{and_from, and_parts}
use Rattle.std.proofs.lemmas.Bool.Decides.{nat_tests}
use Rattle.std.proofs.lemmas.List.Folds.{list_all-append}
use Rattle.std.proofs.lemmas.Str.{IsUtf8-from_ascii, is_utf8-from_IsUtf8}
use Rattle.tsn_types.specs.declared.keys.Key.{Key}
use Rattle.tsn_types.specs.declared.limits.Limits.{Limits}
use Rattle.tsn_types.specs.declared.records.FlowMeter.{FlowMeter}
use Rattle.tsn_types.specs.declared.records.GateEntry.{GateEntry}
use Rattle.tsn_types.specs.declared.records.PortEntry.{PortEntry}
use Rattle.tsn_types.specs.declared.records.PortGates.{PortGates}
use Rattle.tsn_types.specs.declared.records.Record.{Record}
use Rattle.tsn_types.specs.declared.records.Record.TheVariants.{Port, Filter, Gate, Meter}
use Rattle.tsn_types.specs.declared.records.StreamFilter.{StreamFilter}
use Rattle.tsn_types.specs.declared.records.StreamGate.{StreamGate}
use Rattle.tsn_types.specs.Keys.{number_of}
use Rattle.tsn_export.specs.Text.{number_or_none_line, flag_text, inner_number_or_none, port_entry_line, gate_entry_line, list_lines, port_table, filter_table, gate_table, meter_table, table_text, limits_text}

-- each byte is one of ASCII
abbrev are_ascii : List ℕ → Bool
are_ascii text = list_all is_ascii text

ascii_at : (text : List ℕ) → are_ascii text ≡ true → IsAscii text
ascii_at [] plain i = omega arith
ascii_at (c ∷ cs) plain zero = grind (arith, nat_tests)
ascii_at (c ∷ cs) plain (suc i) = ascii_at cs (and_parts (is_ascii c) (are_ascii cs) plain).1 i

pub utf8_from : (text : List ℕ) → are_ascii text ≡ true → is_utf8 text ≡ true
utf8_from text plain = is_utf8-from_IsUtf8 text (IsUtf8-from_ascii text (ascii_at text plain))

-- ---- numbers

glyph_plain : (n : ℕ) → is_ascii (digit_glyph false (n % 10)) ≡ true
glyph_plain n = grind (arith, nat_tests)

either : (b : Bool) (x y : List ℕ) → are_ascii x ≡ true → are_ascii y ≡ true → are_ascii (cond b x y) ≡ true
either true x y left right = left
either false x y left right = right

digits_plain : (k n : ℕ) (text : List ℕ) → are_ascii text ≡ true → are_ascii (digits_onto k 10 false n text) ≡ true
digits_plain zero n text plain = plain
digits_plain (suc k) n text plain =
    let more : are_ascii (digit_glyph false (n % 10) ∷ text) ≡ true = and_from _ _ (glyph_plain n) plain in
    either (n / 10 == 0) _ _ more (digits_plain k (n / 10) _ more)

decimal_plain : (n : ℕ) → are_ascii (decimal n) ≡ true
unfolding digits
decimal_plain n = digits_plain 64 n [] refl

-- ---- lines

joined : (x y : List ℕ) → are_ascii (x ++ y) ≡ are_ascii x && are_ascii y
joined x y = list_all-append is_ascii x y

flag_plain : (b : Bool) → are_ascii (flag_text b) ≡ true
flag_plain true = refl
flag_plain false = refl

-- a text is plain whose pieces are, and so are numbers and flags
ruleset pieces_plain = (joined, decimal_plain, flag_plain)

or_none_plain : (name : List ℕ) (o : Option ℕ) → are_ascii name ≡ true → are_ascii (number_or_none_line name o) ≡ true
or_none_plain name (Some n) plain = simp (joined, decimal_plain, plain) refl
or_none_plain name None plain = refl

inner_or_none_plain : (name : List ℕ) (o : Option ℕ) → are_ascii name ≡ true → are_ascii (inner_number_or_none name o) ≡ true
inner_or_none_plain name (Some n) plain = simp (joined, decimal_plain, plain) refl
inner_or_none_plain name None plain = refl

port_entry_plain : (e : PortEntry) → are_ascii (port_entry_line e) ≡ true
port_entry_plain e = simp (joined, decimal_plain) refl

gate_entry_plain : (e : GateEntry) → are_ascii (gate_entry_line e) ≡ true
gate_entry_plain e =
    simp (pieces_plain, inner_or_none_plain (codes "ipv") e.ipv refl, inner_or_none_plain (codes "octets") e.octets refl) refl

row_plain : {E : Type 0} (line : E → List ℕ) (es : List E) → ((e : E) → are_ascii (line e) ≡ true) → are_ascii (flat_map line es) ≡ true
row_plain line [] each = refl
row_plain line (e ∷ es) each = rw (joined (line e) (flat_map line es), each e, row_plain line es each) refl

list_plain : {E : Type 0} (line : E → List ℕ) (es : List E) → ((e : E) → are_ascii (line e) ≡ true) → are_ascii (list_lines line es) ≡ true
list_plain line [] each = refl
list_plain {E} line (e ∷ es) each =
    let rows : are_ascii (flat_map line (e ∷ es)) ≡ true = row_plain line (e ∷ es) each in
    rw (joined (codes "list = [\n" ++ flat_map line (e ∷ es)) (codes "]\n"), joined (codes "list = [\n") (flat_map line (e ∷ es)), rows)
    refl

-- ---- tables

meter_plain : (id : ℕ) (r : FlowMeter) → are_ascii (meter_table id r) ≡ true
meter_plain id r = simp pieces_plain refl

port_plain : (id : ℕ) (r : PortGates) → are_ascii (port_table id r) ≡ true
port_plain id r = simp (joined, decimal_plain, list_plain port_entry_line r.admin.list port_entry_plain) refl

filter_plain : (id : ℕ) (r : StreamFilter) → are_ascii (filter_table id r) ≡ true
filter_plain id r =
    simp (
      pieces_plain,
      or_none_plain (codes "handle") r.handle refl,
      or_none_plain (codes "priority") r.priority refl,
      or_none_plain (codes "max_sdu") r.max_sdu refl,
      or_none_plain (codes "meter") r.meter refl,
    ) refl

gate_plain : (id : ℕ) (r : StreamGate) → are_ascii (gate_table id r) ≡ true
gate_plain id r =
    simp (pieces_plain, or_none_plain (codes "ipv") r.ipv refl, list_plain gate_entry_line r.admin.list gate_entry_plain) refl

table_plain : (k : Key) (r : Record) → are_ascii (table_text (k, r)) ≡ true
table_plain k (Port r) = port_plain (number_of k) r
table_plain k (Filter r) = filter_plain (number_of k) r
table_plain k (Gate r) = gate_plain (number_of k) r
table_plain k (Meter r) = meter_plain (number_of k) r

limits_plain : (l : Limits) → are_ascii (limits_text l) ≡ true
limits_plain l = simp (joined, decimal_plain) refl

pub setup_utf8 : (l : Limits) (es : List (Key × Record)) → is_utf8 (limits_text l ++ flat_map table_text es) ≡ true
setup_utf8 l es =
    utf8_from _ (rw (joined (limits_text l) (flat_map table_text es), limits_plain l, row_plain table_text es (λ e. table_plain e.0 e.1))
    refl)
