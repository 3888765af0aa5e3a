-- Documents that are read back: the limits, and then the tables.
use Rattle.std.proofs.Common.{◌≡◌, ℕ, List, [], ◌∷◌, ◌++◌, map, false, ◌==◌, length, codes, Some, None, Ok, refl, sym, ap, subst, ◌∙◌, arith, append_assoc, append-nil}
use Rattle.std.proofs.lemmas.Bool.Decides.{nat_tests}
use Rattle.std.proofs.lemmas.List.Concat.{flat_map-append}
use Rattle.std.specs.List.{flat_map}
use Rattle.toml_parser.specs.Lexical.{first, skip_blank}
use Rattle.toml.specs.Data.{Data}
use Rattle.toml.specs.Tables.{array_table}
use Rattle.toml.specs.Parse.{line}
use Rattle.toml.proofs.Blanks.{skip_newline, skip_none, skip_within}
use Rattle.tsn_types.specs.Bounds.{AreInRange}
use Rattle.tsn_types.specs.Keys.{kind}
use Rattle.tsn_types.specs.InRange.{KeyedInRange}
use Rattle.tsn_types.specs.declared.keys.Key.{Key}
use Rattle.tsn_types.specs.declared.keys.Key.TheVariants as keys
use Rattle.tsn_types.specs.declared.keys.Kind.{Kind}
use Rattle.tsn_types.specs.declared.keys.Kind.TheVariants as kinds
use Rattle.tsn_types.specs.declared.limits.Limits.{Limits}
use Rattle.tsn_types.specs.declared.records.Record.{Record}
use Rattle.tsn_types.specs.declared.records.Record.TheVariants as records
use Rattle.tsn_records.specs.Keys.{kind_text}
use Rattle.tsn_setup.specs.Plain.{tables, tray_at, put_tray, ReadsDocument}
use Rattle.tsn_setup.specs.PlainTrays.{limits_trays, whole_trays}
use Rattle.tsn_setup.specs.Setups.{document_of, setup_shape}
use Rattle.tsn_setup.specs.declared.drafts.LimitsDraft.{LimitsDraft}
use Rattle.tsn_setup.specs.declared.drafts.TableDraft.{TableDraft}
use Rattle.tsn_setup.proofs.Keyed.{keyed_draft}
use Rattle.tsn_setup.proofs.OfKind.{InRange, AllOf, drafts_joined}
use Rattle.tsn_setup.proofs.WholeDocuments.{document_begun, document_ended, document_shaped, table_added}
use Rattle.tsn_export.specs.Text.{number_line, table_text, limits_text}
use Rattle.tsn_read_back.proofs.Joined.{in_three, in_five}
use Rattle.tsn_read_back.proofs.Lines.{Reads, reads_begun, number_back}
use Rattle.tsn_read_back.proofs.Tables.{header, header_read, TableRead, port_back, filter_back, gate_back, meter_back}
use Rattle.tsn_read_back.proofs.Utf8.{setup_utf8}

-- ---- the limits

-- all limits are given
abbrev pub limits_given : Limits → LimitsDraft
limits_given l = record {
  ports = Some l.ports;
  max_filters = Some l.filters;
  max_gates = Some l.gates;
  max_meters = Some l.meters;
  list_max = Some l.list;
}

limits_back : (l : Limits) (more : List ℕ) → AreInRange l → Reads (limits_text l ++ more) (limits_trays (limits_given l)) more
limits_back l more fits =
    let list = number_line (codes "list_max") l.list ++ more in
    let meters = number_line (codes "max_meters") l.meters ++ list in
    let gates = number_line (codes "max_gates") l.gates ++ meters in
    let filters = number_line (codes "max_filters") l.filters ++ gates in
    let ports = number_line (codes "ports") l.ports ++ filters in
    let text = limits_text l ++ more in
    let pieces : text ≡ ports =
    in_five (number_line (codes "ports") l.ports) (number_line (codes "max_filters") l.filters) (number_line (codes "max_gates") l.gates)
    (number_line (codes "max_meters") l.meters) (number_line (codes "list_max") l.list) more in
    let none : LimitsDraft = record { ports = None; max_filters = None; max_gates = None; max_meters = None; list_max = None } in
    let begun = reads_begun text (limits_trays none) (refl, (refl, (refl, (refl, (refl, tt))))) in
    let a = number_back text (codes "ports") filters l.ports _ refl (omega (arith, fits.0.1)) refl
    (subst (Reads text (limits_trays none)) pieces begun) in
    let b = number_back text (codes "max_filters") gates l.filters _ refl (omega (arith, fits.1.0.1)) refl a in
    let c = number_back text (codes "max_gates") meters l.gates _ refl (omega (arith, fits.1.1.0.1)) refl b in
    let d = number_back text (codes "max_meters") list l.meters _ refl (omega (arith, fits.1.1.1.0.1)) refl c in
    number_back text (codes "list_max") more l.list _ refl (omega (arith, fits.1.1.1.1.1)) refl d

-- ---- the tables of each kind

-- what there is of each kind
abbrev Tables : Type 0
Tables = Kind → List TableDraft

-- the same, but for one kind
abbrev with_kind : Kind → List TableDraft → Tables → Tables
with_kind kinds.Port new ts kinds.Port = new
with_kind kinds.Filter new ts kinds.Filter = new
with_kind kinds.Gate new ts kinds.Gate = new
with_kind kinds.Meter new ts kinds.Meter = new
with_kind which new ts other = ts other

own_tray : (which : Kind) (l : LimitsDraft) (list : List TableDraft) (ts : Tables)
    → tray_at (kind_text which) (whole_trays l (with_kind which list ts)) ≡ Some (tables which list)
own_tray kinds.Port l list ts = refl
own_tray kinds.Filter l list ts = refl
own_tray kinds.Gate l list ts = refl
own_tray kinds.Meter l list ts = refl

own_put : (which : Kind) (l : LimitsDraft) (list new : List TableDraft) (ts : Tables)
    → put_tray (kind_text which) (tables which new) (whole_trays l (with_kind which list ts)) ≡ whole_trays l (with_kind which new ts)
own_put kinds.Port l list new ts = refl
own_put kinds.Filter l list new ts = refl
own_put kinds.Gate l list new ts = refl
own_put kinds.Meter l list new ts = refl

line_passed : (rest : List ℕ) → first rest ≡ 91 → skip_blank (skip_blank (10 ∷ rest)) ≡ skip_blank (10 ∷ rest)
line_passed rest opens =
    let none : skip_blank rest ≡ rest = skip_none rest 91 opens refl in
    ap skip_blank (skip_newline rest ∙ none) ∙ none ∙ sym (skip_newline rest ∙ none)

header_passed : (which : Kind) (rest : List ℕ) → skip_blank (skip_blank (header which ++ rest)) ≡ skip_blank (header which ++ rest)
header_passed kinds.Port rest = line_passed (codes "[[port]]\n" ++ rest) refl
header_passed kinds.Filter rest = line_passed (codes "[[filter]]\n" ++ rest) refl
header_passed kinds.Gate rest = line_passed (codes "[[gate]]\n" ++ rest) refl
header_passed kinds.Meter rest = line_passed (codes "[[meter]]\n" ++ rest) refl

-- a table more
table_back : (text this more : List ℕ) (which : Kind) (draft : TableDraft) (l : LimitsDraft) (list : List TableDraft) (ts : Tables)
    → TableRead which this draft more → ReadsDocument text (whole_trays l (with_kind which list ts)) (skip_blank this)
    → ReadsDocument text (whole_trays l (with_kind which (list ++ draft ∷ []) ts)) (skip_blank more)
table_back text this more which draft l list ts t so =
    let trays = whole_trays l (with_kind which list ts) in
    let all = header which ++ t.lines in
    let turn = header_read which t.lines in
    let passed = header_passed which t.lines ∙ turn.1 in
    let here : ReadsDocument text trays (skip_blank all) = subst (λ x. ReadsDocument text trays (skip_blank x)) t.is so in
    let size : length (skip_blank all) ≡ length turn.0 = ap length turn.1 in
    let some : (length (skip_blank (skip_blank all)) == 0) ≡ false = rw passed (grind (arith, nat_tests, turn.3)) in
    let head : line (skip_blank (skip_blank all)) ≡ Some ((([], kind_text which), array_table), 10 ∷ t.lines) = rw passed turn.2 in
    subst (λ s. ReadsDocument text s (skip_blank more)) (own_put which l list (list ++ draft ∷ []) ts)
    (table_added text trays (skip_blank all) (10 ∷ t.lines) (skip_blank more) which list draft here some head (omega (arith, size, turn.4))
    t.read (own_tray which l list ts))

record_back : (k : Key) (r : Record) (more : List ℕ) → KeyedInRange k r
    → TableRead (kind k) (table_text (k, r) ++ more) (keyed_draft (k, r)) more
record_back (keys.Port n) (records.Port r) more fits = port_back n r more fits.0.1 fits.1
record_back (keys.Filter n) (records.Filter r) more fits = filter_back n r more fits.0 fits.1
record_back (keys.Gate n) (records.Gate r) more fits = gate_back n r more fits.0 fits.1
record_back (keys.Meter n) (records.Meter r) more fits = meter_back n r more fits.0 fits.1
record_back k r more fits = absurd fits

-- the tables of records
abbrev pub rows : List (Key × Record) → List ℕ
rows es = flat_map table_text es

-- the records of a kind
kind_back : (which : Kind) (es : List (Key × Record)) (text more : List ℕ) (l : LimitsDraft) (list : List TableDraft) (ts : Tables)
    → InRange es → AllOf which es
    → ReadsDocument text (whole_trays l (with_kind which list ts)) (skip_blank (rows es ++ more))
    → ReadsDocument text (whole_trays l (with_kind which (list ++ map keyed_draft es) ts)) (skip_blank more)
kind_back which [] text more l list ts fits are so =
    subst (λ ds. ReadsDocument text (whole_trays l (with_kind which ds ts)) (skip_blank more)) (sym (append-nil list)) so
kind_back which (e ∷ es) text more l list ts fits are so =
    let tail = rows es ++ more in
    let this : TableRead which (table_text e ++ tail) (keyed_draft e) tail =
    subst (λ q. TableRead q (table_text e ++ tail) (keyed_draft e) tail) are.0 (record_back e.0 e.1 tail fits.0) in
    let here = subst (λ x. ReadsDocument text (whole_trays l (with_kind which list ts)) (skip_blank x))
    (append_assoc (table_text e) (rows es) more) so in
    let next = table_back text (table_text e ++ tail) tail which (keyed_draft e) l list ts this here in
    subst (λ ds. ReadsDocument text (whole_trays l (with_kind which ds ts)) (skip_blank more))
    (append_assoc list (keyed_draft e ∷ []) (map keyed_draft es))
    (kind_back which es text more l (list ++ keyed_draft e ∷ []) ts fits.1 are.1 next)

-- ---- the whole

-- four lists of records, each of a kind
pub record FourKinds (p f g m : List (Key × Record)) : Type 0 where
  pub ports : AllOf kinds.Port p × InRange p
  pub filters : AllOf kinds.Filter f × InRange f
  pub gates : AllOf kinds.Gate g × InRange g
  pub meters : AllOf kinds.Meter m × InRange m

in_rows : (p f g m : List (Key × Record)) → rows (p ++ f ++ g ++ m) ≡ rows p ++ (rows f ++ (rows g ++ (rows m ++ [])))
in_rows p f g m =
    flat_map-append table_text (p ++ f ++ g) m
    ∙ ap (λ t. t ++ rows m) (flat_map-append table_text (p ++ f) g ∙ ap (λ t. t ++ rows g) (flat_map-append table_text p f))
    ∙ ap (λ t. rows p ++ rows f ++ rows g ++ t) (sym (append-nil (rows m)))
    ∙ in_three (rows p) (rows f) (rows g) (rows m ++ [])

all_drafts : (p f g m : List (Key × Record))
    → map keyed_draft (p ++ f ++ g ++ m) ≡ map keyed_draft p ++ map keyed_draft f ++ map keyed_draft g ++ map keyed_draft m
all_drafts p f g m = rw (drafts_joined (p ++ f ++ g) m, drafts_joined (p ++ f) g, drafts_joined p f) refl

-- The text is a document of the shape of these limits and records.
abbrev pub ShapedAs : List ℕ → Limits → List (Key × Record) → Type 0
ShapedAs text l es = (d : Data) × ((document_of text ≡ Some d) × (setup_shape d ≡ Ok (limits_given l, map keyed_draft es)))

pub document_back : (l : Limits) (p f g m : List (Key × Record)) → AreInRange l → FourKinds p f g m
    → ShapedAs (limits_text l ++ rows (p ++ f ++ g ++ m)) l (p ++ f ++ g ++ m)
document_back l p f g m fits four =
    let given = limits_given l in
    let tables = rows (p ++ f ++ g ++ m) in
    let text = limits_text l ++ tables in
    let meters = rows m ++ [] in
    let gates = rows g ++ meters in
    let filters = rows f ++ gates in
    let none : Tables = λ which. [] in
    let one : Tables = with_kind kinds.Port (map keyed_draft p) none in
    let two : Tables = with_kind kinds.Filter (map keyed_draft f) one in
    let three : Tables = with_kind kinds.Gate (map keyed_draft g) two in
    let all : Tables = with_kind kinds.Meter (map keyed_draft m) three in
    let start = subst (λ t. ReadsDocument text (whole_trays given none) (skip_blank t)) (in_rows p f g m)
    (document_begun text (skip_blank tables) given (limits_back l tables fits)) in
    let a = kind_back kinds.Port p text filters given [] none four.ports.1 four.ports.0 start in
    let b = kind_back kinds.Filter f text gates given [] one four.filters.1 four.filters.0 a in
    let c = kind_back kinds.Gate g text meters given [] two four.gates.1 four.gates.0 b in
    let whole : ReadsDocument text (whole_trays given all) (skip_blank []) =
    kind_back kinds.Meter m text [] given [] three four.meters.1 four.meters.0 c in
    let over : length (skip_blank (skip_blank [])) ≡ 0 = omega (arith, skip_within [], skip_within (skip_blank [])) in
    let read = document_ended text (whole_trays given all) (skip_blank []) whole over refl in
    document_shaped text given all (map keyed_draft (p ++ f ++ g ++ m)) (setup_utf8 l (p ++ f ++ g ++ m)) read (all_drafts p f g m)
