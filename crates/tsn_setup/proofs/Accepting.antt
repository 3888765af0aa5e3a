-- A text is accepted as a setup exactly where it is a document of it.
use Rattle.std.proofs.Common.{◌≡◌, ℕ, zero, suc, ◌<◌, ◌≤◌, ◌||◌, List, [], ◌∷◌, ◌++◌, length, map, slice_index_or, Bool, true, false, nat_le, cond, if◌then◌else◌, Option, Some, None, option_map, Ok, Err, IfSome, bytes_eq, refl, sym, ap, ap₂, subst, ◌∙◌, arith, leb-true, append_assoc, append-nil}
use Rattle.std.specs.Prelude.{Contains, IsSome, IsSomeAnd}
use Rattle.std.specs.Str.{is_utf8}
use Rattle.std.proofs.lemmas.Bool.{le-leb}
use Rattle.toml.specs.Data.{Data, Members, array, table, no_items, get, get_member}
use Rattle.toml.specs.Parse.{parse_document}
use Rattle.tsn_types.specs.declared.keys.Key.{Key}
use Rattle.tsn_types.specs.declared.keys.Kind.{Kind}
use Rattle.tsn_types.specs.declared.keys.Kind.TheVariants as kinds
use Rattle.tsn_types.specs.declared.limits.Limits.{Limits}
use Rattle.tsn_types.specs.declared.records.Record.{Record}
use Rattle.tsn_types.specs.declared.refusals.Refusal.TheVariants.{TooLong}
use Rattle.tsn_config.specs.declared.setup.Setup.{Setup}
use Rattle.tsn_records.specs.Answers.{each, or_syntax, refused}
use Rattle.tsn_records.specs.Keys.{kind_text}
use Rattle.tsn_setup.specs.Ranges.{keyed_record, limits}
use Rattle.tsn_setup.specs.Setups.{document_of, setup_shape, setup_of_draft, reading, setup_of, longest_setup}
use Rattle.tsn_records.specs.Members.{setup_names}
use Rattle.tsn_setup.specs.Tables.{limits_shape, tables_of_kind, tables_shape}
use Rattle.tsn_setup.specs.Toml.{has_only}
use Rattle.tsn_setup.specs.Values.{of_kind, given_or, tables_of, keyed_rows, IsDocumentOf, MayBeGiven, AcceptsValues}
use Rattle.tsn_setup.specs.declared.drafts.LimitsDraft.{LimitsDraft}
use Rattle.tsn_setup.specs.declared.drafts.TableDraft.{TableDraft}
use Rattle.tsn_setup.proofs.Keyed.{keyed_draft, records_back}
use Rattle.tsn_setup.proofs.LimitsGiven.{LimitsThere, limits_there, limits_read}
use Rattle.tsn_setup.proofs.OfKind.{InRange, AllOf, KindThere, kind_there, kind_read, same_kind, picked, of_joined, of_kind_in_range, of_kind_of, each_split, drafts_joined}
use Rattle.tsn_setup.proofs.Ordered.{IsOrdered, text_ordered}
use Rattle.tsn_records.proofs.Steps.{steps, only, syntax_there, not_refused}
use Rattle.tsn_records.proofs.NameOrder.{same_bytes, same_text}
use Rattle.tsn_setup.proofs.Rows.{is_among, members_have, all_among}
use Rattle.tsn_config.proofs.Joined.{all_joined}

-- ---- the tables of a document

-- four lists one after the other
in_a_row : {A : Type 0} (p f g m : List A) → p ++ f ++ g ++ m ≡ p ++ (f ++ (g ++ m))
in_a_row p f g m = append_assoc (p ++ f) g m ∙ append_assoc p f (g ++ m)

-- four lists, each of its kind
record FourKinds (ports filters gates meters : List (Key × Record)) : Type 0 where
  ports_are : AllOf kinds.Port ports
  filters_are : AllOf kinds.Filter filters
  gates_are : AllOf kinds.Gate gates
  meters_are : AllOf kinds.Meter meters

-- the records of a kind in four lists one after the other
in_four : (q : Kind) (p f g m : List (Key × Record))
    → of_kind q (p ++ (f ++ (g ++ m))) ≡ of_kind q p ++ (of_kind q f ++ (of_kind q g ++ of_kind q m))
in_four q p f g m =
    of_joined q p (f ++ (g ++ m)) ∙ ap (λ l. of_kind q p ++ l) (of_joined q f (g ++ m) ∙ ap (λ l. of_kind q f ++ l) (of_joined q g m))

of_four : (q : Kind) (p f g m : List (Key × Record)) → FourKinds p f g m → of_kind q (p ++ (f ++ (g ++ m)))
    ≡ cond (same_kind q kinds.Port) p []
    ++ (cond (same_kind q kinds.Filter) f [] ++ (cond (same_kind q kinds.Gate) g [] ++ cond (same_kind q kinds.Meter) m []))
of_four q p f g m h = in_four q p f g m
    ∙ rw (
      picked q kinds.Port p h.ports_are,
      picked q kinds.Filter f h.filters_are,
      picked q kinds.Gate g h.gates_are,
      picked q kinds.Meter m h.meters_are,
    ) refl

abbrev HasKind : Data → List (Key × Record) → Kind → Type 0
HasKind d es q = given_or (array no_items) (kind_text q) d ≡ tables_of keyed_rows (of_kind q es)

-- the tables of a document are those of these records, in range and in the order of kinds
record TablesThere (d : Data) (es : List (Key × Record)) : Type 0 where
  kinds_are : (q : Kind) → HasKind d es q
  ranges : InRange es
  order : es ≡ of_kind kinds.Port es ++ (of_kind kinds.Filter es ++ (of_kind kinds.Gate es ++ of_kind kinds.Meter es))

has_kind : (d : Data) (es part : List (Key × Record)) (q : Kind) → KindThere q d part → of_kind q es ≡ part → HasKind d es q
has_kind d es part q there is = there.value ∙ ap (tables_of keyed_rows) (sym is)

by_kind : (P : Kind → Type 0) → P kinds.Port → P kinds.Filter → P kinds.Gate → P kinds.Meter → (q : Kind) → P q
by_kind P p f g m kinds.Port = p
by_kind P p f g m kinds.Filter = f
by_kind P p f g m kinds.Gate = g
by_kind P p f g m kinds.Meter = m

four_there : (d : Data) (p f g m : List (Key × Record)) → KindThere kinds.Port d p → KindThere kinds.Filter d f → KindThere kinds.Gate d g
    → KindThere kinds.Meter d m → TablesThere d (p ++ (f ++ (g ++ m)))
four_there d p f g m ports filters gates meters =
    let whole : List (Key × Record) = p ++ (f ++ (g ++ m)) in
    let four : FourKinds p f g m = record
    { ports_are = ports.kinds_are; filters_are = filters.kinds_are; gates_are = gates.kinds_are; meters_are = meters.kinds_are } in
    let a : of_kind kinds.Port whole ≡ p = of_four kinds.Port p f g m four ∙ append-nil p in
    let b : of_kind kinds.Filter whole ≡ f = of_four kinds.Filter p f g m four ∙ append-nil f in
    let c : of_kind kinds.Gate whole ≡ g = of_four kinds.Gate p f g m four ∙ append-nil g in
    let e : of_kind kinds.Meter whole ≡ m = of_four kinds.Meter p f g m four in
    record {
      kinds_are = λ q. by_kind (HasKind d whole) (has_kind d whole p kinds.Port ports a) (has_kind d whole f kinds.Filter filters b)
          (has_kind d whole g kinds.Gate gates c) (has_kind d whole m kinds.Meter meters e) q;
      ranges = all_joined _ p (f ++ (g ++ m)) ports.ranges
          (all_joined _ f (g ++ m) filters.ranges (all_joined _ g m gates.ranges meters.ranges));
      order = sym (ap₂ ◌++◌ a (ap₂ ◌++◌ b (ap₂ ◌++◌ c e)));
    }

tables_there : (d : Data) (ts : List TableDraft) (es : List (Key × Record)) → IsOrdered d → tables_shape d ≡ Ok ts
    → each keyed_record ts ≡ Ok es → TablesThere d es
unfolding tables_shape
tables_there d ts es ordered shape ranges =
    steps (tables_of_kind kinds.Port d) _ ts shape (λ ports ports_is ports_next.
    steps (tables_of_kind kinds.Filter d) _ ts ports_next (λ filters filters_is filters_next.
    steps (tables_of_kind kinds.Gate d) _ ts filters_next (λ gates gates_is gates_next.
    steps (tables_of_kind kinds.Meter d) _ ts gates_next (λ meters meters_is meters_next.
    let whole : List TableDraft = ports ++ (filters ++ (gates ++ meters)) in
    let all : each keyed_record whole ≡ Ok es = ap (each keyed_record)
    (only (Ok whole) whole ts refl (ap (λ l. Ok l) (sym (in_a_row ports filters gates meters)) ∙ meters_next)) ∙ ranges in
    each_split keyed_record ports (filters ++ (gates ++ meters)) es all (λ p later p_is later_is all_same.
    each_split keyed_record filters (gates ++ meters) later later_is (λ f last f_is last_is later_same.
    each_split keyed_record gates meters last last_is (λ g m g_is m_is last_same.
    let same : p ++ (f ++ (g ++ m)) ≡ es = ap (λ l. p ++ (f ++ l)) last_same ∙ ap (λ l. p ++ l) later_same ∙ all_same in
    subst (TablesThere d) same (four_there d p f g m
    (kind_there kinds.Port d ports p ordered ports_is p_is)
    (kind_there kinds.Filter d filters f ordered filters_is f_is)
    (kind_there kinds.Gate d gates g ordered gates_is g_is)
    (kind_there kinds.Meter d meters m ordered meters_is m_is)))))))))

-- ---- names that a setup has

contained_at : (b : Bool) (name : List ℕ) (names : List (List ℕ)) (k : List ℕ) → bytes_eq name k ≡ b → b || is_among names k ≡ true
    → (is_among names k ≡ true → Contains names k) → Contains (name ∷ names) k
contained_at true name names k is h more = (zero, omega arith, same_text name k is)
contained_at false name names k is h more = let found = more h in (suc found.0, omega (arith, found.1), found.2)

contained : (names : List (List ℕ)) (k : List ℕ) → is_among names k ≡ true → Contains names k
contained [] k h = cc
contained (name ∷ names) k h = contained_at (bytes_eq name k) name names k refl h (λ later. contained names k later)

nothing_else : (names : List (List ℕ)) (d : Data) (u : Unit {0}) → has_only names d ≡ Ok u → (k : List ℕ) → IsSome (get k d)
    → Contains names k
nothing_else names d u h k there = contained names k (members_have names d u h k there)

or_true : (b : Bool) → b || true ≡ true
or_true true = refl
or_true false = refl

among_at : (names : List (List ℕ)) (k : List ℕ) (i : ℕ) → i < length names → slice_index_or names i k ≡ k → is_among names k ≡ true
among_at [] k i inside is = absurd (omega arith)
among_at (name ∷ names) k zero inside is = rw (same_bytes name k is)
among_at (name ∷ names) k (suc i) inside is = rw (among_at names k i (omega arith) is) (or_true (bytes_eq name k))

is_table : (b : Bool) (o : Option Members) → IfSome (if b then option_map table o else None) (λ d. (ms : Members) × (d ≡ table ms))
is_table true None = tt
is_table true (Some ms) = (ms, refl)
is_table false o = tt

only_setup_names : (text : List ℕ) (d : Data) → document_of text ≡ Some d → ((k : List ℕ) → IsSome (get k d) → Contains setup_names k)
    → has_only setup_names d ≡ Ok tt
only_setup_names text d is h =
    let whole = subst (λ o. IfSome o (λ x. (ms : Members) × (x ≡ table ms))) is (is_table (is_utf8 text) (parse_document text)) in
    let known : (k : List ℕ) → IsSome (get_member k whole.0) → is_among setup_names k ≡ true = λ k there.
    let found = h k (subst (λ x. IsSome (get k x)) (sym whole.1) there) in among_at setup_names k found.0 found.1 found.2 in
    rw (whole.1, all_among setup_names whole.0 known)

-- ---- what is accepted is a document of the setup

-- the setup may be given, and the value is a document of it
record IsGiven (d : Data) (s : Setup) : Type 0 where
  setup : MayBeGiven s
  document : IsDocumentOf s d

all_there : (d : Data) (u : Unit {0}) (l : Limits) (es : List (Key × Record)) → has_only setup_names d ≡ Ok u → LimitsThere d l
    → TablesThere d es → IsGiven d (record { limits = l; records = es })
all_there d u l es names given there = record {
  setup = record {
    limits = given.in_range;
    records = there.ranges;
    order = there.order ∙ sym (in_a_row (of_kind kinds.Port es) (of_kind kinds.Filter es) (of_kind kinds.Gate es)
        (of_kind kinds.Meter es));
  };
  document = record { limits = given.held; records = there.kinds_are; nothing_else = nothing_else setup_names d u names };
}

abbrev Accepted : List ℕ → Setup → Type 0
Accepted text s = MayBeGiven s × IsSomeAnd (document_of text) (IsDocumentOf s)

given_accepted : (text : List ℕ) (d : Data) (s : Setup) → document_of text ≡ Some d → IsGiven d s → Accepted text s
given_accepted text d s is given = (given.setup, subst (λ o. IsSomeAnd o (IsDocumentOf s)) (sym is) given.document)

shape_parts : (d : Data) (draft : LimitsDraft × List TableDraft) → setup_shape d ≡ Ok draft
    → (has_only setup_names d ≡ Ok tt) × (limits_shape d ≡ Ok draft.0) × (tables_shape d ≡ Ok draft.1)
unfolding setup_shape
shape_parts d draft h =
    steps (has_only setup_names d) _ draft h (λ names names_is names_next.
    steps (limits_shape d) _ draft names_next (λ given given_is given_next.
    steps (tables_shape d) _ draft given_next (λ tables tables_is tables_next.
    let found : LimitsDraft × List TableDraft = (given, tables) in
    subst (λ (x : LimitsDraft × List TableDraft). (has_only setup_names d ≡ Ok tt) × (limits_shape d ≡ Ok x.0) × (tables_shape d ≡ Ok x.1))
    (only (Ok found) found draft refl tables_next) (names_is, given_is, tables_is))))

draft_there : (d : Data) (draft : LimitsDraft × List TableDraft) (s : Setup) → IsOrdered d → setup_shape d ≡ Ok draft
    → setup_of_draft draft ≡ Ok s → IsGiven d s
unfolding setup_of_draft
draft_there d draft s ordered shape range =
    let parts = shape_parts d draft shape in
    steps (limits draft.0) _ s range (λ l l_is l_next.
    steps (each keyed_record draft.1) _ s l_next (λ es es_is es_next.
    let setup : Setup = record { limits = l; records = es } in
    let there = all_there d tt l es parts.0 (limits_there d draft.0 l parts.1 l_is) (tables_there d draft.1 es ordered parts.2 es_is) in
    subst (IsGiven d) (only (Ok setup) setup s refl es_next) there))

read_accepted : (text : List ℕ) (s : Setup) → reading text ≡ Ok s → Accepted text s
read_accepted text s h =
    steps (or_syntax (document_of text)) _ s h (λ d d_is d_next.
    steps (setup_shape d) _ s d_next (λ draft draft_is draft_next.
    let found = syntax_there (document_of text) d d_is in
    given_accepted text d s found (draft_there d draft s (text_ordered text d found) draft_is draft_next)))

short_at : (b : Bool) (text : List ℕ) (s : Setup) → (if b then refused (reading text) else Err TooLong) ≡ Ok s
    → (b ≡ true) × (reading text ≡ Ok s)
short_at true text s h = (refl, not_refused (reading text) s h)
short_at false text s h = cc

accepted : (text : List ℕ) (s : Setup) → setup_of text ≡ Ok s
    → (length text ≤ longest_setup) × MayBeGiven s × IsSomeAnd (document_of text) (IsDocumentOf s)
accepted text s h =
    let short = short_at (nat_le (length text) longest_setup) text s h in
    let read = read_accepted text s short.1 in
    (leb-true (length text) longest_setup short.0, read.0, read.1)

-- ---- a document of the setup is accepted

tables_from : (d : Data) (p f g m : List TableDraft) → tables_of_kind kinds.Port d ≡ Ok p → tables_of_kind kinds.Filter d ≡ Ok f
    → tables_of_kind kinds.Gate d ≡ Ok g → tables_of_kind kinds.Meter d ≡ Ok m → tables_shape d ≡ Ok (p ++ (f ++ (g ++ m)))
unfolding tables_shape
tables_from d p f g m ports filters gates meters = rw (ports, filters, gates, meters) (ap (λ l. Ok l) (in_a_row p f g m))

tables_read : (d : Data) (es : List (Key × Record)) → TablesThere d es → tables_shape d ≡ Ok (map keyed_draft es)
tables_read d es h =
    let read = λ (q : Kind). kind_read q d (of_kind q es) (h.kinds_are q) (of_kind_in_range q es h.ranges) (of_kind_of q es) in
    let p : List (Key × Record) = of_kind kinds.Port es in
    let f : List (Key × Record) = of_kind kinds.Filter es in
    let g : List (Key × Record) = of_kind kinds.Gate es in
    let m : List (Key × Record) = of_kind kinds.Meter es in
    let drafts : map keyed_draft es ≡ map keyed_draft p ++ (map keyed_draft f ++ (map keyed_draft g ++ map keyed_draft m)) =
    ap (map keyed_draft) h.order ∙ drafts_joined p (f ++ (g ++ m))
    ∙ ap (λ l. map keyed_draft p ++ l) (drafts_joined f (g ++ m) ∙ ap (λ l. map keyed_draft f ++ l) (drafts_joined g m)) in
    tables_from d (map keyed_draft p) (map keyed_draft f) (map keyed_draft g) (map keyed_draft m) (read kinds.Port) (read kinds.Filter)
    (read kinds.Gate) (read kinds.Meter) ∙ ap (λ l. Ok l) (sym drafts)

draft_from : (d : Data) (given : LimitsDraft) (ts : List TableDraft) → has_only setup_names d ≡ Ok tt → limits_shape d ≡ Ok given
    → tables_shape d ≡ Ok ts → setup_shape d ≡ Ok (given, ts)
unfolding setup_shape
draft_from d given ts names shape tables = rw (names, shape, tables)

draft_passes : (given : LimitsDraft) (ts : List TableDraft) (s : Setup) → limits given ≡ Ok s.limits → each keyed_record ts ≡ Ok s.records
    → setup_of_draft (given, ts) ≡ Ok s
unfolding setup_of_draft
draft_passes given ts s ranges records = rw (ranges, records)

read_from : (text : List ℕ) (d : Data) (given : LimitsDraft) (ts : List TableDraft) (s : Setup) → document_of text ≡ Some d
    → setup_shape d ≡ Ok (given, ts) → setup_of_draft (given, ts) ≡ Ok s → reading text ≡ Ok s
read_from text d given ts s is shape ranges = rw (is, shape, ranges)

setup_read : (text : List ℕ) (d : Data) (s : Setup) → document_of text ≡ Some d → MayBeGiven s → IsDocumentOf s d → reading text ≡ Ok s
setup_read text d s is may h =
    let read = limits_read d s.limits (record { held = h.limits; in_range = may.limits }) in
    let there : TablesThere d s.records = record {
      kinds_are = h.records;
      ranges = may.records;
      order = may.order ∙ in_a_row (of_kind kinds.Port s.records) (of_kind kinds.Filter s.records) (of_kind kinds.Gate s.records)
          (of_kind kinds.Meter s.records);
    } in
    let ts = map keyed_draft s.records in
    read_from text d read.draft ts s is
    (draft_from d read.draft ts (only_setup_names text d is h.nothing_else) read.shape (tables_read d s.records there))
    (draft_passes read.draft ts s read.range (records_back s.records may.records))

document_read : (text : List ℕ) (s : Setup) (o : Option Data) → document_of text ≡ o → MayBeGiven s → IsSomeAnd o (IsDocumentOf s)
    → reading text ≡ Ok s
document_read text s None is may h = absurd h
document_read text s (Some d) is may h = setup_read text d s is may h

read_as : (text : List ℕ) (s : Setup) → length text ≤ longest_setup → MayBeGiven s → IsSomeAnd (document_of text) (IsDocumentOf s)
    → setup_of text ≡ Ok s
read_as text s short may h = rw (le-leb (length text) longest_setup short, document_read text s (document_of text) refl may h)

pub accepts_values : AcceptsValues
accepts_values text s = (λ h. accepted text s h, λ p. read_as text s p.0 p.1 p.2)
