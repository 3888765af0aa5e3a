-- A table is read as a key of its kind and a record exactly where it is the table of these and they are in range.
use Rattle.std.proofs.Common.{◌≡◌, ℕ, ◌≤◌, List, [], ◌∷◌, map, Result, Ok, Err, codes, refl, sym, ap, ap₂, subst, ◌∙◌}
use Rattle.std.specs.List.{AllByRecursion}
use Rattle.toml.specs.Data.{Data, array, Items, no_items, item}
use Rattle.toml.specs.View.{items_of}
use Rattle.tsn_types.specs.InRange.{KeyedInRange}
use Rattle.tsn_types.specs.Keys.{kind, number_of}
use Rattle.tsn_types.specs.Numbers.{greatest_instance, most_ports}
use Rattle.tsn_types.specs.declared.keys.Key.{Key}
use Rattle.tsn_types.specs.declared.keys.Key.TheVariants as keys
use Rattle.tsn_types.specs.declared.keys.Kind.{Kind}
use Rattle.tsn_types.specs.declared.keys.Kind.TheVariants as kinds
use Rattle.tsn_types.specs.declared.records.Record.{Record}
use Rattle.tsn_types.specs.declared.records.Record.TheVariants as records
use Rattle.tsn_types.specs.declared.refusals.Field.TheVariants as fields
use Rattle.tsn_records.specs.Answers.{◌>>=◌, each}
use Rattle.tsn_records.specs.Ranges.{within, key_of_kind, record_of}
use Rattle.tsn_records.specs.declared.drafts.RecordDraft.{RecordDraft}
use Rattle.tsn_records.specs.declared.unread.Unread.{Unread}
use Rattle.tsn_setup.specs.Ranges.{or_id, key, keyed_record}
use Rattle.tsn_records.specs.Records.{record_shape}
use Rattle.tsn_records.specs.Values.{kind_of_draft, record_draft}
use Rattle.tsn_setup.specs.Tables.{table_shape}
use Rattle.tsn_setup.specs.Toml.{items_list, number_at, as_toml}
use Rattle.tsn_setup.specs.Values.{table_with, tables_of, record_rows, keyed_rows}
use Rattle.tsn_setup.specs.declared.drafts.TableDraft.{TableDraft}
use Rattle.tsn_setup.proofs.Ordered.{IsOrdered, EachOrdered}
use Rattle.tsn_records.proofs.RecordsRead.{InRangeOf, record_read}
use Rattle.tsn_records.proofs.RecordRanges.{passed, within_ok, at_most_ok, port_back, filter_back, gate_back, meter_back, instance_passed}
use Rattle.tsn_records.proofs.Steps.{last_step, only, steps}
use Rattle.tsn_records.proofs.Shapes.{record_has}
use Rattle.tsn_setup.proofs.Shapes.{number_got, table_is, table_shaped}

-- ---- a table that is read

-- the table of this key of the kind and this record, which are in range
record IsRead (q : Kind) (d : Data) (e : Key × Record) : Type 0 where
  value : d ≡ table_with (keyed_rows e)
  range : KeyedInRange e.0 e.1
  kind_is : kind e.0 ≡ q

not_id : (x : Result Key Unread) (k : Key) → or_id x ≡ Ok k → x ≡ Ok k
not_id (Ok l) k h = cc
not_id (Err e) k h = cc

-- a key of this kind and identifier, which is in range beside this record
abbrev IsKeyOf : Kind → ℕ → Record → Key → Type 0
IsKeyOf q id r k = (id ≡ number_of k) × KeyedInRange k r × (kind k ≡ q)

key_read : (q : Kind) (id : ℕ) (k : Key) (r : Record) → InRangeOf q r → key_of_kind q id ≡ Ok k → IsKeyOf q id r k
key_read kinds.Port id k (records.Port r) held h =
    last_step (within fields.Key 1 most_ports id) k (IsKeyOf kinds.Port id (records.Port r)) keys.Port h (λ n is.
    let fits = passed fields.Key 1 most_ports id n is in (fits.0, (fits.1, held), refl))
key_read kinds.Filter id k (records.Filter r) held h =
    instance_passed id k (IsKeyOf kinds.Filter id (records.Filter r)) keys.Filter h (λ n same fits. (same, (fits, held), refl))
key_read kinds.Gate id k (records.Gate r) held h =
    instance_passed id k (IsKeyOf kinds.Gate id (records.Gate r)) keys.Gate h (λ n same fits. (same, (fits, held), refl))
key_read kinds.Meter id k (records.Meter r) held h =
    instance_passed id k (IsKeyOf kinds.Meter id (records.Meter r)) keys.Meter h (λ n same fits. (same, (fits, held), refl))
key_read q id k r held h = absurd held

entry_read : (q : Kind) (d : Data) (id : ℕ) (value : RecordDraft) (k : Key) (r : Record) → IsOrdered d → number_at (codes "id") d ≡ Ok id
    → record_shape as_toml q d ≡ Ok value → or_id (key_of_kind (kind_of_draft value) id) ≡ Ok k → record_of value ≡ Ok r → IsRead q d (k, r)
entry_read q d id value k r ordered id_is shape key_is range =
    let read = record_read as_toml q d value r shape range in
    let drafted : q ≡ kind_of_draft value = sym (record_has as_toml q d value shape).of in
    let named : key_of_kind q id ≡ Ok k = not_id _ k (ap (λ x. or_id (key_of_kind x id)) drafted ∙ key_is) in
    let of = (record_has as_toml q d (record_draft r) read.0).of in
    let fits = key_read q id k r read.1 named in
    record {
      value =
          table_is d id r ordered id_is (subst (λ p. record_shape as_toml p d ≡ Ok (record_draft r)) (sym of) read.0)
          ∙ ap (λ n. table_with (record_rows n r)) fits.0;
      range = fits.1;
      kind_is = fits.2;
    }

table_parts : (q : Kind) (d : Data) (t : TableDraft) → table_shape q d ≡ Ok t
    → (number_at (codes "id") d ≡ Ok t.id) × (record_shape as_toml q d ≡ Ok t.value)
unfolding table_shape
table_parts q d t h =
    steps (number_at (codes "id") d) _ t h (λ id id_is id_next.
    steps (record_shape as_toml q d) _ t id_next (λ value value_is value_next.
    let draft : TableDraft = record { id = id; value = value } in
    subst (λ (x : TableDraft). (number_at (codes "id") d ≡ Ok x.id) × (record_shape as_toml q d ≡ Ok x.value))
    (only (Ok draft) draft t refl value_next) (id_is, value_is)))

keyed_parts : (t : TableDraft) (e : Key × Record) → keyed_record t ≡ Ok e → (key t ≡ Ok e.0) × (record_of t.value ≡ Ok e.1)
unfolding keyed_record
keyed_parts t e h =
    steps (key t) _ e h (λ k k_is k_next.
    steps (record_of t.value) _ e k_next (λ r r_is r_next.
    subst (λ (x : Key × Record). (key t ≡ Ok x.0) × (record_of t.value ≡ Ok x.1)) (only (Ok (k, r)) (k, r) e refl r_next) (k_is, r_is)))

table_read : (q : Kind) (d : Data) (t : TableDraft) (e : Key × Record) → IsOrdered d → table_shape q d ≡ Ok t → keyed_record t ≡ Ok e
    → IsRead q d e
table_read q d t e ordered shape range =
    let parts = table_parts q d t shape in
    let keyed = keyed_parts t e range in
    entry_read q d t.id t.value e.0 e.1 ordered parts.0 parts.1 keyed.0 keyed.1

-- the tables of these records, each in range and of the kind
pub record AreRead (q : Kind) (ds : Items) (es : List (Key × Record)) : Type 0 where
  pub value : array ds ≡ tables_of keyed_rows es
  pub ranges : AllByRecursion (λ e. KeyedInRange e.0 e.1) es
  pub kinds_are : AllByRecursion (λ e. kind e.0 ≡ q) es

some_read : (q : Kind) (d : Data) (e : Key × Record) (ds : Items) (es : List (Key × Record)) → IsRead q d e → AreRead q ds es
    → AreRead q (item d ds) (e ∷ es)
some_read q d e ds es here later =
    let whole : array ds ≡ tables_of keyed_rows es = later.value in
    let rest : ds ≡ items_of (map (λ x. table_with (keyed_rows x)) es) = cc in
    record { value = ap array (ap₂ item here.value rest); ranges = (here.range, later.ranges); kinds_are = (here.kind_is, later.kinds_are) }

pub tables_read : (q : Kind) (ds : Items) (ts : List TableDraft) (es : List (Key × Record)) → EachOrdered ds
    → each (table_shape q) (items_list ds) ≡ Ok ts → each keyed_record ts ≡ Ok es → AreRead q ds es
tables_read q no_items ts es ordered shapes ranges =
    let none : each keyed_record [] ≡ Ok es = ap (each keyed_record) (only (Ok []) [] ts refl shapes) ∙ ranges in
    subst (AreRead q no_items) (only (Ok []) [] es refl none) (record { value = refl; ranges = tt; kinds_are = tt })
tables_read q (item d ds) ts es ordered shapes ranges =
    steps (table_shape q d) _ ts shapes (λ t t_is t_next.
    steps (each (table_shape q) (items_list ds)) _ ts t_next (λ more more_is more_next.
    let split : each keyed_record (t ∷ more) ≡ Ok es = ap (each keyed_record) (only (Ok (t ∷ more)) (t ∷ more) ts refl more_next)
    ∙ ranges in
    steps (keyed_record t) _ es split (λ e e_is e_next.
    steps (each keyed_record more) _ es e_next (λ rest rest_is rest_next.
    subst (AreRead q (item d ds)) (only (Ok (e ∷ rest)) (e ∷ rest) es refl rest_next)
    (some_read q d e ds rest (table_read q d t e ordered.0 t_is e_is) (tables_read q ds more rest ordered.1 more_is rest_is))))))

-- ---- the table of a key and a record

abbrev pub keyed_draft : Key × Record → TableDraft
keyed_draft e = record { id = number_of e.0; value = record_draft e.1 }

id_read : (q : Kind) (d : Data) (id : ℕ) (value : RecordDraft) → number_at (codes "id") d ≡ Ok id → record_shape as_toml q d ≡ Ok value
    → table_shape q d ≡ Ok (record { id = id; value = value })
unfolding table_shape
id_read q d id value id_is value_is = rw (id_is, value_is)

kind_drafted : (k : Key) (r : Record) → KeyedInRange k r → kind_of_draft (record_draft r) ≡ kind k
kind_drafted (keys.Port n) (records.Port r) fits = refl
kind_drafted (keys.Filter n) (records.Filter r) fits = refl
kind_drafted (keys.Gate n) (records.Gate r) fits = refl
kind_drafted (keys.Meter n) (records.Meter r) fits = refl
kind_drafted k r fits = absurd fits

id_got : (id : ℕ) (r : Record) → number_at (codes "id") (table_with (record_rows id r)) ≡ Ok id
id_got id (records.Port r) = number_got (codes "id") (record_rows id (records.Port r)) id refl refl
id_got id r = number_got (codes "id") (record_rows id r) id refl refl

table_drafted : (k : Key) (r : Record) → KeyedInRange k r → table_shape (kind k) (table_with (keyed_rows (k, r))) ≡ Ok (keyed_draft (k, r))
table_drafted k r fits =
    id_read (kind k) _ (number_of k) (record_draft r) (id_got (number_of k) r)
    (subst (λ p. record_shape as_toml p (table_with (record_rows (number_of k) r)) ≡ Ok (record_draft r)) (kind_drafted k r fits)
    (table_shaped (number_of k) r))

keyed_back : (k : Key) (r : Record) → KeyedInRange k r → keyed_record (keyed_draft (k, r)) ≡ Ok (k, r)
unfolding keyed_record
keyed_back (keys.Port n) (records.Port r) fits = rw (within_ok fields.Key 1 most_ports n fits.0, port_back r fits.1)
keyed_back (keys.Filter n) (records.Filter r) fits = rw (at_most_ok fields.Key greatest_instance n fits.0, filter_back r fits.1)
keyed_back (keys.Gate n) (records.Gate r) fits = rw (at_most_ok fields.Key greatest_instance n fits.0, gate_back r fits.1)
keyed_back (keys.Meter n) (records.Meter r) fits = rw (at_most_ok fields.Key greatest_instance n fits.0, meter_back r fits.1)
keyed_back k r fits = absurd fits

pub tables_shaped : (q : Kind) (es : List (Key × Record)) → AllByRecursion (λ e. KeyedInRange e.0 e.1) es
    → AllByRecursion (λ e. kind e.0 ≡ q) es
    → each (table_shape q) (items_list (items_of (map (λ e. table_with (keyed_rows e)) es))) ≡ Ok (map keyed_draft es)
tables_shaped q [] fits are = refl
tables_shaped q (e ∷ es) fits are =
    let here : table_shape q (table_with (keyed_rows e)) ≡ Ok (keyed_draft e) = subst
    (λ p. table_shape p (table_with (keyed_rows e)) ≡ Ok (keyed_draft e)) are.0 (table_drafted e.0 e.1 fits.0) in
    rw (here, tables_shaped q es fits.1 are.1)

pub records_back : (es : List (Key × Record)) → AllByRecursion (λ e. KeyedInRange e.0 e.1) es
    → each keyed_record (map keyed_draft es) ≡ Ok es
records_back [] fits = refl
records_back (e ∷ es) fits = rw (keyed_back e.0 e.1 fits.0, records_back es fits.1)
