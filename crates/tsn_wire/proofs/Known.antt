-- Keys and records that are read: a key and a record that pass are those of the value, and read back from it.
use Rattle.std.proofs.Common.{◌≡◌, ℕ, ◌≤◌, ◌||◌, ◌==◌, ◌++◌, List, [], ◌∷◌, length, drop, map, Bool, true, false, not, cond, nat_eq, Option, Some, None, option_map, Result, Ok, codes, decimal, bytes_eq, refl, sym, ap, ap₂, ◌∙◌, arith, eqb-true, leb-true, ltb-true}
use Rattle.std.specs.List.{find, starts_with}
use Rattle.std.specs.Str.Parse.{digits_value}
use Rattle.std.proofs.lemmas.Bool.Decides.{Decides-eqb}
use Rattle.std.proofs.lemmas.Fmt.{decimal-digits_value}
use Rattle.std.proofs.lemmas.Slice.Eq.{starts_is}
use Rattle.std.proofs.lemmas.Str.Parse.{digits_value_short}
use Rattle.serde_json.specs.Data.{Data, string}
use Rattle.serde_json.specs.Find.{get}
use Rattle.tsn_types.specs.declared.keys.Key.{Key}
use Rattle.tsn_types.specs.declared.keys.Key.TheVariants as keys
use Rattle.tsn_types.specs.declared.keys.Kind.{Kind}
use Rattle.tsn_types.specs.declared.keys.Kind.TheVariants as kinds
use Rattle.tsn_types.specs.declared.records.Record.{Record}
use Rattle.tsn_types.specs.declared.records.Record.TheVariants as records
use Rattle.tsn_types.specs.declared.refusals.Field.TheVariants as fields
use Rattle.tsn_types.specs.InRange.{KeyedInRange}
use Rattle.tsn_types.specs.Keys.{kind, number_of}
use Rattle.tsn_types.specs.Numbers.{IsInstanceId, greatest_instance, most_ports}
use Rattle.tsn_wire.specs.Commands.{key_at, keyed_record, removable}
use Rattle.tsn_records.specs.Answers.{◌>>=◌}
use Rattle.tsn_records.specs.Json.{as_json, has_members, text_at, value_at}
use Rattle.tsn_records.specs.Keys.{is_decimal, decimal_of, numbered, key_of, kind_of, key_text, kind_text, spelled_key}
use Rattle.tsn_records.specs.Ranges.{within, record_of, key, key_of_kind}
use Rattle.tsn_records.specs.Records.{record_shape}
use Rattle.tsn_records.specs.Shown.{draft_data, gate_entry_data, gate_entry_value, port_entry_data, port_entry_value, record_data}
use Rattle.tsn_wire.specs.Lines.{IsOf}
use Rattle.tsn_wire.specs.Words.{all_words, word_of, word_text}
use Rattle.tsn_wire.specs.declared.words.Word.{Word}
use Rattle.tsn_wire.specs.Values.{KeyInRange, IsNoPort}
use Rattle.tsn_records.specs.Values.{port_entry_draft, gate_entry_draft, record_draft}
use Rattle.tsn_records.specs.declared.drafts.KeyDraft.{KeyDraft}
use Rattle.tsn_records.specs.declared.drafts.RecordDraft.{RecordDraft}
use Rattle.tsn_records.specs.declared.unread.Unread.{Unread}
use Rattle.tsn_records.proofs.Digits.{own, and_parts}
use Rattle.tsn_records.proofs.RecordsRead.{InRangeOf, record_read}
use Rattle.tsn_records.proofs.RecordRanges.{passed, within_ok, at_most_ok, port_back, filter_back, gate_back, meter_back, instance_passed}
use Rattle.tsn_records.proofs.Steps.{last_step, only, steps}
use Rattle.tsn_wire.proofs.FromShapes.{record_known as value_known, text_there, value_there}
use Rattle.tsn_wire.proofs.Objects.{IsOrdered, inner_ordered}
use Rattle.tsn_records.proofs.NameOrder.{same_text}

-- one of two, by a test
pub by_test : {A P : Type 0} (b : Bool) (x y z : A) → cond b x y ≡ z → (b ≡ true → x ≡ z → P) → (b ≡ false → y ≡ z → P) → P
by_test true x y z h first second = first refl h
by_test false x y z h first second = second refl h

pub some : {A : Type 0} (a b : A) → Some a ≡ Some b → a ≡ b
some a b h = cc

-- a text is that of the word found for it
found_passes : {A : Type 0} (test : A → Bool) (xs : List A) (x : A) → find test xs ≡ Some x → test x ≡ true
found_passes test [] x h = cc
found_passes test (y ∷ ys) x h = by_test _ _ _ _ h (λ e is. ap test (sym (some y x is)) ∙ e) (λ _ rest. found_passes test ys x rest)

pub word_known : (text : List ℕ) (word : Word) → word_of text ≡ Some word → text ≡ word_text word
unfolding word_of
word_known text word h = same_text text (word_text word) (found_passes (λ w. bytes_eq text (word_text w)) all_words word h)

-- ---- keys

pub chosen : {A : Type 0} (b : Bool) (x y : A) → cond b (Some x) None ≡ Some y → (b ≡ true) × (x ≡ y)
chosen true x y h = (refl, some x y h)
chosen false x y h = cc

zero_alone : (one : Bool) (first : ℕ) → one || not (first == 48) ≡ true → first ≡ 48 → one ≡ true
zero_alone true first h e = refl
zero_alone false first h e = let never : false ≡ true = rw e at h in cc

decimal_known : (ds : List ℕ) (n : ℕ) → decimal_of ds ≡ Some n → ds ≡ decimal n
decimal_known ds n h =
    let test = chosen (is_decimal ds) (digits_value 10 ds) n h in
    let digits = and_parts _ _ test.0 in
    let more = and_parts _ _ digits.1 in
    let few = and_parts _ _ more.1 in
    let ten : length ds ≤ 10 = leb-true _ _ few.0 in
    let small = digits_value_short own ds 10 digits.0 ten in
    sym (decimal-digits_value own ds digits.0 (ltb-true _ _ more.0) (λ e. eqb-true _ _ (zero_alone _ _ few.1 e)) (omega (arith, small)))
    ∙ ap decimal test.1

mapped : {A B P : Type 0} (f : A → B) (o : Option A) (b : B) → option_map f o ≡ Some b → ((a : A) → o ≡ Some a → f a ≡ b → P) → P
mapped f None b h next = cc
mapped f (Some a) b h next = next a refl (some (f a) b h)

numbered_known : (q : Kind) (ds : List ℕ) (k : KeyDraft) → numbered q ds ≡ Some k → (q ≡ k.kind) × (ds ≡ decimal k.number)
numbered_known q ds k h =
    mapped _ (decimal_of ds) k h (λ n found is.
    (ap (λ (x : KeyDraft). x.kind) is, decimal_known ds n found ∙ ap (λ (x : KeyDraft). decimal x.number) is))

begins : (text piece : List ℕ) → starts_with nat_eq text piece ≡ true → text ≡ piece ++ drop (length piece) text
begins text piece e = (starts_is Decides-eqb text piece _ refl).0 e

-- a kind's name and a space, and its number
spelled_of : (text piece : List ℕ) (q : Kind) (k : KeyDraft) → starts_with nat_eq text piece ≡ true
    → numbered q (drop (length piece) text) ≡ Some k → ((n : ℕ) → piece ++ decimal n ≡ spelled_key q n) → text ≡ spelled_key k.kind k.number
spelled_of text piece q k first number spells =
    let known = numbered_known q (drop (length piece) text) k number in
    begins text piece first ∙ ap (λ l. piece ++ l) known.1 ∙ spells k.number ∙ ap (λ x. spelled_key x k.number) known.0

key_known : (text : List ℕ) (k : KeyDraft) → key_of text ≡ Some k → text ≡ spelled_key k.kind k.number
key_known text k h =
    by_test _ _ _ _ h (λ e n. spelled_of text (codes "port ") kinds.Port k e n (λ _. refl))
    (λ _ h1. by_test _ _ _ _ h1 (λ e n. spelled_of text (codes "filter ") kinds.Filter k e n (λ _. refl))
    (λ _ h2. by_test _ _ _ _ h2 (λ e n. spelled_of text (codes "gate ") kinds.Gate k e n (λ _. refl))
    (λ _ h3. by_test _ _ _ _ h3 (λ e n. spelled_of text (codes "meter ") kinds.Meter k e n (λ _. refl)) (λ _ h4. cc))))

pub kind_known : (text : List ℕ) (k : Kind) → kind_of text ≡ Some k → text ≡ kind_text k
kind_known text k h =
    by_test _ _ _ _ h (λ e n. same_text text _ e ∙ ap kind_text (some kinds.Port k n))
    (λ _ h1. by_test _ _ _ _ h1 (λ e n. same_text text _ e ∙ ap kind_text (some kinds.Filter k n))
    (λ _ h2. by_test _ _ _ _ h2 (λ e n. same_text text _ e ∙ ap kind_text (some kinds.Gate k n))
    (λ _ h3. by_test _ _ _ _ h3 (λ e n. same_text text _ e ∙ ap kind_text (some kinds.Meter k n)) (λ _ h4. cc))))

-- a key of that kind and number
abbrev IsPassed : Kind → ℕ → Key → Type 0
IsPassed q n k = (q ≡ kind k) × (n ≡ number_of k) × KeyInRange k

-- a key that passes
pub key_passed_at : (q : Kind) (n : ℕ) (k : Key) → key_of_kind q n ≡ Ok k → IsPassed q n k
key_passed_at kinds.Port n k h =
    last_step (within fields.Key 1 most_ports n) k (IsPassed kinds.Port n) keys.Port h (λ m is.
    let known = passed fields.Key 1 most_ports n m is in (refl, known.0, known.1))
key_passed_at kinds.Filter n k h = instance_passed n k (IsPassed kinds.Filter n) keys.Filter h (λ m same fits. (refl, same, fits))
key_passed_at kinds.Gate n k h = instance_passed n k (IsPassed kinds.Gate n) keys.Gate h (λ m same fits. (refl, same, fits))
key_passed_at kinds.Meter n k h = instance_passed n k (IsPassed kinds.Meter n) keys.Meter h (λ m same fits. (refl, same, fits))

-- the member `key` of a value
pub key_there : (d : Data) (q : KeyDraft) (k : Key) → key_at d ≡ Ok q → key q ≡ Ok k
    → (get (codes "key") d ≡ Some (string (key_text k))) × (q.kind ≡ kind k) × KeyInRange k
key_there d q k at_key range =
    steps (text_at (codes "key") d) _ q at_key (λ text text_is text_next.
    let known = key_passed_at q.kind q.number k range in
    let spelled : text ≡ spelled_key q.kind q.number = key_known text q (value_there (key_of text) q text_next) in
    let same : spelled_key q.kind q.number ≡ key_text k = rw (known.0, known.1) refl in
    (text_there _ text text_is ∙ ap (λ l. Some (string l)) (spelled ∙ same), known.0, known.2))

-- a key that can be removed
pub removable_known : (q p : KeyDraft) (of : Kind) → removable q of ≡ Ok p → (q ≡ p) × IsNoPort of
removable_known q p kinds.Port h = cc
removable_known q p kinds.Filter h = (only (Ok q) q p refl h, tt)
removable_known q p kinds.Gate h = (only (Ok q) q p refl h, tt)
removable_known q p kinds.Meter h = (only (Ok q) q p refl h, tt)

-- ---- records

entries_same : {A B : Type 0} (value : B → Data) (draft : A → B) (shown : A → Data) → ((e : A) → value (draft e) ≡ shown e) → (es : List A)
    → map value (map draft es) ≡ map shown es
entries_same value draft shown one [] = refl
entries_same value draft shown one (e ∷ es) = ap₂ ◌∷◌ (one e) (entries_same value draft shown one es)

pub record_same : (r : Record) → draft_data (record_draft r) ≡ record_data r
record_same (records.Port r) = rw (entries_same port_entry_value port_entry_draft port_entry_data (λ _. refl) r.admin.list) refl
record_same (records.Filter r) = refl
record_same (records.Gate r) = rw (entries_same gate_entry_value gate_entry_draft gate_entry_data (λ _. refl) r.admin.list) refl
record_same (records.Meter r) = refl

-- a key and a record of its kind
keyed_in_range : (k : Key) (r : Record) → KeyInRange k → InRangeOf (kind k) r → KeyedInRange k r
keyed_in_range (keys.Port n) (records.Port r) number fits = (number, fits)
keyed_in_range (keys.Filter n) (records.Filter r) number fits = (number, fits)
keyed_in_range (keys.Gate n) (records.Gate r) number fits = (number, fits)
keyed_in_range (keys.Meter n) (records.Meter r) number fits = (number, fits)
keyed_in_range k r number fits = absurd fits

-- a value that is read as a record of the key's kind is the record's
record_known : (k : Key) (d : Data) (draft : RecordDraft) (r : Record) → IsOrdered d → KeyInRange k
    → record_shape as_json (kind k) d ≡ Ok draft → record_of draft ≡ Ok r → (d ≡ record_data r) × KeyedInRange k r
record_known k d draft r ordered fits shape range =
    let read = record_read as_json (kind k) d draft r shape range in
    (value_known (kind k) d (record_draft r) ordered read.0 ∙ record_same r, keyed_in_range k r fits read.1)

-- the key and the record of a value with so many members
pub record IsKeyed (n : ℕ) (d : Data) (k : Key) (r : Record) : Type 0 where
  pub unit : Unit {0}
  pub count : has_members n d ≡ Ok unit
  pub key_is : get (codes "key") d ≡ Some (string (key_text k))
  pub record_is : get (codes "record") d ≡ Some (record_data r)
  pub fits : KeyedInRange k r

keyed_known : (n : ℕ) (d : Data) (p : KeyDraft × RecordDraft) (k : Key) (r : Record) → IsOrdered d → keyed_record n d ≡ Ok p
    → key p.0 ≡ Ok k → record_of p.1 ≡ Ok r → IsKeyed n d k r
unfolding keyed_record
keyed_known n d p k r ordered shape range ranges =
    steps (has_members n d) _ p shape (λ u u_is u_next.
    steps (key_at d) _ p u_next (λ q q_is q_next.
    steps (value_at (codes "record") d) _ p q_next (λ e e_is e_next.
    steps (record_shape as_json q.kind e) _ p e_next (λ v v_is v_next.
    let both = only (Ok (q, v)) (q, v) p refl v_next in
    let named = key_there d q k q_is (ap (λ x. key x.0) both ∙ range) in
    let held = value_there (get (codes "record") d) e e_is in
    let known = record_known k e v r (inner_ordered (codes "record") d e ordered held) named.2
    (ap (λ x. record_shape as_json x e) (sym named.1) ∙ v_is) (ap (λ x. record_of x.1) both ∙ ranges) in
    record { unit = u; count = u_is; key_is = named.0; record_is = held ∙ ap Some known.0; fits = known.1 }))))

-- what holds of each key and record that such a value may have holds of what its draft passes as
pub put_known : {A F : Type 0} (n : ℕ) (asked : KeyDraft → RecordDraft → A) (found : Key → Record → F) (pass : A → Result F Unread)
    (d : Data) (draft : A) (f : F) (P : F → Type 0) → IsOrdered d
    → ((q : KeyDraft) (v : RecordDraft) → pass (asked q v) ≡ (key q >>= λ k. record_of v >>= λ r. Ok (found k r)))
    → (keyed_record n d >>= λ p. Ok (asked p.0 p.1)) ≡ Ok draft → pass draft ≡ Ok f
    → ((k : Key) (r : Record) → IsKeyed n d k r → P (found k r)) → P f
put_known n asked found pass d draft f P ordered ranges shape range holds =
    steps (keyed_record n d) _ draft shape (λ p p_is p_next.
    let whole = asked p.0 p.1 in
    let passes = sym (ranges p.0 p.1) ∙ ap pass (only (Ok whole) whole draft refl p_next) ∙ range in
    steps (key p.0) _ f passes (λ k k_is k_next.
    last_step (record_of p.1) f P (found k) k_next (λ r r_is. holds k r (keyed_known n d p k r ordered p_is k_is r_is))))

-- ---- back

-- a key as a line names it
abbrev pub key_draft : Key → KeyDraft
key_draft k = record { kind = kind k; number = number_of k }

pub key_back : (k : Key) → KeyInRange k → key (key_draft k) ≡ Ok k
key_back (keys.Port n) fits = rw (within_ok fields.Key 1 most_ports n fits)
key_back (keys.Filter n) fits = rw (at_most_ok fields.Key greatest_instance n fits)
key_back (keys.Gate n) fits = rw (at_most_ok fields.Key greatest_instance n fits)
key_back (keys.Meter n) fits = rw (at_most_ok fields.Key greatest_instance n fits)

pub instance : (k : Key) → KeyInRange k → IsInstanceId (number_of k)
instance (keys.Port n) fits = omega (arith, fits.1)
instance (keys.Filter n) fits = fits
instance (keys.Gate n) fits = fits
instance (keys.Meter n) fits = fits

-- a key and a record of its kind read back
pub record IsReadBack (k : Key) (r : Record) : Type 0 where
  pub in_range : KeyInRange k
  pub of : IsOf (kind k) (record_draft r)
  pub range : record_of (record_draft r) ≡ Ok r

pub read_back : (k : Key) (r : Record) → KeyedInRange k r → IsReadBack k r
read_back (keys.Port n) (records.Port r) fits = record { in_range = fits.0; of = tt; range = rw (port_back r fits.1) }
read_back (keys.Filter n) (records.Filter r) fits = record { in_range = fits.0; of = tt; range = rw (filter_back r fits.1) }
read_back (keys.Gate n) (records.Gate r) fits = record { in_range = fits.0; of = tt; range = rw (gate_back r fits.1) }
read_back (keys.Meter n) (records.Meter r) fits = record { in_range = fits.0; of = tt; range = rw (meter_back r fits.1) }
read_back k r fits = absurd fits

-- the drafts of a key and a record in range pass as these
pub put_back : {F : Type 0} (found : Key → Record → F) (k : Key) (r : Record) → KeyedInRange k r
    → (key (key_draft k) >>= λ named. record_of (record_draft r) >>= λ value. Ok (found named value)) ≡ Ok (found k r)
put_back found k r fits = let back = read_back k r fits in rw (key_back k back.in_range, back.range) refl
