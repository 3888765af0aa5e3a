-- The text of each record, piece by piece.
use Rattle.std.proofs.Common.{◌≡◌, ℕ, ◌++◌, List, [], ◌∷◌, map, Bool, true, false, codes, decimal, refl, sym, ap, subst, ◌∙◌, append_assoc}
use Rattle.std.specs.List.{AllByRecursion}
use Rattle.json.specs.Print.{escape_byte}
use Rattle.serde_json.specs.Data.{Data, boolean, member, no_members}
use Rattle.serde_json.specs.View.{items_of}
use Rattle.serde_json.specs.Written.{compact_text, members_text, items_text, comma_if}
use Rattle.tsn_records.specs.Shown.{draft_data, gate_entry_value, list_array, or_null}
use Rattle.tsn_records.specs.declared.drafts.RecordDraft.TheVariants as records
use Rattle.tsn_records.specs.declared.drafts.GateDraft.{GateDraft}
use Rattle.tsn_records.specs.declared.drafts.MeterDraft.{MeterDraft}

pub meter_text : (r : MeterDraft) (t0 t1 t2 t3 t4 t5 t6 t7 t8 t9 : List ℕ)
    → t0 ≡ codes "{\"all_red\":" ++ (compact_text (boolean r.all_red) ++ t1)
    → t1 ≡ codes ",\"aware\":" ++ (compact_text (boolean r.aware) ++ t2) → t2 ≡ codes ",\"cbs\":" ++ (decimal r.cbs ++ t3)
    → t3 ≡ codes ",\"cf\":" ++ (compact_text (boolean r.cf) ++ t4) → t4 ≡ codes ",\"cir\":" ++ (decimal r.cir ++ t5)
    → t5 ≡ codes ",\"drop_yellow\":" ++ (compact_text (boolean r.drop_yellow) ++ t6) → t6 ≡ codes ",\"ebs\":" ++ (decimal r.ebs ++ t7)
    → t7 ≡ codes ",\"eir\":" ++ (decimal r.eir ++ t8) → t8 ≡ codes "}" ++ t9 → t0 ≡ compact_text (draft_data (records.Meter r)) ++ t9
unfolding escape_byte
meter_text r t0 t1 t2 t3 t4 t5 t6 t7 t8 t9 e0 e1 e2 e3 e4 e5 e6 e7 e8 = rw (e0, e1, e2, e3, e4, e5, e6, e7, e8) (simp append_assoc)

-- what comes behind the list
abbrev gate_rest : GateDraft → List ℕ
gate_rest r =
    members_text true (member (codes "octets_exceeded") (boolean r.octets_exceeded) (member (codes "open") (boolean r.is_open) no_members))

gate_tail : (r : GateDraft) (t6 t7 t8 t9 : List ℕ) → t6 ≡ codes ",\"octets_exceeded\":" ++ (compact_text (boolean r.octets_exceeded) ++ t7)
    → t7 ≡ codes ",\"open\":" ++ (compact_text (boolean r.is_open) ++ t8) → t8 ≡ codes "}" ++ t9 → t6 ≡ gate_rest r ++ t9
unfolding escape_byte
gate_tail r t6 t7 t8 t9 e6 e7 e8 = rw (e6, e7, e8) (simp append_assoc)

gate_front : (base cycle extension invalid_rx ipv list rest t0 t1 t2 t3 t4 t5 t6 t9 : List ℕ) → t0 ≡ codes "{\"base\":" ++ (base ++ t1)
    → t1 ≡ codes ",\"cycle\":" ++ (cycle ++ t2) → t2 ≡ codes ",\"extension\":" ++ (extension ++ t3)
    → t3 ≡ codes ",\"invalid_rx\":" ++ (invalid_rx ++ t4) → t4 ≡ codes ",\"ipv\":" ++ (ipv ++ t5) → t5 ≡ codes ",\"list\":" ++ (list ++ t6)
    → t6 ≡ rest ++ t9 → t0 ≡ (codes "{\"base\":" ++ (base
    ++ (codes ",\"cycle\":" ++ (cycle
    ++ (codes ",\"extension\":" ++ (extension
    ++ (codes ",\"invalid_rx\":" ++ (invalid_rx ++ (codes ",\"ipv\":" ++ (ipv ++ (codes ",\"list\":" ++ (list ++ rest)))))))))))) ++ t9
gate_front base cycle extension invalid_rx ipv list rest t0 t1 t2 t3 t4 t5 t6 t9 e0 e1 e2 e3 e4 e5 e6 =
    rw (e0, e1, e2, e3, e4, e5, e6) (simp append_assoc)

pub gate_text : (r : GateDraft) (t0 t1 t2 t3 t4 t5 t6 t7 t8 t9 : List ℕ) → t0 ≡ codes "{\"base\":" ++ (decimal r.admin.base ++ t1)
    → t1 ≡ codes ",\"cycle\":" ++ (decimal r.admin.cycle ++ t2) → t2 ≡ codes ",\"extension\":" ++ (decimal r.admin.extension ++ t3)
    → t3 ≡ codes ",\"invalid_rx\":" ++ (compact_text (boolean r.invalid_rx) ++ t4)
    → t4 ≡ codes ",\"ipv\":" ++ (compact_text (or_null r.ipv) ++ t5)
    → t5 ≡ codes ",\"list\":" ++ (compact_text (list_array gate_entry_value r.admin.list) ++ t6)
    → t6 ≡ codes ",\"octets_exceeded\":" ++ (compact_text (boolean r.octets_exceeded) ++ t7)
    → t7 ≡ codes ",\"open\":" ++ (compact_text (boolean r.is_open) ++ t8) → t8 ≡ codes "}" ++ t9
    → t0 ≡ compact_text (draft_data (records.Gate r)) ++ t9
unfolding escape_byte
gate_text r t0 t1 t2 t3 t4 t5 t6 t7 t8 t9 e0 e1 e2 e3 e4 e5 e6 e7 e8 =
    gate_front _ _ _ _ _ (compact_text (list_array gate_entry_value r.admin.list)) (gate_rest r) t0 t1 t2 t3 t4 t5 t6 t9 e0 e1 e2 e3 e4 e5
    (gate_tail r t6 t7 t8 t9 e6 e7 e8)

-- ---- lists of entries

-- these entries, each with a comma behind it
pub so_far : {E : Type 0} → (E → Data) → List E → List ℕ
so_far f [] = []
so_far f (e ∷ es) = compact_text (f e) ++ 44 ∷ so_far f es

-- one entry more, and its comma
pub so_far_more : {E : Type 0} (f : E → Data) (es : List E) (e : E) (text now later rest : List ℕ) → text ≡ so_far f es ++ now
    → now ≡ compact_text (f e) ++ later → later ≡ codes "," ++ rest → text ≡ so_far f (es ++ e ∷ []) ++ rest
unfolding so_far
so_far_more f [] e text now later rest e0 e1 e2 = rw (e0, e1, e2) (simp append_assoc)
so_far_more f (x ∷ es) e text now later rest e0 e1 e2 =
    let more = so_far_more f es e (so_far f es ++ now) now later rest refl e1 e2 in
    e0 ∙ append_assoc (compact_text (f x)) (44 ∷ so_far f es) now ∙ ap (λ l. compact_text (f x) ++ 44 ∷ l) more
    ∙ sym (append_assoc (compact_text (f x)) (44 ∷ so_far f (es ++ e ∷ [])) rest)

-- the last entry, and the bracket
closed : {E : Type 0} (f : E → Data) (es : List E) (e : E) (later : Bool) (rest : List ℕ)
    → comma_if later ++ (so_far f es ++ (compact_text (f e) ++ 93 ∷ rest)) ≡ items_text later (items_of (map f (es ++ e ∷ []))) ++ rest
unfolding so_far
closed f [] e later rest = simp append_assoc
closed f (x ∷ es) e later rest =
    ap (λ l. comma_if later ++ l) (append_assoc (compact_text (f x)) (44 ∷ so_far f es) (compact_text (f e) ++ 93 ∷ rest)
    ∙ ap (λ l. compact_text (f x) ++ l) (closed f es e true rest)
    ∙ sym (append_assoc (compact_text (f x)) (items_text true (items_of (map f (es ++ e ∷ [])))) rest))
    ∙ sym (append_assoc (comma_if later) (compact_text (f x) ++ items_text true (items_of (map f (es ++ e ∷ [])))) rest)

pub entries_close : {E : Type 0} (f : E → Data) (es : List E) (e : E) (text inside now later rest : List ℕ) → text ≡ codes "[" ++ inside
    → inside ≡ so_far f es ++ now → now ≡ compact_text (f e) ++ later → later ≡ codes "]" ++ rest
    → text ≡ compact_text (list_array f (es ++ e ∷ [])) ++ rest
entries_close f es e text inside now later rest e0 e1 e2 e3 = rw (e0, e1, e2, e3) (ap (λ l. 91 ∷ l) (closed f es e false rest))

pub all_more : {E : Type 0} (P : E → Type 0) (es : List E) (e : E) → AllByRecursion P es → P e → AllByRecursion P (es ++ e ∷ [])
all_more P [] e all here = (here, tt)
all_more P (x ∷ es) e all here = (all.0, all_more P es e all.1 here)

-- before the first entry
pub none_yet : {E : Type 0} (P : E → Type 0) (f : E → Data) (es : List E) (text : List ℕ) → es ≡ []
    → AllByRecursion P es × (text ≡ so_far f es ++ text)
unfolding so_far
none_yet P f es text e = subst (λ l. AllByRecursion P l × (text ≡ so_far f l ++ text)) (sym e) (tt, refl)
