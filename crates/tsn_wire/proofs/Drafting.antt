-- The edits of a batch and their drafts: the keys of the ones are apart exactly where those of the others are.
use Rattle.std.proofs.Common.{◌≡◌, ℕ, suc, ◌==◌, true, ◌||◌, ◌&&◌, not, List, [], ◌∷◌, length, map, Ok, nat_cmp, is_eq, refl, sym, ap, ap₂, subst, ◌∙◌, eqb-true, eq-eqb}
use Rattle.std.specs.List.{IsDistinct, list_any}
use Rattle.std.proofs.lemmas.Bool.{le-leb, leb-true}
use Rattle.std.proofs.lemmas.Map.Lookups.{exact_unsigned}
use Rattle.tsn_edit.specs.declared.Edit.{Edit}
use Rattle.tsn_edit.specs.declared.Edit.TheVariants as edits
use Rattle.tsn_edit.specs.Batches.{IsBatch, are_distinct, edited_keys, is_batch, key_of}
use Rattle.tsn_edit.proofs.Batched.{batch_of as batch_that_is, not_apart}
use Rattle.tsn_edit.proofs.KeyFacts.{by_bool, same_itself, is_equal}
use Rattle.tsn_types.specs.declared.keys.Key.{Key}
use Rattle.tsn_types.specs.declared.keys.Key.TheVariants as keys
use Rattle.tsn_types.specs.Keys.{has, same_key}
use Rattle.tsn_records.specs.Answers.{each}
use Rattle.tsn_records.specs.Ranges.{key, record_of}
use Rattle.tsn_records.specs.declared.drafts.KeyDraft.{KeyDraft}
use Rattle.tsn_records.proofs.Digits.{and_parts}
use Rattle.tsn_records.proofs.Steps.{only, steps}
use Rattle.tsn_wire.specs.Batches.{drafted_key, drafted_keys, drafts_are_distinct, has_draft, is_batch_draft, same_draft}
use Rattle.tsn_wire.specs.Ranges.{edit_of_draft}
use Rattle.tsn_wire.specs.declared.drafts.EditDraft.{EditDraft}
use Rattle.tsn_wire.specs.declared.drafts.EditDraft.TheVariants as drafts
use Rattle.tsn_types.specs.declared.records.Record.{Record}
use Rattle.tsn_wire.specs.declared.words.Put.{Put}
use Rattle.tsn_wire.specs.declared.words.Put.TheVariants as puts
use Rattle.tsn_wire.specs.Words.{put_edit}
use Rattle.tsn_wire.proofs.Known.{key_draft, key_passed_at}

pub drafted_is : (es : List EditDraft) (k : KeyDraft) → has_draft (drafted_keys es) k ≡ list_any (λ e. same_draft k (drafted_key e)) es
drafted_is [] k = refl
drafted_is (e ∷ es) k = ap (λ t. same_draft k (drafted_key e) || t) (drafted_is es k)

-- ---- keys

same_number : (n m : ℕ) → (n == m) ≡ is_eq (nat_cmp n m)
same_number n m =
    by_bool (n == m)
    (λ e. subst (λ x. (n == m) ≡ is_eq (nat_cmp n x)) (eqb-true n m e) (e ∙ sym (same_itself (keys.Filter n))))
    (λ e. by_bool (is_eq (nat_cmp n m))
    (λ t. let is = exact_unsigned n m (is_equal (nat_cmp n m) t) in let same : (n == m) ≡ true = eq-eqb n m is in same ∙ sym t)
    (λ f. e ∙ sym f))

same_drafts : (k l : Key) → same_draft (key_draft k) (key_draft l) ≡ same_key k l
same_drafts (keys.Port n) (keys.Port m) = same_number n m
same_drafts (keys.Filter n) (keys.Filter m) = same_number n m
same_drafts (keys.Gate n) (keys.Gate m) = same_number n m
same_drafts (keys.Meter n) (keys.Meter m) = same_number n m
same_drafts k l = refl

has_drafts : (ks : List Key) (k : Key) → has_draft (map key_draft ks) (key_draft k) ≡ has ks k
has_drafts [] k = refl
has_drafts (l ∷ ks) k = ap₂ ◌||◌ (same_drafts k l) (has_drafts ks k)

distinct_drafts : (ks : List Key) → drafts_are_distinct (map key_draft ks) ≡ are_distinct ks
distinct_drafts [] = refl
distinct_drafts (k ∷ ks) = ap₂ (λ a b. not a && b) (has_drafts ks k) (distinct_drafts ks)

pub batch_same : (es : List EditDraft) (b : List Edit) → length es ≡ length b → drafted_keys es ≡ map key_draft (edited_keys b)
    → is_batch_draft es ≡ is_batch b
batch_same es b len same = rw (len, same, distinct_drafts (edited_keys b)) refl

-- ---- edits that pass

key_passed : (q : KeyDraft) (k : Key) → key q ≡ Ok k → q ≡ key_draft k
key_passed q k h = let known = key_passed_at q.kind q.number k h in ap₂ (λ a n. record { kind = a; number = n }) known.0 known.1

put_on : (put : Put) (k : Key) (v : Record) → key_of (put_edit put k v) ≡ k
put_on puts.Create k v = refl
put_on puts.Replace k v = refl

edit_passed : (e : EditDraft) (x : Edit) → edit_of_draft e ≡ Ok x → drafted_key e ≡ key_draft (key_of x)
edit_passed (drafts.Put put q r) x h =
    steps (key q) _ x h (λ k k_is k_next.
    steps (record_of r) _ x k_next (λ v v_is v_next.
    let edit = put_edit put k v in
    key_passed q k k_is ∙ ap key_draft (sym (put_on put k v)) ∙ ap (λ y. key_draft (key_of y)) (only (Ok edit) edit x refl v_next)))
edit_passed (drafts.Remove q) x h =
    steps (key q) _ x h (λ k k_is k_next.
    key_passed q k k_is ∙ ap (λ y. key_draft (key_of y)) (only (Ok (edits.Remove k)) (edits.Remove k) x refl k_next))

-- as many edits as drafts, on the same keys
abbrev AreEdits : List EditDraft → List Edit → Type 0
AreEdits es b = (length es ≡ length b) × (drafted_keys es ≡ map key_draft (edited_keys b))

pub each_passed : (es : List EditDraft) (b : List Edit) → each edit_of_draft es ≡ Ok b → AreEdits es b
each_passed [] b h = subst (AreEdits []) (only (Ok []) [] b refl h) (refl, refl)
each_passed (e ∷ es) b h =
    steps (edit_of_draft e) _ b h (λ x x_is x_next.
    steps (each edit_of_draft es) _ b x_next (λ xs xs_is xs_next.
    let rest = each_passed es xs xs_is in
    subst (AreEdits (e ∷ es)) (only (Ok (x ∷ xs)) (x ∷ xs) b refl xs_next) (ap suc rest.0, ap₂ ◌∷◌ (edit_passed e x x_is) rest.1)))

pub batch_passes : (es : List EditDraft) (b : List Edit) → each edit_of_draft es ≡ Ok b → is_batch_draft es ≡ is_batch b
batch_passes es b h = let known = each_passed es b h in batch_same es b known.0 known.1

pub batch_stands : (es : List EditDraft) (b : List Edit) → each edit_of_draft es ≡ Ok b → is_batch_draft es ≡ true → is_batch b ≡ true
batch_stands es b h is = sym (batch_passes es b h) ∙ is

-- ---- batches

-- a list that passes the test is a batch
pub tested : (b : List Edit) → is_batch b ≡ true → IsBatch b
tested b h =
    let some = and_parts _ _ h in
    let few = and_parts _ _ some.1 in
    batch_that_is b (leb-true _ _ some.0) (leb-true _ _ few.0) few.1

told_apart : (ks : List Key) → IsDistinct same_key ks → are_distinct ks ≡ true
unfolding IsDistinct
told_apart [] h = refl
told_apart (k ∷ ks) h = ap₂ (λ a b. not a && b) (not_apart k ks h.0) (told_apart ks h.1)

-- and a batch passes it
pub test_of : (b : List Edit) → IsBatch b → is_batch b ≡ true
test_of b h = rw (le-leb _ _ h.some, le-leb _ _ h.few, told_apart (edited_keys b) h.distinct) refl
