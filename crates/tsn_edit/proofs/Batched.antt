-- Facts about the edits of a batch.
use Rattle.std.proofs.Common.{◌≡◌, ◌≤◌, true, false, ◌||◌, List, [], ◌∷◌, length, refl, ap, arith, ◌∙◌}
use Rattle.std.specs.Prelude.{not}
use Rattle.std.specs.List.{AllByRecursion, IsDistinct, list_any}
use Rattle.std.proofs.lemmas.Bool.{or_parts, and_parts, not-true}
use Rattle.tsn_types.specs.declared.keys.Key.{Key}
use Rattle.tsn_types.specs.Keys.{has, same_key}
use Rattle.tsn_edit.specs.declared.Edit.{Edit}
use Rattle.tsn_edit.specs.Batches.{IsBatch, are_distinct, edited_keys, key_of}
use Rattle.tsn_edit.specs.Parts.{most_parts}

pub edited_is : (b : List Edit) (k : Key) → has (edited_keys b) k ≡ list_any (λ e. same_key k (key_of e)) b
edited_is [] k = refl
edited_is (e ∷ b) k = ap (λ t. same_key k (key_of e) || t) (edited_is b k)

pub batch_of_one : (e : Edit) → IsBatch (e ∷ [])
unfolding IsDistinct
batch_of_one e = record { some = omega arith; few = omega arith; distinct = (tt, tt) }

pub not_apart : (k : Key) (ks : List Key) → AllByRecursion (λ q. same_key k q ≡ false) ks → has ks k ≡ false
not_apart k [] h = refl
not_apart k (q ∷ ks) h = ap (λ b. b || has ks k) h.0 ∙ not_apart k ks h.1

pub none_alike : (k : Key) (ks : List Key) → has ks k ≡ false → AllByRecursion (λ q. same_key k q ≡ false) ks
none_alike k [] h = tt
none_alike k (q ∷ ks) h = let parts = or_parts (same_key k q) (has ks k) h in (parts.0, none_alike k ks parts.1)

pub are_distinct-is : (ks : List Key) → are_distinct ks ≡ true → IsDistinct same_key ks
unfolding IsDistinct
are_distinct-is [] h = tt
are_distinct-is (k ∷ ks) h =
    let parts = and_parts (not (has ks k)) (are_distinct ks) h in
    (none_alike k ks (not-true (has ks k) parts.0), are_distinct-is ks parts.1)

-- what the tests of a batch come to
pub batch_of : (b : List Edit) → 1 ≤ length b → length b ≤ most_parts → are_distinct (edited_keys b) ≡ true → IsBatch b
batch_of b some few distinct = record { some = some; few = few; distinct = are_distinct-is (edited_keys b) distinct }
