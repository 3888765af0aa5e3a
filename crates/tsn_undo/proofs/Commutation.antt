-- Taking a closed set of changes out of a good run.
use Rattle.std.proofs.Common.{◌≡◌, Bool, true, false, cond, not, List, [], ◌∷◌, ◌++◌, refl, sym, ◌∙◌, ap, Option, append_assoc, append-nil}
use Rattle.std.specs.Prelude.{flat_map, IsTrue}
use Rattle.std.specs.FinMap.{get}
use Rattle.std.specs.List.{AllByRecursion}
use Rattle.tsn_config.proofs.Among.{each_both}
use Rattle.tsn_types.specs.declared.keys.Key.{Key}
use Rattle.tsn_types.specs.declared.records.Record.{Record}
use Rattle.tsn_types.specs.declared.limits.Limits.{Limits}
use Rattle.tsn_edit.specs.Parts.{Part, parts}
use Rattle.tsn_edit.specs.Configuration.{Configuration, IsWellKept}
use Rattle.tsn_edit.specs.Changes.{after_change, conflicts}
use Rattle.tsn_edit.specs.Runs.{run, IsGood}
use Rattle.tsn_edit.proofs.KeyFacts.{before_or, by_bool, part_on}
use Rattle.tsn_edit.proofs.Apart.{Agrees, Apart, Apart-append, Apart-from_test, agrees_left, agrees_taken, begin_agrees, fits_left}
use Rattle.tsn_entries.specs.Entries.{Applied, changes}
use Rattle.tsn_undo.specs.Commuting.{Commutes, IsClosed, first_on, in_set, left, value_before}

apart_from_closed : (out : Applied → Bool) (x y : Applied) → (IsTrue (conflicts y.change x.change) → IsTrue (out y)) → out y ≡ false
    → Apart (parts y.change) (parts x.change)
apart_from_closed out x y closed outside =
    Apart-from_test (parts y.change) (parts x.change)
    (by_bool (conflicts y.change x.change) (λ h. let in' : out y ≡ true = closed h in (cc)) (λ h. h))

pub record IsLeft (l : Limits) (c d : Configuration) (t : List Part) (out : Applied → Bool) (xs : List Applied) : Type 0 where
  pub good : IsGood l d (changes (left out xs))
  pub ends : (k : Key) → get (run d (changes (left out xs))) k ≡ before_or (part_on k (t ++ flat_map parts (changes (in_set out xs))))
      (get (run c (changes xs)) k)

pub left_from : (l : Limits) (out : Applied → Bool) (xs : List Applied) (c d : Configuration) (t : List Part) → Agrees l c d t
    → AllByRecursion (λ y. out y ≡ false → Apart (parts y.change) t) xs → IsClosed out xs → IsGood l c (changes xs) → IsLeft l c d t out xs
left_from l out [] c d t a apart closed good =
    record { good = tt; ends = λ k. a.agree k ∙ ap (λ u. before_or (part_on k u) (get c k)) (sym (append-nil t)) }
left_from l out (x ∷ xs) c d t a apart closed good =
    let goes : List Applied → List Applied → Type 0 = λ gone kept.
    IsGood l d (changes kept) × ((k : Key)
    → get (run d (changes kept)) k ≡ before_or (part_on k (t ++ flat_map parts (changes gone))) (get (run c (changes (x ∷ xs))) k)) in
    let both : goes (in_set out (x ∷ xs)) (left out (x ∷ xs)) =
    elim (out x) as (λ b. out x ≡ b → goes (cond b (x ∷ in_set out xs) (in_set out xs)) (cond (not b) (x ∷ left out xs) (left out xs))) [
      | true ↦ λ in'.
          let rest = left_from l out xs (after_change c x.change) d (t ++ parts x.change)
          (agrees_taken l c d t x.change a good.0)
          (each_both _ _ _ (λ y p q outside. Apart-append (parts y.change) t (parts x.change) (p outside)
          (apart_from_closed out x y q outside)) xs apart.1 (closed.0 in'))
          closed.1 good.1 in (
            rest.good,
            λ k. rest.ends k ∙ ap (λ u. before_or (part_on k u) (get (run c (changes (x ∷ xs))) k))
                (append_assoc t (parts x.change) (flat_map parts (changes (in_set out xs)))),
          )
      | false ↦ λ outside.
          let f = x.change in
          let rest = left_from l out xs (after_change c f) (after_change d f) t
          (agrees_left l c d t f a good.0 (apart.0 outside)) apart.1 closed.1 good.1 in
          ((fits_left l c d t f a good.0 (apart.0 outside), rest.good), rest.ends)
    ] refl in
    record { good = both.0; ends = both.1 }

nothing_apart : (out : Applied → Bool) (xs : List Applied) → AllByRecursion (λ y. out y ≡ false → Apart (parts y.change) []) xs
nothing_apart out [] = tt
nothing_apart out (x ∷ xs) = (λ _. record { keys = λ k h. refl; after = λ k h. refl; before = λ k h. refl }, nothing_apart out xs)

same_value : (o : Option Part) (v : Option Record) → before_or o v ≡ value_before o v
same_value o v = (cc)

-- the law
pub commutation : (l : Limits) (opening : Configuration) (xs : List Applied) (out : Applied → Bool) → IsWellKept l opening
    → IsGood l opening (changes xs) → IsClosed out xs → Commutes l opening out xs
unfolding part_on
commutation l opening xs out kept good closed =
    let begins : Agrees l opening opening [] = record { all_kept = kept; left_kept = kept; agree = begin_agrees opening } in
    let is = left_from l out xs opening opening [] begins (nothing_apart out xs) closed good in
    record { good = is.good; ends = λ k. is.ends k ∙ same_value (first_on (changes (in_set out xs)) k) (get (run opening (changes xs)) k) }
