-- Changes that do not conflict with a set go the same way where the set was left out.
use Rattle.std.proofs.Common.{◌≡◌, true, false, List, [], ◌∷◌, ◌++◌, refl, sym, ◌∙◌, ap, Some, None, arith}
use Rattle.std.specs.Prelude.{IsTrue, IsSome, is_some}
use Rattle.std.specs.FinMap.{get}
use Rattle.std.proofs.lemmas.Bool.{or_from, or_parts, or_right}
use Rattle.tsn_types.specs.declared.keys.Key.{Key}
use Rattle.tsn_types.specs.declared.keys.Key.TheVariants.{Port}
use Rattle.tsn_edit.specs.Parts.{Change, Part, parts}
use Rattle.tsn_types.specs.declared.records.Record.{Record}
use Rattle.tsn_types.specs.declared.limits.Limits.{Limits}
use Rattle.tsn_types.specs.Keys.{same_key, has, refs}
use Rattle.tsn_edit.specs.Configuration.{Configuration, IsWellKept}
use Rattle.tsn_edit.specs.Changes.{keys_of, refs_before, refs_after, after_change, Stands, Fits, clashes}
use Rattle.tsn_edit.proofs.KeyFacts.{by_option, part_on, part_on_none, before_or, part_on_some, each_part, part_on-append, part_on-append_found, keys_of-append, refs_before-append, has-append, meets_apart, after_or, get-after_change}

-- f touches no key of e, refers to none, and nothing that e's values before refer to
pub record Apart (f e : List Part) : Type 0 where
  pub keys : (k : Key) → has (keys_of f) k ≡ true → has (keys_of e) k ≡ false
  pub after : (q : Key) → has (refs_after f) q ≡ true → has (keys_of e) q ≡ false
  pub before : (k : Key) → has (keys_of f) k ≡ true → has (refs_before e) k ≡ false

pub Apart-from_test : (f e : List Part) → clashes f e ≡ false → Apart f e
Apart-from_test f e h = grind (arith, or_parts, meets_apart)

pub Apart-append : (f e g : List Part) → Apart f e → Apart f g → Apart f (e ++ g)
Apart-append f e g p q = grind (arith, keys_of-append, has-append, or_from, refs_before-append)

pub begin_agrees : (c : Configuration) (k : Key) → get c k ≡ before_or (part_on k []) (get c k)
unfolding part_on
begin_agrees c k = refl

-- c is where all went, d where the set was left out, whose parts so far are t
pub record Agrees (l : Limits) (c d : Configuration) (t : List Part) : Type 0 where
  pub all_kept : IsWellKept l c
  pub left_kept : IsWellKept l d
  pub agree : (k : Key) → get d k ≡ before_or (part_on k t) (get c k)

-- a change of the set goes into c alone
pub agrees_taken : (l : Limits) (c d : Configuration) (t : List Part) (f : Change) → Agrees l c d t → Fits l c f
    → Agrees l (after_change c f) d (t ++ parts f)
agrees_taken l c d t f a fits =
    grind (arith, part_on, before_or, part_on-append, after_or, get-after_change, part_on_some, each_part, part_on-append_found)

-- maps that agree on a change's keys both have its values before
pub stands_alike : (c d : Configuration) (f : List Part) → ((k : Key) → has (keys_of f) k ≡ true → get d k ≡ get c k) → Stands c f
    → Stands d f
stands_alike c d [] same h = tt
stands_alike c d (p ∷ f) same h = grind (arith, (stands_alike c d f (λ k in'. same k (or_right (same_key k p.key) _ in')) h.1))

module _ (l : Limits) (c d : Configuration) (t : List Part) (f : Change) (a : Agrees l c d t) (fits : Fits l c f)
    (apart : Apart (parts f) t) where
  -- at a key that f leaves alone
  untouched : (m : Configuration) (k : Key) → part_on k (parts f) ≡ None → get (after_change m f) k ≡ get m k
  untouched m k none = get-after_change m f k ∙ ap (λ o. after_or o (get m k)) none

  -- at a key that f touches
  touched : (m n : Configuration) (k : Key) (p : Part) → part_on k (parts f) ≡ Some p → get (after_change m f) k ≡ get (after_change n f) k
  touched m n k p is =
      get-after_change m f k ∙ ap (λ o. after_or o (get m k)) is ∙ sym (ap (λ o. after_or o (get n k)) is) ∙ sym (get-after_change n f k)

  still_agree : (k : Key) → get (after_change d f) k ≡ before_or (part_on k t) (get (after_change c f) k)
  still_agree k = grind (arith, part_on, untouched, before_or, touched, part_on_none, part_on_some)

  same_outside : (k : Key) → has (keys_of t) k ≡ false → get (after_change d f) k ≡ get (after_change c f) k
  same_outside k out = still_agree k ∙ ap (λ o. before_or o (get (after_change c f) k)) (part_on_none k t out)

  still_referred : (k : Key) (r : Record) (q : Key) → get (after_change d f) k ≡ Some r → IsTrue (has (refs r) q)
      → IsSome (get (after_change d f) q)
  still_referred k r q is ref =
      grind (arith, part_on, untouched, touched, before_or, part_on_some, get-after_change, after_or, same_outside)

  still_kept : IsWellKept l (after_change d f)
  still_kept = record {
    limits = a.left_kept.limits;
    in_range = λ k r is.
        by_option (part_on k (parts f))
        (λ none. a.left_kept.in_range k r (sym (untouched d k none) ∙ is))
        (λ p k_is. fits.kept.in_range k r (touched c d k p k_is ∙ is));
    within = λ k r is.
        by_option (part_on k (parts f))
        (λ none. a.left_kept.within k r (sym (untouched d k none) ∙ is))
        (λ p k_is. fits.kept.within k r (touched c d k p k_is ∙ is));
    ports = λ n low high.
        by_option (part_on (Port n) (parts f))
        (λ none. ap is_some (untouched d (Port n) none) ∙ a.left_kept.ports n low high)
        (λ p k_is. ap is_some (touched d c (Port n) p k_is) ∙ fits.kept.ports n low high);
    referred = still_referred;
  }

  pub fits_left : Fits l d f
  fits_left = grind (arith, stands_alike, before_or, part_on_none, still_kept)

  -- a change that is apart from the set goes into both
  pub agrees_left : Agrees l (after_change c f) (after_change d f) t
  agrees_left = record { all_kept = fits.kept; left_kept = still_kept; agree = still_agree }
