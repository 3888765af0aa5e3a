-- Of parts on distinct keys the first one may be applied first as well as last.
use Rattle.std.proofs.Common.{◌≡◌, true, false, cond, List, ◌∷◌, ◌∙◌, ap, arith}
use Rattle.std.specs.FinMap.{get}
use Rattle.std.specs.List.{IsDistinct}
use Rattle.tsn_types.specs.declared.keys.Key.{Key}
use Rattle.tsn_types.specs.Keys.{has, same_key}
use Rattle.tsn_edit.specs.Changes.{Stands, keys_of, put_all}
use Rattle.tsn_edit.specs.Configuration.{Configuration, put}
use Rattle.tsn_edit.specs.Parts.{Part}
use Rattle.tsn_edit.proofs.Apart.{stands_alike}
use Rattle.tsn_edit.proofs.Inverses.{not_again}
use Rattle.tsn_edit.proofs.KeyFacts.{after_or, by_bool, get-put, get-put_all, part_on, part_on_none, same_configuration}

-- the key of the first part stands in no other
pub no_other : (p : Part) (ps : List Part) → IsDistinct same_key (keys_of (p ∷ ps)) → (k : Key) → same_key k p.key ≡ true
    → has (keys_of ps) k ≡ false
unfolding IsDistinct
no_other p ps d k same = by_bool (has (keys_of ps) k)
    (λ yes. let no : same_key k p.key ≡ false = not_again p.key (keys_of ps) d.0 k yes in (cc))
    (λ no. no)

module _ (c : Configuration) (p : Part) (ps : List Part) (d : IsDistinct same_key (keys_of (p ∷ ps))) where
  at : (k : Key) → get (put_all (put c p.key p.after) ps) k ≡ get (put_all c (p ∷ ps)) k
  at k = grind (arith, get-put_all, after_or, part_on_none, no_other, get-put, part_on)

  pub put_first : put_all (put c p.key p.after) ps ≡ put_all c (p ∷ ps)
  put_first = same_configuration _ _ at

  -- the values before of the others stand behind the first part too
  pub stands_next : Stands c ps → Stands (put c p.key p.after) ps
  unfolding IsDistinct
  stands_next s = stands_alike c (put c p.key p.after) ps
      (λ k in'. get-put c p.key p.after k ∙ ap (λ b. cond b p.after (get c k)) (not_again p.key (keys_of ps) d.0 k in')) s
