-- Parts that are set from the last to the first.
use Rattle.std.proofs.Common.{◌≡◌, ◌+◌, List, [], ◌∷◌, ◌++◌, length, refl, sym, ◌∙◌, ap, subst, length-append}
use Rattle.tsn_edit.specs.Changes.{put_all}
use Rattle.tsn_edit.specs.Configuration.{Configuration, put}
use Rattle.tsn_edit.specs.Parts.{Part}
use Rattle.tsn_config.specs.Kinds.{AreOfKinds}

put_last : (c : Configuration) (ps : List Part) (p : Part) → put_all (put c p.key p.after) ps ≡ put_all c (ps ++ p ∷ [])
put_last c [] p = refl
put_last c (q ∷ ps) p = ap (λ (d : Configuration). put d q.key q.after) (put_last c ps p)

kinds_front : (ps qs : List Part) → AreOfKinds (ps ++ qs) → AreOfKinds ps
kinds_front [] qs h = tt
kinds_front (p ∷ ps) qs h = (h.0, kinds_front ps qs h.1)

-- the last of the parts ps is p, and qs are those before it
module _ (ps qs : List Part) (p : Part) (is : ps ≡ qs ++ p ∷ []) where
  pub map_next : (c d : Configuration) → d ≡ put c p.key p.after → put_all d qs ≡ put_all c ps
  map_next c d now = ap (λ (e : Configuration). put_all e qs) now ∙ put_last c qs p ∙ ap (put_all c) (sym is)

  pub kinds_next : AreOfKinds ps → AreOfKinds qs
  kinds_next h = kinds_front qs (p ∷ []) (subst AreOfKinds is h)

  pub length_next : length ps ≡ length qs + 1
  length_next = ap length is ∙ length-append qs (p ∷ [])
