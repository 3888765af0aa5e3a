-- Parts that are tested one by one: what holds of those that are left holds of all.
use Rattle.std.proofs.Common.{None, ◌≡◌, ℕ, zero, suc, ◌||◌, ◌+◌, ◌<◌, true, false, List, [], ◌∷◌, length, drop, get_or, refl, sym, ◌∙◌, ap, subst, Option, drop-cons, add-one, arith}
use Rattle.std.specs.Prelude.{is_none}
use Rattle.std.specs.List.{IsDistinct}
use Rattle.std.specs.FinMap.{get}
use Rattle.tsn_edit.proofs.Batched.{none_alike, not_apart}
use Rattle.tsn_types.specs.declared.keys.Key.{Key}
use Rattle.tsn_types.specs.declared.records.Record.{Record}
use Rattle.tsn_types.specs.declared.limits.Limits.{Limits}
use Rattle.tsn_types.specs.Keys.{has, same_key}
use Rattle.tsn_edit.specs.Changes.{Stands, keys_of, put_all}
use Rattle.tsn_edit.specs.Configuration.{Configuration}
use Rattle.tsn_edit.specs.Edits.{is_port}
use Rattle.tsn_edit.specs.Parts.{Part}
use Rattle.tsn_edit.proofs.KeyFacts.{get-put}
use Rattle.tsn_config.specs.declared.fitting.Way.{Way}
use Rattle.tsn_config.specs.declared.fitting.Way.TheVariants.{Forth}
use Rattle.tsn_config.specs.Keeping.{keeps_part, keeps_value, referrer_beside}
use Rattle.tsn_config.specs.Ways.{turned, turned_part}

-- one part is left less
pub next_left : {A : Type 0} (ps : List A) (i : ℕ) (p : A) → i < length ps → p ≡ get_or ps i p → drop i ps ≡ p ∷ drop (i + 1) ps
next_left ps i p h is = drop-cons ps i p h ∙ ap (λ n. get_or ps i p ∷ drop n ps) (sym (add-one i)) ∙ ap (λ q. q ∷ drop (i + 1) ps) (sym is)

pub distinct_left : (i : ℕ) (ps : List Part) → IsDistinct same_key (keys_of ps) → IsDistinct same_key (keys_of (drop i ps))
unfolding IsDistinct
distinct_left zero ps h = h
distinct_left (suc i) [] h = tt
distinct_left (suc i) (p ∷ ps) h = distinct_left i ps h.1

-- parts of which p is the first, and qs are the others
module _ (ps qs : List Part) (p : Part) (is : ps ≡ p ∷ qs) where
  pub distinct_next : has (keys_of qs) p.key ≡ false → IsDistinct same_key (keys_of qs) → IsDistinct same_key (keys_of ps)
  unfolding IsDistinct
  distinct_next off h = subst (λ ps. IsDistinct same_key (keys_of ps)) (sym is) (none_alike p.key (keys_of qs) off, h)

  pub not_distinct : has (keys_of qs) p.key ≡ true → IsDistinct same_key (keys_of ps) → ⊥
  unfolding IsDistinct
  not_distinct on h = grind (arith, not_apart)

key_turned : (way : Way) (p : Part) → (turned_part way p).key ≡ p.key
key_turned way p = grind arith

pub stand_left : (way : Way) (c : Configuration) (i : ℕ) (ps : List Part) → Stands c (turned way ps) → Stands c (turned way (drop i ps))
stand_left way c zero ps h = h
stand_left way c (suc i) [] h = tt
stand_left way c (suc i) (p ∷ ps) h = stand_left way c i ps h.1

module _ (way : Way) (ps qs : List Part) (p : Part) (is : ps ≡ p ∷ qs) where
  pub not_standing : (c : Configuration) → (get c p.key ≡ (turned_part way p).before → ⊥) → Stands c (turned way ps) → ⊥
  not_standing c other h = grind arith

  pub put_at : (c : Configuration) (k : Key) → same_key k p.key ≡ true → get (put_all c (turned way ps)) k ≡ (turned_part way p).after
  put_at c k same = grind (arith, get-put, key_turned)

  pub put_beside : (c : Configuration) (k : Key) → same_key k p.key ≡ false
      → get (put_all c (turned way qs)) k ≡ get (put_all c (turned way ps)) k
  put_beside c k other = grind (arith, get-put, key_turned)

-- the keys stay as they are
pub keys_turned : (way : Way) (ps : List Part) → keys_of (turned way ps) ≡ keys_of ps
keys_turned way [] = refl
keys_turned way (p ∷ ps) = λ i. key_turned way p i ∷ keys_turned way ps i

pub turned_forth : (ps : List Part) → turned Forth ps ≡ ps
turned_forth [] = refl
turned_forth (p ∷ ps) = ap (λ qs. p ∷ qs) (turned_forth ps)

pub none_distinct : (ps : List Part) → ps ≡ [] → IsDistinct same_key (keys_of ps)
unfolding IsDistinct
none_distinct ps h = (cc)

removed : (l : Limits) (ks : List Key) (c d : Configuration) (k : Key) (b v : Option Record) → v ≡ None → is_none b ≡ false
    → is_port k ≡ false → keeps_value l ks c d k b v ≡ is_none (referrer_beside ks c k)
removed l ks c d k b v gone there no_port = (cc)

-- a part that takes away what stood there, and no port
pub keeps_removed : (l : Limits) (c : Configuration) (way : Way) (ps : List Part) (p : Part) → (turned_part way p).after ≡ None
    → is_none (turned_part way p).before ≡ false → is_port p.key ≡ false
    → keeps_part l c (turned way ps) (turned_part way p) ≡ is_none (referrer_beside (keys_of ps) c p.key)
keeps_removed l c way ps p gone there no_port = grind (arith, keys_turned, key_turned, removed)
