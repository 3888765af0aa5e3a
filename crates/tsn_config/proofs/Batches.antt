-- What no cause refuses has a change that fits, and the causes of several edits, looked at one after another.
use Rattle.std.proofs.Common.{◌≡◌, true, false, cond, List, [], ◌∷◌, refl, sym, ◌∙◌, ap, subst, Option, None, map, arith, rules}
use Rattle.std.specs.FinMap.{get}
use Rattle.std.specs.List.{AllByRecursion}
use Rattle.tsn_types.specs.declared.keys.Key.{Key}
use Rattle.tsn_types.specs.declared.limits.Limits.{Limits}
use Rattle.tsn_types.specs.declared.refusals.Refusal.{Refusal}
use Rattle.tsn_types.specs.Keys.{same_key}
use Rattle.tsn_types.specs.Refusals.{least, lesser}
use Rattle.tsn_types.proofs.Causes.{each_none, unless-None}
use Rattle.tsn_types.proofs.Ordered.{least-append, lesser-none}
use Rattle.tsn_edit.specs.declared.Edit.{Edit}
use Rattle.tsn_edit.specs.declared.Edit.TheVariants.{Create, Replace, Remove}
use Rattle.tsn_edit.specs.Batches.{EditsInRange, IsBatch, causes, change_of, edited_keys, key_of, part_in, refusal, result, value_of}
use Rattle.tsn_edit.specs.Changes.{Fits, Stands}
use Rattle.tsn_edit.specs.Configuration.{Configuration, IsWellKept}
use Rattle.tsn_edit.specs.Edits.{EditInRange}
use Rattle.tsn_edit.proofs.InOrder.{distinct_parts, fits_in_order, keys_of-parts, put_parts}
use Rattle.tsn_edit.proofs.KeyFacts.{get-put}
use Rattle.tsn_edit.proofs.Ordered.{batch_refusal-first, own_cause}
use Rattle.tsn_config.proofs.Among.{AreSound, IsSound, beside_none, kept_together}
use Rattle.tsn_config.proofs.Edits.{none_dangling}

-- where the lesser of two is none, both are
pub none_lesser : (o p : Option Refusal) → lesser o p ≡ None → (o ≡ None) × (p ≡ None)
none_lesser o p h = grind arith

-- one cause more was looked at
pub one_more : (o p : Option Refusal) (ps : List (Option Refusal)) → lesser (lesser o p) (least ps) ≡ lesser o (least (p ∷ ps))
one_more o p ps = ap (λ q. lesser (lesser o q) (least ps)) (sym (lesser-none p)) ∙ sym (least-append (o ∷ p ∷ []) ps)

module _ (l : Limits) (c : Configuration) (b : List Edit) where
  sound_put : (e : Edit) → EditInRange e → own_cause l c b e ≡ None
      → IsSound l (edited_keys b) c (result c b) (key_of e) (get c (key_of e)) (value_of e)
  sound_put (Create k r) ranges h = search (rules, each_none, unless-None, none_dangling)
  sound_put (Replace k r) ranges h = search (rules, each_none, unless-None, none_dangling)
  sound_put (Remove k) ranges h =
      let none = each_none (causes l c b (Remove k)) h in
      λ _. (unless-None _ _ none.0, beside_none (edited_keys b) c k none.1.1.1.0)

  each_sound : (es : List Edit) → EditsInRange es → least (map (λ e. own_cause l c b e) es) ≡ None
      → AllByRecursion (λ p. IsSound l (edited_keys b) c (result c b) p.key p.before p.after) (map (λ e. part_in c e) es)
  each_sound [] ranges h = tt
  each_sound (e ∷ es) ranges h =
      let none = none_lesser (own_cause l c b e) (least (map (λ e. own_cause l c b e) es)) h in
      (sound_put e ranges.0 none.0, each_sound es ranges.1 none.1)

stand : (c : Configuration) (b : List Edit) → Stands c (map (λ e. part_in c e) b)
stand c [] = tt
stand c (e ∷ b) = (refl, stand c b)

pub batch_fits : (l : Limits) (c : Configuration) → IsWellKept l c → (b : List Edit) → IsBatch b → EditsInRange b → refusal l c b ≡ None
    → Fits l c (change_of c b)
batch_fits l c kept b is ranges h =
    let ps = map (λ e. part_in c e) b in
    let sound : AreSound l c ps =
    subst (λ (t : List Key × Configuration). AllByRecursion (λ p. IsSound l t.0 c t.1 p.key p.before p.after) ps)
    (λ i. (sym (keys_of-parts c b) i, sym (put_parts c c b) i))
    (each_sound l c b b ranges (sym (batch_refusal-first l c b) ∙ h)) in
    fits_in_order l c ps (record {
      distinct = distinct_parts c b is;
      stands = stand c b;
      kept = kept_together l c kept ps (stand c b) sound;
    })

-- edits of which e is the first, and fs are the others
module _ (es fs : List Edit) (e : Edit) (is : es ≡ e ∷ fs) where
  pub result_at : (c : Configuration) (k : Key) → same_key k (key_of e) ≡ true → get (result c es) k ≡ value_of e
  result_at c k same = ap (λ es. get (result c es) k) is ∙ get-put (result c fs) (key_of e) (value_of e) k
      ∙ ap (λ b. cond b (value_of e) (get (result c fs) k)) same

  pub result_beside : (c : Configuration) (k : Key) → same_key k (key_of e) ≡ false → get (result c fs) k ≡ get (result c es) k
  result_beside c k other = sym (ap (λ es. get (result c es) k) is ∙ get-put (result c fs) (key_of e) (value_of e) k
      ∙ ap (λ b. cond b (value_of e) (get (result c fs) k)) other)
