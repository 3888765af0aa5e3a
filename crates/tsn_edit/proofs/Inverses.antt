-- The inverse of a change fits as long as nothing after it conflicts, and gives the run without it.
use Rattle.std.proofs.Common.{◌≡◌, Bool, true, false, cond, ◌||◌, List, [], ◌∷◌, ◌++◌, refl, sym, ◌∙◌, ap, subst, Option, Some, map, arith}
use Rattle.std.specs.FinMap.{get}
use Rattle.std.specs.List.{AllByRecursion, IsDistinct}
use Rattle.tsn_types.specs.declared.keys.Key.{Key}
use Rattle.tsn_edit.specs.Parts.{Change, Part, parts, inverse, inverse_part}
use Rattle.tsn_types.specs.declared.records.Record.{Record}
use Rattle.tsn_types.specs.declared.limits.Limits.{Limits}
use Rattle.tsn_types.specs.Keys.{same_key, has}
use Rattle.tsn_edit.specs.Configuration.{Configuration, IsWellKept, put}
use Rattle.tsn_edit.specs.Changes.{keys_of, put_all, after_change, Stands, Fits, conflicts}
use Rattle.tsn_edit.specs.Runs.{run, IsGood}
use Rattle.tsn_edit.proofs.KeyFacts.{by_bool, part_on, part_on_none, before_or, after_or, get-put, get-after_change, same_configuration, same_itself, one_key}
use Rattle.tsn_edit.proofs.Apart.{begin_agrees, Apart, Apart-from_test, Agrees, agrees_taken, agrees_left, fits_left, stands_alike}

pub run-append : (c : Configuration) (es fs : List Change) → run c (es ++ fs) ≡ run (run c es) fs
run-append c [] fs = refl
run-append c (e ∷ es) fs = run-append (after_change c e) es fs

pub good-append : (l : Limits) (c : Configuration) (es fs : List Change) → IsGood l c es → IsGood l (run c es) fs → IsGood l c (es ++ fs)
good-append l c [] fs g h = h
good-append l c (e ∷ es) fs g h = (g.0, good-append l (after_change c e) es fs g.1 h)

pub good_front : (l : Limits) (c : Configuration) (es fs : List Change) → IsGood l c (es ++ fs) → IsGood l c es
good_front l c [] fs g = tt
good_front l c (e ∷ es) fs g = (g.0, good_front l (after_change c e) es fs g.1)

pub good_rest : (l : Limits) (c : Configuration) (es fs : List Change) → IsGood l c (es ++ fs) → IsGood l (run c es) fs
good_rest l c [] fs g = g
good_rest l c (e ∷ es) fs g = good_rest l (after_change c e) es fs g.1

-- a good run ends well kept
pub end_kept : (l : Limits) (c : Configuration) (es : List Change) → IsWellKept l c → IsGood l c es → IsWellKept l (run c es)
end_kept l c [] k g = k
end_kept l c (e ∷ es) k g = end_kept l (after_change c e) es (g.0).kept g.1

-- changes apart from t go the same way from where t was left out
pub without : (l : Limits) (c d : Configuration) (t : List Part) (es : List Change) → Agrees l c d t → IsGood l c es
    → AllByRecursion (λ f. Apart (parts f) t) es → IsGood l d es × Agrees l (run c es) (run d es) t
without l c d t [] a g apart = (tt, a)
without l c d t (e ∷ es) a g apart =
    let rest = without l (after_change c e) (after_change d e) t es (agrees_left l c d t e a g.0 apart.0) g.1 apart.1 in
    ((fits_left l c d t e a g.0 apart.0, rest.0), rest.1)

inverse_part_first : (b : Bool) (p : Part) (o q : Option Part) (v : Option Record) → after_or q v ≡ before_or o v
    → after_or (cond b (Some (inverse_part p)) q) v ≡ before_or (cond b (Some p) o) v
inverse_part_first b p o q v h = grind arith

pub inverse_part_gives : (k : Key) (ps : List Part) (v : Option Record)
    → after_or (part_on k (map inverse_part ps)) v ≡ before_or (part_on k ps) v
unfolding part_on
inverse_part_gives k [] v = refl
inverse_part_gives k (p ∷ ps) v =
    inverse_part_first (same_key k p.key) p (part_on k ps) (part_on k (map inverse_part ps)) v (inverse_part_gives k ps v)

-- the parts of the inverse are the inverses of the parts
pub parts-inverse : (e : Change) → parts (inverse e) ≡ map inverse_part (parts e)
parts-inverse e = refl

pub get-inverse : (c : Configuration) (e : Change) (k : Key)
    → get (after_change c (inverse e)) k ≡ before_or (part_on k (parts e)) (get c k)
get-inverse c e k = get-after_change c (inverse e) k ∙ ap (λ ps. after_or (part_on k ps) (get c k)) (parts-inverse e)
    ∙ inverse_part_gives k (parts e) (get c k)

pub keys_of-inverse_part : (ps : List Part) → keys_of (map inverse_part ps) ≡ keys_of ps
keys_of-inverse_part [] = refl
keys_of-inverse_part (p ∷ ps) = ap (λ ks. p.key ∷ ks) (keys_of-inverse_part ps)

pub keys_of-inverse : (e : Change) → keys_of (parts (inverse e)) ≡ keys_of (parts e)
keys_of-inverse e = ap keys_of (parts-inverse e) ∙ keys_of-inverse_part (parts e)

-- the head of a list of distinct keys is not in the rest
pub not_again : (k : Key) (ks : List Key) → AllByRecursion (λ q. same_key k q ≡ false) ks → (q : Key) → has ks q ≡ true
    → same_key q k ≡ false
not_again k [] h q in' = (cc)
not_again k (x ∷ ks) h q in' =
    elim (same_key q x) as (λ b. same_key q x ≡ b → (b || has ks q) ≡ true → same_key q k ≡ false) [
      | true ↦ λ same _. by_bool (same_key q k)
          (λ both.
          let is : k ≡ x = sym (one_key q k both) ∙ one_key q x same in
          let t : same_key k x ≡ true = ap (same_key k) (sym is) ∙ same_itself k in
          let f : same_key k x ≡ false = h.0 in
          (cc))
          (λ h. h)
      | false ↦ λ _ in''. not_again k ks h.1 q in''
    ] refl in'

-- after a change its values after stand
pub inverse_part_stands : (c : Configuration) (ps : List Part) → IsDistinct same_key (keys_of ps)
    → Stands (put_all c ps) (map inverse_part ps)
unfolding IsDistinct
inverse_part_stands c [] d = tt
inverse_part_stands c (p ∷ ps) d = (
  get-put (put_all c ps) p.key p.after p.key ∙ ap (λ b. cond b p.after (get (put_all c ps) p.key)) (same_itself p.key),
  stands_alike (put_all c ps) (put (put_all c ps) p.key p.after) (map inverse_part ps)
      (λ k in'. get-put (put_all c ps) p.key p.after k
      ∙ ap (λ b. cond b p.after (get (put_all c ps) k))
      (not_again p.key (keys_of ps) d.0 k (sym (ap (λ ks. has ks k) (keys_of-inverse_part ps)) ∙ in')))
      (inverse_part_stands c ps d.1),
)

pub stands_after : (c : Configuration) (e : Change) → IsDistinct same_key (keys_of (parts e))
    → Stands (after_change c e) (parts (inverse e))
stands_after c e d = subst (Stands (after_change c e)) (sym (parts-inverse e)) (inverse_part_stands c (parts e) d)

-- a key that no change touches keeps its value
pub run_elsewhere : (c : Configuration) (es : List Change) (k : Key) → AllByRecursion (λ f. has (keys_of (parts f)) k ≡ false) es
    → get (run c es) k ≡ get c k
run_elsewhere c [] k h = refl
run_elsewhere c (e ∷ es) k h = grind (arith, get-after_change, after_or, part_on_none, (run_elsewhere (after_change c e) es k h.1))

pub each_weaker : {A : Type 0} (P Q : A → Type 0) → ((x : A) → P x → Q x) → (xs : List A) → AllByRecursion P xs → AllByRecursion Q xs
each_weaker P Q f [] h = tt
each_weaker P Q f (x ∷ xs) h = (f x h.0, each_weaker P Q f xs h.1)

pub record IsUndoable (l : Limits) (c : Configuration) (e : Change) (es : List Change) : Type 0 where
  pub good : IsGood l c es
  pub fits : Fits l (run c (e ∷ es)) (inverse e)
  pub same : after_change (run c (e ∷ es)) (inverse e) ≡ run c es

apart_key : (k : Key) (f e : Change) → has (keys_of (parts e)) k ≡ true → Apart (parts f) (parts e) → has (keys_of (parts f)) k ≡ false
apart_key k f e in' a = by_bool (has (keys_of (parts f)) k) (λ h. let no : has (keys_of (parts e)) k ≡ false = a.keys k h in (cc)) (λ h. h)

pub undoable : (l : Limits) (c : Configuration) (e : Change) (es : List Change) → IsWellKept l c → IsGood l c (e ∷ es)
    → AllByRecursion (λ f. conflicts f e ≡ false) es → IsUndoable l c e es
unfolding IsDistinct
undoable l c e es kept g none =
    let apart : AllByRecursion (λ f. Apart (parts f) (parts e)) es = each_weaker (λ f. conflicts f e ≡ false)
    (λ f. Apart (parts f) (parts e)) (λ f h. Apart-from_test (parts f) (parts e) h) es none in
    let begins : Agrees l c c [] = record { all_kept = kept; left_kept = kept; agree = begin_agrees c } in
    let rest = without l (after_change c e) c (parts e) es (agrees_taken l c c [] e begins g.0) g.1 apart in
    let same : after_change (run c (e ∷ es)) (inverse e) ≡ run c es =
    same_configuration _ _ (λ k. get-inverse (run c (e ∷ es)) e k ∙ sym (rest.1.agree k)) in
    record {
      good = rest.0;
      fits = record {
        distinct = subst (IsDistinct same_key) (sym (keys_of-inverse e)) (g.0).distinct;
        stands = stands_alike (after_change c e) (run c (e ∷ es)) (parts (inverse e))
            (λ k in'.
            let in_e : has (keys_of (parts e)) k ≡ true = sym (ap (λ ks. has ks k) (keys_of-inverse e)) ∙ in' in
            run_elsewhere (after_change c e) es k
            (each_weaker (λ f. Apart (parts f) (parts e)) (λ f. has (keys_of (parts f)) k ≡ false) (λ f a. apart_key k f e in_e a) es
            apart))
            (stands_after c e (g.0).distinct);
        kept = subst (IsWellKept l) (sym same) (rest.1.left_kept);
      };
      same = same;
    }

-- a change that fits is taken back by its inverse, which fits what the change left
pub taken_back : (l : Limits) (c : Configuration) (e : Change) → IsWellKept l c → Fits l c e → IsUndoable l c e []
taken_back l c e kept fits = undoable l c e [] kept (fits, tt) tt
