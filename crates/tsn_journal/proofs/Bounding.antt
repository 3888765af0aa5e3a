-- Up to which number a later entry of another session may be in conflict with those that stand.
use Rattle.std.proofs.Common.{◌≡◌, ℕ, zero, suc, ◌+◌, ◌≤◌, Bool, true, false, cond, ◌||◌, ◌&&◌, not, List, [], ◌∷◌, ◌++◌, refl, sym, ◌∙◌, ap, Option, Some, None, arith, drop, length, map, inl, inr}
use Rattle.std.proofs.lemmas.Grind.{common_steps}
use Rattle.std.specs.Prelude.{◌==◌, is_some}
use Rattle.std.specs.List.{list_any, slice_get}
use Rattle.std.specs.Option.{option_and_then, option_or}
use Rattle.std.proofs.lemmas.Cmp.{nat_eq_equiv}
use Rattle.std.proofs.lemmas.List.{length-append, length-map}
use Rattle.std.proofs.lemmas.Option.{slice_get-map, slice_get_within, same_Some}
use Rattle.std.proofs.lemmas.Bool.{or_from, and_right}
use Rattle.std.proofs.Math.Bool.{and-true}
use Rattle.tsn_edit.proofs.Conflicting.{mixed}
use Rattle.tsn_journal.proofs.Telling.{refs_after-append}
use Rattle.tsn_journal.proofs.Settling.{or_first, or_second}
use Rattle.tsn_types.specs.declared.keys.Key.{Key}
use Rattle.tsn_journal.specs.declared.groups.Group.TheVariants.{On}
use Rattle.tsn_types.specs.declared.records.Record.{Record}
use Rattle.tsn_types.specs.Keys.{has, meets, meter_ref, refs_of, same_key}
use Rattle.tsn_edit.specs.Changes.{conflicts, keys_of, refs_before}
use Rattle.tsn_edit.specs.Parts.{Change, Part, parts}
use Rattle.tsn_edit.proofs.KeyFacts.{by_option, has-append, keys_of-append}
use Rattle.tsn_entries.specs.declared.entries.What.{What}
use Rattle.tsn_entries.specs.declared.entries.MarkedEntry.{MarkedEntry}
use Rattle.tsn_journal.specs.Crossed.{IsFreeAbove, NoneCrossed, NoneReferred, crosses, is_on_referred, is_referred}
use Rattle.tsn_entries.specs.Entries.{IsNumbered, adds, applies}
use Rattle.tsn_entries.specs.Finding.{last_where}
use Rattle.tsn_entries.specs.Marks.{conflict_of_others, entries_of, is_in_conflict, is_others, is_own, mark_off, standing_change, stands}
use Rattle.tsn_journal.specs.Index.{NoneFrom, belongs_to_others}
use Rattle.tsn_journal.proofs.Links.{end_at, front_at, none_some, where_at}
use Rattle.tsn_journal.proofs.Under.{no_lower}
use Rattle.tsn_journal.proofs.Walking.{none_from}

-- ---- what comes after the last one that passes does not pass

pub after_last : (t : MarkedEntry → Bool) (k n : ℕ) (ms : List MarkedEntry) (b : ℕ) → IsNumbered (k + 1) (entries_of ms)
    → ((y : MarkedEntry) → last_where t (drop n ms) ≡ Some y → y.entry.number ≤ b)
    → (i : ℕ) (m : MarkedEntry) → n ≤ i → b ≤ k + i → slice_get ms i ≡ Some m → t m ≡ false
after_last t k n [] b h low i m le bi at = none_some m at
after_last t k zero (x ∷ ms) b h low zero m le bi at = grind (arith, same_Some, no_lower)
after_last t k zero (x ∷ ms) b h low (suc i) m le bi at =
    after_last t (k + 1) zero ms b h.1 (λ y some. low y (ap (λ o. option_or o (cond (t x) (Some x) None)) some)) i m (omega arith)
    (omega arith) at
after_last t k (suc n) (x ∷ ms) b h low zero m le bi at = absurd (omega arith)
after_last t k (suc n) (x ∷ ms) b h low (suc i) m le bi at = after_last t (k + 1) n ms b h.1 low i m (omega arith) (omega arith) at

-- ---- a change of one part

out_of_and : (a own : Bool) → own ≡ true → (a && own) ≡ false → a ≡ false
out_of_and a own is h = sym (and-true a) ∙ ap (λ b. a && b) (sym is) ∙ h

value_apart : (k : Key) → is_referred k ≡ false → (v : Option Record) → has (refs_of v) k ≡ false
value_apart k h v = grind arith

-- no value refers to a key of such a kind
before_apart : (k : Key) → is_referred k ≡ false → (ps : List Part) → has (refs_before ps) k ≡ false
before_apart k h [] = refl
before_apart k h (p ∷ ps) = has-append (refs_of p.before) (refs_before ps) k ∙ or_from _ _ (value_apart k h p.before) (before_apart k h ps)

two_keys : (r k : Key) → is_referred r ≡ true → is_referred k ≡ false → same_key r k ≡ false
two_keys r k h f = grind arith

-- a change on no key of such a kind is on nothing that a value refers to
key_apart : (r : Key) → is_referred r ≡ true → (ks : List Key) → list_any is_referred ks ≡ false → has ks r ≡ false
key_apart r h [] f = refl
key_apart r h (k ∷ ks) f = or_from _ _ (two_keys r k h (or_first _ _ f)) (key_apart r h ks (or_second _ _ f))

meter_meets : (o : Option ℕ) (ks : List Key) → list_any is_referred ks ≡ false → meets (meter_ref o ++ []) ks ≡ false
meter_meets o ks f = grind (arith, or_from, key_apart)

value_meets : (v : Option Record) (ks : List Key) → list_any is_referred ks ≡ false → meets (refs_of v ++ []) ks ≡ false
value_meets v ks f = grind (arith, or_from, key_apart, meter_meets)

module _ (p : Part) (kind : is_referred p.key ≡ false) (e : MarkedEntry) (none : is_on_referred (standing_change e) ≡ false) where
  apart : (c : Change) → standing_change e ≡ Some c → has (keys_of (parts c)) p.key ≡ false → conflicts (p ∷ []) c ≡ false
  apart c some key = grind (arith, or_from, value_meets, before_apart)

  pub part_crosses : (s : ℕ) → belongs_to_others (On p.key) s e ≡ false → crosses (Some (p ∷ [])) s e ≡ false
  part_crosses s key = grind (arith, apart, out_of_and, and_right)

-- ---- a change of several parts

or_three : (a b c : Bool) → (a || (b || c)) ≡ ((a || b) || c)
or_three a b c = grind arith

meets_front : (xs ys ls : List Key) → meets (xs ++ ys) ls ≡ (meets xs ls || meets ys ls)
meets_front xs ys ls = grind (arith, common_steps, or_three)

both_conflict : (es fs c : Change) → conflicts (es ++ fs) c ≡ (conflicts es c || conflicts fs c)
both_conflict es fs c = grind (arith, keys_of-append, meets_front, refs_after-append, mixed)

pub both_cross : (es fs : Change) (s : ℕ) (e : MarkedEntry) → crosses (Some es) s e ≡ false → crosses (Some fs) s e ≡ false
    → crosses (Some (es ++ fs)) s e ≡ false
both_cross es fs s e h k = grind (arith, common_steps, both_conflict, or_from, out_of_and, and_right)

pub both_referred : (es fs : Change) → is_on_referred (Some es) ≡ false → is_on_referred (Some fs) ≡ false
    → is_on_referred (Some (es ++ fs)) ≡ false
both_referred es fs h k = grind (arith, common_steps, or_from, or_first, or_second)

pub one_referred : (p : Part) → is_referred p.key ≡ false → is_on_referred (Some (p ∷ [])) ≡ false
one_referred p h = or_from _ _ h refl

-- ---- what is free stays so

under_falls : (w : What) (o : Option Change) (s : ℕ) (e : MarkedEntry) → crosses o s e ≡ false → crosses o s (mark_off w e) ≡ false
under_falls w o s e h = grind arith

falls : (w : What) (m e : MarkedEntry) → crosses (standing_change m) m.entry.session e ≡ false
    → crosses (standing_change (mark_off w m)) (mark_off w m).entry.session (mark_off w e) ≡ false
falls w m e h = grind arith

module _ (w : What) (ms : List MarkedEntry) where
  source : {G : Type 0} (i : ℕ) (m : MarkedEntry) → slice_get (map (mark_off w) ms) i ≡ Some m
      → ((x : MarkedEntry) → slice_get ms i ≡ Some x → mark_off w x ≡ m → G) → G
  source i m at then = grind (arith, slice_get-map, none_some, same_Some)

  free_off : (n : ℕ) → IsFreeAbove n ms → IsFreeAbove n (map (mark_off w) ms)
  free_off n is i j e m le lt ei mj =
      source i e ei (λ x xi ex. source j m mj (λ y yj my.
      (λ k. crosses (standing_change (sym my k)) (sym my k).entry.session (sym ex k)) ∙ falls w y x (is i j x y le lt xi yj)))

pub free_pushed : (w : What) (s : ℕ) (ms : List MarkedEntry) (x : MarkedEntry) → standing_change x ≡ adds w → x.entry.session ≡ s
    → (n b : ℕ) → IsFreeAbove n ms → NoneCrossed b (adds w) s ms → n ≤ b → IsFreeAbove b (map (mark_off w) ms ++ x ∷ [])
free_pushed w s ms x change by n b is none up = λ i j e m le lt ei mj.
    let xs = map (mark_off w) ms in
    elim (where_at (length xs) j) [
      | inl before ↦ free_off w ms n is i j e m (omega arith) lt (sym (front_at xs (x ∷ []) i (omega arith)) ∙ ei)
          (sym (front_at xs (x ∷ []) j before) ∙ mj)
      | inr rest ↦ elim rest [
        | inl here ↦
            (λ k. let y : MarkedEntry = same_Some m x (sym mj ∙ end_at xs x j here) k in crosses (standing_change y) y.entry.session e)
            ∙ (λ k. crosses (change k) (by k) e)
            ∙ source w ms i e (sym (front_at xs (x ∷ []) i (omega arith)) ∙ ei)
            (λ y yi ye. (λ k. crosses (adds w) s (sym ye k)) ∙ under_falls w (adds w) s y (none i y le yi))
        | inr after ↦ absurd (omega (arith, slice_get_within (xs ++ x ∷ []) j m mj, length-append xs (x ∷ [])))
      ]
    ]

referred_falls : (w : What) (e : MarkedEntry) → is_on_referred (standing_change e) ≡ false
    → is_on_referred (standing_change (mark_off w e)) ≡ false
referred_falls w e h = grind arith

pub referred_pushed : (w : What) (ms : List MarkedEntry) (x : MarkedEntry) → standing_change x ≡ adds w → (n b : ℕ) → NoneReferred n ms
    → n ≤ b → (b ≤ length ms → is_on_referred (adds w) ≡ false) → NoneReferred b (map (mark_off w) ms ++ x ∷ [])
referred_pushed w ms x change n b is up own = λ i e le ei.
    let xs = map (mark_off w) ms in
    let as_long : length xs ≡ length ms = length-map ms (mark_off w) in
    elim (where_at (length xs) i) [
      | inl before ↦ source w ms i e (sym (front_at xs (x ∷ []) i before) ∙ ei)
          (λ y yi ye. (λ k. is_on_referred (standing_change (sym ye k))) ∙ referred_falls w y (is i y (omega arith) yi))
      | inr rest ↦ grind (arith, same_Some, end_at, slice_get_within, length-append)
    ]

-- ---- what is free is not blocked

number_is : (k : ℕ) (ms : List MarkedEntry) → IsNumbered k (entries_of ms) → (i : ℕ) (m : MarkedEntry) → slice_get ms i ≡ Some m
    → m.entry.number ≡ k + i
number_is k [] h i m at = none_some m at
number_is k (x ∷ ms) h zero m at =
    ap (λ (y : MarkedEntry). y.entry.number) (sym (same_Some x m at)) ∙ h.0 ∙ (let e : k ≡ k + 0 = omega arith in e)
number_is k (x ∷ ms) h (suc i) m at = number_is (k + 1) ms h.1 i m at ∙ (let e : (k + 1) + i ≡ k + suc i = omega arith in e)

some_standing : (m : MarkedEntry) → is_some (standing_change m) ≡ is_some (stands m)
some_standing m = grind arith

applied_so : (b : Bool) (w : What) (d : Change) → cond b (adds w) None ≡ Some d → applies w ≡ Some d
applied_so b w d h = grind arith

first_out : (a b c : Bool) → a ≡ false → ((a && b) && c) ≡ false
first_out a b c h = λ i. (h i && b) && c

not_some : (o : Option Change) → o ≡ None → is_some o ≡ false
not_some o h = ap is_some h

module _ (ms : List MarkedEntry) (n : ℕ) (numbered : IsNumbered 1 (entries_of ms)) (is : IsFreeAbove n ms) where
  none_blocks : (i : ℕ) (m : MarkedEntry) (c d : Change) → n ≤ i → slice_get ms i ≡ Some m → standing_change m ≡ Some d → d ≡ c
      → NoneFrom (λ f. is_others m.entry.session f && is_in_conflict (applies f.entry.what) c) ms m.entry.number
  none_blocks i m c d le at stood same j f low there =
      let number : m.entry.number ≡ 1 + i = number_is 1 ms numbered i m at in
      let apart : not (f.entry.session == m.entry.session) ≡ not (m.entry.session == f.entry.session) = ap not
      (nat_eq_equiv.symm f.entry.session m.entry.session) in
      let free = is i j m f le (omega (arith, number, low)) at there in
      grind arith

  pub none_blocked : (s i : ℕ) (m : MarkedEntry) → n ≤ i → slice_get ms i ≡ Some m
      → (is_own s m && is_some (conflict_of_others ms m.entry)) ≡ false
  none_blocked s i m le at =
      by_option (standing_change m)
      (λ none. first_out _ _ _ (sym (some_standing m) ∙ not_some _ none))
      (λ d some.
      and_right (is_own s m) _
      (ap (λ o. is_some (option_and_then
      (λ c. last_where (λ f. is_others m.entry.session f && is_in_conflict (applies f.entry.what) c) (drop m.entry.number ms)) o))
      (applied_so m.is_open m.entry.what d some)
      ∙ ap is_some (none_from (λ f. is_others m.entry.session f && is_in_conflict (applies f.entry.what) d) ms m.entry.number
      (none_blocks i m d d le at some refl))))
