-- A conflict with a change, sought in the groups of its key and of what it refers to.
use Rattle.std.proofs.Common.{◌≡◌, ℕ, zero, suc, ◌+◌, ◌<◌, Bool, false, cond, ◌||◌, ◌&&◌, List, [], ◌∷◌, ◌++◌, refl, sym, ◌∙◌, ap, subst, Option, Some, None, arith, drop, take, get_or, length, append_assoc, rules}
use Rattle.std.proofs.lemmas.Grind.{common_steps}
use Rattle.std.specs.Prelude.{is_some, option_map, option_to_list}
use Rattle.std.specs.Option.{option_or}
use Rattle.std.proofs.lemmas.List.{take_more}
use Rattle.tsn_types.specs.declared.keys.Key.{Key}
use Rattle.tsn_types.specs.declared.records.Refs.{Refs}
use Rattle.tsn_types.specs.Keys.{has, keys_of_refs, meets, refs_of}
use Rattle.std.proofs.Math.Bool.{and-false, or-false}
use Rattle.std.proofs.lemmas.Bool.{lt-ltb}
use Rattle.tsn_edit.proofs.Conflicting.{meets_none, mixed, same_key_swap}
use Rattle.tsn_edit.specs.Changes.{conflicts, keys_of, refs_after, refs_before}
use Rattle.tsn_edit.specs.Parts.{Change, Part, parts}
use Rattle.tsn_edit.proofs.KeyFacts.{has-append, keys_of-append}
use Rattle.tsn_entries.specs.declared.entries.What.{What}
use Rattle.tsn_entries.specs.declared.entries.MarkedEntry.{MarkedEntry}
use Rattle.tsn_journal.specs.declared.groups.Group.TheVariants.{On, RefersTo}
use Rattle.tsn_entries.specs.Entries.{IsNumbered, adds, applies}
use Rattle.tsn_entries.specs.Finding.{last_where}
use Rattle.tsn_entries.specs.Marks.{entries_of, is_in_conflict, later_of, standing_change, stands}
use Rattle.tsn_journal.specs.Index.{above, belongs, is_on, is_on_any, refers}
use Rattle.tsn_journal.proofs.Under.{last_either, no_lower}

abbrev at : Option MarkedEntry → Option ℕ
at o = option_map (λ m. m.entry.number) o

four : (a b c d p : Bool) → (((a && p) || (b && p)) || ((c && p) || (d && p))) ≡ (p && ((a || b) || (c || d)))
four a b c d p = grind arith

-- ---- a list that meets a longer one

meets_more : (ks ls : List Key) (k : Key) → meets ks (k ∷ ls) ≡ (has ks k || meets ks ls)
meets_more [] ls k = refl
meets_more (x ∷ ks) ls k = grind (arith, mixed, same_key_swap, meets_more ks ls k)

meets_one : (ks : List Key) (k : Key) → meets ks (k ∷ []) ≡ has ks k
meets_one ks k = meets_more ks [] k ∙ ap (λ b. has ks k || b) (meets_none ks) ∙ or-false (has ks k)

-- whether a change is on the key, if there is one
abbrev pub on_any : Option Key → Change → Bool
on_any None d = false
on_any (Some k) d = has (keys_of (parts d)) k

on_refs : (a b : Option Key) (d : Change) → (on_any a d || on_any b d) ≡ meets (keys_of (parts d)) (option_to_list a ++ option_to_list b)
on_refs a b d = grind (arith, meets_none, meets_one, or-false, meets_more)

pub nothing_after : (xs : List Key) → xs ++ [] ≡ xs
nothing_after xs = search rules

or_three : (a b c : Bool) → ((a || b) || c) ≡ (a || (b || c))
or_three a b c = grind arith

pub in_conflict : (p : Part) (d : Change) (refs : Refs) → keys_of_refs refs ≡ refs_of p.before
    → ((has (keys_of (parts d)) p.key || has (refs_after (parts d)) p.key) || (on_any refs.first d || on_any refs.second d))
    ≡ conflicts d (p ∷ [])
in_conflict p d refs same = grind (arith, on_refs, nothing_after, or_three, meets_one)

any_standing : (m : MarkedEntry) (d : Change) → standing_change m ≡ Some d → (o : Option Key) → is_on_any o m ≡ on_any o d
any_standing m d is o = grind arith

none_standing : (m : MarkedEntry) → standing_change m ≡ None → (o : Option Key) → is_on_any o m ≡ false
none_standing m is o = grind arith

-- whether a marked entry is in one of the groups of the change and passes
abbrev pub in_groups : Part → Refs → (MarkedEntry → Bool) → MarkedEntry → Bool
in_groups c refs p m = ((belongs (On c.key) m && p m) || (belongs (RefersTo c.key) m && p m))
    || ((is_on_any refs.first m && p m) || (is_on_any refs.second m && p m))

module _ (c : Part) (refs : Refs) (same : keys_of_refs refs ≡ refs_of c.before) (p : MarkedEntry → Bool) where
  with_change : (m : MarkedEntry) (d : Change) → standing_change m ≡ Some d → in_groups c refs p m ≡ (p m && conflicts d (c ∷ []))
  with_change m d is =
      (λ i. (is_on c.key (is i) && p m || (refers c.key (is i) && p m))
      || ((any_standing m d is refs.first i && p m) || (any_standing m d is refs.second i && p m)))
      ∙ four (has (keys_of (parts d)) c.key) (has (refs_after (parts d)) c.key) (on_any refs.first d) (on_any refs.second d) (p m)
      ∙ ap (λ b. p m && b) (in_conflict c d refs same)

  with_none : (m : MarkedEntry) → standing_change m ≡ None → in_groups c refs p m ≡ false
  with_none m is = (λ i. (is_on c.key (is i) && p m || (refers c.key (is i) && p m))
      || ((none_standing m is refs.first i && p m) || (none_standing m is refs.second i && p m)))

  each_test : (m : MarkedEntry) (b : Bool) (w : What) → m.is_open ≡ b → m.entry.what ≡ w
      → in_groups c refs p m ≡ ((is_some (cond b (adds w) None) && p m) && is_in_conflict (applies w) (c ∷ []))
  each_test m b w on is = grind (arith, with_change, with_none)

  some_stands : (m : MarkedEntry) → is_some (standing_change m) ≡ is_some (stands m)
  some_stands m = grind arith

  pub the_test : (m : MarkedEntry) → in_groups c refs p m ≡ ((is_some (stands m) && p m) && is_in_conflict (applies m.entry.what) (c ∷ []))
  the_test m =
      each_test m m.is_open m.entry.what refl refl ∙ ap (λ b. (b && p m) && is_in_conflict (applies m.entry.what) (c ∷ [])) (some_stands m)

  pub sought_groups : (n : ℕ) (ms : List MarkedEntry) → IsNumbered n (entries_of ms)
      → later_of (later_of (at (last_where (λ m. belongs (On c.key) m && p m) ms))
      (at (last_where (λ m. belongs (RefersTo c.key) m && p m) ms)))
      (later_of (at (last_where (λ m. is_on_any refs.first m && p m) ms)) (at (last_where (λ m. is_on_any refs.second m && p m) ms)))
      ≡ at (last_where (λ m. (is_some (stands m) && p m) && is_in_conflict (applies m.entry.what) (c ∷ [])) ms)
  sought_groups n ms numbered =
      (λ i. later_of (sym (last_either (λ m. belongs (On c.key) m && p m) (λ m. belongs (RefersTo c.key) m && p m) n ms numbered) i)
      (sym (last_either (λ m. is_on_any refs.first m && p m) (λ m. is_on_any refs.second m && p m) n ms numbered) i))
      ∙ sym (last_either (λ m. (belongs (On c.key) m && p m) || (belongs (RefersTo c.key) m && p m))
      (λ m. (is_on_any refs.first m && p m) || (is_on_any refs.second m && p m)) n ms numbered)
      ∙ ap (λ (t : MarkedEntry → Bool). at (last_where t ms)) (λ i m. the_test m i)

-- ---- the last of the later ones

-- the numbers of the later ones follow one another, too
pub numbered_after : (k n : ℕ) (ms : List MarkedEntry) → IsNumbered k (entries_of ms) → IsNumbered (k + n) (entries_of (drop n ms))
numbered_after k zero [] h = h
numbered_after k zero (m ∷ ms) h = subst (λ j. IsNumbered j (entries_of (m ∷ ms))) (let e : k ≡ k + 0 = omega arith in e) h
numbered_after k (suc n) [] h = h
numbered_after k (suc n) (m ∷ ms) h = subst (λ j. IsNumbered j (entries_of (drop n ms))) (let e : (k + 1) + n ≡ k + suc n = omega arith in
    e) (numbered_after (k + 1) n ms h.1)

if_above : (n : ℕ) (m : MarkedEntry) → n < m.entry.number → above n (at (Some m)) ≡ at (Some m)
if_above n m h = ap (λ b. cond b (Some m.entry.number) None) (lt-ltb n m.entry.number h)

later_from : (t : MarkedEntry → Bool) (k n : ℕ) (ms : List MarkedEntry) → IsNumbered (k + 1) (entries_of ms)
    → at (last_where t (drop n ms)) ≡ above (k + n) (at (last_where t ms))
later_from t k zero ms h = grind (arith, if_above, no_lower)
later_from t k (suc n) [] h = refl
later_from t k (suc n) (m ∷ ms) h = grind (arith, later_from t (k + 1) n ms h.1)

pub later_last : (t : MarkedEntry → Bool) (n : ℕ) (ms : List MarkedEntry) → IsNumbered 1 (entries_of ms)
    → above n (at (last_where t ms)) ≡ at (last_where t (drop n ms))
later_last t n ms h = sym (later_from t 0 n ms h ∙ ap (λ j. above j (at (last_where t ms))) (let e : 0 + n ≡ n = omega arith in e))

pub never : (ms : List MarkedEntry) → last_where (λ m. false) ms ≡ None
never [] = refl
never (m ∷ ms) = ap (λ o. option_or o None) (never ms)

-- ---- a change of several parts, part by part

none_before : (d : Change) → conflicts d [] ≡ false
none_before d = (λ i. meets_none (keys_of (parts d)) i || (meets_none (refs_after (parts d)) i || meets_none (keys_of (parts d)) i))

pub no_parts : (o : Option Change) → is_in_conflict o [] ≡ false
no_parts o = grind (arith, none_before)

meets_both : (ks ls ls' : List Key) → meets ks (ls ++ ls') ≡ (meets ks ls || meets ks ls')
meets_both [] ls ls' = refl
meets_both (k ∷ ks) ls ls' =
    (λ i. has-append ls ls' k i || meets_both ks ls ls' i) ∙ mixed (has ls k) (has ls' k) (meets ks ls) (meets ks ls')

pub refs_both : (es fs : List Part) → refs_before (es ++ fs) ≡ refs_before es ++ refs_before fs
refs_both es fs = grind (arith, common_steps, append_assoc)

conflicts_both : (d es fs : Change) → conflicts d (es ++ fs) ≡ (conflicts d es || conflicts d fs)
conflicts_both d es fs = search (rules, keys_of-append, meets_both, refs_both, mixed)

in_conflict_both : (o : Option Change) (es fs : Change) → is_in_conflict o (es ++ fs) ≡ (is_in_conflict o es || is_in_conflict o fs)
in_conflict_both None es fs = refl
in_conflict_both (Some d) es fs = conflicts_both d es fs

and_either : (p a b : Bool) → (p && (a || b)) ≡ ((p && a) || (p && b))
and_either p a b = grind arith

-- the latest entry in conflict with one part more
pub sought_more : (q : MarkedEntry → Bool) (n : ℕ) (ms : List MarkedEntry) (es fs : Change) → IsNumbered n (entries_of ms)
    → later_of (at (last_where (λ m. q m && is_in_conflict (applies m.entry.what) es) ms))
    (at (last_where (λ m. q m && is_in_conflict (applies m.entry.what) fs) ms))
    ≡ at (last_where (λ m. q m && is_in_conflict (applies m.entry.what) (es ++ fs)) ms)
sought_more q n ms es fs numbered =
    sym (last_either (λ m. q m && is_in_conflict (applies m.entry.what) es) (λ m. q m && is_in_conflict (applies m.entry.what) fs) n ms
    numbered)
    ∙ ap (λ (t : MarkedEntry → Bool). at (last_where t ms))
    (λ i m. sym (ap (λ b. q m && b) (in_conflict_both (applies m.entry.what) es fs)
    ∙ and_either (q m) (is_in_conflict (applies m.entry.what) es) (is_in_conflict (applies m.entry.what) fs)) i)

-- and with no part
pub sought_none : (q : MarkedEntry → Bool) (ms : List MarkedEntry)
    → at (last_where (λ m. q m && is_in_conflict (applies m.entry.what) []) ms) ≡ None
sought_none q ms = search (rules, no_parts, and-false, never)

pub take_next : (ps : List Part) (i : ℕ) (p : Part) → i < length ps → p ≡ get_or ps i p → take (i + 1) ps ≡ take i ps ++ p ∷ []
take_next ps i p short is = take_more ps i p short ∙ ap (λ x. take i ps ++ x ∷ []) (sym is)

-- a step of the loop over the parts of a change
pub sought_next : (q : MarkedEntry → Bool) (n : ℕ) (ms : List MarkedEntry) (ps : List Part) (i : ℕ) (p : Part)
    (latest found next : Option ℕ) → IsNumbered n (entries_of ms) → i < length ps → p ≡ get_or ps i p
    → latest ≡ at (last_where (λ m. q m && is_in_conflict (applies m.entry.what) (take i ps)) ms)
    → found ≡ at (last_where (λ m. q m && is_in_conflict (applies m.entry.what) (p ∷ [])) ms)
    → next ≡ later_of latest found
    → next ≡ at (last_where (λ m. q m && is_in_conflict (applies m.entry.what) (take (i + 1) ps)) ms)
sought_next q n ms ps i p latest found next numbered short is so_far here then =
    then
    ∙ (λ j. later_of (so_far j) (here j))
    ∙ sought_more q n ms (take i ps) (p ∷ []) numbered
    ∙ ap (λ (es : Change). at (last_where (λ m. q m && is_in_conflict (applies m.entry.what) es) ms)) (sym (take_next ps i p short is))
