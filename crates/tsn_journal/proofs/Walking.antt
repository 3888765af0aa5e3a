-- Walking back from the latest node of a group, a link at a time.
use Rattle.std.proofs.Common.{◌≡◌, ℕ, zero, suc, ◌+◌, ◌-◌, ◌<◌, ◌≤◌, Bool, true, false, cond, ◌&&◌, List, [], ◌∷◌, refl, sym, ◌∙◌, ap, subst, Some, None, arith, length, get_or, drop, take, filter, map, ◌++◌, add-one}
use Rattle.std.specs.List.{slice_get}
use Rattle.std.specs.Prelude.{reverse}
use Rattle.std.proofs.lemmas.List.{length-append, reverse-append, take-append-drop, take_more}
use Rattle.std.proofs.lemmas.List.Elements.{filter-append}
use Rattle.std.specs.Option.{option_or}
use Rattle.std.proofs.lemmas.Option.{get_or_from_slice_get, slice_get_within}
use Rattle.std.proofs.Math.Seq.{drop-cons}
use Rattle.tsn_entries.specs.declared.entries.MarkedEntry.{MarkedEntry}
use Rattle.tsn_journal.specs.declared.groups.Group.{Group}
use Rattle.tsn_journal.specs.declared.index.Node.{Node}
use Rattle.tsn_entries.specs.Finding.{last_where}
use Rattle.tsn_entries.specs.Entries.{added_parts}
use Rattle.tsn_entries.specs.Marks.{IsTally, added_in}
use Rattle.tsn_journal.specs.Index.{AreNodes, IsLast, NoneFrom, belongs, is_of, number_at, number_of, node_at}
use Rattle.tsn_journal.proofs.Links.{one, the_node}
use Rattle.tsn_entries.proofs.LastWhere.{found_here, last_where-append}

pub none_from : {A : Type 0} (t : A → Bool) (xs : List A) (n : ℕ) → NoneFrom t xs n → last_where t (drop n xs) ≡ None
none_from t [] zero h = refl
none_from t [] (suc n) h = refl
none_from t (x ∷ xs) zero h = grind (arith, none_from t xs zero (λ i y low at. h (suc i) y (omega arith) at))
none_from t (x ∷ xs) (suc n) h = none_from t xs n (λ i y low at. h (suc i) y (omega arith) at)

-- where none is from n on, the last is among the first n
pub last_upto : {A : Type 0} (t : A → Bool) (xs : List A) (n : ℕ) → NoneFrom t xs n → last_where t (take n xs) ≡ last_where t xs
last_upto t xs n none =
    sym (ap (last_where t) (sym (take-append-drop n xs)) ∙ last_where-append t (take n xs) (drop n xs)
    ∙ ap (λ o. option_or o (last_where t (take n xs))) (none_from t xs n none))

pub found_from : {A : Type 0} (t : A → Bool) (xs : List A) (n : ℕ) (x : A) → 1 ≤ n → n ≤ length xs → slice_get xs (n - 1) ≡ Some x
    → NoneFrom t xs n → t x ≡ true → last_where t xs ≡ Some x
found_from t xs n x some within at none pass =
    found_here t xs (n - 1) x (omega arith) (sym (get_or_from_slice_get xs (n - 1) x x at))
    (ap (λ k. last_where t (drop k xs)) (let e : (n - 1) + 1 ≡ n = omega arith in e) ∙ none_from t xs n none) pass

-- the same among those after the first k
pub found_after : {A : Type 0} (t : A → Bool) (xs : List A) (k n : ℕ) (x : A) → k < n → n ≤ length xs → slice_get xs (n - 1) ≡ Some x
    → NoneFrom t xs n → t x ≡ true → last_where t (drop k xs) ≡ Some x
found_after t [] k n x more within at none pass = absurd (omega arith)
found_after t (y ∷ xs) zero n x more within at none pass = found_from t (y ∷ xs) n x (omega arith) within at none pass
found_after t (y ∷ xs) (suc k) n x more within at none pass =
    let next : suc ((n - 1) - 1) ≡ n - 1 = omega arith in
    found_after t xs k (n - 1) x (omega arith) (omega arith) (ap (slice_get (y ∷ xs)) next ∙ at)
    (λ i z low there. none (suc i) z (omega arith) there) pass

pub in_list : {A : Type 0} (xs : List A) (i : ℕ) (x : A) → slice_get xs i ≡ Some x → i + 1 < length xs + 1
in_list xs i x h = let in' : i < length xs = slice_get_within xs i x h in omega arith

-- nothing that passes comes after the node where a walk stands
pub none_after : (g : Group) (t : MarkedEntry → Bool) (ms : List MarkedEntry) (ps : List Node) (j : ℕ) → IsLast g t ms ps j (length ms + 1)
    → NoneFrom t ms (number_at ps j)
none_after g t ms ps j is i m low at = is.none_later i m low (in_list ms i m at) at

pub and_out : {A : Type 0} (p q : A → Bool) (m : A) → q m ≡ false → (q m && p m) ≡ false
and_out p q m h = (cc)

-- ---- those that pass, from the back

pub filter_gap : {A : Type 0} (t : A → Bool) (xs : List A) (n k : ℕ) → n ≤ k
    → ((i : ℕ) (x : A) → n ≤ i → i < k → slice_get xs i ≡ Some x → t x ≡ false) → filter t (drop n xs) ≡ filter t (drop k xs)
filter_gap t [] zero zero le h = refl
filter_gap t [] zero (suc k) le h = refl
filter_gap t [] (suc n) zero le h = refl
filter_gap t [] (suc n) (suc k) le h = refl
filter_gap t (x ∷ xs) zero zero le h = refl
filter_gap t (x ∷ xs) zero (suc k) le h =
    ap (λ b. cond b (x ∷ filter t xs) (filter t xs)) (h zero x (omega arith) (omega arith) refl)
    ∙ filter_gap t xs zero k (omega arith) (λ i y low high at. h (suc i) y (omega arith) (omega arith) at)
filter_gap t (x ∷ xs) (suc n) zero le h = absurd (omega arith)
filter_gap t (x ∷ xs) (suc n) (suc k) le h =
    filter_gap t xs n k (omega arith) (λ i y low high at. h (suc i) y (omega arith) (omega arith) at)

drop_at : {A : Type 0} (xs : List A) (n : ℕ) (x : A) → slice_get xs n ≡ Some x → drop n xs ≡ x ∷ drop (n + 1) xs
drop_at xs n x at = drop-cons xs n x (slice_get_within xs n x at) ∙ (λ j. get_or_from_slice_get xs n x x at j ∷ drop (sym (add-one n) j) xs)

pub filter_none : {A : Type 0} (t : A → Bool) (xs : List A) (n : ℕ) → NoneFrom t xs n → filter t (drop n xs) ≡ []
filter_none t [] zero h = refl
filter_none t [] (suc n) h = refl
filter_none t (x ∷ xs) zero h = ap (λ b. cond b (x ∷ filter t xs) (filter t xs)) (h zero x (omega arith) refl)
    ∙ filter_none t xs zero (λ i y low at. h (suc i) y (omega arith) at)
filter_none t (x ∷ xs) (suc n) h = filter_none t xs n (λ i y low at. h (suc i) y (omega arith) at)

-- none of a group is behind its latest node
pub nothing_behind : {g : Group} {ms : List MarkedEntry} {ps : List Node} {node latest : ℕ} → node ≡ latest
    → IsLast g (belongs g) ms ps latest (length ms + 1) → filter (belongs g) (drop (number_at ps node) ms) ≡ []
nothing_behind {g} {ms} {ps} {node} is at =
    filter_none (belongs g) ms (number_at ps node) (none_after g (belongs g) ms ps node (rw is at))

module _ (ms : List MarkedEntry) (ps : List Node) (g : Group) (j : ℕ) (found : Node) (group : is_of g (node_at ps j) ≡ true)
    (there : node_at ps j ≡ Some found) (are : AreNodes ms ps) where
  -- a link back: those of the group from there on are those from the node on, and its entry, if it belongs to the group
  pub step_back : (m : MarkedEntry) → slice_get ms (found.number - 1) ≡ Some m
      → filter (belongs g) (drop (number_at ps found.before) ms) ≡ cond (belongs g m) (m ∷ filter (belongs g) (drop (number_at ps j) ms))
      (filter (belongs g) (drop (number_at ps j) ms))
  step_back m here =
      let p = the_node ms ps g j found group there are in
      let same = one ms ps g j found group there are in
      let number : found.number ≡ number_at ps j = sym (ap number_of there) in
      let first : 1 ≤ found.number = p.some in
      let less : number_at ps found.before < found.number = p.less in
      filter_gap (belongs g) ms (number_at ps found.before) (found.number - 1) (omega arith)
      (λ i x low high at'. subst (λ h. belongs h x ≡ false) same (p.last.none_later i x low (omega arith) at'))
      ∙ ap (filter (belongs g)) (drop_at ms (found.number - 1) m here)
      ∙ ap (λ k. cond (belongs g m) (m ∷ filter (belongs g) (drop k ms)) (filter (belongs g) (drop k ms)))
      ((let e : (found.number - 1) + 1 ≡ found.number = omega arith in e) ∙ number)

pub added_both : (xs ys : List MarkedEntry) → added_in (xs ++ ys) ≡ added_in xs + added_in ys
added_both [] ys = omega arith
added_both (x ∷ xs) ys = let rest = added_both xs ys in omega (arith, rest)

-- one entry more, at the front or at the end, where it passes
pub one_told : (n k : ℕ) (F : List MarkedEntry) (b : Bool) (m : MarkedEntry) (x : ℕ) → IsTally n k F → b ≡ true
    → x ≡ added_parts m.entry.what → IsTally (n + 1) (k + x) (cond b (m ∷ F) F)
one_told n k F b m x told holds parts = grind arith

pub none_told : (n k : ℕ) (F : List MarkedEntry) (b : Bool) (m : MarkedEntry) → IsTally n k F → b ≡ false → IsTally n k (cond b (m ∷ F) F)
none_told n k F b m told fails = grind arith

pub both_told : (n k i j : ℕ) (xs ys : List MarkedEntry) → IsTally n k xs → IsTally i j ys → IsTally (i + n) (j + k) (xs ++ ys)
both_told n k i j xs ys first second =
    record {
      count = omega (arith, first.count, second.count, length-append xs ys);
      added = omega (arith, first.added, second.added, added_both xs ys);
    }

pub taken_more : (t : MarkedEntry → Bool) (xs : List MarkedEntry) (i : ℕ) (x : MarkedEntry) → i < length xs → x ≡ get_or xs i x
    → filter t (take (i + 1) xs) ≡ filter t (take i xs) ++ cond (t x) (x ∷ []) []
taken_more t xs i x short is =
    ap (filter t) (take_more xs i x short ∙ ap (λ y. take i xs ++ y ∷ []) (sym is)) ∙ filter-append t (take i xs) (x ∷ [])

pub one_numbered : (ns : List ℕ) (F : List MarkedEntry) (b : Bool) (m : MarkedEntry)
    → reverse ns ≡ map (λ (k : MarkedEntry). k.entry.number) F → b ≡ true → reverse (ns ++ m.entry.number ∷ [])
    ≡ map (λ (k : MarkedEntry). k.entry.number) (cond b (m ∷ F) F)
one_numbered ns F b m same holds = grind (arith, reverse-append)

pub none_numbered : (ns : List ℕ) (F : List MarkedEntry) (b : Bool) (m : MarkedEntry)
    → reverse ns ≡ map (λ (k : MarkedEntry). k.entry.number) F → b ≡ false → reverse ns ≡ map (λ (k : MarkedEntry). k.entry.number)
    (cond b (m ∷ F) F)
none_numbered ns F b m same fails = (cc)

pub few_pass : {A : Type 0} (t : A → Bool) (xs : List A) → length (filter t xs) ≤ length xs
few_pass t [] = omega arith
few_pass t (x ∷ xs) =
    let rest = few_pass t xs in elim (t x) as (λ b. length (cond b (x ∷ filter t xs) (filter t xs)) ≤ length (x ∷ xs))
    [ true ↦ omega arith | false ↦ omega arith ]
