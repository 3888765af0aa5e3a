-- What the rows of keys tell of the newest entries, once one entry more is told.
use Rattle.std.proofs.Common.{◌≡◌, ℕ, ◌+◌, ◌<◌, ◌≤◌, inl, inr, Bool, true, false, cond, List, [], ◌∷◌, ◌++◌, refl, sym, ◌∙◌, ap, subst, Option, Some, None, arith, append_assoc, get_or, length, take}
use Rattle.std.proofs.lemmas.Grind.{common_steps}
use Rattle.std.specs.Prelude.{◌==◌, option_map, option_to_list}
use Rattle.std.specs.List.{find}
use Rattle.std.specs.Option.{option_or}
use Rattle.std.proofs.lemmas.List.{length-append}
use Rattle.std.proofs.lemmas.List.Folds.{find-append}
use Rattle.std.proofs.lemmas.Bool.{eqb-true, or_left, or_right, lt-ltb}
use Rattle.std.proofs.lemmas.Option.{same_Some}
use Rattle.tsn_types.specs.declared.keys.Key.{Key}
use Rattle.tsn_types.specs.declared.records.Refs.{Refs}
use Rattle.tsn_types.specs.Keys.{has, keys_of_refs, refs_of}
use Rattle.tsn_edit.specs.Changes.{keys_of, refs_after}
use Rattle.tsn_edit.specs.Parts.{Change, Part}
use Rattle.tsn_edit.proofs.KeyFacts.{by_bool, by_option, has-append, keys_of-append}
use Rattle.tsn_entries.specs.declared.entries.Entry.{Entry}
use Rattle.tsn_journal.specs.declared.index.Index.{Index}
use Rattle.tsn_entries.specs.Entries.{IsNumbered, applies}
use Rattle.tsn_entries.specs.Finding.{entry, last_where}
use Rattle.tsn_journal.specs.Index.{above, is_on, refers}
use Rattle.tsn_journal.specs.Touched.{KeepsNodes, Tells, TellsSame, Told, keys_in, mentions, newest, referred, refs_in, some_number, touched, touches}
use Rattle.tsn_journal.proofs.Indexing.{rows_then}
use Rattle.tsn_entries.proofs.LastWhere.{last_where-append}
use Rattle.tsn_journal.proofs.Links.{none_some}
use Rattle.tsn_journal.proofs.Sought.{nothing_after, take_next}

-- ---- one key told, or one reference

pub told_same : (n : ℕ) (a b : Index) → TellsSame a b → Told n [] [] a b
told_same n a b same = grind arith

pub same_itself' : (a : Index) → TellsSame a a
same_itself' a = record { stray = refl; on = λ q. refl; to = λ q. refl }

-- ---- one after the other

module _ (n : ℕ) (keys refs keys' refs' : List Key) (a b c : Index) (some : 1 ≤ n) (first : Told n keys refs a b)
    (second : Told n keys' refs' b c) where
  still_stray : b.stray ≡ n → c.stray ≡ n
  still_stray is = elim second.stray [ inl same ↦ same ∙ is | inr now ↦ now ]

  still_on : (k : Key) → touched b k ≡ n → touched c k ≡ n
  still_on k is = elim (second.on_or_same k) [ inl same ↦ same ∙ is | inr now ↦ now.1 ]

  still_to : (k : Key) → referred b k ≡ n → referred c k ≡ n
  still_to k is = elim (second.to_or_same k) [ inl same ↦ same ∙ is | inr now ↦ now.1 ]

  in_first : (ks ls : List Key) (k : Key) → has ks k ≡ true → has (ks ++ ls) k ≡ true
  in_first ks ls k h = has-append ks ls k ∙ or_left (has ks k) (has ls k) h

  in_second : (ks ls : List Key) (k : Key) → has ls k ≡ true → has (ks ++ ls) k ≡ true
  in_second ks ls k h = has-append ks ls k ∙ or_right (has ks k) (has ls k) h

  never_on : (k : Key) → touched b k ≡ 0 → touched a k ≡ 0
  never_on k none = elim (first.on_or_same k) [ inl same ↦ sym same ∙ none | inr now ↦ absurd (omega (arith, some, now.1, none)) ]

  pub told_then : Told n (keys ++ keys') (refs ++ refs') a c
  told_then = grind (arith, has-append, still_on, still_stray, in_first, in_second, still_to, never_on)

pub refs_after-append : (es fs : List Part) → refs_after (es ++ fs) ≡ refs_after es ++ refs_after fs
refs_after-append es fs = grind (arith, common_steps, append_assoc)

-- a part more
pub told_more : (n i : ℕ) (ps : List Part) (p : Part) (refs : Refs) (a b c d e : Index) → 1 ≤ n → i < length ps → p ≡ get_or ps i p
    → keys_of_refs refs ≡ refs_of p.after
    → Told n (keys_of (take i ps)) (refs_after (take i ps)) a b → Told n (p.key ∷ []) [] b c → Told n [] (option_to_list refs.first) c d
    → Told n [] (option_to_list refs.second) d e
    → Told n (keys_of (take (i + 1) ps)) (refs_after (take (i + 1) ps)) a e
told_more n i ps p refs a b c d e some short is same before on first second =
    let now = take_next ps i p short is in
    let keys : keys_of (take (i + 1) ps) ≡ keys_of (take i ps) ++ p.key ∷ [] = ap keys_of now ∙ keys_of-append (take i ps) (p ∷ []) in
    let after : refs_after (take (i + 1) ps) ≡ refs_after (take i ps) ++ keys_of_refs refs =
    ap refs_after now ∙ refs_after-append (take i ps) (p ∷ [])
    ∙ ap (λ rs. refs_after (take i ps) ++ rs) (nothing_after (refs_of p.after) ∙ sym same) in
    let both = told_then n [] (option_to_list refs.first) [] (option_to_list refs.second) c d e some first second in
    let part = told_then n (p.key ∷ []) [] [] (keys_of_refs refs) b c e some on both in
    let all = told_then n (keys_of (take i ps)) (refs_after (take i ps)) (p.key ∷ []) (keys_of_refs refs) a b e some before part in
    subst (λ ks. Told n ks (refs_after (take (i + 1) ps)) a e) (sym keys)
    (subst (λ rs. Told n (keys_of (take i ps) ++ p.key ∷ []) rs a e) (sym after) all)

-- ---- an entry more

is_on-keys : (k : Key) (o : Option Change) → is_on k o ≡ has (keys_in o) k
is_on-keys k o = grind arith

refers-refs : (k : Key) (o : Option Change) → refers k o ≡ has (refs_in o) k
refers-refs k o = grind arith

-- a number is at most n, if there is one
abbrev Within : ℕ → Option ℕ → Type 0
Within n None = Unit {0}
Within n (Some m) = m ≤ n

none_above : (n : ℕ) (o : Option ℕ) → Within n o → above n o ≡ None
none_above n o h = grind arith

within_more : (n m : ℕ) (o : Option ℕ) → n ≤ m → Within n o → Within m o
within_more n m o le h = grind arith

within_some : (n m : ℕ) → m ≤ n → Within n (some_number m)
within_some n m h = grind arith

newest_within : (t : Entry → Bool) (k : ℕ) (es : List Entry) → IsNumbered (k + 1) es → Within (k + length es) (newest t es)
newest_within t k [] h = tt
newest_within t k (e ∷ es) h = grind (arith, newest_within t (k + 1) es h.1)

lowest : (t : Entry → Bool) (k : ℕ) (es : List Entry) (y : Entry) → IsNumbered k es → last_where t es ≡ Some y → k ≤ y.number
lowest t k [] y h is = none_some y is
lowest t k (e ∷ es) y h is =
    let first : e.number ≡ k = h.0 in
    by_option (last_where t es)
    (λ none. here (t e) (sym (ap (λ o. option_or o (cond (t e) (Some e) None)) none) ∙ is))
    (λ x some.
    let same : x ≡ y = same_Some x y (sym (ap (λ o. option_or o (cond (t e) (Some e) None)) some) ∙ is) in
    grind (arith, lowest t (k + 1) es y h.1 (some ∙ ap Some same)))
  where
    here : (b : Bool) → cond b (Some e) None ≡ Some y → k ≤ y.number
    here true is' =
        let same : e.number ≡ y.number = ap (λ (x : Entry). x.number) (same_Some e y is') in let first : e.number ≡ k = h.0 in omega arith
    here false is' = none_some y is'

-- an entry that passes, and the newest one, which is no earlier
pub record IsNewer (t : Entry → Bool) (es : List Entry) (n : ℕ) : Type 0 where
  pub number : ℕ
  pub is : newest t es ≡ Some number
  pub late : n ≤ number

pub newer : (t : Entry → Bool) (k : ℕ) (es : List Entry) (n : ℕ) (e : Entry) → IsNumbered k es → entry es n ≡ Some e → t e ≡ true
    → IsNewer t es n
newer t k [] n e h there pass = none_some e there
newer t k (x ∷ es) n e h there pass =
    let first : x.number ≡ k = h.0 in
    let rest : Option Entry = find (λ y. y.number == n) es in
    by_bool (x.number == n)
    (λ yes.
    let one : x ≡ e = same_Some x e (sym (ap (λ b. cond b (Some x) rest) yes) ∙ there) in
    let number : x.number ≡ n = eqb-true x.number n yes in
    by_option (last_where t es)
    (λ none. record {
      number = x.number;
      is = (λ i. option_map (λ (y : Entry). y.number) (option_or (none i) (cond ((ap t one ∙ pass) i) (Some x) None)));
      late = omega arith;
    })
    (λ y some.
    let more : k + 1 ≤ y.number = lowest t (k + 1) es y h.1 some in
    record {
      number = y.number;
      is = ap (λ o. option_map (λ (z : Entry). z.number) (option_or o (cond (t x) (Some x) None))) some;
      late = omega arith;
    }))
    (λ no. grind (arith, newer t (k + 1) es n e h.1 (sym (ap (λ b. cond b (Some x) rest) no) ∙ there) pass))

some_above : (n m : ℕ) → n < m → above n (Some m) ≡ Some m
some_above n m h = ap (λ b. cond b (Some m) None) (lt-ltb n m h)

pub number_itself : (n : ℕ) → 1 ≤ n → some_number n ≡ Some n
number_itself n h = grind arith

one_or : (b : Bool) (x : Entry) (o : Option Entry) → option_or (option_or None (cond b (Some x) None)) o ≡ cond b (Some x) o
one_or b x o = grind arith

module _ (es : List Entry) (x : Entry) (n : ℕ) (a b : Index) (numbered : IsNumbered 1 es) (number : x.number ≡ n) (next : n ≡ length es + 1)
    (is : Tells es a) (told : Told n (keys_in (applies x.what)) (refs_in (applies x.what)) a b) where
  abbrev more : List Entry
  more = es ++ x ∷ []

  longer : length more ≡ n
  longer = length-append es (x ∷ []) ∙ sym next

  newest_more : (t : Entry → Bool) → newest t more ≡ option_map (λ (e : Entry). e.number) (cond (t x) (Some x) (last_where t es))
  newest_more t = ap (option_map (λ (e : Entry). e.number)) (last_where-append t es (x ∷ []) ∙ one_or (t x) x (last_where t es))

  newest_this : (t : Entry → Bool) → t x ≡ true → newest t more ≡ Some n
  newest_this t pass =
      newest_more t ∙ ap (λ c. option_map (λ (e : Entry). e.number) (cond c (Some x) (last_where t es))) pass ∙ ap Some number

  newest_old : (t : Entry → Bool) → t x ≡ false → newest t more ≡ newest t es
  newest_old t fail = newest_more t ∙ ap (λ c. option_map (λ (e : Entry). e.number) (cond c (Some x) (last_where t es))) fail

  more_within : (t : Entry → Bool) → Within n (newest t more)
  more_within t = by_bool (t x)
      (λ yes. subst (Within n) (sym (newest_this t yes)) (let e : n ≤ n = omega arith in e))
      (λ no. subst (Within n) (sym (newest_old t no))
      (within_more (0 + length es) n (newest t es) (omega arith) (newest_within t 0 es numbered)))

  on_within' : (k : Key) → touched b k ≤ n
  on_within' k = elim (told.on_or_same k) [ inl same ↦ omega (arith, is.on_within k) | inr now ↦ omega (arith, now.1) ]

  to_within' : (k : Key) → referred b k ≤ n
  to_within' k = elim (told.to_or_same k) [ inl same ↦ omega (arith, is.to_within k) | inr now ↦ omega (arith, now.1) ]

  -- no number is above one that is no less than the newest
  both_none : (m j : ℕ) (t : Entry → Bool) → n ≤ m → j ≤ n → above m (some_number j) ≡ above m (newest t more)
  both_none m j t late low = grind (arith, none_above, within_some, within_more, more_within)

  keys_here : (k : Key) → touches k x ≡ true → has (keys_in (applies x.what)) k ≡ true
  keys_here k on = sym (is_on-keys k (applies x.what)) ∙ on

  refs_here : (k : Key) → mentions k x ≡ true → has (refs_in (applies x.what)) k ≡ true
  refs_here k to = sym (refers-refs k (applies x.what)) ∙ to

  not_both : {G : Type 0} (c : Bool) → c ≡ false → c ≡ true → G
  not_both c fail pass = (cc)

  on_same : b.stray ≡ a.stray → (k : Key) → above b.stray (some_number (touched b k)) ≡ above b.stray (newest (touches k) more)
  on_same same k = grind (arith, keys_here, number_itself, newest_this, not_both, is_on-keys, newest_old)

  -- an entry that was told before is on the key
  was_on : {G : Type 0} (k : Key) (e : Entry) → entry es e.number ≡ Some e → touches k e ≡ true → a.stray < e.number → touched a k ≡ 0 → G
  was_on k e there on late none =
      let new = newer (touches k) 1 es e.number e numbered there on in
      none_some new.number (ap (λ j. above a.stray (some_number j)) (sym none) ∙ is.on k ∙ ap (above a.stray) new.is
      ∙ some_above a.stray new.number (omega (arith, new.late)))

  to_old : b.stray ≡ a.stray → (k : Key) (e : Entry) → entry es e.number ≡ Some e → touches k e ≡ true → b.stray < e.number
      → above e.number (some_number (referred b k)) ≡ above e.number (newest (mentions k) more)
  to_old same k e there on late =
      let late' : a.stray < e.number = omega arith in
      by_bool (mentions k x)
      (λ yes.
      let here : referred b k ≡ n = elim (told.to k (refs_here k yes)) [ inl now ↦ now | inr none ↦ was_on k e there on late' none ] in
      ap (λ j. above e.number (some_number j)) here ∙ ap (above e.number) (number_itself n (omega arith))
      ∙ ap (above e.number) (sym (newest_this (mentions k) yes)))
      (λ no.
      grind (arith, not_both, refers-refs, newest_old))

  find_more : (j : ℕ) → entry more j ≡ option_or (entry es j) (cond (x.number == j) (Some x) None)
  find_more j = find-append (λ (e : Entry). e.number == j) es (x ∷ [])

  -- it is one of the entries before, or the newest
  late_entry : (j : ℕ) (c : Bool) (e : Entry) → (x.number == j) ≡ c → cond c (Some x) None ≡ Some e → n ≤ j
  late_entry j c e same is' = grind arith

  to_same : b.stray ≡ a.stray → (k : Key) (e : Entry) → entry more e.number ≡ Some e → touches k e ≡ true → b.stray < e.number
      → above e.number (some_number (referred b k)) ≡ above e.number (newest (mentions k) more)
  to_same same k e there on late = grind (arith, both_none, late_entry, find_more, to_within', same_Some, to_old)

  pub tells_more : Tells more b
  tells_more = grind (arith, on_same, both_none, on_within', to_same, to_within', longer)

found_number : (es : List Entry) (n : ℕ) (e : Entry) → entry es n ≡ Some e → e.number ≡ n
found_number [] n e there = none_some e there
found_number (x ∷ es) n e there =
    let rest : Option Entry = find (λ y. y.number == n) es in
    by_bool (x.number == n)
    (λ yes. let one : x ≡ e = same_Some x e (sym (ap (λ b. cond b (Some x) rest) yes) ∙ there) in
    ap (λ (y : Entry). y.number) (sym one) ∙ eqb-true x.number n yes)
    (λ no. found_number es n e (sym (ap (λ b. cond b (Some x) rest) no) ∙ there))

-- an entry that was found is the one of its number
pub at_its_number : (es : List Entry) (n : ℕ) (e : Entry) → entry es n ≡ Some e → entry es e.number ≡ Some e
at_its_number es n e there = ap (entry es) (found_number es n e there) ∙ there

-- the same is told of the same entries
pub tells_same : (es : List Entry) (a b : Index) → TellsSame a b → Tells es a → Tells es b
tells_same es a b same is = grind arith

-- ---- the nodes stay

pub keeps_then : (a b c : Index) → KeepsNodes a b → KeepsNodes b c → KeepsNodes a c
keeps_then a b c h k =
    record { nodes = k.nodes ∙ h.nodes; latest = λ g. k.latest g ∙ h.latest g; rows = rows_then 0 0 a b c h.rows k.rows }
