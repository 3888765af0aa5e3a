-- Of the pairs of entries that stand in the way of an undo of all, the one that is named.
use Rattle.std.proofs.Common.{◌≡◌, ◌+◌, ◌<◌, ◌≤◌, ℕ, Bool, true, false, cond, not, List, [], ◌∷◌, ◌++◌, sym, ◌∙◌, ap, subst, Some, arith}
use Rattle.std.specs.Prelude.{◌==◌, ◌&&◌, filter, is_some, nat_lt}
use Rattle.std.specs.List.{AllByRecursion, find}
use Rattle.std.proofs.lemmas.Bool.Decides.{nat_tests}
use Rattle.tsn_edit.specs.Changes.{conflicts}
use Rattle.tsn_edit.proofs.KeyFacts.{by_bool, by_option}
use Rattle.tsn_entries.specs.declared.entries.Entry.{Entry}
use Rattle.tsn_entries.specs.Entries.{Applied, IsNumbered, standing}
use Rattle.tsn_entries.specs.Finding.{find_conflict_of_others, find_own_in_conflict, last_where, later_than, own_standing}
use Rattle.tsn_journal.proofs.Numbers.{IsLast, Rises, last_where_none, last_where_some, later_than_rest, rises_rest, rises_standing}
use Rattle.tsn_journal.proofs.Standing.{standing_found}
use Rattle.tsn_undo.specs.UndoAll.{BlocksAll}
use Rattle.tsn_undo.proofs.UndoAll.{same_number}
use Rattle.tsn_bridge.specs.Headline.{BlocksNewest}
use Rattle.tsn_bridge.proofs.AtOnce.{done_of}
use Rattle.tsn_edit.proofs.Inverses.{each_weaker}
use Rattle.tsn_journal.proofs.Grouping.{second_true}

-- ---- elements of a list

-- what holds of each element holds of the one that is found by its number
each_found : (P : Applied → Type 0) (n : ℕ) (xs : List Applied) (x : Applied) → AllByRecursion P xs → find (λ y. y.number == n) xs ≡ Some x
    → P x × (x.number ≡ n)
each_found P n [] x h is = (cc)
each_found P n (y ∷ xs) x h is = by_bool (y.number == n)
    (λ on.
    let same : y ≡ x = done_of y x (sym (ap (λ b. cond b (Some y) (find (λ z. z.number == n) xs)) on) ∙ is) in
    (subst P same h.0, ap (λ (z : Applied). z.number) (sym same) ∙ same_number y.number n on))
    (λ off. each_found P n xs x h.1 (sym (ap (λ b. cond b (Some y) (find (λ z. z.number == n) xs)) off) ∙ is))

each_around : (P : Applied → Type 0) (front : List Applied) (x : Applied) (rest : List Applied) → AllByRecursion P front → P x
    → AllByRecursion P rest → AllByRecursion P (front ++ x ∷ rest)
each_around P [] x rest before at after = (at, after)
each_around P (y ∷ front) x rest before at after = (before.0, each_around P front x rest before.1 at after)

-- what holds of each element that passes a test
each_passing : (P : Applied → Type 0) (p : Applied → Bool) (xs : List Applied) → AllByRecursion P (filter p xs)
    → AllByRecursion (λ x. p x ≡ true → P x) xs
each_passing P p [] h = tt
each_passing P p (x ∷ xs) h = by_bool (p x)
    (λ on.
    let both : AllByRecursion P (x ∷ filter p xs) = subst (λ b. AllByRecursion P (cond b (x ∷ filter p xs) (filter p xs))) on h in
    ((λ pass. both.0), each_passing P p xs both.1))
    (λ off.
    let others : AllByRecursion P (filter p xs) = subst (λ b. AllByRecursion P (cond b (x ∷ filter p xs) (filter p xs))) off h in
    ((λ pass. let never : true ≡ false = sym pass ∙ off in (cc)), each_passing P p xs others))

-- in a list whose numbers rise, none that passes has a greater number than the last that passes
none_beyond : (test : Applied → Bool) (n : ℕ) (xs : List Applied) (x : Applied) → Rises n xs → IsLast test xs x
    → AllByRecursion (λ y. test y ≡ true → y.number ≤ x.number) xs
none_beyond test n xs x rises last =
    let parts = rises_rest n last.front x last.rest (subst (Rises n) last.is rises) in
    subst (AllByRecursion (λ (y : Applied). test y ≡ true → y.number ≤ x.number)) (sym last.is)
    (each_around (λ y. test y ≡ true → y.number ≤ x.number) last.front x last.rest
    (each_weaker (λ y. y.number < x.number) (λ y. test y ≡ true → y.number ≤ x.number) (λ y less pass. omega (arith, less)) last.front
    parts.2)
    (λ pass. omega arith)
    (each_weaker (λ y. test y ≡ false) (λ y. test y ≡ true → y.number ≤ x.number)
    (λ y off pass. let never : true ≡ false = sym pass ∙ off in (cc)) last.rest last.none_later))

-- ---- the pair that the finders give

is_above : (n m : ℕ) → n < m → nat_lt n m ≡ true
is_above n m h = grind (arith, nat_tests)

own_session : (n m : ℕ) → n ≡ m → (n == m) ≡ true
own_session n m h = grind (arith, nat_tests)

-- where an entry stands in the way of another, something does
passes_both : (a b : Bool) → a ≡ false → b ≡ true → (not a && b) ≡ true
passes_both true b h p = (cc)
passes_both false b h p = p

both : (a b : Bool) → a ≡ true → b ≡ true → (a && b) ≡ true
both true b h p = p
both false b h p = (cc)

none_pass : (p : Applied → Bool) (xs : List Applied) → filter p xs ≡ [] → AllByRecursion (λ x. p x ≡ false) xs
none_pass p [] h = tt
none_pass p (x ∷ xs) h = by_bool (p x)
    (λ on. let never : x ∷ filter p xs ≡ [] = sym (ap (λ b. cond b (x ∷ filter p xs) (filter p xs)) on) ∙ h in (cc))
    (λ off. (off, none_pass p xs (sym (ap (λ b. cond b (x ∷ filter p xs) (filter p xs)) off) ∙ h)))

-- the finders give a pair
pub record FindsPair (es : List Entry) (s : ℕ) : Type 0 where
  pub own : Applied
  pub other : Applied
  pub own_is : find_own_in_conflict es s ≡ Some own
  pub other_is : find_conflict_of_others es own ≡ Some other
  pub some_own : own_standing es s ≡ [] → ⊥

module _ (es : List Entry) (s : ℕ) (numbered : IsNumbered 1 es) where
  abbrev in_way : Applied → Applied → Bool
  in_way e f = not (f.session == e.session) && conflicts f.change e.change

  -- a later entry of a pair passes
  in_way_of : (x y : ℕ) (pair : BlocksAll es s x y) → in_way pair.mine pair.theirs ≡ true
  in_way_of x y pair = passes_both (pair.theirs.session == pair.mine.session) (conflicts pair.theirs.change pair.mine.change)
      (ap (λ n. pair.theirs.session == n) pair.is_own ∙ pair.is_other) pair.conflict

  -- an own entry that is in a pair has a later one in its way
  has_one : (x y : ℕ) (pair : BlocksAll es s x y) → is_some (find_conflict_of_others es pair.mine) ≡ true
  has_one x y pair = by_option (find_conflict_of_others es pair.mine)
      (λ none.
      let m = pair.mine in
      let at_mine = each_found (λ z. Unit {0}) x (standing es) m (all_unit (standing es)) pair.mine_is in
      let each = each_passing (λ z. in_way m z ≡ false) (λ z. nat_lt m.number z.number) (standing es)
      (last_where_none (in_way m) (later_than m.number (standing es)) none) in
      let found = each_found (λ z. nat_lt m.number z.number ≡ true → in_way m z ≡ false) y (standing es) pair.theirs each pair.theirs_is in
      let never : true ≡ false = sym (in_way_of x y pair)
      ∙ found.0 (is_above m.number pair.theirs.number (omega (arith, at_mine.1, found.1, pair.later))) in
      (cc))
      (λ f some. ap is_some some)
    where
      all_unit : (xs : List Applied) → AllByRecursion (λ z. Unit {0}) xs
      all_unit [] = tt
      all_unit (z ∷ xs) = (tt, all_unit xs)

  pub named_first : (e f : Applied) → find_own_in_conflict es s ≡ Some e → find_conflict_of_others es e ≡ Some f
      → BlocksAll es s e.number f.number → BlocksNewest es s e.number f.number
  named_first e f mine_is theirs_is pair =
      let own_test : Applied → Bool = λ x. (x.session == s) && is_some (find_conflict_of_others es x) in
      let mine = last_where_some own_test (standing es) e mine_is in
      let split : Rises 1 (mine.front ++ e ∷ mine.rest) = subst (Rises 1) mine.is (rises_standing es numbered) in
      let parts = rises_rest 1 mine.front e mine.rest split in
      let behind : later_than e.number (standing es) ≡ mine.rest = ap (later_than e.number) mine.is
      ∙ later_than_rest 1 mine.front e mine.rest split in
      let theirs = last_where_some (in_way e) mine.rest f (ap (last_where (in_way e)) (sym behind) ∙ theirs_is) in
      let placed = standing_found es own_test e numbered mine_is in
      record {
        blocks = pair;
        newest = λ x y more.
            let found = each_found (λ z. own_test z ≡ true → z.number ≤ e.number) x (standing es) more.mine
            (none_beyond own_test 1 (standing es) e (rises_standing es numbered) mine) more.mine_is in
            let low = found.0 (both (more.mine.session == s) (is_some (find_conflict_of_others es more.mine))
            (own_session more.mine.session s more.is_own) (has_one x y more)) in
            omega (arith, low, found.1);
        latest = λ y more.
            let each : AllByRecursion (λ (z : Applied). in_way e z ≡ true → e.number < z.number → z.number ≤ f.number) (standing es) =
            subst (AllByRecursion (λ (z : Applied). in_way e z ≡ true → e.number < z.number → z.number ≤ f.number)) (sym mine.is)
            (each_around (λ z. in_way e z ≡ true → e.number < z.number → z.number ≤ f.number) mine.front e mine.rest
            (each_weaker (λ z. z.number < e.number) (λ z. in_way e z ≡ true → e.number < z.number → z.number ≤ f.number)
            (λ z less way more. absurd (omega (arith, less, more))) mine.front parts.2)
            (λ way more. absurd (omega (arith, more)))
            (each_weaker (λ z. in_way e z ≡ true → z.number ≤ f.number) (λ z. in_way e z ≡ true → e.number < z.number → z.number ≤ f.number)
            (λ z low way more. low way) mine.rest
            (none_beyond (in_way e) (e.number + 1) mine.rest f parts.1 theirs))) in
            let found = each_found (λ z. in_way e z ≡ true → e.number < z.number → z.number ≤ f.number) y (standing es) more.theirs each
            more.theirs_is in
            let same : more.mine ≡ e = done_of more.mine e (sym more.mine_is ∙ placed) in
            let low = found.0 (subst (λ (m : Applied). in_way m more.theirs ≡ true) same (in_way_of e.number y more))
            (omega (arith, more.later, found.1)) in
            omega (arith, low, found.1);
      }

  -- where a pair is in the way, the finders give one
  pub finds_pair : (x y : ℕ) → BlocksAll es s x y → FindsPair es s
  finds_pair x y pair =
      let own_test : Applied → Bool = λ z. (z.session == s) && is_some (find_conflict_of_others es z) in
      let is_own : (pair.mine.session == s) ≡ true = own_session pair.mine.session s pair.is_own in
      let passes : own_test pair.mine ≡ true = both (pair.mine.session == s) (is_some (find_conflict_of_others es pair.mine)) is_own
      (has_one x y pair) in
      let some_own : own_standing es s ≡ [] → ⊥ = λ none.
      let off = (each_found (λ z. (z.session == s) ≡ false) x (standing es) pair.mine (none_pass (λ z. z.session == s) (standing es) none)
      pair.mine_is).0 in
      let never : true ≡ false = sym is_own ∙ off in (cc) in
      by_option (find_own_in_conflict es s)
      (λ none.
      let off = (each_found (λ z. own_test z ≡ false) x (standing es) pair.mine (last_where_none own_test (standing es) none)
      pair.mine_is).0 in
      let never : true ≡ false = sym passes ∙ off in (cc))
      (λ e found.
      let last = last_where_some own_test (standing es) e found in
      by_option (find_conflict_of_others es e)
      (λ none. let never : false ≡ true = sym (ap is_some none)
      ∙ second_true (e.session == s) (is_some (find_conflict_of_others es e)) last.passes in (cc))
      (λ f some. record { own = e; other = f; own_is = found; other_is = some; some_own = some_own }))
