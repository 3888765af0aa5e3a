-- Taking back a session's standing entries, newest first.
use Rattle.std.proofs.Common.{◌≡◌, ℕ, ◌+◌, Bool, true, false, cond, not, List, [], ◌∷◌, ◌++◌, refl, sym, ◌∙◌, ap, subst, Option, Some, None, arith, length, append_assoc, length-append, map, take, drop, ◌<◌, zero, suc, slice_index_or, append-nil}
use Rattle.std.proofs.lemmas.Grind.{common_steps}
use Rattle.std.specs.Prelude.{◌==◌, ◌&&◌, IsTrue, filter, is_some, option_map}
use Rattle.std.specs.List.{AllByRecursion}
use Rattle.std.specs.Option.{option_or}
use Rattle.std.proofs.lemmas.Bool.Decides.{nat_tests}
use Rattle.std.proofs.lemmas.List.Elements.{filter-append}
use Rattle.std.proofs.lemmas.List.{take-append-drop, same_from_push}
use Rattle.tsn_config.proofs.Among.{each_both}
use Rattle.tsn_types.specs.declared.limits.Limits.{Limits}
use Rattle.tsn_types.specs.declared.refusals.Refusal.TheVariants.{Conflict}
use Rattle.tsn_edit.specs.Parts.{Change}
use Rattle.tsn_edit.specs.Configuration.{Configuration}
use Rattle.tsn_edit.specs.Changes.{Fits, conflicts}
use Rattle.tsn_edit.specs.Runs.{run, IsGood}
use Rattle.tsn_edit.proofs.KeyFacts.{by_bool, by_option}
use Rattle.tsn_entries.specs.declared.entries.Entry.{Entry}
use Rattle.tsn_entries.specs.declared.entries.What.{What}
use Rattle.tsn_entries.specs.declared.entries.What.TheVariants.{Undone}
use Rattle.tsn_entries.specs.Entries.{Applied, IsNumbered, changes, no_room, standing, undone, with_entry}
use Rattle.tsn_entries.specs.Finding.{change_at, find_conflict, find_conflict_of_others, find_own_in_conflict, last_of, last_where, later_than, others_standing, own_standing}
use Rattle.tsn_journal.proofs.Numbers.{Rises, filter_none, last_where_none, last_where_some, later_than_rest, left_one, rises_standing}
use Rattle.tsn_journal.proofs.Standing.{standing_change, standing_placed}
use Rattle.tsn_undo.specs.Commuting.{IsClosed}
use Rattle.tsn_undo.specs.declared.book.TakingBack.{TakingBack}
use Rattle.tsn_undo.specs.Ledger.{Ledger, enter, present}
use Rattle.tsn_undo.specs.Soundness.{IsSound, base}
use Rattle.tsn_undo.specs.UndoAll.{TakesAllBack, all_undone, conflict_with_others, taking_back, undo_all_cause, undo_all_refusal, with_undone}
use Rattle.tsn_undo.proofs.Adding.{base_kept}
use Rattle.tsn_undo.proofs.Free.{or_none}
use Rattle.tsn_undo.proofs.Making.{SoundLedger}
use Rattle.tsn_undo.proofs.Redone.{IsSplit}
use Rattle.tsn_undo.proofs.Undoing.{IsPlace, IsUndoStep, undo_step}
use Rattle.tsn_edit.proofs.Inverses.{each_weaker}
use Rattle.tsn_journal.proofs.Grouping.{second_true}

abbrev pub own : ℕ → Applied → Bool
own s x = x.session == s

abbrev others : ℕ → Applied → Bool
others s x = not (x.session == s)

-- the entries other than x
abbrev without : Applied → List Applied → List Applied
without x xs = filter (λ y. not (x.number == y.number)) xs

-- ---- where no own entry is in conflict with a later one of another session, the own entries are closed

and_off : (a b : Bool) → a ≡ true → (a && b) ≡ false → b ≡ false
and_off a b p h = (cc)

not_both : (a b : Bool) → (not a && b) ≡ false → b ≡ true → a ≡ true
not_both a b h p = grind arith

pub same_number : (a b : ℕ) → (a == b) ≡ true → a ≡ b
same_number a b h = grind (arith, nat_tests)

none_of : {A : Type 0} (o : Option A) → is_some o ≡ false → o ≡ None
none_of o h = grind arith

closed_from : (es : List Entry) (s : ℕ) (front xs : List Applied) → IsNumbered 1 es → standing es ≡ front ++ xs
    → AllByRecursion (λ x. (own s x && is_some (find_conflict_of_others es x)) ≡ false) xs → IsClosed (own s) xs
closed_from es s front [] numbered is h = tt
closed_from es s front (x ∷ xs) numbered is h = (
  (λ mine.
      let none : find_conflict_of_others es x ≡ None = none_of _ (and_off (own s x) _ mine h.0) in
      let rises : Rises 1 (front ++ x ∷ xs) = subst (Rises 1) is (rises_standing es numbered) in
      let later : later_than x.number (standing es) ≡ xs = ap (later_than x.number) is ∙ later_than_rest 1 front x xs rises in
      let all = last_where_none (λ f. not (f.session == x.session) && conflicts f.change x.change) (later_than x.number (standing es))
      none in
      each_weaker (λ f. (not (f.session == x.session) && conflicts f.change x.change) ≡ false)
      (λ f. IsTrue (conflicts f.change x.change) → IsTrue (own s f))
      (λ f no_other conflict.
      let same : (f.session == x.session) ≡ true = not_both _ _ no_other conflict in
      ap (λ n. f.session == n) (sym (same_number x.session s mine)) ∙ same) xs
      (subst (AllByRecursion (λ (f : Applied). (not (f.session == x.session) && conflicts f.change x.change) ≡ false)) later all)),
  closed_from es s (front ++ x ∷ []) xs numbered (is ∙ sym (append_assoc front (x ∷ []) xs)) h.1,
)

pub own_closed : (es : List Entry) (s : ℕ) → IsNumbered 1 es → find_own_in_conflict es s ≡ None → IsClosed (own s) (standing es)
own_closed es s numbered none =
    closed_from es s [] (standing es) numbered refl
    (last_where_none (λ x. own s x && is_some (find_conflict_of_others es x)) (standing es) none)

-- ---- the newest of a closed set is free to be taken back, and leaves it closed

closed_at : (out : Applied → Bool) (front : List Applied) (x : Applied) (rest : List Applied) → IsClosed out (front ++ x ∷ rest)
    → IsTrue (out x) → AllByRecursion (λ y. IsTrue (conflicts y.change x.change) → IsTrue (out y)) rest
closed_at out [] x rest c h = c.0 h
closed_at out (y ∷ front) x rest c h = closed_at out front x rest c.1 h

each_filter : (P : Applied → Type 0) (p : Applied → Bool) (xs : List Applied) → AllByRecursion P xs → AllByRecursion P (filter p xs)
each_filter P p [] h = tt
each_filter P p (x ∷ xs) h = grind (arith, (each_filter P p xs h.1))

closed_filter : (out p : Applied → Bool) (xs : List Applied) → IsClosed out xs → IsClosed out (filter p xs)
closed_filter out p [] c = tt
closed_filter out p (x ∷ xs) c = grind (arith, each_filter, (closed_filter out p xs c.1))

nowhere : (test : Applied → Bool) (xs : List Applied) → AllByRecursion (λ y. test y ≡ false) xs → last_where test xs ≡ None
nowhere test [] h = refl
nowhere test (x ∷ xs) h = ap (λ o. option_or o (cond (test x) (Some x) None)) (nowhere test xs h.1) ∙ ap (λ b. cond b (Some x) None) h.0

pub record IsNext (es : List Entry) (s : ℕ) (x : Applied) : Type 0 where
  pub place : IsPlace es x
  pub free : find_conflict es x ≡ None
  pub closed : IsClosed (own s) (without x (standing es))
  pub others : filter (others s) (without x (standing es)) ≡ others_standing es s
  -- x is the newest own entry
  pub mine : own_standing es s ≡ filter (own s) (without x (standing es)) ++ x ∷ []

pub next_undo : (es : List Entry) (s : ℕ) (x : Applied) → IsNumbered 1 es → IsClosed (own s) (standing es) → last_of es s ≡ Some x
    → IsNext es s x
next_undo es s x numbered closed last =
    let found = last_where_some (own s) (standing es) x last in
    let front = found.front in
    let rest = found.rest in
    let is : standing es ≡ front ++ x ∷ rest = found.is in
    let rises : Rises 1 (front ++ x ∷ rest) = subst (Rises 1) is (rises_standing es numbered) in
    let gone : without x (standing es) ≡ front ++ rest = ap (without x) is ∙ left_one 1 front x rest rises in
    let at_x = closed_at (own s) front x rest (subst (IsClosed (own s)) is closed) found.passes in
    let free : AllByRecursion (λ y. conflicts y.change x.change ≡ false) rest =
    each_both (λ y. IsTrue (conflicts y.change x.change) → IsTrue (own s y)) (λ y. own s y ≡ false)
    (λ y. conflicts y.change x.change ≡ false)
    (λ y c other. by_bool (conflicts y.change x.change) (λ h. let mine : own s y ≡ true = c h in (cc)) (λ h. h)) rest at_x
    found.none_later in
    let rest_none : filter (own s) rest ≡ [] = filter_none (own s) rest found.none_later in
    record {
      place = record { front = front; rest = rest; is = is };
      free = ap (last_where (λ f. conflicts f.change x.change)) (ap (later_than x.number) is ∙ later_than_rest 1 front x rest rises)
          ∙ nowhere (λ f. conflicts f.change x.change) rest free;
      closed = closed_filter (own s) (λ y. not (x.number == y.number)) (standing es) closed;
      others =
          ap (filter (others s)) gone ∙ filter-append (others s) front rest
          ∙ sym (ap (filter (others s)) is ∙ filter-append (others s) front (x ∷ rest)
          ∙ ap (λ b. filter (others s) front ++ cond (not b) (x ∷ filter (others s) rest) (filter (others s) rest)) found.passes);
      mine =
          ap (filter (own s)) is ∙ filter-append (own s) front (x ∷ rest)
          ∙ ap (λ b. filter (own s) front ++ cond b (x ∷ filter (own s) rest) (filter (own s) rest)) found.passes
          ∙ ap (λ zs. filter (own s) front ++ x ∷ zs) rest_none
          ∙ sym (ap (λ zs. filter (own s) zs ++ x ∷ []) gone
          ∙ ap (λ zs. zs ++ x ∷ []) (filter-append (own s) front rest ∙ ap (λ zs. filter (own s) front ++ zs) rest_none
          ∙ append-nil (filter (own s) front)));
    }

-- ---- the entries after some were taken back, the last ones first

base_taken : (opening : Configuration) (es : List Entry) (s : ℕ) (ys : List Applied) → base opening (with_undone es s ys) ≡ base opening es
base_taken opening es s [] = refl
base_taken opening es s (y ∷ ys) = base_kept opening (with_undone es s ys) s (undone y) tt ∙ base_taken opening es s ys

-- the own entries ys were taken back, xs stand still
pub record IsTaken (l : Limits) (opening : Configuration) (es : List Entry) (s : ℕ) (xs ys : List Applied) : Type 0 where
  pub sound : IsSound l opening (with_undone es s ys)
  pub closed : IsClosed (own s) (standing (with_undone es s ys))
  pub mine : own_standing (with_undone es s ys) s ≡ xs
  pub others : others_standing (with_undone es s ys) s ≡ others_standing es s

-- the one that is taken back next
pub record IsNextTaken (l : Limits) (opening : Configuration) (es : List Entry) (s : ℕ) (xs : List Applied) (x : Applied)
    (ys : List Applied) : Type 0 where
  pub step : IsUndoStep l opening (with_undone es s ys) s x
  pub taken : IsTaken l opening es s xs (x ∷ ys)

newest_own : (es : List Entry) (s : ℕ) (xs : List Applied) (x : Applied) → own_standing es s ≡ xs ++ x ∷ [] → (y : Applied) → IsNext es s y
    → (xs ≡ filter (own s) (without y (standing es))) × (x ≡ y)
newest_own es s xs x is y next = same_from_push xs (filter (own s) (without y (standing es))) x y (sym is ∙ next.mine)

no_end : {A : Type 0} (xs : List A) (x : A) → xs ++ x ∷ [] ≡ [] → ⊥
no_end xs x h = grind (arith, common_steps)

pub next_taken : (l : Limits) (opening : Configuration) (es : List Entry) (s : ℕ) (xs : List Applied) (x : Applied) (ys : List Applied)
    → IsTaken l opening es s (xs ++ x ∷ []) ys → IsNextTaken l opening es s xs x ys
next_taken l opening es s xs x ys t =
    let now = with_undone es s ys in
    by_option (last_of now s)
    (λ none. absurd (no_end xs x (sym t.mine ∙ filter_none (own s) (standing now) (last_where_none (own s) (standing now) none))))
    (λ y last.
    let next = next_undo now s y (t.sound).numbered t.closed last in
    let newest = newest_own now s xs x t.mine y next in
    let is : IsNext now s x = subst (IsNext now s) (sym newest.1) next in
    let step = undo_step l opening now s x t.sound is.place is.free in
    record {
      step = step;
      taken = record {
        sound = step.sound;
        closed = subst (IsClosed (own s)) (sym step.stands) is.closed;
        mine = ap (filter (own s)) step.stands ∙ sym (newest_own now s xs x t.mine x is).0;
        others = ap (filter (others s)) step.stands ∙ is.others ∙ t.others;
      };
    })

pub begin_taken : (l : Limits) (opening : Configuration) (es : List Entry) (s : ℕ) → IsSound l opening es → find_own_in_conflict es s ≡ None
    → IsTaken l opening es s (own_standing es s) []
begin_taken l opening es s sound none = record { sound = sound; closed = own_closed es s sound.numbered none; mine = refl; others = refl }

pub taken_to : (l : Limits) (opening : Configuration) (es : List Entry) (s : ℕ) (xs ys : List Applied)
    → IsTaken l opening es s (xs ++ ys) [] → IsTaken l opening es s xs ys
taken_to l opening es s xs [] t = subst (λ zs. IsTaken l opening es s zs []) (append-nil xs) t
taken_to l opening es s xs (y ∷ ys) t =
    (next_taken l opening es s xs y ys
    (taken_to l opening es s (xs ++ y ∷ []) ys
    (subst (λ zs. IsTaken l opening es s zs []) (sym (append_assoc xs (y ∷ []) ys)) t))).taken

-- ---- why an undo of all is refused

pub undo_all_refusal-first : (b : Ledger) (s : ℕ)
    → undo_all_refusal b s ≡ option_or (undo_all_cause b.entries s (own_standing b.entries s))
    (no_room b.entries (length (own_standing b.entries s)))
undo_all_refusal-first b s = grind arith

-- ---- what an undo of all leaves

pub length-taken : (es : List Entry) (s : ℕ) (xs : List Applied) → length (with_undone es s xs) ≡ length es + length xs
length-taken es s [] = omega arith
length-taken es s (x ∷ xs) = grind (arith, length-append, (length-taken es s xs))

-- what an undo of all needs: no own entry is in conflict with a later one of another session, and there is room for all
pub record IsFreeOfAll (b : Ledger) (s : ℕ) : Type 0 where
  pub none : find_own_in_conflict b.entries s ≡ None
  pub room : no_room b.entries (length (own_standing b.entries s)) ≡ None

some_named : (n : ℕ) (o : Option Applied) → is_some o ≡ true → option_map (λ (f : Applied). Conflict n f.number) o ≡ None → ⊥
some_named n o h none = grind arith

no_own_conflict : (es : List Entry) (s : ℕ) → conflict_with_others es (find_own_in_conflict es s) ≡ None → find_own_in_conflict es s ≡ None
no_own_conflict es s free = by_option (find_own_in_conflict es s)
    (λ none. none)
    (λ e some.
    let found = last_where_some (λ x. (x.session == s) && is_some (find_conflict_of_others es x)) (standing es) e some in
    absurd (some_named e.number (find_conflict_of_others es e) (second_true (e.session == s) _ found.passes)
    (sym (ap (conflict_with_others es) some) ∙ free)))

cause_none : (es : List Entry) (s : ℕ) (xs : List Applied) → undo_all_cause es s xs ≡ None → find_own_in_conflict es s ≡ None
cause_none es s xs h = grind (arith, no_own_conflict)

pub free_of_all : (b : Ledger) (s : ℕ) → undo_all_refusal b s ≡ None → IsFreeOfAll b s
free_of_all b s free = grind (arith, or_none, undo_all_refusal-first, cause_none)

filter_both : (s : ℕ) (xs : List Applied) → filter (own s) xs ≡ [] → filter (others s) xs ≡ xs
filter_both s [] h = refl
filter_both s (x ∷ xs) h = by_bool (own s x)
    (λ mine. let never : x ∷ filter (own s) xs ≡ [] = sym (ap (λ b. cond b (x ∷ filter (own s) xs) (filter (own s) xs)) mine) ∙ h in (cc))
    (λ other.
    ap (λ b. cond (not b) (x ∷ filter (others s) xs) (filter (others s) xs)) other
    ∙ ap (λ ys. x ∷ ys) (filter_both s xs (sym (ap (λ b. cond b (x ∷ filter (own s) xs) (filter (own s) xs)) other) ∙ h)))

module _ (b : Ledger) (s : ℕ) (sound : SoundLedger b) (free : undo_all_refusal b s ≡ None) where
  abbrev all : List Entry
  all = with_undone b.entries s (own_standing b.entries s)

  pub all_taken : IsTaken b.limits b.opening b.entries s [] (own_standing b.entries s)
  all_taken = taken_to b.limits b.opening b.entries s [] (own_standing b.entries s)
      (begin_taken b.limits b.opening b.entries s sound (free_of_all b s free).none)

  stands_now : standing all ≡ others_standing b.entries s
  stands_now = sym (filter_both s (standing all) all_taken.mine) ∙ all_taken.others

  -- what is taken back leaves the base
  same_base : base b.opening all ≡ base b.opening b.entries
  same_base = base_taken b.opening b.entries s (own_standing b.entries s)

  pub makes_all : (count last : ℕ) (new : Ledger) → count ≡ length (own_standing b.entries s) → last ≡ length all
      → new ≡ record b { entries = all } → TakesAllBack b s count last new
  makes_all count last new count_is last_is after = record {
    free = free;
    count_is = count_is;
    last_is = last_is ∙ length-taken b.entries s (own_standing b.entries s) ∙ ap (λ n. length b.entries + n) (sym count_is);
    after = after;
    stands = ap (λ (l : Ledger). standing l.entries) after ∙ stands_now;
    good = subst (λ (c : Configuration). IsGood b.limits c (changes (others_standing b.entries s))) same_base
        (subst (λ xs. IsGood b.limits (base b.opening all) (changes xs)) stands_now (all_taken.sound).good);
    map = ap present after ∙ sym (all_taken.sound).same ∙ (λ i. run (same_base i) (changes (stands_now i)));
  }

-- ---- the standing entry of a session at a place

-- an element of a filtered list stands in the list
pub in_filter : (p : Applied → Bool) (xs front : List Applied) (x : Applied) (rest : List Applied) → filter p xs ≡ front ++ x ∷ rest
    → IsSplit xs x
in_filter p [] [] x rest h = (cc)
in_filter p [] (f ∷ front) x rest h = (cc)
in_filter p (y ∷ xs) front x rest h = by_bool (p y)
    (λ on. first (λ front more. in_filter p xs front x rest more) front (sym (ap (λ b. cond b (y ∷ filter p xs) (filter p xs)) on) ∙ h))
    (λ off.
    let s = in_filter p xs front x rest (sym (ap (λ b. cond b (y ∷ filter p xs) (filter p xs)) off) ∙ h) in
    record { front = y ∷ s.front; rest = s.rest; is = ap (λ zs. y ∷ zs) s.is })
  where
    first : ((front : List Applied) → filter p xs ≡ front ++ x ∷ rest → IsSplit xs x) → (front : List Applied)
        → y ∷ filter p xs ≡ front ++ x ∷ rest → IsSplit (y ∷ xs) x
    first later [] h = let same : y ≡ x = (cc) in record { front = []; rest = xs; is = ap (λ z. z ∷ xs) same }
    first later (f ∷ front) h =
        let more : filter p xs ≡ front ++ x ∷ rest = (cc) in
        let s = later front more in
        record { front = y ∷ s.front; rest = s.rest; is = ap (λ zs. y ∷ zs) s.is }

-- the element of a place, by its number
pub record IsAt (xs : List Applied) (i number : ℕ) : Type 0 where
  pub entry : Applied
  pub rest : drop i xs ≡ entry ∷ drop (i + 1) xs
  pub is_number : entry.number ≡ number

at_place : (xs : List Applied) (numbers : List ℕ) (i : ℕ) → numbers ≡ map (λ (x : Applied). x.number) xs → i < length numbers
    → IsAt xs i (slice_index_or numbers i 0)
at_place [] [] i h within = absurd (omega arith)
at_place [] (n ∷ numbers) i h within = (cc)
at_place (x ∷ xs) [] i h within = absurd (omega arith)
at_place (x ∷ xs) (n ∷ numbers) zero h within = let same : n ≡ x.number = (cc) in record { entry = x; rest = refl; is_number = sym same }
at_place (x ∷ xs) (n ∷ numbers) (suc i) h within =
    let more : numbers ≡ map (λ (x : Applied). x.number) xs = (cc) in
    let at = at_place xs numbers i more (omega arith) in
    record {
      entry = at.entry;
      rest = at.rest ∙ ap (λ k. at.entry ∷ drop k (x ∷ xs)) (let e : suc (i + 1) ≡ suc i + 1 = omega arith in e);
      is_number = at.is_number;
    }

pub record IsOwnAt (es : List Entry) (s i number : ℕ) : Type 0 where
  pub entry : Applied
  pub rest : drop i (own_standing es s) ≡ entry ∷ drop (i + 1) (own_standing es s)
  pub is_number : entry.number ≡ number
  pub change : change_at es number ≡ Some entry.change

pub own_at : (es : List Entry) (s : ℕ) (numbers : List ℕ) (i : ℕ) → IsNumbered 1 es
    → numbers ≡ map (λ (x : Applied). x.number) (own_standing es s) → i < length numbers → IsOwnAt es s i (slice_index_or numbers i 0)
own_at es s numbers i numbered is within =
    let at = at_place (own_standing es s) numbers i is within in
    let x = at.entry in
    let split = in_filter (own s) (standing es) (take i (own_standing es s)) x (drop (i + 1) (own_standing es s))
    (sym (take-append-drop i (own_standing es s)) ∙ ap (λ zs. take i (own_standing es s) ++ zs) at.rest) in
    record {
      entry = x;
      rest = at.rest;
      is_number = at.is_number;
      change = ap (change_at es) (sym at.is_number)
          ∙ standing_change es x.number x numbered (standing_placed es split.front x split.rest numbered split.is);
    }

-- ---- what takes the entries back, one by one

-- the last of mapped elements
record IsLastMapped (xs : List Applied) (front : List TakingBack) (back : TakingBack) : Type 0 where
  init : List Applied
  end : Applied
  is : xs ≡ init ++ end ∷ []
  front_is : front ≡ map taking_back init
  back_is : back ≡ taking_back end

last_mapped : (xs : List Applied) (front : List TakingBack) (back : TakingBack) → front ++ back ∷ [] ≡ map taking_back xs
    → IsLastMapped xs front back
last_mapped [] [] back h = (cc)
last_mapped [] (f ∷ front) back h = (cc)
last_mapped (x ∷ []) [] back h =
    let same : back ≡ taking_back x = (cc) in record { init = []; end = x; is = refl; front_is = refl; back_is = same }
last_mapped (x ∷ y ∷ xs) [] back h = (cc)
last_mapped (x ∷ xs) (f ∷ front) back h =
    let here : f ≡ taking_back x = (cc) in
    let rest : front ++ back ∷ [] ≡ map taking_back xs = (cc) in
    let m = last_mapped xs front back rest in
    record { init = x ∷ m.init; end = m.end; is = ap (λ zs. x ∷ zs) m.is; front_is = (λ i. here i ∷ m.front_is i); back_is = m.back_is }

with_undone-last : (es : List Entry) (s : ℕ) (xs : List Applied) (x : Applied)
    → with_undone (with_entry es s (undone x)) s xs ≡ with_undone es s (xs ++ x ∷ [])
with_undone-last es s [] x = refl
with_undone-last es s (y ∷ xs) x = ap (λ zs. with_entry zs s (undone y)) (with_undone-last es s xs x)

-- the last of the own standing entries fits its place, and the others can be taken back behind it
pub record IsLastUndone (b : Ledger) (s : ℕ) (rest : List TakingBack) (back : TakingBack) : Type 0 where
  pub same : back.entered ≡ back.applied
  pub fits : Fits b.limits (present b) back.applied
  pub sound : IsSound b.limits b.opening (with_entry b.entries s (Undone back.of back.applied))
  pub left : rest ≡ map taking_back (own_standing (with_entry b.entries s (Undone back.of back.applied)) s)
  pub closed : IsClosed (own s) (standing (with_entry b.entries s (Undone back.of back.applied)))
  pub all : all_undone (enter b s (Undone back.of back.applied)) s ≡ all_undone b s

pub last_undone : (b : Ledger) (s : ℕ) (rest : List TakingBack) (back : TakingBack) → SoundLedger b → IsClosed (own s) (standing b.entries)
    → rest ++ back ∷ [] ≡ map taking_back (own_standing b.entries s)
    → IsLastUndone b s rest back
last_undone b s rest back sound closed is =
    let es = b.entries in
    let m = last_mapped (own_standing es s) rest back is in
    let x = m.end in
    let t = next_taken b.limits b.opening es s m.init x [] (record { sound = sound; closed = closed; mine = m.is; others = refl }) in
    let what : ◌≡◌ {A = What} (undone x) (Undone back.of back.applied) = (λ i. Undone ((sym m.back_is) i).of ((sym m.back_is) i).applied) in
    record {
      same = (λ i. (m.back_is i).entered) ∙ sym (λ i. (m.back_is i).applied);
      fits = subst (λ (e : Change). Fits b.limits (present b) e) (λ i. (sym m.back_is i).applied) t.step.fits;
      sound = subst (λ (w : What). IsSound b.limits b.opening (with_entry es s w)) what t.step.sound;
      left = subst (λ (w : What). rest ≡ map taking_back (own_standing (with_entry es s w) s)) what
          (m.front_is ∙ ap (map taking_back) (sym t.taken.mine));
      closed = subst (λ (w : What). IsClosed (own s) (standing (with_entry es s w))) what t.taken.closed;
      all = subst (λ (w : What). all_undone (enter b s w) s ≡ all_undone b s) what
          (ap (λ zs. record b { entries = zs })
          (ap (with_undone (with_entry es s (undone x)) s) t.taken.mine ∙ with_undone-last es s m.init x
          ∙ ap (with_undone es s) (sym m.is)));
    }
