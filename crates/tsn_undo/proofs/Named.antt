-- What a refused undo of all names, and a redo right after an undo.
use Rattle.std.proofs.Common.{◌≡◌, ℕ, ◌+◌, ◌<◌, Bool, true, cond, not, List, [], ◌∷◌, ◌++◌, sym, ◌∙◌, ap, Some, None, arith, length}
use Rattle.std.specs.Prelude.{◌==◌, ◌&&◌, filter, is_some, nat_lt}
use Rattle.std.specs.Option.{option_or}
use Rattle.std.proofs.lemmas.Bool.Decides.{nat_tests}
use Rattle.std.proofs.lemmas.Bool.{not-true, ltb-true}
use Rattle.tsn_journal.proofs.Grouping.{first_true, second_true}
use Rattle.tsn_types.specs.declared.refusals.Refusal.TheVariants.{Conflict}
use Rattle.tsn_edit.specs.Changes.{after_change, conflicts}
use Rattle.tsn_edit.specs.Parts.{inverse}
use Rattle.tsn_edit.proofs.Inverses.{taken_back}
use Rattle.tsn_edit.proofs.KeyFacts.{by_bool}
use Rattle.tsn_entries.specs.declared.entries.Entry.{Entry}
use Rattle.tsn_entries.specs.Entries.{Applied, applied, no_room, standing, undoes, undone}
use Rattle.tsn_entries.specs.Finding.{find_conflict_of_others, find_own_in_conflict, later_than, may_redo, own_standing, redo_of, standing_entry}
use Rattle.tsn_journal.proofs.Numbers.{last_where_some}
use Rattle.tsn_journal.proofs.Standing.{standing_found, standing_placed}
use Rattle.tsn_undo.specs.Ledger.{Ledger, present}
use Rattle.tsn_undo.specs.Redo.{Redoes}
use Rattle.tsn_undo.specs.Steps.{TakesBack}
use Rattle.tsn_undo.specs.UndoAll.{BlocksAll, undo_all_cause, undo_all_refusal}
use Rattle.tsn_undo.proofs.Adding.{next}
use Rattle.tsn_undo.proofs.Making.{SoundLedger, kept_now}
use Rattle.tsn_undo.proofs.UndoAll.{in_filter, same_number, undo_all_refusal-first}

-- ---- a conflict that is named

-- an element of a filtered list passes
passes_filter : (p : Applied → Bool) (xs front : List Applied) (x : Applied) (rest : List Applied) → filter p xs ≡ front ++ x ∷ rest
    → p x ≡ true
passes_filter p [] [] x rest h = (cc)
passes_filter p [] (f ∷ front) x rest h = (cc)
passes_filter p (y ∷ xs) front x rest h = by_bool (p y)
    (λ on. first (λ front more. passes_filter p xs front x rest more) on front
    (sym (ap (λ b. cond b (y ∷ filter p xs) (filter p xs)) on) ∙ h))
    (λ off. passes_filter p xs front x rest (sym (ap (λ b. cond b (y ∷ filter p xs) (filter p xs)) off) ∙ h))
  where
    first : ((front : List Applied) → filter p xs ≡ front ++ x ∷ rest → p x ≡ true) → p y ≡ true → (front : List Applied)
        → y ∷ filter p xs ≡ front ++ x ∷ rest → p x ≡ true
    first later on [] h = let same : y ≡ x = (cc) in ap p (sym same) ∙ on
    first later on (f ∷ front) h = let more : filter p xs ≡ front ++ x ∷ rest = (cc) in later front more

-- the refusal's cause is the finders'
pub record IsNamed (es : List Entry) (s own other : ℕ) : Type 0 where
  pub mine : Applied
  pub theirs : Applied
  pub mine_is : find_own_in_conflict es s ≡ Some mine
  pub theirs_is : find_conflict_of_others es mine ≡ Some theirs
  pub own_is : mine.number ≡ own
  pub other_is : theirs.number ≡ other

named_from : (es : List Entry) (s own other n : ℕ) (xs : List Applied)
    → option_or (undo_all_cause es s xs) (no_room es n) ≡ Some (Conflict own other) → IsNamed es s own other
named_from es s own other n xs h = grind arith

pub names_conflict : (b : Ledger) (s own other : ℕ) → SoundLedger b → undo_all_refusal b s ≡ Some (Conflict own other)
    → BlocksAll b.entries s own other
names_conflict b s own other sound h =
    let es = b.entries in
    let named = named_from es s own other (length (own_standing es s)) (own_standing es s) (sym (undo_all_refusal-first b s) ∙ h) in
    let e = named.mine in
    let f = named.theirs in
    let own_test : Applied → Bool = λ x. (x.session == s) && is_some (find_conflict_of_others es x) in
    let other_test : Applied → Bool = λ g. not (g.session == e.session) && conflicts g.change e.change in
    let mine = last_where_some own_test (standing es) e named.mine_is in
    let theirs = last_where_some other_test (later_than e.number (standing es)) f named.theirs_is in
    let split = in_filter (λ x. nat_lt e.number x.number) (standing es) theirs.front f theirs.rest theirs.is in
    let later : e.number < f.number = ltb-true e.number f.number
    (passes_filter (λ x. nat_lt e.number x.number) (standing es) theirs.front f theirs.rest theirs.is) in
    let session : e.session ≡ s = same_number e.session s (first_true (e.session == s) _ mine.passes) in
    record {
      mine = e;
      theirs = f;
      mine_is = ap (standing_entry es) (sym named.own_is) ∙ standing_found es own_test e sound.numbered named.mine_is;
      theirs_is = ap (standing_entry es) (sym named.other_is) ∙ standing_placed es split.front f split.rest sound.numbered split.is;
      is_own = session;
      is_other = ap (λ n. f.session == n) (sym session)
          ∙ not-true (f.session == e.session) (first_true (not (f.session == e.session)) _ theirs.passes);
      later = omega (arith, later, named.own_is, named.other_is);
      conflict = second_true (not (f.session == e.session)) _ theirs.passes;
    }

-- ---- a redo right after an undo

own_session : (s : ℕ) → (s == s) ≡ true
own_session s = grind (arith, nat_tests)

redo_last : (es : List Entry) (s : ℕ) (x : Applied) → redo_of (es ++ next es s (undone x) ∷ []) s
    ≡ Some (record { number = length es + 1; session = s; change = inverse x.change })
redo_last es s x = from es
  where
    end : Entry
    end = next es s (undone x)

    from : (fs : List Entry) → redo_of (fs ++ end ∷ []) s ≡ Some (record { number = length es + 1; session = s; change = inverse x.change })
    from [] =
        ap (λ b. cond (b && true) (Some (record { number = length es + 1; session = s; change = inverse x.change })) None) (own_session s)
    from (f ∷ fs) = ap (λ o. option_or o (cond (may_redo s f (fs ++ end ∷ [])) (applied undoes f) None)) (from fs)

pub redone_at_once : (before back after : Ledger) (s number of again named : ℕ) → SoundLedger before → TakesBack before s number of back
    → Redoes back s again named after → (named ≡ number) × (present after ≡ present before)
redone_at_once before back after s number of again named sound t r =
    let x = t.newest in
    let e = inverse x.change in
    let found : Some (record { number = length before.entries + 1; session = s; change = e }) ≡ Some r.redoable.undone = sym
    (ap (λ (l : Ledger). redo_of l.entries s) t.after ∙ redo_last before.entries s x) ∙ r.redoable.undone_is in
    let is : record { number = length before.entries + 1; session = s; change = e } ≡ r.redoable.undone = (cc) in (
      r.redoable.of_is ∙ ap (λ (u : Applied). u.number) (sym is) ∙ sym t.number_is,
      r.map
          ∙ (λ i. after_change (t.map i) (inverse (sym is i).change))
          ∙ (taken_back before.limits (present before) e (kept_now before sound) t.fits).same,
    )
