-- Taking back a standing entry that nothing later conflicts with keeps a journal sound.
use Rattle.std.proofs.Common.{◌≡◌, ℕ, not, List, [], ◌∷◌, ◌++◌, sym, ◌∙◌, ap, subst, None, false, refl, append-nil}
use Rattle.std.specs.Prelude.{filter, ◌==◌}
use Rattle.std.specs.List.{AllByRecursion}
use Rattle.tsn_edit.specs.Parts.{Change, inverse}
use Rattle.tsn_edit.specs.Configuration.{Configuration}
use Rattle.tsn_edit.specs.Changes.{after_change, conflicts, Fits}
use Rattle.tsn_edit.specs.Runs.{run, IsGood}
use Rattle.tsn_edit.proofs.Inverses.{run-append, good-append, good_front, good_rest, end_kept, undoable}
use Rattle.tsn_types.specs.declared.limits.Limits.{Limits}
use Rattle.tsn_entries.specs.declared.entries.Entry.{Entry}
use Rattle.tsn_entries.specs.Entries.{Applied, applies, changes, collect, standing, undone, with_entry}
use Rattle.tsn_entries.specs.Finding.{find_conflict, later_than}
use Rattle.tsn_journal.proofs.Marking.{IsNumbered-with_entry}
use Rattle.tsn_journal.proofs.Numbers.{changes-append, Rises, rises_standing, last_where_none, later_than_rest, left_one, standing_push}
use Rattle.tsn_journal.proofs.Settling.{settled_kept}
use Rattle.tsn_undo.specs.Soundness.{IsSound, base, configuration}
use Rattle.tsn_undo.proofs.Adding.{applied_push, base_kept, configuration_push, kept_base, next}

pub each_change : (P : Change → Type 0) (xs : List Applied) → AllByRecursion (λ y. P y.change) xs → AllByRecursion P (changes xs)
each_change P [] h = tt
each_change P (x ∷ xs) h = (h.0, each_change P xs h.1)

-- a standing entry and what follows it
pub record IsPlace (es : List Entry) (x : Applied) : Type 0 where
  pub front : List Applied
  pub rest : List Applied
  pub is : standing es ≡ front ++ x ∷ rest

none_conflicts : (l : Limits) (opening : Configuration) (es : List Entry) (x : Applied) → IsSound l opening es → (p : IsPlace es x)
    → find_conflict es x ≡ None → AllByRecursion (λ e. conflicts e x.change ≡ false) (changes p.rest)
none_conflicts l opening es x sound p none =
    let rises : Rises 1 (p.front ++ x ∷ p.rest) = subst (Rises 1) p.is (rises_standing es sound.numbered) in
    let later : later_than x.number (standing es) ≡ p.rest = ap (later_than x.number) p.is ∙ later_than_rest 1 p.front x p.rest rises in
    each_change (λ e. conflicts e x.change ≡ false) p.rest
    (subst (AllByRecursion (λ (f : Applied). conflicts f.change x.change ≡ false)) later
    (last_where_none (λ f. conflicts f.change x.change) (later_than x.number (standing es)) none))

pub record IsUndoStep (l : Limits) (opening : Configuration) (es : List Entry) (s : ℕ) (x : Applied) : Type 0 where
  pub fits : Fits l (configuration opening es) (inverse x.change)
  pub after : configuration opening (with_entry es s (undone x)) ≡ after_change (configuration opening es) (inverse x.change)
  pub stands : standing (with_entry es s (undone x)) ≡ filter (λ y. not (x.number == y.number)) (standing es)
  pub sound : IsSound l opening (with_entry es s (undone x))

pub undo_step : (l : Limits) (opening : Configuration) (es : List Entry) (s : ℕ) (x : Applied) → IsSound l opening es → IsPlace es x
    → find_conflict es x ≡ None → IsUndoStep l opening es s x
undo_step l opening es s x sound p none =
    let rises : Rises 1 (p.front ++ x ∷ p.rest) = subst (Rises 1) p.is (rises_standing es sound.numbered) in
    let split : changes (standing es) ≡ changes p.front ++ x.change ∷ changes p.rest = ap changes p.is
    ∙ changes-append p.front (x ∷ p.rest) in
    let from = base opening es in
    let from_now : base opening (with_entry es s (undone x)) ≡ from = base_kept opening es s (undone x) tt in
    let good : IsGood l from (changes p.front ++ x.change ∷ changes p.rest) = subst (IsGood l from) split sound.good in
    let c = run from (changes p.front) in
    let front_good = good_front l from (changes p.front) (x.change ∷ changes p.rest) good in
    let u_is = undoable l c x.change (changes p.rest)
    (end_kept l from (changes p.front) (kept_base l opening es sound) front_good)
    (good_rest l from (changes p.front) (x.change ∷ changes p.rest) good)
    (none_conflicts l opening es x sound p none) in
    let now : run c (x.change ∷ changes p.rest) ≡ configuration opening es =
    sym (run-append from (changes p.front) (x.change ∷ changes p.rest)) ∙ ap (run from) (sym split) ∙ sound.same in
    let fits : Fits l (configuration opening es) (inverse x.change) = subst (λ (m : Configuration). Fits l m (inverse x.change)) now
    u_is.fits in
    let log = applied_push es s (undone x) (inverse x.change) refl in
    let after = configuration_push opening es s (undone x) (inverse x.change) refl in
    let stands : standing (with_entry es s (undone x)) ≡ filter (λ y. not (x.number == y.number)) (standing es) =
    standing_push es (next es s (undone x)) ∙ append-nil (filter (λ y. not (x.number == y.number)) (standing es)) in
    let rest_is : changes (standing (with_entry es s (undone x))) ≡ changes p.front ++ changes p.rest =
    ap changes (stands ∙ ap (filter (λ y. not (x.number == y.number))) p.is ∙ left_one 1 p.front x p.rest rises)
    ∙ changes-append p.front p.rest in
    record {
      fits = fits;
      after = after;
      stands = stands;
      sound = record {
        numbered = IsNumbered-with_entry es s (undone x) sound.numbered;
        kept = sound.kept;
        replays = subst (IsGood l opening) (sym log)
            (good-append l opening (changes (collect applies es)) (inverse x.change ∷ []) sound.replays (fits, tt));
        settled = subst (λ ys. IsGood l opening (changes ys)) (sym (settled_kept es (next es s (undone x)) tt)) sound.settled;
        good = subst (λ (b : Configuration). IsGood l b (changes (standing (with_entry es s (undone x))))) (sym from_now)
            (subst (IsGood l from) (sym rest_is) (good-append l from (changes p.front) (changes p.rest) front_good u_is.good));
        same = (λ i. run (from_now i) (rest_is i)) ∙ run-append from (changes p.front) (changes p.rest) ∙ sym u_is.same
            ∙ ap (λ (m : Configuration). after_change m (inverse x.change)) now ∙ sym after;
      };
    }
