-- An entry that applies a change that fits keeps a journal sound, and so do one that applies none and one that settles.
use Rattle.std.proofs.Common.{◌≡◌, ℕ, ◌+◌, false, cond, refl, not, List, [], ◌∷◌, ◌++◌, sym, ◌∙◌, ap, subst, Option, Some, None, length, arith, append-nil}
use Rattle.std.specs.Prelude.{filter, nat_le, option_map}
use Rattle.std.specs.List.{cons_option}
use Rattle.tsn_edit.specs.Parts.{Change}
use Rattle.tsn_edit.specs.Configuration.{Configuration, IsWellKept}
use Rattle.tsn_edit.specs.Changes.{after_change, Fits}
use Rattle.tsn_edit.specs.Runs.{run, IsGood}
use Rattle.tsn_edit.proofs.Inverses.{run-append, good-append, good_front, good_rest, end_kept}
use Rattle.tsn_types.specs.declared.limits.Limits.{Limits}
use Rattle.tsn_entries.specs.declared.entries.What.{What}
use Rattle.tsn_entries.specs.declared.entries.Entry.{Entry}
use Rattle.tsn_entries.specs.declared.entries.What.TheVariants.{Settled}
use Rattle.tsn_entries.specs.Entries.{Applied, IsNoSettle, adds, applies, changes, collect, settled_edits, standing, with_entry}
use Rattle.tsn_journal.proofs.Marking.{IsNumbered-with_entry}
use Rattle.tsn_journal.proofs.Numbers.{changes-append, collect_push, rises_standing, standing_push, undoes_number}
use Rattle.tsn_journal.proofs.Settling.{settled_kept, settled_more, split_at}
use Rattle.tsn_undo.specs.Soundness.{IsSound, base, configuration}

-- the entry that comes next
abbrev pub next : List Entry → ℕ → What → Entry
next es s w = record { number = length es + 1; session = s; what = w }

-- ---- the configuration with one entry more

abbrev one : List Entry → ℕ → Option Change → List Applied
one es s o = cons_option (option_map (λ c. record { number = length es + 1; session = s; change = c }) o) []

pub applied_push : (es : List Entry) (s : ℕ) (w : What) (e : Change) → applies w ≡ Some e
    → changes (collect applies (with_entry es s w)) ≡ changes (collect applies es) ++ e ∷ []
applied_push es s w e apply = grind (arith, collect_push, changes-append)

pub nothing_push : (es : List Entry) (s : ℕ) (w : What) → applies w ≡ None
    → changes (collect applies (with_entry es s w)) ≡ changes (collect applies es)
nothing_push es s w none = grind (arith, collect_push, append-nil)

pub configuration_push : (opening : Configuration) (es : List Entry) (s : ℕ) (w : What) (e : Change) → applies w ≡ Some e
    → configuration opening (with_entry es s w) ≡ after_change (configuration opening es) e
configuration_push opening es s w e apply =
    ap (run opening) (applied_push es s w e apply) ∙ run-append opening (changes (collect applies es)) (e ∷ [])

-- ---- an entry that stands

module _ (es : List Entry) (s : ℕ) (w : What) (takes_none : (n : ℕ) → undoes_number w n ≡ false) where
  all_stay : (xs : List Applied) → filter (λ x. not (undoes_number w x.number)) xs ≡ xs
  all_stay [] = refl
  all_stay (x ∷ xs) = ap (λ b. cond (not b) (x ∷ filter (λ x. not (undoes_number w x.number)) xs)
      (filter (λ x. not (undoes_number w x.number)) xs)) (takes_none x.number) ∙ ap (λ ys. x ∷ ys) (all_stay xs)

  pub standing_kept : standing (with_entry es s w) ≡ standing es ++ one es s (adds w)
  standing_kept = standing_push es (next es s w) ∙ ap (λ xs. xs ++ one es s (adds w)) (all_stay (standing es))

  pub standing_added : (e : Change) → adds w ≡ Some e → standing (with_entry es s w) ≡ standing es
      ++ record { number = length es + 1; session = s; change = e } ∷ []
  standing_added e add = standing_kept ∙ ap (λ o. standing es ++ one es s o) add

-- ---- the base

-- an entry that settles none leaves it
pub base_kept : (opening : Configuration) (es : List Entry) (s : ℕ) (w : What) → IsNoSettle w
    → base opening (with_entry es s w) ≡ base opening es
base_kept opening es s w plain = ap (λ xs. run opening (changes xs)) (settled_kept es (next es s w) plain)

-- the base of a sound journal is well kept
pub kept_base : (l : Limits) (opening : Configuration) (es : List Entry) → IsSound l opening es → IsWellKept l (base opening es)
kept_base l opening es sound = end_kept l opening (changes (settled_edits es)) sound.kept sound.settled

-- ---- entries that take none back

module _ (l : Limits) (opening : Configuration) (es : List Entry) (s : ℕ) (w : What) (sound : IsSound l opening es) (plain : IsNoSettle w)
    (takes_none : (n : ℕ) → undoes_number w n ≡ false) where
  abbrev from : Configuration
  from = base opening es

  same_base : base opening (with_entry es s w) ≡ from
  same_base = base_kept opening es s w plain

  -- an entry that stands, by a change that fits
  pub sound_added : (e : Change) → adds w ≡ Some e → applies w ≡ Some e → Fits l (configuration opening es) e
      → IsSound l opening (with_entry es s w)
  sound_added e add apply fits =
      let log = applied_push es s w e apply in
      let stands : changes (standing (with_entry es s w)) ≡ changes (standing es) ++ e ∷ [] =
      ap changes (standing_added es s w takes_none e add)
      ∙ changes-append (standing es) (record { number = length es + 1; session = s; change = e } ∷ []) in
      record {
        numbered = IsNumbered-with_entry es s w sound.numbered;
        kept = sound.kept;
        replays =
            subst (IsGood l opening) (sym log) (good-append l opening (changes (collect applies es)) (e ∷ []) sound.replays (fits, tt));
        settled = subst (λ xs. IsGood l opening (changes xs)) (sym (settled_kept es (next es s w) plain)) sound.settled;
        good = subst (λ (c : Configuration). IsGood l c (changes (standing (with_entry es s w)))) (sym same_base)
            (subst (IsGood l from) (sym stands)
            (good-append l from (changes (standing es)) (e ∷ []) sound.good
            (subst (λ (m : Configuration). Fits l m e) (sym sound.same) fits, tt)));
        same = (λ i. run (same_base i) (stands i)) ∙ run-append from (changes (standing es)) (e ∷ [])
            ∙ ap (λ (m : Configuration). after_change m e) sound.same
            ∙ sym (run-append opening (changes (collect applies es)) (e ∷ [])) ∙ sym (ap (run opening) log);
      }

  -- an entry that applies no change
  pub sound_quiet : adds w ≡ None → applies w ≡ None → IsSound l opening (with_entry es s w)
  sound_quiet add apply =
      let log = nothing_push es s w apply in
      let stands : changes (standing (with_entry es s w)) ≡ changes (standing es) =
      ap changes (standing_kept es s w takes_none ∙ ap (λ o. standing es ++ one es s o) add ∙ append-nil (standing es)) in
      record {
        numbered = IsNumbered-with_entry es s w sound.numbered;
        kept = sound.kept;
        replays = subst (IsGood l opening) (sym log) sound.replays;
        settled = subst (λ xs. IsGood l opening (changes xs)) (sym (settled_kept es (next es s w) plain)) sound.settled;
        good = subst (λ (c : Configuration). IsGood l c (changes (standing (with_entry es s w)))) (sym same_base)
            (subst (IsGood l from) (sym stands) sound.good);
        same = (λ i. run (same_base i) (stands i)) ∙ sound.same ∙ sym (ap (run opening) log);
      }

-- ---- an entry that settles

module _ (l : Limits) (opening : Configuration) (es : List Entry) (s upto : ℕ) (sound : IsSound l opening es) where
  abbrev final : List Applied
  final = filter (λ x. nat_le x.number upto) (standing es)

  abbrev left : List Applied
  left = filter (λ x. not (nat_le x.number upto)) (standing es)

  pub settled_now : settled_edits (with_entry es s (Settled upto)) ≡ settled_edits es ++ final
  settled_now = settled_more 1 es (next es s (Settled upto)) upto refl sound.numbered

  pub left_now : standing (with_entry es s (Settled upto)) ≡ left
  left_now = standing_push es (next es s (Settled upto)) ∙ append-nil left

  both : changes (standing es) ≡ changes final ++ changes left
  both = ap changes (split_at 1 upto (standing es) (rises_standing es sound.numbered)) ∙ changes-append final left

  -- the base is where the edits that were settled lead
  pub base_settled : base opening (with_entry es s (Settled upto)) ≡ run (base opening es) (changes final)
  base_settled = ap (λ xs. run opening (changes xs)) settled_now ∙ ap (run opening) (changes-append (settled_edits es) final)
      ∙ run-append opening (changes (settled_edits es)) (changes final)

  pub sound_settled : IsSound l opening (with_entry es s (Settled upto))
  sound_settled =
      let from = base opening es in
      let all : IsGood l from (changes final ++ changes left) = subst (IsGood l from) both sound.good in
      let log = nothing_push es s (Settled upto) refl in
      record {
        numbered = IsNumbered-with_entry es s (Settled upto) sound.numbered;
        kept = sound.kept;
        replays = subst (IsGood l opening) (sym log) sound.replays;
        settled = subst (IsGood l opening) (sym (changes-append (settled_edits es) final) ∙ sym (ap changes settled_now))
            (good-append l opening (changes (settled_edits es)) (changes final) sound.settled
            (good_front l from (changes final) (changes left) all));
        good = subst (λ (c : Configuration). IsGood l c (changes (standing (with_entry es s (Settled upto))))) (sym base_settled)
            (subst (λ xs. IsGood l (run from (changes final)) (changes xs)) (sym left_now)
            (good_rest l from (changes final) (changes left) all));
        same = (λ i. run (base_settled i) (changes (left_now i))) ∙ sym (run-append from (changes final) (changes left))
            ∙ ap (run from) (sym both) ∙ sound.same ∙ sym (ap (run opening) log);
      }
