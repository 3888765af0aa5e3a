-- An edit that is at once undone leaves the configuration as it was.
use Rattle.std.proofs.Common.{◌≡◌, ℕ, ◌+◌, List, [], ◌∷◌, ◌++◌, refl, sym, ◌∙◌, ap, subst, Some, None, length, arith}
use Rattle.std.proofs.lemmas.Bool.Decides.{nat_tests}
use Rattle.tsn_edit.specs.declared.Edit.{Edit}
use Rattle.tsn_edit.specs.Configuration.{Configuration}
use Rattle.tsn_edit.specs.Changes.{after_change, conflicts}
use Rattle.tsn_edit.specs.Parts.{inverse}
use Rattle.tsn_edit.specs.Batches.{change_of}
use Rattle.tsn_edit.proofs.Inverses.{taken_back}
use Rattle.tsn_entries.specs.declared.entries.What.TheVariants.{Made}
use Rattle.tsn_entries.specs.Entries.{Applied, IsNumbered, no_room, standing}
use Rattle.tsn_entries.specs.Finding.{find_conflict, last_of, last_where, later_than}
use Rattle.tsn_entries.proofs.LastWhere.{last_where-append}
use Rattle.tsn_journal.proofs.Marking.{IsNumbered-with_entry}
use Rattle.tsn_journal.proofs.Numbers.{Rises, later_than_rest, rises_standing}
use Rattle.tsn_undo.specs.Ledger.{Ledger, enter, present}
use Rattle.tsn_undo.specs.Soundness.{IsSound}
use Rattle.tsn_undo.specs.Steps.{Edits, TakesBack, undo_refusal}
use Rattle.tsn_undo.proofs.Adding.{configuration_push, standing_added}
use Rattle.tsn_undo.proofs.Free.{undo_refusal-first}
use Rattle.tsn_undo.proofs.Making.{kept_now}

-- the change that an edit of the session has just applied
abbrev newest_of : Ledger → ℕ → List Edit → Applied
newest_of before session batch = record { number = length before.entries + 1; session = session; change = change_of (present before) batch }

module _ (before edited : Ledger) (session : ℕ) (batch : List Edit) (entry : ℕ)
    (sound : IsSound before.limits before.opening before.entries) (made' : Edits before session batch entry edited) where
  after_made : edited.entries ≡ (enter before session (Made (change_of (present before) batch))).entries
  after_made = ap (λ (b : Ledger). b.entries) made'.after

  stands_last : standing edited.entries ≡ standing before.entries ++ newest_of before session batch ∷ []
  stands_last = ap standing after_made ∙ standing_added before.entries session (Made (change_of (present before) batch)) (λ n. refl)
      (change_of (present before) batch) refl

  -- it is what the session takes back next
  newest_made : last_of edited.entries session ≡ Some (newest_of before session batch)
  newest_made = grind (arith, nat_tests, stands_last, last_where-append)

  -- nothing stands after it
  no_conflict : find_conflict edited.entries (newest_of before session batch) ≡ None
  no_conflict =
      let x = newest_of before session batch in
      let rises : Rises 1 (standing before.entries ++ x ∷ []) =
      subst (Rises 1) stands_last (rises_standing edited.entries
      (subst (λ es. IsNumbered 1 es) (sym after_made)
      (IsNumbered-with_entry before.entries session (Made (change_of (present before) batch)) sound.numbered))) in
      ap (λ xs. last_where (λ f. conflicts f.change x.change) (later_than x.number xs)) stands_last
      ∙ ap (last_where (λ f. conflicts f.change x.change)) (later_than_rest 1 (standing before.entries) x [] rises)

  pub free_at_once : undo_refusal edited session ≡ no_room edited.entries 1
  free_at_once = grind (arith, undo_refusal-first, newest_made, no_conflict)

pub undone_at_once : (before edited after : Ledger) (session : ℕ) (batch : List Edit) (entry number of : ℕ)
    → IsSound before.limits before.opening before.entries → Edits before session batch entry edited
    → TakesBack edited session number of after
    → (of ≡ entry) × (present after ≡ present before)
undone_at_once before edited after session batch entry number of sound made' back =
    let e = change_of (present before) batch in
    let newest = newest_of before session batch in
    let found : Some newest ≡ Some back.newest = sym (newest_made before edited session batch entry sound made') ∙ back.newest_is in
    let is : newest ≡ back.newest = (cc) in (
      back.of_is ∙ ap (λ (x : Applied). x.number) (sym is) ∙ sym made'.number_is,
      back.map
          ∙ (λ i. after_change (ap present made'.after i) (inverse (sym is i).change))
          ∙ ap (λ (m : Configuration). after_change m (inverse e))
          (configuration_push before.opening before.entries session (Made e) e refl)
          ∙ (taken_back before.limits (present before) e (kept_now before sound) made'.fits).same,
    )
