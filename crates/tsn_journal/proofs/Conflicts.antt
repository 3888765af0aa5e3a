-- The conflicts that a finder looks for: among what is picked of the entries, the latest after the entry of a number.
use Rattle.std.proofs.Common.{◌≡◌, ℕ, Bool, true, ◌&&◌, not, List, sym, ◌∙◌, ap, subst, Option, Some, arith}
use Rattle.std.specs.Prelude.{◌==◌, is_some, option_map}
use Rattle.std.specs.List.{filter_map}
use Rattle.std.specs.Option.{option_and_then}
use Rattle.tsn_edit.specs.Changes.{conflicts}
use Rattle.tsn_entries.specs.declared.entries.Entry.{Entry}
use Rattle.tsn_entries.specs.declared.entries.MarkedEntry.{MarkedEntry}
use Rattle.tsn_entries.specs.Entries.{Applied, IsNumbered, applied, applies, collect, standing}
use Rattle.tsn_entries.specs.Finding.{entry, find_conflict, find_conflict_of_others, find_redo_conflict, last_where, later_than, standing_entry, undone_entry}
use Rattle.tsn_entries.specs.Marks.{IsJournal, conflict_after, conflict_of_others, entries_of, is_in_conflict, is_others, stands}
use Rattle.tsn_journal.proofs.Collecting.{IsOwn, applied-own, collect-marked, passes, standing-marked, stands-own}
use Rattle.tsn_journal.proofs.Finders.{any_agrees, conflict_agrees, later_picked, other_agrees}
use Rattle.tsn_journal.proofs.Standing.{IsEntry, standing_is_entry, undone_is_entry}

-- the search of marked entries, from the entry that was found at the number, finds the latest picked one in conflict with x
pub sought : (ms : List MarkedEntry) (is : IsJournal ms) (pick : MarkedEntry → Option Applied) (xs : List Applied) → IsOwn pick
    → xs ≡ filter_map pick ms
    → (es : List Entry) (n : ℕ) (x : Applied) → IsEntry es n x
    → (p : ℕ → MarkedEntry → Bool) (t : Applied → Bool)
    → ((m : MarkedEntry) → (p x.session m && is_in_conflict (applies m.entry.what) x.change) ≡ passes t (pick m))
    → option_map (λ (m : MarkedEntry). m.entry.number) (option_and_then (λ e. conflict_after (p e.session) ms e) (entry es n))
    ≡ option_map (λ (y : Applied). y.number) (last_where t (later_than x.number xs))
sought ms is pick xs own picked es n x at p t agree = grind (arith, later_picked)

module _ (ms : List MarkedEntry) (is : IsJournal ms) (es : List Entry) (same : entries_of ms ≡ es) (n : ℕ) (x : Applied) where
  numbered : IsNumbered 1 es
  numbered = subst (IsNumbered 1) same is.numbered

  standing_marked : standing es ≡ filter_map stands ms
  standing_marked = ap standing (sym same) ∙ standing-marked ms is.marked

  pub standing_conflict : standing_entry es n ≡ Some x
      → option_map (λ (m : MarkedEntry). m.entry.number) (option_and_then (conflict_after (λ m. is_some (stands m)) ms) (entry es n))
      ≡ option_map (λ (y : Applied). y.number) (find_conflict es x)
  standing_conflict there =
      sought ms is stands (standing es) stands-own standing_marked es n x (standing_is_entry es n x numbered there)
      (λ s m. is_some (stands m)) (λ f. conflicts f.change x.change) (conflict_agrees x.change)

  pub others_conflict : standing_entry es n ≡ Some x
      → option_map (λ (m : MarkedEntry). m.entry.number) (option_and_then (conflict_of_others ms) (entry es n))
      ≡ option_map (λ (y : Applied). y.number) (find_conflict_of_others es x)
  others_conflict there =
      sought ms is stands (standing es) stands-own standing_marked es n x (standing_is_entry es n x numbered there)
      is_others (λ f. not (f.session == x.session) && conflicts f.change x.change) (other_agrees x.session x.change)

  pub redo_conflict : undone_entry es n ≡ Some x
      → option_map (λ (m : MarkedEntry). m.entry.number) (option_and_then (conflict_after (λ m. true) ms) (entry es n))
      ≡ option_map (λ (y : Applied). y.number) (find_redo_conflict es x)
  redo_conflict there =
      sought ms is (λ m. applied applies m.entry) (collect applies es) (applied-own applies)
      (ap (collect applies) (sym same) ∙ collect-marked applies ms) es n x (undone_is_entry es n x numbered there)
      (λ s m. true) (λ f. conflicts f.change x.change) (any_agrees x.change)
