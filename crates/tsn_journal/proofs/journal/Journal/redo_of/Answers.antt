use Rattle.std.proofs.Common.{◌≡◌, ℕ, List, Option, sym, ◌∙◌, ap, subst}
use Rattle.std.specs.Prelude.{◌==◌, ◌&&◌, IfSome, IsSome, option_map}
use Rattle.std.specs.Option.{option_and_then, option_copied}
use Rattle.tsn_entries.specs.declared.entries.MarkedEntry.{MarkedEntry}
use Rattle.tsn_entries.specs.Entries.{Applied, applied, undoes}
use Rattle.tsn_entries.specs.Finding.{last_where, redo_of, undone_entry}
use Rattle.tsn_entries.specs.Marks.{IsJournal, Log, ends_redo, entries_of}
use Rattle.tsn_journal.proofs.Finders.{redo_marked}
use Rattle.tsn_journal.proofs.Standing.{redo_is_undone}
use Rattle.tsn_journal.specs.Index.{IsIndexed}
use Rattle.tsn_journal.proofs.journal.Journal.redo_of.Goals as goal

abbrev redo_number : Option MarkedEntry → Option ℕ
redo_number o = option_map (λ (x : Applied). x.number) (option_and_then (λ (m : MarkedEntry). applied undoes m.entry) o)

looked_for : (s : ℕ) (looked : Option MarkedEntry) (now ms : List MarkedEntry) → IsJournal ms
    → looked ≡ last_where (λ m. (m.entry.session == s) && ends_redo m) now → now ≡ ms
    → redo_number looked ≡ option_map (λ (x : Applied). x.number) (redo_of (entries_of ms) s)
looked_for s looked now ms journal is same =
    ap redo_number (is ∙ ap (last_where (λ m. (m.entry.session == s) && ends_redo m)) same)
    ∙ sym (ap (option_map (λ (x : Applied). x.number)) (redo_marked s ms journal.marked))

pub returns-in-Some-clause-newest : goal.returns-in-Some-clause-newest
returns-in-Some-clause-newest c =
    let s = c.args.session in
    c.undone_number.ensures
    ∙ looked_for s _ _ _ c.self.invariant.journal (sym (ap option_copied c.in-Some.is) ∙ c.latest_in.ensures) c.deref.ensures.value
    ∙ ap (λ (l : Log). option_map (λ (x : Applied). x.number) (redo_of l.entries s)) c.self.view_is

pub returns-in-None-clause-newest : goal.returns-in-None-clause-newest
returns-in-None-clause-newest c =
    let s = c.args.session in
    looked_for s _ _ _ c.self.invariant.journal (sym (ap option_copied c.in-None.is) ∙ c.latest_in.ensures) c.deref.ensures.value
    ∙ ap (λ (l : Log). option_map (λ (x : Applied). x.number) (redo_of l.entries s)) c.self.view_is

pub returns-in-Some-clause-undone : goal.returns-in-Some-clause-undone
returns-in-Some-clause-undone c =
    let s = c.args.session in
    subst (λ (l : Log). IfSome c.undone_number.result (λ n. IsSome (undone_entry l.entries n))) c.self.view_is
    (redo_is_undone (entries_of c.self.inside.marked.items) s c.undone_number.result c.self.invariant.journal.numbered
    (c.undone_number.ensures ∙ looked_for s _ _ _ c.self.invariant.journal (sym (ap option_copied c.in-Some.is) ∙ c.latest_in.ensures)
    c.deref.ensures.value))

pub latest_in-requires-clause-index : goal.latest_in-requires-clause-index
latest_in-requires-clause-index c = subst (λ xs. IsIndexed xs c.self.inside.index) (sym c.deref.ensures.value) c.self.invariant.indexed
