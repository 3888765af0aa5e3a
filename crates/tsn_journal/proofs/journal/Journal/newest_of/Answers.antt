use Rattle.std.proofs.Common.{◌≡◌, ℕ, List, Option, sym, ◌∙◌, ap, subst, arith}
use Rattle.std.specs.Prelude.{option_map}
use Rattle.tsn_entries.specs.declared.entries.MarkedEntry.{MarkedEntry}
use Rattle.tsn_entries.specs.Entries.{Applied}
use Rattle.tsn_entries.specs.Finding.{last_of, last_where}
use Rattle.tsn_entries.specs.Marks.{IsJournal, Log, entries_of, is_own}
use Rattle.tsn_journal.proofs.Finders.{last_standing, own_agrees}
use Rattle.tsn_journal.specs.Index.{IsIndexed}
use Rattle.tsn_journal.proofs.journal.Journal.newest_of.Goals as goal

looked_for : (s : ℕ) (looked : Option MarkedEntry) (now ms : List MarkedEntry) → IsJournal ms → looked ≡ last_where (is_own s) now
    → now ≡ ms
    → option_map (λ (m : MarkedEntry). m.entry.number) looked ≡ option_map (λ (x : Applied). x.number) (last_of (entries_of ms) s)
looked_for s looked now ms journal is same = grind (arith, last_standing, own_agrees)

pub returns : goal.returns
returns c =
    looked_for c.args.session _ _ _ c.self.invariant.journal c.latest_in.ensures c.deref.ensures.value
    ∙ ap (λ (l : Log). option_map (λ (x : Applied). x.number) (last_of l.entries c.args.session)) c.self.view_is

pub latest_in-requires-clause-index : goal.latest_in-requires-clause-index
latest_in-requires-clause-index c = subst (λ xs. IsIndexed xs c.self.inside.index) (sym c.deref.ensures.value) c.self.invariant.indexed
