use Rattle.std.proofs.Common.{◌≡◌, ℕ, List, Option, sym, ◌∙◌, ap}
use Rattle.std.specs.Prelude.{◌==◌, option_map}
use Rattle.std.specs.List.{find}
use Rattle.std.specs.Option.{option_copied}
use Rattle.tsn_entries.specs.declared.entries.Entry.{Entry}
use Rattle.tsn_entries.specs.declared.entries.MarkedEntry.{MarkedEntry}
use Rattle.tsn_entries.specs.Finding.{entry}
use Rattle.tsn_entries.specs.Marks.{Log, entries_of}
use Rattle.tsn_journal.proofs.Marking.{find_entry}
use Rattle.tsn_journal.proofs.journal.Journal.entry.Goals as goal

looked_up : (n : ℕ) (looked : Option MarkedEntry) (now ms : List MarkedEntry) (es : List Entry)
    → looked ≡ find (λ m. m.entry.number == n) now → now ≡ ms → entries_of ms ≡ es
    → option_map (λ (m : MarkedEntry). m.entry) looked ≡ entry es n
looked_up n looked now ms es is same view =
    ap (option_map (λ (m : MarkedEntry). m.entry)) (is ∙ ap (find (λ m. m.entry.number == n)) same) ∙ find_entry n ms
    ∙ ap (λ es. entry es n) view

pub returns-in-Some : goal.returns-in-Some
returns-in-Some c = looked_up c.args.number _ _ _ _ (sym (ap option_copied c.in-Some.is) ∙ c.at.ensures) c.deref.ensures.value
    (ap (λ (l : Log). l.entries) c.self.view_is)

pub returns-in-None : goal.returns-in-None
returns-in-None c = looked_up c.args.number _ _ _ _ (sym (ap option_copied c.in-None.is) ∙ c.at.ensures) c.deref.ensures.value
    (ap (λ (l : Log). l.entries) c.self.view_is)
