use Rattle.std.proofs.Common.{◌≡◌, ℕ, List, Option, sym, ◌∙◌, ap}
use Rattle.std.specs.Prelude.{◌==◌, is_some}
use Rattle.std.specs.List.{find}
use Rattle.std.specs.Option.{option_and_then, option_copied}
use Rattle.tsn_entries.specs.declared.entries.Entry.{Entry}
use Rattle.tsn_entries.specs.declared.entries.MarkedEntry.{MarkedEntry}
use Rattle.tsn_entries.specs.Finding.{standing_entry}
use Rattle.tsn_entries.specs.Marks.{IsJournal, Log, entries_of, stands}
use Rattle.tsn_journal.proofs.Finders.{standing_at}
use Rattle.tsn_journal.proofs.journal.Journal.standing.Goals as goal

looked_up : (n : ℕ) (looked : Option MarkedEntry) (now ms : List MarkedEntry) (es : List Entry) → IsJournal ms
    → looked ≡ find (λ m. m.entry.number == n) now → now ≡ ms → entries_of ms ≡ es
    → is_some (option_and_then stands looked) ≡ is_some (standing_entry es n)
looked_up n looked now ms es journal is same view =
    ap (λ o. is_some (option_and_then stands o)) (is ∙ ap (find (λ m. m.entry.number == n)) same)
    ∙ sym (ap is_some (standing_at ms journal n)) ∙ ap (λ es. is_some (standing_entry es n)) view

pub returns-in-Some : goal.returns-in-Some
returns-in-Some c =
    c.stands.ensures
    ∙ looked_up c.args.number _ _ _ _ c.self.invariant.journal (sym (ap option_copied c.in-Some.is) ∙ c.at.ensures) c.deref.ensures.value
    (ap (λ (l : Log). l.entries) c.self.view_is)

pub returns-in-None : goal.returns-in-None
returns-in-None c = looked_up c.args.number _ _ _ _ c.self.invariant.journal (sym (ap option_copied c.in-None.is) ∙ c.at.ensures)
    c.deref.ensures.value (ap (λ (l : Log). l.entries) c.self.view_is)
