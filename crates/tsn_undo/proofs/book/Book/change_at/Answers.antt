use Rattle.std.proofs.Common.{◌≡◌, Some, sym, ◌∙◌, ap}
use Rattle.std.specs.Prelude.{is_some}
use Rattle.std.specs.Option.{option_copied}
use Rattle.tsn_entries.specs.Finding.{entry}
use Rattle.tsn_undo.proofs.Free.{change_of_entry, entry_there, some_copied}
use Rattle.tsn_undo.proofs.book.Book.change_at.Goals as goal

pub unwrap-requires : goal.unwrap-requires
unwrap-requires c =
    let n = c.args.number in
    let es = c.args.self.now.ledger.entries in
    some_copied c.entry.result (ap is_some (c.entry.ensures ∙ ap (λ es. entry es n) c.journal.ensures.entries)
    ∙ entry_there es n c.requires)

pub unwrap-requires-2 : goal.unwrap-requires-2
unwrap-requires-2 c =
    let n = c.args.number in
    let es = c.args.self.now.ledger.entries in
    let found : entry es n ≡ Some c.unwrap.result.now = sym (c.entry.ensures ∙ ap (λ es. entry es n) c.journal.ensures.entries)
    ∙ ap option_copied c.unwrap.ensures in
    some_copied c.change.result (ap is_some (c.change.ensures ∙ sym (change_of_entry es n c.unwrap.result.now found)) ∙ c.requires)

pub returns : goal.returns
returns c =
    let n = c.args.number in
    let es = c.args.self.now.ledger.entries in
    let found : entry es n ≡ Some c.unwrap.result.now = sym (c.entry.ensures ∙ ap (λ es. entry es n) c.journal.ensures.entries)
    ∙ ap option_copied c.unwrap.ensures in
    change_of_entry es n c.unwrap.result.now found ∙ sym c.change.ensures ∙ ap option_copied c.unwrap-2.ensures
