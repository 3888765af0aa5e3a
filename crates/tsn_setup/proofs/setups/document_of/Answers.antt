use Rattle.std.proofs.Common.{◌≡◌, sym, ap, ◌∙◌, inl, Ok, true, false}
use Rattle.toml.specs.View.{table_view}
use Rattle.toml.proofs.Views.{view-Table}
use Rattle.tsn_records.specs.Answers.{or_syntax}
use Rattle.tsn_setup.proofs.Documents.{document_read, document_refused}
use Rattle.tsn_setup.proofs.setups.document_of.Goals as goal

pub returns-in-Ok : goal.returns-in-Ok
returns-in-Ok c =
    let read = c.in-Ok.ensures.ok in
    inl (ap (λ d. Ok d) (view-Table c.in-Ok.table)
    ∙ sym (ap or_syntax (document_read c.args.text.now (table_view c.in-Ok.table) read.0 read.1)))

pub returns-in-Err-2 : goal.returns-in-Err-2
returns-in-Err-2 c = inl (sym (ap or_syntax
    (document_refused c.args.text.now (c.in-Err.ensures.refused (λ m. let t : false ≡ true = c.if-is_memory.ensures.1 m in cc)))))
