use Rattle.std.proofs.lemmas.Str.{is_utf8-from_IsUtf8}
use Rattle.tsn_setup.specs.PlainTrays.{tables_of}
use Rattle.tsn_setup.proofs.WholeDocuments.{document_shaped}
use Rattle.tsn_setup.proofs.plain_documents.plain_draft.Goals as goal

pub returns : goal.returns
returns c =
    let cases = c.in-Ok.ensures.cases in
    let read = rw cases.0 at c.in_ok-limits.ensures in
    document_shaped c.args.text.now c.in_ok-limits.limits (λ kind. tables_of kind c.in_ok-limits.all) c.in_ok-tables.tables.items
    (is_utf8-from_IsUtf8 c.args.text.now cases.1) read c.in_ok-tables.ensures
