use Rattle.std.proofs.Common.{◌≡◌, ◌==◌, false, length, rules, arith, sym, subst}
use Rattle.std.proofs.lemmas.Grind.{common_steps}
use Rattle.toml_parser.specs.Lexical.{first, skip_blank}
use Rattle.tsn_setup.specs.Plain.{ReadsDocument}
use Rattle.tsn_setup.specs.PlainTrays.{tables_of}
use Rattle.tsn_setup.proofs.WholeDocuments.{document_begun, document_ended, none_yet, table_added, own_tray}
use Rattle.tsn_setup.proofs.plain_documents.document.Goals as goal

pub tables-init : goal.tables-init
tables-init c =
    let empty = c.none-all.ensures in
    let limits = c.in_ok-limits.limits in
    let begun = document_begun c.args.text.now c.in_ok-limits.behind.now limits c.in_ok-limits.ensures.table in
    let trays = none_yet limits c.none-all.result empty.ports empty.filters empty.gates empty.meters in
    (search rules, subst (λ s. ReadsDocument c.args.text.now s c.in_ok-limits.behind.now) trays begun)

pub returns-then-is_empty : goal.returns-then-is_empty
returns-then-is_empty c =
    let rest = c.tables.rest.now in
    let start_is = c.skip_blank-start.ensures.rest in
    let ends : length (skip_blank rest) ≡ 0 = grind (arith, common_steps) in
    let other : (first c.args.text.now == 0xEF) ≡ false = grind (arith, common_steps) in
    document_ended c.args.text.now _ rest c.tables.invariant.1 ends other

pub tables-preserved : goal.tables-preserved
tables-preserved c =
    let rest = c.tables.rest.now in
    let all = c.tables.all in
    let limits = c.in_ok-limits.limits in
    let kind = c.in_ok-kind.kind in
    let start_is = c.skip_blank-start.ensures.rest in
    let some : (length (skip_blank rest) == 0) ≡ false = grind (arith, common_steps) in
    let head = rw start_is at c.in_ok-kind.ensures.line in
    let before = c.skip_blank-start.ensures.within in
    let shorter = c.in_ok-kind.ensures.shorter in
    let added = table_added c.args.text.now _ rest _ c.in_ok-draft.after.now kind (tables_of kind all) c.in_ok-draft.draft
    c.tables.invariant.1 some head (omega arith) c.in_ok-draft.ensures.table (own_tray kind limits (λ kind. tables_of kind all)) in
    (search rules, subst (λ s. ReadsDocument c.args.text.now s c.in_ok-draft.after.now) (sym (c.in_ok-push.ensures limits)) added)
