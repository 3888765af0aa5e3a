use Rattle.std.proofs.Common.{◌<◌, ◌++◌, append_assoc, ap, length, sym, ◌∙◌, rules}
use Rattle.std.specs.List.{flat_map}
use Rattle.std.specs.Prelude.{codes}
use Rattle.std.proofs.lemmas.Result.{on_ok_weaker}
use Rattle.tsn_export.proofs.Lists.{bracketed, left_end, left_more}
use Rattle.tsn_export.proofs.text.PlainText.list_lines.Goals as goal

pub loop-entry-init : goal.loop-entry-init
loop-entry-init g c =
    let lines = flat_map g.E.EntryLine.line c.args.entries.now in
    ap (λ t. t ++ lines) c.in_ok-push.ensures ∙ append_assoc c.args.self.now (codes "list = [\n") lines

pub loop-entry-preserved : goal.loop-entry-preserved
loop-entry-preserved g c =
    left_more g.E.EntryLine.line c.args.entries.now c.loop-entry.entry-index c.loop-entry.self _ c.loop-entry.invariant
    c.entry-item.result c.entry-item.result c.put_line.new.text c.loop-entry-test.true c.entry-item.is c.in_ok-put_line.ensures

pub returns : goal.returns
returns g c =
    let line = g.E.EntryLine.line in
    let entries = c.args.entries.now in
    let old = c.args.self.now in
    let some : 0 < length entries = search rules in
    let written = left_end line entries c.loop-entry.entry-index c.loop-entry.self _ c.loop-entry.invariant c.loop-entry-test.false in
    on_ok_weaker c.push-3.result
    (λ last. last ∙ ap (λ t. t ++ codes "]\n") written ∙ append_assoc old (codes "list = [\n" ++ flat_map line entries) (codes "]\n")
    ∙ ap (λ t. old ++ t) (sym (bracketed line entries some)))
    c.push-3.ensures
