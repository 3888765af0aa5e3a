use Rattle.std.proofs.Common.{◌++◌}
use Rattle.std.specs.List.{flat_map}
use Rattle.std.specs.Prelude.{codes}
use Rattle.tsn_export.proofs.Lists.{IsLeft}
use Rattle.tsn_export.proofs.text.PlainText.list_lines.Given as goal

-- the lines that are left lead to those of the whole list
abbrev pub invariant-loop-entry : goal.invariant-loop-entry
invariant-loop-entry g l = IsLeft g.E.EntryLine.line l.entries l.entry-index l.self
    (l.fn.self ++ (codes "list = [\n" ++ flat_map g.E.EntryLine.line l.entries))
