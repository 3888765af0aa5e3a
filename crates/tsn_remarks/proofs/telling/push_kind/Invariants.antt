use Rattle.std.proofs.Common.{◌++◌}
use Rattle.std.specs.FinMap.{entries}
use Rattle.std.specs.List.{flat_map}
use Rattle.tsn_export.proofs.Along.{text_at}
use Rattle.tsn_export.proofs.Lists.{IsLeft}
use Rattle.tsn_remarks.specs.Remarks.{remarks_on}
use Rattle.tsn_remarks.proofs.telling.push_kind.Given as goal

-- the lines on what has the numbers that are left are still to come
abbrev pub invariant-loop-id : goal.invariant-loop-id
invariant-loop-id l =
    let lines = text_at (remarks_on (entries l.config.map)) l.config.map l.kind in
    IsLeft lines l.id-items l.id-index l.text (l.fn.text ++ flat_map lines l.id-items)
