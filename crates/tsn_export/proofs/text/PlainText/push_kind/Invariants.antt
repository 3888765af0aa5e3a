use Rattle.std.proofs.Common.{◌++◌}
use Rattle.std.specs.List.{flat_map}
use Rattle.tsn_export.specs.Going.{entry_text}
use Rattle.tsn_export.proofs.Along.{text_at}
use Rattle.tsn_export.proofs.Lists.{IsLeft}
use Rattle.tsn_export.proofs.text.PlainText.push_kind.Given as goal

-- the texts at the numbers that are left are still to come
abbrev pub invariant-loop-id : goal.invariant-loop-id
invariant-loop-id l = IsLeft (text_at entry_text l.config.map l.kind) l.id-items l.id-index l.self
    (l.fn.self ++ flat_map (text_at entry_text l.config.map l.kind) l.id-items)
