use Rattle.tsn_export.specs.Text.{setup_text}
use Rattle.tsn_export.proofs.Lists.{IsLeft}
use Rattle.tsn_export.proofs.Whole.{all_kinds, rows}
use Rattle.tsn_export.proofs.exporting.export_setup.Given as goal

-- the tables of the kinds that are left are still to come
abbrev pub invariant-loop-kind : goal.invariant-loop-kind
invariant-loop-kind l = IsLeft (rows l.config.map) all_kinds l.kind-index l.text (setup_text l.config.limits l.config.map)
