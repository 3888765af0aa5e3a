use Rattle.std.proofs.Common.{◌≡◌, ◌++◌, List}
use Rattle.std.specs.FinMap.{from_entries}
use Rattle.tsn_types.specs.declared.keys.Key.{Key}
use Rattle.tsn_types.specs.declared.records.Record.{Record}
use Rattle.tsn_config.specs.Opening.{default_ports}
use Rattle.tsn_config.proofs.opening.add_ports.Given as goal

-- the ports up to the index are there
abbrev pub invariant-loop-index : goal.invariant-loop-index
invariant-loop-index l =
    (es : List (Key × Record)) → l.fn.rows.map ≡ from_entries es → l.rows.map ≡ from_entries (es ++ default_ports l.index)
