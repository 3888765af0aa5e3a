-- The setups of the worked examples.
use Rattle.std.proofs.Common.{◌≡◌, ℕ, List, [], ◌++◌, refl, ◌∙◌, ap}
use Rattle.std.specs.Fmt.{digits}
use Rattle.std.specs.List.{flat_map}
use Rattle.std.specs.Prelude.{filter}
use Rattle.tsn_config.specs.Opening.{default_ports, opening}
use Rattle.tsn_config.proofs.Listed.{from_sorted_list}
use Rattle.tsn_export.specs.Examples.{configuration, entries, filter_lines, gate_lines, limits, limits_lines, meter_lines, port_lines}
use Rattle.tsn_export.specs.Going.{Entries}
use Rattle.tsn_export.specs.Text.{limits_text, setup_text, table_text}
use Rattle.tsn_export.proofs.Named.{is_named, named_is}

-- the text of the limits and of the entries that are named
abbrev text_of : Entries → List ℕ
text_of es = limits_text limits ++ flat_map table_text (filter is_named es)

pub whole_written : setup_text limits configuration ≡ limits_lines ++ port_lines ++ filter_lines ++ gate_lines ++ meter_lines
unfolding digits
whole_written = ap (λ es. limits_text limits ++ flat_map table_text es) (named_is configuration) ∙ ap text_of
    (from_sorted_list entries refl)

pub standard_written : setup_text limits (opening limits []) ≡ limits_lines
unfolding digits
standard_written = ap (λ es. limits_text limits ++ flat_map table_text es) (named_is (opening limits [])) ∙ ap text_of
    (from_sorted_list (default_ports 2) refl)
