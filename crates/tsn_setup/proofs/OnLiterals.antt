-- What an answer unfolds to compute what a literal document sets up.
use Rattle.std.specs.Prelude.{⊤}
use Rattle.std.specs.Str.{is_utf8, chars}
use Rattle.toml.proofs.OnLiterals.{toml_on_literals}
use Rattle.tsn_records.specs.Ranges.{port, filter, gate, meter, schedule, port_entry, gate_entry}
use Rattle.tsn_setup.specs.Ranges.{limits, keyed_record}
use Rattle.tsn_setup.specs.Setups.{setup_shape, setup_of_draft}
use Rattle.tsn_records.specs.Records.{gate_entry_shape, member_shape, port_entry_shape, record_shape}
use Rattle.tsn_records.specs.Values.{typed}
use Rattle.tsn_setup.specs.Tables.{limits_shape, tables_shape, tables_of_kind, table_shape}

unfoldable pub setups_on_literals : ⊤
unfolding toml_on_literals is_utf8 chars setup_shape setup_of_draft limits_shape tables_shape tables_of_kind table_shape record_shape
    member_shape typed port_entry_shape gate_entry_shape limits keyed_record port filter gate
    meter schedule port_entry gate_entry
setups_on_literals = tt
