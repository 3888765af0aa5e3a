-- What an answer unfolds to compute what a literal line asks for.
use Rattle.std.specs.Prelude.{⊤}
use Rattle.std.specs.Str.{is_utf8, chars}
use Rattle.serde_json.proofs.OnLiterals.{serde_json_on_literals}
use Rattle.tsn_records.specs.Ranges.{schedule, port_entry, gate_entry, port, gate, filter, meter}
use Rattle.tsn_records.specs.Records.{gate_entry_shape, member_shape, port_entry_shape, record_shape}
use Rattle.tsn_records.specs.Values.{typed}
use Rattle.tsn_wire.specs.Commands.{line_shape, named_shape, command_shape, batch_shape, edit_shape, keyed_record, listed_at, removed_key, frame_members, frame_shape}
use Rattle.tsn_wire.specs.Ranges.{frame_of_draft}
use Rattle.tsn_wire.specs.Words.{word_of}

unfoldable pub lines_on_literals : ⊤
unfolding serde_json_on_literals is_utf8 chars word_of line_shape named_shape command_shape batch_shape edit_shape keyed_record
    removed_key listed_at frame_shape frame_members frame_of_draft record_shape member_shape typed gate_entry_shape port_entry_shape
    filter meter gate schedule gate_entry port port_entry
lines_on_literals = tt
