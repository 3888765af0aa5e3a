-- What is shown of a key and a record reads back.
use Rattle.std.specs.Prelude.{◌≡◌, ℕ, List, Some, Ok}
use Rattle.tsn_commands.specs.declared.command.Command.TheVariants.{Create}
use Rattle.tsn_types.specs.declared.keys.Key.{Key}
use Rattle.tsn_types.specs.declared.records.Record.{Record}
use Rattle.tsn_types.specs.InRange.{KeyedInRange}
use Rattle.tsn_wire.specs.Reading.{data_of, line_of}
use Rattle.tsn_wire.specs.Values.{IsSession, value_of}

-- A line that is the value of a create, its record as it is shown, creates the record.
abbrev pub ReadsBack : Type 0
ReadsBack = (s : ℕ) (k : Key) (r : Record) (line : List ℕ) → IsSession s → KeyedInRange k r → data_of line ≡ Some (value_of s (Create k r))
    → line_of line ≡ Ok (record { session = s; command = Create k r })
