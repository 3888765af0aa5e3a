-- The line of an ask in the service's compact spelling.
use Rattle.std.specs.Prelude.{ℕ, List}
use Rattle.serde_json.specs.Written.{compact_text}
use Rattle.tsn_commands.specs.declared.command.Ask.{Ask}
use Rattle.tsn_wire.specs.Values.{value_of}

-- The value of the command as compact JSON: no space, the members in ascending order of their names, and no line feed,
-- not even at its end. A hello names no session.
abbrev pub line_text : Ask → List ℕ
line_text ask = compact_text (value_of ask.session ask.command)
