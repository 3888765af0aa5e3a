-- What holds of the line of an ask: it reads back, it has no line feed, and what was read may be asked.
use Rattle.std.specs.Prelude.{◌≡◌, ◌≢◌, ℕ, ◌≤◌, List, Option, All, Ok, length}
use Rattle.tsn_commands.specs.declared.command.Ask.{Ask}
use Rattle.tsn_commands.specs.declared.command.Command.{Command}
use Rattle.tsn_commands.specs.declared.command.Command.TheVariants.{Hello, Enable, Disable, Apply}
use Rattle.tsn_commands.specs.Commands.{CommandInRange}
use Rattle.tsn_types.specs.declared.keys.Key.{Key}
use Rattle.tsn_types.specs.Numbers.{IsInstant}
use Rattle.tsn_wire.specs.Reading.{line_of}
use Rattle.tsn_wire.specs.Values.{MayBeAsked}
use Rattle.tsn_spelling.specs.Line.{line_text}

-- The line of what may be asked asks for that.
abbrev pub ReadsBack : Type 0
ReadsBack = (s : ℕ) (command : Command) → MayBeAsked s command
    → line_of (line_text (record { session = s; command = command })) ≡ Ok (record { session = s; command = command })

-- None of its bytes is a line feed, whatever is asked.
abbrev pub HasNoLineFeed : Type 0
HasNoLineFeed = (ask : Ask) → All (λ byte. byte ≢ 10) (line_text ask)

-- What a line asks may be asked, and its own line asks for the same.
abbrev pub WasAsked : Type 0
WasAsked = (line : List ℕ) (ask : Ask) → line_of line ≡ Ok ask → MayBeAsked ask.session ask.command

abbrev pub IsAskedAgain : Type 0
IsAskedAgain = (line : List ℕ) (ask : Ask) → line_of line ≡ Ok ask → line_of (line_text ask) ≡ Ok ask

-- Its own line is no longer than the line that was read.
abbrev pub IsNoLonger : Type 0
IsNoLonger = (line : List ℕ) (ask : Ask) → line_of line ≡ Ok ask → length (line_text ask) ≤ length line

-- A hello may be asked, of session 0, by a name that may be one or by none.
abbrev pub HelloMayBeAsked : Type 0
HelloMayBeAsked = (name : Option (List ℕ)) → CommandInRange (Hello name) → MayBeAsked 0 (Hello name)

-- An act that may be asked at one instant may be asked at each other one.
abbrev pub ActsAtAnyInstant : (Key → ℕ → Command) → Type 0
ActsAtAnyInstant act = (s : ℕ) (k : Key) (a b : ℕ) → MayBeAsked s (act k a) → IsInstant b → MayBeAsked s (act k b)

abbrev pub ActsMayBeAsked : Type 0
ActsMayBeAsked = ActsAtAnyInstant Enable × ActsAtAnyInstant Disable × ActsAtAnyInstant Apply
