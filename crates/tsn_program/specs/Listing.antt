-- The states of a port at even steps, as lines.
use Rattle.std.specs.Prelude.{◌≡◌, ◌⊎◌, ℕ, zero, suc, ◌+◌, ◌-◌, ◌*◌, ◌/◌, ◌%◌, ◌<◌, nat_le, nat_lt, Bool, true, false, List, [], ◌∷◌, ◌++◌, if◌then◌else◌, Option, Some, None, is_some, ◌≤◌, codes, decimal}
use Rattle.std.specs.FinMap.{get}
use Rattle.std.specs.Io.KnownBytes.{Appends}
use Rattle.tsn_types.specs.declared.keys.Key.{Key}
use Rattle.tsn_types.specs.declared.keys.Key.TheVariants.{Port}
use Rattle.tsn_types.specs.declared.limits.Limits.{Limits}
use Rattle.tsn_types.specs.declared.refusals.Field.TheVariants as fields
use Rattle.tsn_types.specs.declared.refusals.Refusal.{Refusal}
use Rattle.tsn_types.specs.declared.refusals.Refusal.TheVariants.{Range}
use Rattle.tsn_types.specs.Limits.{first_cause, holds_key, unless}
use Rattle.tsn_types.specs.Numbers.{greatest_instant}
use Rattle.tsn_chain.specs.declared.state.State.{State as Shown}
use Rattle.tsn_chain.specs.declared.state.State.TheVariants as shown
use Rattle.tsn_undo.specs.Ledger.{present}
use Rattle.tsn_bridge.specs.Acts.{has_entry}
use Rattle.tsn_bridge.specs.Looking.{last_at, shown_at}
use Rattle.tsn_bridge.specs.Machine.{Step}
use Rattle.tsn_bridge.specs.Rule.{is_given}
use Rattle.tsn_bridge.specs.State.{State}
use Rattle.tsn_commands.specs.declared.command.Command.{Command}
use Rattle.tsn_commands.specs.declared.command.Command.TheVariants as commands
use Rattle.tsn_commands.specs.declared.reply.Reply.{Reply}
use Rattle.tsn_commands.specs.declared.reply.Reply.TheVariants as replies
use Rattle.tsn_bytes.specs.Bytes.{IsCut}
use Rattle.tsn_words.specs.declared.arguments.Listing.{Listing}

-- the instant of a line; the first line has the number 0
abbrev pub instant_of : Listing → ℕ → ℕ
instant_of x n = x.from + x.step * n

-- Before any line: a port that the bridge does not have, and a last instant that is greater than any.
abbrev pub listing_refusal : Limits → Listing → Option Refusal
listing_refusal limits x = first_cause (
    unless (holds_key limits (Port x.port)) (Range fields.Key)
    ∷ unless (nat_le (instant_of x (x.count - 1)) greatest_instant) (Range fields.At)
    ∷ [])

-- a digit below 16: 0 to 9, then a to f
abbrev pub hexadecimal : ℕ → ℕ
hexadecimal n = if nat_lt n 10 then 48 + n else 87 + n

-- an instant in decimal and the eight gates in two hexadecimal digits
abbrev pub state_line : ℕ → Option Shown → List ℕ
state_line t (Some (shown.Port gates)) = decimal t ++ codes " " ++ hexadecimal (gates / 16) ∷ hexadecimal (gates % 16) ∷ codes "\n"
state_line t (Some (shown.Gate is_open ipv)) = []
state_line t None = []

-- the gates of a port that a reply tells
abbrev pub gates_told : Reply → Option ℕ
gates_told (replies.States (shown.Port gates)) = Some gates
gates_told reply = None

-- what a key shows at an instant
abbrev pub shows : State → Key → ℕ → Option Shown
shows s k t = shown_at s.book k (get (present s.book) k) t

-- the line of a number
abbrev pub line_at : State → Listing → ℕ → List ℕ
line_at s x n = state_line (instant_of x n) (shows s (Port x.port) (instant_of x n))

-- the first lines, so many
abbrev pub lines : State → Listing → ℕ → List ℕ
lines s x zero = []
lines s x (suc n) = lines s x n ++ line_at s x n

-- why a reply is a refusal, if it is one
abbrev pub refusal_told : Reply → Option Refusal
refusal_told (replies.Refused why) = Some why
refusal_told reply = None

-- A command was taken, and answered by other than a refusal.
abbrev pub Takes : State → ℕ → Command → State → Type 0
Takes s n command new = (reply : Reply) × Step s n command reply new × (refusal_told reply ≡ None)

-- A command was refused.
abbrev pub IsRefused : State → ℕ → Command → Refusal → Type 0
IsRefused s n command why = (reply : Reply) × (new : State) × Step s n command reply new × (refusal_told reply ≡ Some why)

-- The list of a port is applied, where it has an entry.
abbrev pub Applies : Bool → State → ℕ → ℕ → State → Type 0
Applies true s port now new = Takes s 1 (commands.Apply (Port port) now) new
Applies false s port now new = new ≡ s

-- From a bridge that has given out no session: a hello, then the port is enabled at the first instant, and its list is
-- applied then, where it has an entry.
abbrev pub Enables : State → ℕ → ℕ → State → Type 0
Enables s port now new = (greeted : State) × (enabled : State)
    × Takes s 0 (commands.Hello None) greeted
    × Takes greeted 1 (commands.Enable (Port port) now) enabled
    × Applies (has_entry (get (present s.book) (Port port))) enabled port now new

-- One of these commands was refused.
abbrev pub EnablesNot : State → ℕ → ℕ → Refusal → Type 0
EnablesNot s port now why =
    IsRefused s 0 (commands.Hello None) why
    ⊎ ((greeted : State) × Takes s 0 (commands.Hello None) greeted × (IsRefused greeted 1 (commands.Enable (Port port) now) why
    ⊎ ((enabled : State) × Takes greeted 1 (commands.Enable (Port port) now) enabled
    × IsRefused enabled 1 (commands.Apply (Port port) now) why)))

-- Nothing refuses session 1 a look at the port from the instant on: both are there, and no act on the port is later.
pub record IsSeenFrom (s : State) (port from : ℕ) : Type 0 where
  pub within : holds_key s.book.limits (Port port) ≡ true
  pub given : is_given s 1 ≡ true
  pub there : is_some (get (present s.book) (Port port)) ≡ true
  pub last : last_at s.book (Port port) ≤ from

-- The writer failed in one of the lines; the lines before it were written.
abbrev pub EndsEarly : State → Listing → Option (List ℕ) → Option (List ℕ) → Type 0
EndsEarly s x old new = (n : ℕ) × (before : Option (List ℕ)) × (n < x.count)
    × Appends old before (lines s x n)
    × IsCut before new (line_at s x n)
