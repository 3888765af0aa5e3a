-- The bridge as a machine: what a command of a session may be answered, and the state after it.
use Rattle.std.specs.Prelude.{ℕ}
use Rattle.tsn_commands.specs.declared.command.Command.{Command}
use Rattle.tsn_commands.specs.declared.reply.Reply.{Reply}
use Rattle.tsn_bridge.specs.Families.{Family, OfRule, family}
use Rattle.tsn_bridge.specs.Rule.{Allows}
use Rattle.tsn_bridge.specs.State.{State}

-- the rule of the family allows the reply and the state after it
abbrev pub Goes : State → ℕ → Family → Reply → State → Type 0
Goes s n f reply new = OfRule s n f (λ rule. Allows rule s reply new)

-- a step of the machine: so does that of the command's
abbrev pub Step : State → ℕ → Command → Reply → State → Type 0
Step s n command reply new = Goes s n (family command) reply new
