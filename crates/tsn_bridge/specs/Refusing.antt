-- Why a command that changes what a bridge keeps would be refused, whatever memory there is.
use Rattle.std.specs.Prelude.{◌≡◌, ℕ, Option, None}
use Rattle.tsn_types.specs.declared.refusals.Refusal.{Refusal}
use Rattle.tsn_types.specs.Refusals.{least}
use Rattle.tsn_commands.specs.declared.command.Command.{Command}
use Rattle.tsn_bridge.specs.Families.{Counting, Family, Framing, Looking, OfRule, family}
use Rattle.tsn_bridge.specs.State.{State}

-- the least of the causes of the family's rule, or none where none holds; that of a look and of a frame is not told
abbrev pub IsCauseIn : State → ℕ → Family → Option Refusal → Type 0
IsCauseIn s n (Framing frame now) why = why ≡ None
IsCauseIn s n (Looking look) why = why ≡ None
IsCauseIn s n (Counting look) why = why ≡ None
IsCauseIn s n f why = OfRule s n f (λ rule. why ≡ least rule.causes)

abbrev pub IsCause : State → ℕ → Command → Option Refusal → Type 0
IsCause s n command why = IsCauseIn s n (family command) why
