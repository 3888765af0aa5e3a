-- The rule of a command: why it is refused, what it answers and leaves where it is not, and whether it takes memory.
use Rattle.std.specs.Prelude.{◌≡◌, ◌⊎◌, ℕ, Bool, true, false, ◌&&◌, nat_lt, nat_le, List, Option, Some, MatchOption, IsTrue, option_map}
use Rattle.tsn_types.specs.declared.refusals.Refusal.{Refusal}
use Rattle.tsn_types.specs.declared.refusals.Refusal.TheVariants.{NoSession, Memory}
use Rattle.tsn_types.specs.Limits.{unless}
use Rattle.tsn_types.specs.Refusals.{least}
use Rattle.tsn_commands.specs.declared.reply.Reply.{Reply}
use Rattle.tsn_commands.specs.declared.reply.Reply.TheVariants.{Known, Refused}
use Rattle.tsn_bridge.specs.State.{State}

pub record Rule : Type 0 where
  -- why the command is refused
  pub causes : List (Option Refusal)
  -- the reply and the state after, where no cause holds; none only where one does
  pub done : Option (Reply × State)
  -- whether it takes memory
  pub takes_memory : Bool

-- where a cause holds, the one of the least number is the reply and the state stays; where none holds, it is done, or, of a command that
-- takes memory, 18 is the reply and the state stays
abbrev pub Allows : Rule → State → Reply → State → Type 0
Allows rule s reply new =
    MatchOption (least rule.causes)
    ((rule.done ≡ Some (reply, new)) ⊎ (IsTrue rule.takes_memory × (reply ≡ Refused Memory) × (new ≡ s)))
    (λ why. (reply ≡ Refused why) × (new ≡ s))

-- whether a command with this reply may have changed the state: not where it was refused, nor where a hello goes on as a session
abbrev pub may_change : Reply → Bool
may_change (Refused why) = false
may_change (Known n) = false
may_change reply = true

-- A look changes nothing: why it is refused, what it answers where no cause holds, and whether it takes memory.
pub record Look : Type 0 where
  pub causes : List (Option Refusal)
  pub answer : Option Reply
  pub takes_memory : Bool

-- its rule
abbrev pub look_rule : State → Look → Rule
look_rule s l =
    record { causes = l.causes; done = option_map {T = Reply} {U = Reply × State} (λ x. (x, s)) l.answer; takes_memory = l.takes_memory }

-- whether the session number was given out
abbrev pub is_given : State → ℕ → Bool
is_given s n = nat_lt 0 n && nat_le n s.sessions

-- the session number was not given out
abbrev pub no_session : State → ℕ → Option Refusal
no_session s n = unless (is_given s n) NoSession
