-- What is asked of a bridge that was reached leads on from where it began.
use Rattle.std.proofs.Common.{◌≡◌, List, [], ◌∷◌, ◌++◌, refl, subst}
use Rattle.tsn_machine.specs.declared.history.Entry.{Entry}
use Rattle.tsn_machine.specs.History.{Runs}
use Rattle.tsn_commands.specs.declared.command.Ask.{Ask}
use Rattle.tsn_commands.specs.declared.reply.Reply.{Reply}
use Rattle.tsn_bridge.specs.Beginning.{IsOpened, begun}
use Rattle.tsn_bridge.specs.Histories.{Answered, Answers, AreInRange, Leads}
use Rattle.tsn_commands.specs.Commands.{CommandInRange}
use Rattle.tsn_bridge.specs.Later.{IsWhole}
use Rattle.tsn_bridge.specs.Reached.{IsReached}
use Rattle.tsn_bridge.specs.State.{State}
use Rattle.tsn_bridge.specs.Turns.{Turns, answered}
use Rattle.tsn_bridge.proofs.Later.{all_go_on, whole_begun}
use Rattle.tsn_bridge.proofs.Turning.{leads}

pub led_on : (front more : List Answered) (s between now : State) → Leads s front between → Leads between more now
    → Leads s (front ++ more) now
led_on [] more s between now same on = subst (λ (x : State). Leads x more now) same on
led_on (t ∷ front) more s between now (next, step, rest) on = (next, step, led_on front more next between now rest on)

pub ranges_on : (front more : List Answered) → AreInRange front → AreInRange more → AreInRange (front ++ more)
ranges_on [] more h k = k
ranges_on (t ∷ front) more h k = (h.0, ranges_on front more h.1 k)

-- nothing was asked yet of a bridge that has just been opened
pub opened_is_reached : (first : State) → IsOpened first → IsReached first
opened_is_reached first opened =
    record { limits = opened.limits; given = opened.given; opens = opened.opens; asks = []; ranges = tt; led = opened.is }

module _ (first : State) (reached : IsReached first) where
  -- where more is asked, that is reached, too
  pub reached_on : (more : List Answered) (now : State) → AreInRange more → Leads first more now → IsReached now
  reached_on more now ranges led = record {
    limits = reached.limits;
    given = reached.given;
    opens = reached.opens;
    asks = reached.asks ++ more;
    ranges = ranges_on reached.asks more reached.ranges ranges;
    led = led_on reached.asks more (begun reached.limits reached.given) first now reached.led led;
  }

  pub reached_by : (ask : Ask) (reply : Reply) (now : State) → CommandInRange ask.command → Answers first ask reply now → IsReached now
  reached_by ask reply now ranges step = reached_on (record { ask = ask; reply = reply } ∷ []) now (ranges, tt) (now, step, refl)

  -- the state to which a desk's history leads
  pub whole_there : (history : List (Entry Ask Reply)) (now : State) → Runs Turns first history now → IsReached now
  whole_there history now run = let more = leads history first now run in reached_on (answered history) now more.0 more.1

  pub whole_reached : IsWhole first
  whole_reached = (all_go_on reached.asks (begun reached.limits reached.given) first
      (whole_begun reached.limits reached.given reached.opens) reached.ranges reached.led).0

  -- its limits are those that opened it
  pub limits_reached : first.book.limits ≡ reached.limits
  limits_reached = (all_go_on reached.asks (begun reached.limits reached.given) first
      (whole_begun reached.limits reached.given reached.opens) reached.ranges reached.led).1.limits
