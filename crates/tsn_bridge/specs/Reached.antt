-- A state to which sessions brought a bridge.
use Rattle.std.specs.Prelude.{List}
use Rattle.tsn_types.specs.declared.keys.Key.{Key}
use Rattle.tsn_types.specs.declared.limits.Limits.{Limits}
use Rattle.tsn_types.specs.declared.records.Record.{Record}
use Rattle.tsn_bridge.specs.Beginning.{Opens, begun}
use Rattle.tsn_bridge.specs.Histories.{Answered, AreInRange, Leads}
use Rattle.tsn_bridge.specs.State.{State}

-- Limits and records opened a bridge, and what was asked of it led from there to this state. The numbers of what was asked are in
-- their ranges.
pub record IsReached (now : State) : Type 0 where
  pub limits : Limits
  pub given : List (Key × Record)
  pub opens : Opens limits given
  pub asks : List Answered
  pub ranges : AreInRange asks
  pub led : Leads (begun limits given) asks now
