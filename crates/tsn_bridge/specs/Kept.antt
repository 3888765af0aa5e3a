-- What ties instance data to the book, at every moment.
use Rattle.std.specs.Prelude.{◌≡◌, ℕ, Some}
use Rattle.std.specs.FinMap.{get}
use Rattle.tsn_types.specs.declared.records.PortEntry.{PortEntry}
use Rattle.tsn_types.specs.declared.records.GateEntry.{GateEntry}
use Rattle.tsn_schedule.specs.Kept.{Kept}
use Rattle.tsn_schedule.specs.Stands.{StandsFor}
use Rattle.tsn_undo.specs.Ledger.{Ledger, present}
use Rattle.tsn_chain.specs.Instances.{FrameData, HasKeys, Runners}
use Rattle.tsn_bridge.specs.Objects.{port_at, gate_at}

-- each runner stands for the acts of its port or gate in the journal
pub record RunsActs (b : Ledger) (r : Runners) : Type 0 where
  pub ports : (n : ℕ) (k : Kept PortEntry) → get r.ports n ≡ Some k → StandsFor k (port_at b n).acts
  pub gates : (n : ℕ) (k : Kept GateEntry) → get r.gates n ≡ Some k → StandsFor k (gate_at b n).acts

-- and instance data is there for just the keys of the present configuration
pub record IsTied (b : Ledger) (r : Runners) (f : FrameData) : Type 0 where
  pub runs : RunsActs b r
  pub keys : HasKeys r f (present b)
