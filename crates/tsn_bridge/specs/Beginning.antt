-- What a bridge begins with.
use Rattle.std.specs.Prelude.{◌≡◌, List, [], None}
use Rattle.tsn_types.specs.Bounds.{AreInRange}
use Rattle.tsn_types.specs.declared.keys.Key.{Key}
use Rattle.tsn_types.specs.declared.records.Record.{Record}
use Rattle.tsn_types.specs.declared.limits.Limits.{Limits}
use Rattle.tsn_config.specs.Opening.{AreOfKind, RecordsInRange, opening, opening_refusal, standard_limits}
use Rattle.tsn_chain.specs.Begun.{begun_frames}
use Rattle.tsn_bridge.specs.State.{State}

-- The opening of these records, with no entry and no session, at the instant 0; instance data is new.
abbrev pub begun : Limits → List (Key × Record) → State
begun limits records = record {
  book = record { limits = limits; opening = opening limits records; entries = [] };
  sessions = 0;
  names = [];
  time = 0;
  frames = begun_frames (opening limits records);
}

-- limits and records that open a bridge: their numbers are in their ranges and the records of their keys' kinds, as their
-- types keep, and nothing refuses the opening
pub record Opens (limits : Limits) (records : List (Key × Record)) : Type 0 where
  pub bounds : AreInRange limits
  pub kinds : AreOfKind records
  pub ranges : RecordsInRange records
  pub admitted : opening_refusal limits records ≡ None

-- a bridge of which nothing was said
abbrev pub standard : State
standard = begun standard_limits []

-- a state with which a bridge may begin: limits and records that open one have made it
pub record IsOpened (first : State) : Type 0 where
  pub limits : Limits
  pub given : List (Key × Record)
  pub opens : Opens limits given
  pub is : first ≡ begun limits given
