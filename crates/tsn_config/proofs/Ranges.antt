-- What stands in a well kept configuration is in range.
use Rattle.std.proofs.Common.{◌≡◌, Some, arith}
use Rattle.std.specs.FinMap.{get}
use Rattle.tsn_types.specs.declared.keys.Key.{Key}
use Rattle.tsn_types.specs.declared.records.Record.{Record}
use Rattle.tsn_types.specs.declared.limits.Limits.{Limits}
use Rattle.tsn_types.specs.Bounds.{AreInRange}
use Rattle.tsn_types.specs.InRange.{KeyedInRange, RecordInRange}
use Rattle.tsn_types.specs.Limits.{HoldsKey, HoldsRecord}
use Rattle.tsn_edit.specs.Configuration.{Configuration, IsWellKept}

keyed : (l : Limits) (k : Key) (r : Record) → AreInRange l → HoldsKey l k → HoldsRecord l k r → RecordInRange r → KeyedInRange k r
keyed l k r bounds key kind ranges = grind arith

pub kept_in_range : (l : Limits) (c : Configuration) (k : Key) (r : Record) → IsWellKept l c → get c k ≡ Some r → KeyedInRange k r
kept_in_range l c k r kept is = let holds = kept.within k r is in keyed l k r kept.limits holds.0 holds.1 (kept.in_range k r is)
