-- What a well kept configuration has at a key: lists within the limit, and a key of the record's kind.
use Rattle.std.proofs.Common.{◌≡◌, ◌≤◌, arith, false, length, refl, Some}
use Rattle.std.specs.FinMap.{get}
use Rattle.tsn_types.specs.Bounds.{longest_list}
use Rattle.tsn_types.specs.Limits.{HoldsRecord}
use Rattle.tsn_types.specs.declared.keys.Key.{Key}
use Rattle.tsn_types.specs.declared.keys.Key.TheVariants.{Port, Gate, Meter}
use Rattle.tsn_types.specs.declared.limits.Limits.{Limits}
use Rattle.tsn_types.specs.declared.records.FlowMeter.{FlowMeter}
use Rattle.tsn_types.specs.declared.records.PortGates.{PortGates}
use Rattle.tsn_types.specs.declared.records.Record.TheVariants as records
use Rattle.tsn_types.specs.declared.records.StreamGate.{StreamGate}
use Rattle.tsn_edit.specs.Configuration.{Configuration, IsWellKept}
use Rattle.tsn_edit.specs.Edits.{is_port}

port_list : (l : Limits) (k : Key) (r : PortGates) → HoldsRecord l k (records.Port r) → length r.admin.list ≤ l.list
port_list l (Port n) r h = h
port_list l k r h = absurd h

gate_list : (l : Limits) (k : Key) (r : StreamGate) → HoldsRecord l k (records.Gate r) → length r.admin.list ≤ l.list
gate_list l (Gate n) r h = h
gate_list l k r h = absurd h

gate_key : (l : Limits) (k : Key) (r : StreamGate) → HoldsRecord l k (records.Gate r) → is_port k ≡ false
gate_key l (Gate n) r h = refl
gate_key l k r h = absurd h

meter_key : (l : Limits) (k : Key) (r : FlowMeter) → HoldsRecord l k (records.Meter r) → is_port k ≡ false
meter_key l (Meter n) r h = refl
meter_key l k r h = absurd h

module _ (l : Limits) (c : Configuration) (kept : IsWellKept l c) (k : Key) where
  pub port_within : (r : PortGates) → get c k ≡ Some (records.Port r) → length r.admin.list ≤ longest_list
  port_within r is = omega (arith, port_list l k r (kept.within k (records.Port r) is).1, kept.limits.1.1.1.1.1)

  pub gate_within : (r : StreamGate) → get c k ≡ Some (records.Gate r) → length r.admin.list ≤ longest_list
  gate_within r is = omega (arith, gate_list l k r (kept.within k (records.Gate r) is).1, kept.limits.1.1.1.1.1)

  pub gate_removable : (r : StreamGate) → get c k ≡ Some (records.Gate r) → is_port k ≡ false
  gate_removable r is = gate_key l k r (kept.within k (records.Gate r) is).1

  pub meter_removable : (r : FlowMeter) → get c k ≡ Some (records.Meter r) → is_port k ≡ false
  meter_removable r is = meter_key l k r (kept.within k (records.Meter r) is).1
