-- The value of what may be asked: its numbers fit 64 bits, and its texts are plain ASCII.
use Rattle.std.proofs.Common.{ℕ, suc, List, Some, None, refl, subst, arith}
use Rattle.std.specs.Prelude.{⊤}
use Rattle.tsn_commands.specs.declared.command.Command.{Command}
use Rattle.tsn_commands.specs.declared.command.Command.TheVariants as commands
use Rattle.tsn_edit.specs.declared.Edit.{Edit}
use Rattle.tsn_edit.specs.declared.Edit.TheVariants as edits
use Rattle.tsn_records.proofs.Pairs.{◌&◌}
use Rattle.tsn_records.specs.Shown.{port_entry_data, gate_entry_data, port_data, filter_data, gate_data, meter_data, record_data}
use Rattle.tsn_types.specs.Keys.{kind, number_of}
use Rattle.tsn_types.specs.declared.keys.Key.{Key}
use Rattle.tsn_types.specs.declared.keys.Key.TheVariants as keys
use Rattle.tsn_types.specs.declared.records.PortEntry.{PortEntry}
use Rattle.tsn_types.specs.declared.records.GateEntry.{GateEntry}
use Rattle.tsn_types.specs.declared.records.PortGates.{PortGates}
use Rattle.tsn_types.specs.declared.records.StreamGate.{StreamGate}
use Rattle.tsn_types.specs.declared.records.StreamFilter.{StreamFilter}
use Rattle.tsn_types.specs.declared.records.FlowMeter.{FlowMeter}
use Rattle.tsn_types.specs.declared.records.Record.{Record}
use Rattle.tsn_types.specs.declared.records.Record.TheVariants as records
use Rattle.tsn_types.specs.InRange.{PortEntryInRange, GateEntryInRange, PortInRange, GateInRange, FilterInRange, MeterInRange, RecordInRange, KeyedInRange}
use Rattle.tsn_wire.specs.Values.{edit_value, value_of, EditMayBeAsked, MayBeAsked}
use Rattle.tsn_records.specs.Values.{record_draft}
use Rattle.tsn_wire.proofs.CompactValues.{draft_shown}
use Rattle.tsn_wire.proofs.Known.{record_same}
use Rattle.tsn_wire.proofs.Backs.{IsPlain, items_plain, number_or_null}
use Rattle.tsn_wire.proofs.Visible.{IsShown, items_shown, key_shown, kind_shown}

-- ---- its numbers fit

port_entry_plain : (n : ℕ) (e : PortEntry) → PortEntryInRange e → IsPlain (suc n) (port_entry_data e)
port_entry_plain n e h = (omega (arith, h.gates), (omega (arith, h.interval.1), tt))

gate_entry_plain : (n : ℕ) (e : GateEntry) → GateEntryInRange e → IsPlain (suc n) (gate_entry_data e)
gate_entry_plain n e h =
    tt & number_or_null n _ e.ipv (λ a k. omega arith) h.ipv & omega (arith, h.interval.1) &
    number_or_null n _ e.octets (λ a k. omega arith) h.octets & tt

port_plain : (n : ℕ) (r : PortGates) → PortInRange r → IsPlain (suc (suc (suc n))) (port_data r)
port_plain n r h =
    refl & omega (arith, h.admin.base) & omega (arith, h.admin.cycle.1) & omega (arith, h.admin.extension) & omega (arith, h.gates) &
    items_plain (suc n) PortEntryInRange port_entry_data (port_entry_plain n) r.admin.list h.admin.list & tt

filter_plain : (n : ℕ) (r : StreamFilter) → FilterInRange r → IsPlain (suc n) (filter_data r)
filter_plain n r h =
    refl & omega (arith, h.gate) & number_or_null n _ r.handle (λ a k. omega arith) h.handle &
    number_or_null n _ r.max_sdu (λ a k. omega (arith, k.1)) h.max_sdu & number_or_null n _ r.meter (λ a k. omega arith) h.meter & tt &
    number_or_null n _ r.priority (λ a k. omega arith) h.priority & tt

gate_plain : (n : ℕ) (r : StreamGate) → GateInRange r → IsPlain (suc (suc (suc n))) (gate_data r)
gate_plain n r h =
    refl & omega (arith, h.admin.base) & omega (arith, h.admin.cycle.1) & omega (arith, h.admin.extension) & tt &
    number_or_null (suc (suc n)) _ r.ipv (λ a k. omega arith) h.ipv &
    items_plain (suc n) GateEntryInRange gate_entry_data (gate_entry_plain n) r.admin.list h.admin.list & tt & tt & tt

meter_plain : (n : ℕ) (r : FlowMeter) → MeterInRange r → IsPlain (suc n) (meter_data r)
meter_plain n r h =
    (refl, (tt, (tt, (omega (arith, h.cbs), (tt, (omega (arith, h.cir), (tt, (omega (arith, h.ebs), (omega (arith, h.eir), tt)))))))))

record_plain : (n : ℕ) (r : Record) → RecordInRange r → IsPlain (suc (suc (suc n))) (record_data r)
record_plain n (records.Port r) h = port_plain n r h
record_plain n (records.Filter r) h = filter_plain (suc (suc n)) r h
record_plain n (records.Gate r) h = gate_plain n r h
record_plain n (records.Meter r) h = meter_plain (suc (suc n)) r h

keyed : (k : Key) (r : Record) → KeyedInRange k r → RecordInRange r
keyed (keys.Port n) (records.Port r) h = h.1
keyed (keys.Filter n) (records.Filter r) h = h.1
keyed (keys.Gate n) (records.Gate r) h = h.1
keyed (keys.Meter n) (records.Meter r) h = h.1
keyed k r h = absurd h

edit_plain : (e : Edit) → EditMayBeAsked e → IsPlain 4 (edit_value e)
edit_plain (edits.Create k r) h = (refl, (tt, (tt, (record_plain 0 r (keyed k r h), tt))))
edit_plain (edits.Replace k r) h = (refl, (tt, (tt, (record_plain 0 r (keyed k r h), tt))))
edit_plain (edits.Remove k) h = (refl, (tt, (tt, tt)))

-- the value of a command
pub value_plain : (s : ℕ) (c : Command) → MayBeAsked s c → IsPlain 6 (value_of s c)
value_plain s (commands.Hello None) h = (refl, (tt, tt))
value_plain s (commands.Hello (Some name)) h = (refl, (tt, (tt, tt)))
value_plain s (commands.Create k r) h = (refl, (tt, (tt, (record_plain 2 r (keyed k r h.1), (omega (arith, h.0.1), tt)))))
value_plain s (commands.Replace k r) h = (refl, (tt, (tt, (record_plain 2 r (keyed k r h.1), (omega (arith, h.0.1), tt)))))
value_plain s (commands.Remove k) h = (refl, (tt, (tt, (omega (arith, h.0.1), tt))))
value_plain s (commands.Batch b) h = (refl, (tt, (items_plain 4 EditMayBeAsked edit_value edit_plain b h.2, (omega (arith, h.0.1), tt))))
value_plain s (commands.Settle upto) h = (refl, (tt, (omega (arith, h.0.1), (omega (arith, h.1), tt))))
value_plain s (commands.Enable k now) h = (refl, (tt, (tt, (omega (arith, h.1.instant), (omega (arith, h.0.1), tt)))))
value_plain s (commands.Disable k now) h = (refl, (tt, (tt, (omega (arith, h.1.instant), (omega (arith, h.0.1), tt)))))
value_plain s (commands.Apply k now) h = (refl, (tt, (tt, (omega (arith, h.1.instant), (omega (arith, h.0.1), tt)))))
value_plain s (commands.Frame f now) h = (
  refl,
  (
    tt,
    (
      omega (arith, h.1.handle),
      (omega (arith, h.1.now), (omega (arith, h.1.octets), (omega (arith, h.1.priority), (omega (arith, h.0.1), (tt, tt))))),
    ),
  ),
)
value_plain s (commands.States k at) h = (refl, (omega (arith, h.1.instant), (tt, (tt, (omega (arith, h.0.1), tt)))))
value_plain s (commands.Counters k) h = (refl, (tt, (tt, (omega (arith, h.0.1), tt))))
value_plain s (commands.Show k) h = (refl, (tt, (tt, (omega (arith, h.0.1), tt))))
value_plain s (commands.List k) h = (refl, (tt, (tt, (omega (arith, h.1), tt))))
value_plain s (commands.Since after) h = (refl, (omega (arith, h.1), (tt, (omega (arith, h.0.1), tt))))
value_plain s c h = (refl, (tt, (omega (arith, h.1), tt)))

-- ---- its texts are plain

record_shown : (r : Record) → IsShown (record_data r)
record_shown r = subst IsShown (record_same r) (draft_shown (record_draft r))

edit_shown : (e : Edit) → IsShown (edit_value e)
edit_shown (edits.Create k r) = (refl, refl, (refl, key_shown (kind k) (number_of k), (refl, record_shown r, tt)))
edit_shown (edits.Replace k r) = (refl, refl, (refl, key_shown (kind k) (number_of k), (refl, record_shown r, tt)))
edit_shown (edits.Remove k) = (refl, refl, (refl, key_shown (kind k) (number_of k), tt))

-- no hello by a name, whose text need not be plain
abbrev pub IsUnnamed : Command → Type 0
IsUnnamed (commands.Hello (Some name)) = ⊥
IsUnnamed c = ⊤

pub value_shown : (s : ℕ) (c : Command) → IsUnnamed c → IsShown (value_of s c)
value_shown s (commands.Hello None) h = (refl, refl, tt)
value_shown s (commands.Hello (Some name)) h = absurd h
value_shown s (commands.Create k r) h = (refl, refl, (refl, key_shown (kind k) (number_of k), (refl, record_shown r, (refl, tt, tt))))
value_shown s (commands.Replace k r) h = (refl, refl, (refl, key_shown (kind k) (number_of k), (refl, record_shown r, (refl, tt, tt))))
value_shown s (commands.Remove k) h = (refl, refl, (refl, key_shown (kind k) (number_of k), (refl, tt, tt)))
value_shown s (commands.Batch b) h = (refl, refl, (refl, items_shown edit_value edit_shown b, (refl, tt, tt)))
value_shown s (commands.Settle upto) h = (refl, refl, (refl, tt, (refl, tt, tt)))
value_shown s (commands.Enable k now) h = (refl, refl, (refl, key_shown (kind k) (number_of k), (refl, tt, (refl, tt, tt))))
value_shown s (commands.Disable k now) h = (refl, refl, (refl, key_shown (kind k) (number_of k), (refl, tt, (refl, tt, tt))))
value_shown s (commands.Apply k now) h = (refl, refl, (refl, key_shown (kind k) (number_of k), (refl, tt, (refl, tt, tt))))
value_shown s (commands.Frame f now) h = (refl, refl, (refl, tt, (refl, tt, (refl, tt, (refl, tt, (refl, tt, (refl, tt, tt)))))))
value_shown s (commands.States k at) h = (refl, tt, (refl, refl, (refl, key_shown (kind k) (number_of k), (refl, tt, tt))))
value_shown s (commands.Counters k) h = (refl, refl, (refl, key_shown (kind k) (number_of k), (refl, tt, tt)))
value_shown s (commands.Show k) h = (refl, refl, (refl, key_shown (kind k) (number_of k), (refl, tt, tt)))
value_shown s (commands.List k) h = (refl, refl, (refl, kind_shown k, (refl, tt, tt)))
value_shown s (commands.Since after) h = (refl, tt, (refl, refl, (refl, tt, tt)))
value_shown s c h = (refl, refl, (refl, tt, tt))

-- what holds of hellos by a name and of all others holds of each
pub by_name : (P : Command → Type 0) → ((name : List ℕ) → P (commands.Hello (Some name))) → ((c : Command) → IsUnnamed c → P c)
    → (c : Command) → P c
by_name P named other (commands.Hello (Some name)) = named name
by_name P named other c = other c tt
