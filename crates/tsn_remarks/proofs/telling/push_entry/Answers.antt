use Rattle.std.proofs.Common.{◌≡◌, rules, Some}
use Rattle.std.specs.FinMap.{get}
use Rattle.tsn_types.specs.declared.records.Record.TheVariants as records
use Rattle.tsn_remarks.proofs.Kept.{gate_removable, gate_within, meter_removable, port_within}
use Rattle.tsn_remarks.proofs.telling.push_entry.Goals as goal

pub push_list-requires : goal.push_list-requires
push_list-requires c =
    let there : get c.args.config.now.map c.args.key.now ≡ Some (records.Port c.in-Some-Port.port.now) = search rules in
    port_within c.args.config.now.limits c.args.config.now.map c.requires c.args.key.now c.in-Some-Port.port.now there

pub push_list-requires-in-Some-Gate : goal.push_list-requires-in-Some-Gate
push_list-requires-in-Some-Gate c =
    let there : get c.args.config.now.map c.args.key.now ≡ Some (records.Gate c.in-Some-Gate.gate.now) = search rules in
    gate_within c.args.config.now.limits c.args.config.now.map c.requires c.args.key.now c.in-Some-Gate.gate.now there

pub push_reference-requires-clause-removable : goal.push_reference-requires-clause-removable
push_reference-requires-clause-removable c =
    let there : get c.args.config.now.map c.args.key.now ≡ Some (records.Gate c.in-Some-Gate.gate.now) = search rules in
    gate_removable c.args.config.now.limits c.args.config.now.map c.requires c.args.key.now c.in-Some-Gate.gate.now there

pub push_reference-requires-in-Some-Meter-clause-removable :
    goal.push_reference-requires-in-Some-Meter-clause-removable
push_reference-requires-in-Some-Meter-clause-removable c =
    let there : get c.args.config.now.map c.args.key.now ≡ Some (records.Meter c.in-Some-Meter.field-0-0.now) = search rules in
    meter_removable c.args.config.now.limits c.args.config.now.map c.requires c.args.key.now c.in-Some-Meter.field-0-0.now there
