-- The names that each table of a setup may have, as the table of members has them, with what was read of it.
use Rattle.std.specs.Prelude.{◌≡◌, List, [], ◌∷◌, ◌++◌, map}
use Rattle.std.specs.List.{zip}
use Rattle.tsn_types.specs.declared.keys.Kind.{Kind}
use Rattle.tsn_types.specs.declared.keys.Kind.TheVariants.{Port, Filter, Gate, Meter}
use Rattle.tsn_records.specs.Keys.{kind_text}
use Rattle.tsn_records.specs.Members.{names_of, entry_names_of, setup_names}
use Rattle.tsn_setup.specs.Plain.{Trays, number, flag, port_list, gate_list, tables, put_tray}
use Rattle.tsn_setup.specs.declared.drafts.LimitsDraft.{LimitsDraft}
use Rattle.tsn_setup.specs.declared.drafts.TableDraft.{TableDraft}
use Rattle.tsn_setup.specs.declared.drafts.PlainPortEntry.{PlainPortEntry}
use Rattle.tsn_setup.specs.declared.drafts.PlainGateEntry.{PlainGateEntry}
use Rattle.tsn_setup.specs.declared.drafts.PlainPort.{PlainPort}
use Rattle.tsn_setup.specs.declared.drafts.PlainGate.{PlainGate}
use Rattle.tsn_setup.specs.declared.drafts.PlainFilter.{PlainFilter}
use Rattle.tsn_setup.specs.declared.drafts.PlainMeter.{PlainMeter}
use Rattle.tsn_setup.specs.declared.plain_documents.DocumentTables.{DocumentTables}

-- what was read of a table's members, each under its name
abbrev pub port_entry_trays : PlainPortEntry → Trays
port_entry_trays m = zip (entry_names_of Port) (number m.gates ∷ number m.interval ∷ [])

abbrev pub gate_entry_trays : PlainGateEntry → Trays
gate_entry_trays m = zip (entry_names_of Gate) (flag m.open ∷ number m.ipv ∷ number m.interval ∷ number m.octets ∷ [])

abbrev pub port_trays : PlainPort → Trays
port_trays m = zip (names_of Port)
    (number m.id ∷ number m.gates ∷ port_list m.list ∷ number m.cycle ∷ number m.extension ∷ number m.base ∷ [])

abbrev pub gate_trays : PlainGate → Trays
gate_trays m = zip (names_of Gate)
    (number m.id ∷ flag m.open ∷ number m.ipv ∷ gate_list m.list ∷ number m.cycle ∷ number m.extension ∷ number m.base ∷
    flag m.invalid_rx ∷ flag m.octets_exceeded ∷ [])

abbrev pub filter_trays : PlainFilter → Trays
filter_trays m = zip (names_of Filter)
    (number m.id ∷ number m.handle ∷ number m.priority ∷ number m.gate ∷ number m.max_sdu ∷ number m.meter ∷ flag m.oversize ∷ [])

abbrev pub meter_trays : PlainMeter → Trays
meter_trays m = zip (names_of Meter)
    (number m.id ∷ number m.cir ∷ number m.cbs ∷ number m.eir ∷ number m.ebs ∷ flag m.cf ∷ flag m.aware ∷ flag m.drop_yellow ∷
    flag m.all_red ∷ [])

abbrev pub limits_trays : LimitsDraft → Trays
limits_trays m =
    zip setup_names (number m.ports ∷ number m.max_filters ∷ number m.max_gates ∷ number m.max_meters ∷ number m.list_max ∷ [])

-- the members of a document: the limits, and the tables of each kind
abbrev pub whole_trays : LimitsDraft → (Kind → List TableDraft) → Trays
whole_trays m ts = limits_trays m ++ map (λ kind. (kind_text kind, tables kind (ts kind))) (Port ∷ Filter ∷ Gate ∷ Meter ∷ [])

-- the tables of a kind
abbrev pub tables_of : Kind → DocumentTables → List TableDraft
tables_of Port t = t.ports.items
tables_of Filter t = t.filters.items
tables_of Gate t = t.gates.items
tables_of Meter t = t.meters.items

abbrev pub document_trays : LimitsDraft → DocumentTables → Trays
document_trays m t = whole_trays m (λ kind. tables_of kind t)

-- one table more, of that kind
abbrev pub HasOneMore : Kind → TableDraft → DocumentTables → DocumentTables → Type 0
HasOneMore kind draft before after = (limits : LimitsDraft)
    → document_trays limits after
    ≡ put_tray (kind_text kind) (tables kind (tables_of kind before ++ draft ∷ [])) (document_trays limits before)
