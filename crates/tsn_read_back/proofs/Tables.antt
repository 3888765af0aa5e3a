-- Tables of records that are read back.
use Rattle.std.proofs.Common.{◌≡◌, ℕ, ◌≤◌, List, [], ◌∷◌, ◌++◌, map, true, codes, Option, Some, None, IfSome, refl, subst, arith}
use Rattle.toml_parser.specs.Lexical.{skip_blank}
use Rattle.toml_writer.specs.Text.{key_text}
use Rattle.toml.specs.Tables.{array_table}
use Rattle.toml.proofs.Blanks.{skip_newline}
use Rattle.toml.proofs.ReadLines.{Turn, line_turn}
use Rattle.tsn_types.specs.Numbers.{Within, most_ports, greatest_instance, greatest_priority, greatest_handle, greatest_max_sdu}
use Rattle.tsn_types.specs.InRange.{PortInRange, FilterInRange, GateInRange, MeterInRange}
use Rattle.tsn_types.specs.declared.keys.Kind.{Kind}
use Rattle.tsn_types.specs.declared.keys.Kind.TheVariants as kinds
use Rattle.tsn_types.specs.declared.records.FlowMeter.{FlowMeter}
use Rattle.tsn_types.specs.declared.records.PortGates.{PortGates}
use Rattle.tsn_types.specs.declared.records.StreamFilter.{StreamFilter}
use Rattle.tsn_types.specs.declared.records.StreamGate.{StreamGate}
use Rattle.tsn_records.specs.Keys.{kind_text}
use Rattle.tsn_records.specs.Values.{port_entry_draft, gate_entry_draft, port_draft, gate_draft, filter_draft, meter_draft}
use Rattle.tsn_records.specs.declared.drafts.RecordDraft.TheVariants as drafts
use Rattle.tsn_setup.specs.Plain.{Trays, AreOpen, ReadsLines, ReadsTableOf}
use Rattle.tsn_setup.specs.PlainTrays.{port_trays, filter_trays, gate_trays, meter_trays}
use Rattle.tsn_setup.specs.declared.drafts.TableDraft.{TableDraft}
use Rattle.tsn_setup.specs.declared.drafts.PlainFilter.{PlainFilter}
use Rattle.tsn_setup.specs.declared.drafts.PlainGate.{PlainGate}
use Rattle.tsn_setup.specs.declared.drafts.PlainMeter.{PlainMeter}
use Rattle.tsn_setup.specs.declared.drafts.PlainPort.{PlainPort}
use Rattle.tsn_setup.proofs.Told.{record_told}
use Rattle.tsn_export.specs.Text.{number_line, number_or_none_line, flag_line, list_lines, port_entry_line, gate_entry_line, port_table, filter_table, gate_table, meter_table}
use Rattle.tsn_read_back.proofs.Entries.{port_list_back, gate_list_back}
use Rattle.tsn_read_back.proofs.Joined.{in_seven, in_eight, in_ten}
use Rattle.tsn_read_back.proofs.Lines.{Reads, reads_begun, number_back, number_or_none_back, flag_back, small}

-- the header of a table of a kind, behind an empty line
abbrev pub header : Kind → List ℕ
header kinds.Port = codes "\n[[port]]\n"
header kinds.Filter = codes "\n[[filter]]\n"
header kinds.Gate = codes "\n[[gate]]\n"
header kinds.Meter = codes "\n[[meter]]\n"

pub header_read : (kind : Kind) (rest : List ℕ) → Turn ([], kind_text kind) array_table (header kind ++ rest) rest
unfolding key_text
header_read kinds.Port rest = line_turn true true ([], codes "port") array_table (codes "\n[[port]]\n") rest refl (omega arith)
header_read kinds.Filter rest = line_turn true true ([], codes "filter") array_table (codes "\n[[filter]]\n") rest refl (omega arith)
header_read kinds.Gate rest = line_turn true true ([], codes "gate") array_table (codes "\n[[gate]]\n") rest refl (omega arith)
header_read kinds.Meter rest = line_turn true true ([], codes "meter") array_table (codes "\n[[meter]]\n") rest refl (omega arith)

-- The text begins with a table of that kind, which the draft tells.
pub record TableRead (kind : Kind) (text : List ℕ) (draft : TableDraft) (more : List ℕ) : Type 0 where
  pub lines : List ℕ
  pub is : text ≡ header kind ++ lines
  pub read : ReadsTableOf kind (10 ∷ lines) draft (skip_blank more)

-- behind a header
table_begun : (lines : List ℕ) (trays : Trays) → AreOpen trays → Reads (10 ∷ lines) trays lines
table_begun lines trays unread = subst (ReadsLines (10 ∷ lines) trays) (skip_newline lines) (reads_begun (10 ∷ lines) trays unread)

at_most : (least most : ℕ) (o : Option ℕ) → IfSome o (λ n. Within least most n) → IfSome o (λ n. n ≤ most)
at_most least most None fits = tt
at_most least most (Some n) fits = fits.1

pub port_back : (id : ℕ) (r : PortGates) (more : List ℕ) → id ≤ most_ports → PortInRange r
    → TableRead kinds.Port (port_table id r ++ more) (record { id = id; value = drafts.Port (port_draft r) }) more
port_back id r more low fits =
    let base = number_line (codes "base") r.admin.base ++ more in
    let extension = number_line (codes "extension") r.admin.extension ++ base in
    let cycle = number_line (codes "cycle") r.admin.cycle ++ extension in
    let list = list_lines port_entry_line r.admin.list ++ cycle in
    let gates = number_line (codes "gates") r.gates ++ list in
    let lines = number_line (codes "id") id ++ gates in
    let text = 10 ∷ lines in
    let none : PlainPort = record { id = None; gates = None; list = None; cycle = None; extension = None; base = None } in
    let all : PlainPort = record {
      id = Some id;
      gates = Some r.gates;
      list = Some (map port_entry_draft r.admin.list);
      cycle = Some r.admin.cycle;
      extension = Some r.admin.extension;
      base = Some r.admin.base;
    } in
    let begun = table_begun lines (port_trays none) (refl, (refl, (refl, (refl, (refl, (refl, tt)))))) in
    let a = number_back text (codes "id") gates id _ refl (omega (arith, low)) refl begun in
    let b = number_back text (codes "gates") list r.gates _ refl (omega (arith, fits.gates)) refl a in
    let c = port_list_back text cycle r.admin.list _ fits.admin.list refl b in
    let d = number_back text (codes "cycle") extension r.admin.cycle _ refl (omega (arith, fits.admin.cycle.1)) refl c in
    let e = number_back text (codes "extension") base r.admin.extension _ refl (omega (arith, fits.admin.extension)) refl d in
    let whole : Reads text (port_trays all) more =
    number_back text (codes "base") more r.admin.base _ refl (omega (arith, fits.admin.base)) refl e in
    record {
      lines = lines;
      is = in_seven (header kinds.Port) (number_line (codes "id") id) (number_line (codes "gates") r.gates)
          (list_lines port_entry_line r.admin.list) (number_line (codes "cycle") r.admin.cycle)
          (number_line (codes "extension") r.admin.extension) (number_line (codes "base") r.admin.base) more;
      read = record_told (drafts.Port (port_draft r)) id text (skip_blank more) (port_trays all) whole refl refl;
    }

pub filter_back : (id : ℕ) (r : StreamFilter) (more : List ℕ) → id ≤ greatest_instance → FilterInRange r
    → TableRead kinds.Filter (filter_table id r ++ more) (record { id = id; value = drafts.Filter (filter_draft r) }) more
filter_back id r more low fits =
    let oversize = flag_line (codes "oversize") r.oversize ++ more in
    let meter = number_or_none_line (codes "meter") r.meter ++ oversize in
    let max_sdu = number_or_none_line (codes "max_sdu") r.max_sdu ++ meter in
    let gate = number_line (codes "gate") r.gate ++ max_sdu in
    let priority = number_or_none_line (codes "priority") r.priority ++ gate in
    let handle = number_or_none_line (codes "handle") r.handle ++ priority in
    let lines = number_line (codes "id") id ++ handle in
    let text = 10 ∷ lines in
    let none : PlainFilter =
    record { id = None; handle = None; priority = None; gate = None; max_sdu = None; meter = None; oversize = None } in
    let all : PlainFilter = record {
      id = Some id;
      handle = r.handle;
      priority = r.priority;
      gate = Some r.gate;
      max_sdu = r.max_sdu;
      meter = r.meter;
      oversize = Some r.oversize;
    } in
    let begun = table_begun lines (filter_trays none) (refl, (refl, (refl, (refl, (refl, (refl, (refl, tt))))))) in
    let a = number_back text (codes "id") handle id _ refl (omega (arith, low)) refl begun in
    let b = number_or_none_back text (codes "handle") priority r.handle _ refl (small r.handle greatest_handle fits.handle (omega arith))
    refl refl a in
    let c = number_or_none_back text (codes "priority") gate r.priority _ refl
    (small r.priority greatest_priority fits.priority (omega arith)) refl refl b in
    let d = number_back text (codes "gate") max_sdu r.gate _ refl (omega (arith, fits.gate)) refl c in
    let e = number_or_none_back text (codes "max_sdu") meter r.max_sdu _ refl
    (small r.max_sdu greatest_max_sdu (at_most 1 greatest_max_sdu r.max_sdu fits.max_sdu) (omega arith)) refl refl d in
    let f = number_or_none_back text (codes "meter") oversize r.meter _ refl (small r.meter greatest_instance fits.meter (omega arith)) refl
    refl e in
    let whole : Reads text (filter_trays all) more = flag_back text (codes "oversize") more r.oversize _ refl refl f in
    record {
      lines = lines;
      is = in_eight (header kinds.Filter) (number_line (codes "id") id) (number_or_none_line (codes "handle") r.handle)
          (number_or_none_line (codes "priority") r.priority) (number_line (codes "gate") r.gate)
          (number_or_none_line (codes "max_sdu") r.max_sdu) (number_or_none_line (codes "meter") r.meter)
          (flag_line (codes "oversize") r.oversize) more;
      read = record_told (drafts.Filter (filter_draft r)) id text (skip_blank more) (filter_trays all) whole refl refl;
    }

pub gate_back : (id : ℕ) (r : StreamGate) (more : List ℕ) → id ≤ greatest_instance → GateInRange r
    → TableRead kinds.Gate (gate_table id r ++ more) (record { id = id; value = drafts.Gate (gate_draft r) }) more
gate_back id r more low fits =
    let octets_exceeded = flag_line (codes "octets_exceeded") r.octets_exceeded ++ more in
    let invalid_rx = flag_line (codes "invalid_rx") r.invalid_rx ++ octets_exceeded in
    let base = number_line (codes "base") r.admin.base ++ invalid_rx in
    let extension = number_line (codes "extension") r.admin.extension ++ base in
    let cycle = number_line (codes "cycle") r.admin.cycle ++ extension in
    let list = list_lines gate_entry_line r.admin.list ++ cycle in
    let ipv = number_or_none_line (codes "ipv") r.ipv ++ list in
    let is_open = flag_line (codes "open") r.is_open ++ ipv in
    let lines = number_line (codes "id") id ++ is_open in
    let text = 10 ∷ lines in
    let none : PlainGate = record {
      id = None;
      «open» = None;
      ipv = None;
      list = None;
      cycle = None;
      extension = None;
      base = None;
      invalid_rx = None;
      octets_exceeded = None;
    } in
    let all : PlainGate = record {
      id = Some id;
      «open» = Some r.is_open;
      ipv = r.ipv;
      list = Some (map gate_entry_draft r.admin.list);
      cycle = Some r.admin.cycle;
      extension = Some r.admin.extension;
      base = Some r.admin.base;
      invalid_rx = Some r.invalid_rx;
      octets_exceeded = Some r.octets_exceeded;
    } in
    let begun = table_begun lines (gate_trays none) (refl, (refl, (refl, (refl, (refl, (refl, (refl, (refl, (refl, tt))))))))) in
    let a = number_back text (codes "id") is_open id _ refl (omega (arith, low)) refl begun in
    let b = flag_back text (codes "open") ipv r.is_open _ refl refl a in
    let c = number_or_none_back text (codes "ipv") list r.ipv _ refl (small r.ipv greatest_priority fits.ipv (omega arith)) refl refl b in
    let d = gate_list_back text cycle r.admin.list _ fits.admin.list refl c in
    let e = number_back text (codes "cycle") extension r.admin.cycle _ refl (omega (arith, fits.admin.cycle.1)) refl d in
    let f = number_back text (codes "extension") base r.admin.extension _ refl (omega (arith, fits.admin.extension)) refl e in
    let g = number_back text (codes "base") invalid_rx r.admin.base _ refl (omega (arith, fits.admin.base)) refl f in
    let h = flag_back text (codes "invalid_rx") octets_exceeded r.invalid_rx _ refl refl g in
    let whole : Reads text (gate_trays all) more = flag_back text (codes "octets_exceeded") more r.octets_exceeded _ refl refl h in
    record {
      lines = lines;
      is = in_ten (header kinds.Gate) (number_line (codes "id") id) (flag_line (codes "open") r.is_open)
          (number_or_none_line (codes "ipv") r.ipv) (list_lines gate_entry_line r.admin.list) (number_line (codes "cycle") r.admin.cycle)
          (number_line (codes "extension") r.admin.extension) (number_line (codes "base") r.admin.base)
          (flag_line (codes "invalid_rx") r.invalid_rx) (flag_line (codes "octets_exceeded") r.octets_exceeded) more;
      read = record_told (drafts.Gate (gate_draft r)) id text (skip_blank more) (gate_trays all) whole refl refl;
    }

pub meter_back : (id : ℕ) (r : FlowMeter) (more : List ℕ) → id ≤ greatest_instance → MeterInRange r
    → TableRead kinds.Meter (meter_table id r ++ more) (record { id = id; value = drafts.Meter (meter_draft r) }) more
meter_back id r more low fits =
    let all_red = flag_line (codes "all_red") r.all_red ++ more in
    let drop_yellow = flag_line (codes "drop_yellow") r.drop_yellow ++ all_red in
    let aware = flag_line (codes "aware") r.aware ++ drop_yellow in
    let cf = flag_line (codes "cf") r.cf ++ aware in
    let ebs = number_line (codes "ebs") r.ebs ++ cf in
    let eir = number_line (codes "eir") r.eir ++ ebs in
    let cbs = number_line (codes "cbs") r.cbs ++ eir in
    let cir = number_line (codes "cir") r.cir ++ cbs in
    let lines = number_line (codes "id") id ++ cir in
    let text = 10 ∷ lines in
    let none : PlainMeter =
    record { id = None; cir = None; cbs = None; eir = None; ebs = None; cf = None; aware = None; drop_yellow = None; all_red = None } in
    let all : PlainMeter = record {
      id = Some id;
      cir = Some r.cir;
      cbs = Some r.cbs;
      eir = Some r.eir;
      ebs = Some r.ebs;
      cf = Some r.cf;
      aware = Some r.aware;
      drop_yellow = Some r.drop_yellow;
      all_red = Some r.all_red;
    } in
    let begun = table_begun lines (meter_trays none) (refl, (refl, (refl, (refl, (refl, (refl, (refl, (refl, (refl, tt))))))))) in
    let a = number_back text (codes "id") cir id _ refl (omega (arith, low)) refl begun in
    let b = number_back text (codes "cir") cbs r.cir _ refl (omega (arith, fits.cir)) refl a in
    let c = number_back text (codes "cbs") eir r.cbs _ refl (omega (arith, fits.cbs)) refl b in
    let d = number_back text (codes "eir") ebs r.eir _ refl (omega (arith, fits.eir)) refl c in
    let e = number_back text (codes "ebs") cf r.ebs _ refl (omega (arith, fits.ebs)) refl d in
    let f = flag_back text (codes "cf") aware r.cf _ refl refl e in
    let g = flag_back text (codes "aware") drop_yellow r.aware _ refl refl f in
    let h = flag_back text (codes "drop_yellow") all_red r.drop_yellow _ refl refl g in
    let whole : Reads text (meter_trays all) more = flag_back text (codes "all_red") more r.all_red _ refl refl h in
    record {
      lines = lines;
      is = in_ten (header kinds.Meter) (number_line (codes "id") id) (number_line (codes "cir") r.cir) (number_line (codes "cbs") r.cbs)
          (number_line (codes "eir") r.eir) (number_line (codes "ebs") r.ebs)
          (flag_line (codes "cf") r.cf) (flag_line (codes "aware") r.aware) (flag_line (codes "drop_yellow") r.drop_yellow)
          (flag_line (codes "all_red") r.all_red) more;
      read = record_told (drafts.Meter (meter_draft r)) id text (skip_blank more) (meter_trays all) whole refl refl;
    }
