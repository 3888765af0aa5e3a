use Rattle.std.proofs.Common.{arith}
use Rattle.tsn_table.specs.View.{TableView}
use Rattle.tsn_journal.specs.declared.latest_rows.KeyNodes.{KeyNodes}
use Rattle.tsn_journal.specs.declared.latest_rows.Latest.{Latest}
use Rattle.tsn_journal.specs.declared.latest_rows.SessionNodes.{SessionNodes}
use Rattle.tsn_journal.proofs.Rows.{no_referred, no_rows, no_touched}
use Rattle.tsn_journal.proofs.latest_rows.Latest.new.Goals as goal

-- these tables, with no room that is sure
abbrev unsure : (ports filters gates meters : TableView KeyNodes) → TableView SessionNodes → Latest
unsure ports filters gates meters sessions = record {
  ports = ports;
  filters = filters;
  gates = gates;
  meters = meters;
  sessions = sessions;
  sure = 0;
  roomy = (omega arith, omega arith, omega arith, omega arith, omega arith);
}

pub returns-clause-latest : goal.returns-clause-latest
returns-clause-latest c = no_rows (unsure c.new.result c.new-2.result c.new-3.result c.new-4.result c.new-5.result)
    c.new.ensures.map c.new-2.ensures.map c.new-3.ensures.map c.new-4.ensures.map c.new-5.ensures.map

pub returns-clause-touched : goal.returns-clause-touched
returns-clause-touched c = no_touched (unsure c.new.result c.new-2.result c.new-3.result c.new-4.result c.new-5.result)
    c.new.ensures.map c.new-2.ensures.map c.new-3.ensures.map c.new-4.ensures.map

pub returns-clause-referred : goal.returns-clause-referred
returns-clause-referred c = no_referred (unsure c.new.result c.new-2.result c.new-3.result c.new-4.result c.new-5.result)
    c.new.ensures.map c.new-2.ensures.map c.new-3.ensures.map c.new-4.ensures.map
