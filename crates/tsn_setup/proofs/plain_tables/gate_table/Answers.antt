use Rattle.std.proofs.Common.{refl}
use Rattle.tsn_records.specs.declared.drafts.RecordDraft.TheVariants as records
use Rattle.tsn_setup.proofs.Told.{record_told}
use Rattle.tsn_setup.proofs.plain_tables.gate_table.Goals as goal

pub returns-clause-table : goal.returns-clause-table
returns-clause-table c =
    let admin = c.in_ok-admin.ensures in
    record_told (records.Gate _) _ _ _ _
    (rw (c.in_ok-id.was, c.in_ok-found-2.was, admin.0, admin.1, admin.2, admin.3, c.in_ok-found-3.was, c.in_ok-found-4.was) at
    c.in_ok-found.ensures.table) refl refl
