use Rattle.std.proofs.Common.{refl}
use Rattle.tsn_records.specs.declared.drafts.RecordDraft.TheVariants as records
use Rattle.tsn_setup.proofs.Told.{record_told}
use Rattle.tsn_setup.proofs.plain_tables.meter_table.Goals as goal

pub returns-clause-table : goal.returns-clause-table
returns-clause-table c = record_told (records.Meter _) _ _ _ _
    (rw (
      c.in_ok-id.was,
      c.in_ok-found-2.was,
      c.in_ok-found-3.was,
      c.in_ok-found-4.was,
      c.in_ok-found-5.was,
      c.in_ok-found-6.was,
      c.in_ok-found-7.was,
      c.in_ok-found-8.was,
      c.in_ok-found-9.was,
    ) at c.in_ok-found.ensures.table) refl refl
