use Rattle.std.proofs.Common.{◌≡◌, drop, length}
use Rattle.tsn_records.specs.Answers.{each}
use Rattle.tsn_records.specs.Records.{member_shape}
use Rattle.tsn_records.proofs.Entries.{with_front}
use Rattle.tsn_records.proofs.records.members_of_rows.Given as goal

abbrev pub invariant-rows : goal.invariant-rows
invariant-rows g l =
    let look = g.F.Format.look in
    let d = g.F.Format.view l.value in
    (length l.values ≡ l.row-index)
    × (with_front l.values (each (λ row. member_shape look l.kind row.1 (look.at row.0.now d)) (drop l.row-index l.rows))
    ≡ each (λ row. member_shape look l.kind row.1 (look.at row.0.now d)) l.rows)
