use Rattle.std.proofs.Common.{◌≡◌, drop, map}
use Rattle.tsn_records.specs.Answers.{each}
use Rattle.tsn_records.proofs.Entries.{with_front}
use Rattle.tsn_records.proofs.records.entries.Given as goal

abbrev pub invariant-values : goal.invariant-values
invariant-values g l =
    let shape = g.E.EntryShape.shape g.F.Format.View g.F.Format.look in
    with_front l.list (each shape (map g.F.Format.view (drop l.value-index l.values))) ≡ each shape (map g.F.Format.view l.values)
