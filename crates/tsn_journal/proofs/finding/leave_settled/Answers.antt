use Rattle.std.proofs.Common.{inl, inr, arith}
use Rattle.std.proofs.lemmas.Option.{slice_get_read, same_Some}
use Rattle.tsn_journal.specs.Newest.{groups_of}
use Rattle.tsn_journal.proofs.Indexing.{takes_more}
use Rattle.tsn_journal.proofs.Links.{where_at}
use Rattle.tsn_journal.proofs.Newest.{mends_after, mends_before}
use Rattle.tsn_journal.proofs.finding.leave_settled.Goals as goal

pub loop-place-preserved : goal.loop-place-preserved
loop-place-preserved c =
    let ms = c.args.marked.now in
    let old = c.args.index.now in
    let mid = c.loop-place.index in
    let new = c.leave.new.self in
    let x = c.index-marked-place.result in
    record {
      indexed = c.leave.ensures.index;
      newest = λ g had. c.leave.ensures.newest.kept g (c.loop-place.invariant.newest g had);
      settled = λ i m low high at. elim (where_at c.loop-place.place i) [
        | inl less ↦ mends_after ms (groups_of m.entry) old mid new (c.loop-place.invariant.settled i m low (omega arith) at)
            c.leave.ensures.newest.kept
        | inr rest ↦ grind (arith, slice_get_read, same_Some, mends_before)
      ];
      tells = grind arith;
      room = takes_more 0 0 _ _ _ c.loop-place.invariant.room c.leave.ensures.room;
    }
