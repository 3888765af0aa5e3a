use Rattle.std.proofs.Common.{arith}
use Rattle.tsn_journal.proofs.Indexing.{takes_more}
use Rattle.tsn_journal.proofs.Newest.{mends_part}
use Rattle.tsn_journal.proofs.index.Index.lower_parts.Goals as goal

pub loop-part-preserved : goal.loop-part-preserved
loop-part-preserved c = record {
  indexed = c.lower_ref-in-loop-part.ensures.index;
  newest = mends_part c.args.marked.now c.args.parts.now c.loop-part.part-index c.part-item.result c.refs_of-refs.result c.args.self.now
      c.loop-part.self c.lower_on.new.self c.lower_ref.new.self c.lower_ref-in-loop-part.new.self
      (omega (arith, c.loop-part-test.true)) c.part-item.is c.refs_of-refs.ensures c.loop-part.invariant.newest c.lower_on.ensures.newest
      c.lower_ref.ensures.newest c.lower_ref-in-loop-part.ensures.newest;
  tells = grind arith;
  room = takes_more 0 0 _ _ _ (takes_more 0 0 _ _ _ c.loop-part.invariant.room c.lower_on.ensures.room)
      (takes_more 0 0 _ _ _ c.lower_ref.ensures.room c.lower_ref-in-loop-part.ensures.room);
}
