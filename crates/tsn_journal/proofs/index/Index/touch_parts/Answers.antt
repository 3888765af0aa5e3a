use Rattle.tsn_journal.proofs.Telling.{keeps_then, told_more}
use Rattle.tsn_journal.proofs.index.Index.touch_parts.Goals as goal

pub loop-part-preserved : goal.loop-part-preserved
loop-part-preserved c = record {
  told = told_more c.args.number c.loop-part.part-index c.args.parts.now c.part-item.result c.refs_of-refs.result c.args.self.now
      c.loop-part.self c.touch_key.new.self c.touch_ref.new.self c.touch_ref-in-loop-part.new.self c.requires c.loop-part-test.true
      c.part-item.is c.refs_of-refs.ensures
      c.loop-part.invariant.told c.touch_key.ensures.told c.touch_ref.ensures.told c.touch_ref-in-loop-part.ensures.told;
  kept = keeps_then c.args.self.now c.loop-part.self c.touch_ref-in-loop-part.new.self c.loop-part.invariant.kept
      (keeps_then c.loop-part.self c.touch_key.new.self c.touch_ref-in-loop-part.new.self c.touch_key.ensures.kept
      (keeps_then c.touch_key.new.self c.touch_ref.new.self c.touch_ref-in-loop-part.new.self c.touch_ref.ensures.kept
      c.touch_ref-in-loop-part.ensures.kept));
}
