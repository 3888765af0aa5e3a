use Rattle.std.proofs.Common.{◌≤◌, ◌∷◌, [], Some, arith, subst, sym, ◌∙◌, ap, take}
use Rattle.tsn_edit.specs.Parts.{Change}
use Rattle.tsn_journal.specs.Crossed.{IsRaised, crosses, is_on_referred}
use Rattle.tsn_journal.proofs.Bounding.{both_cross, both_referred, one_referred}
use Rattle.tsn_journal.proofs.Needed.{raised_then}
use Rattle.tsn_journal.proofs.Sought.{take_next}
use Rattle.tsn_journal.proofs.crossed.crossed_by.Goals as goal

pub loop-part-preserved : goal.loop-part-preserved
loop-part-preserved c =
    let up : c.loop-part.crossed ≤ c.crossed_by_part-crossed.result = c.crossed_by_part-crossed.ensures.rises in
    let j = c.loop-part.part-index in
    let p = c.part-item.result in
    record {
      free = λ i e le at.
          ap (λ (t : Change). crosses (Some t) c.args.session e) (take_next c.parts-part-items.result.now j p (omega arith) c.part-item.is)
          ∙ both_cross (take j c.parts-part-items.result.now) (p ∷ []) c.args.session e (c.loop-part.invariant.free i e (omega arith) at)
          (c.crossed_by_part-crossed.ensures.free i e le at);
      rises = omega (arith, c.loop-part.invariant.rises);
      own = λ le.
          ap (λ (ps : Change). is_on_referred (Some ps)) (take_next c.parts-part-items.result.now j p (omega arith) c.part-item.is)
          ∙ both_referred (take j c.parts-part-items.result.now) (p ∷ []) (c.loop-part.invariant.own (omega arith))
          (one_referred p (c.crossed_by_part-crossed.ensures.own le));
      raised = subst (λ (ps : Change). IsRaised c.args.number c.crossed_by_part-crossed.result c.args.marked.now c.args.session (Some ps))
          (sym (take_next c.parts-part-items.result.now j p (omega arith) c.part-item.is))
          (raised_then c.args.number c.loop-part.crossed c.crossed_by_part-crossed.result c.args.session c.args.marked.now
          (take j c.parts-part-items.result.now) (p ∷ []) c.loop-part.invariant.raised c.crossed_by_part-crossed.ensures.raised);
    }
