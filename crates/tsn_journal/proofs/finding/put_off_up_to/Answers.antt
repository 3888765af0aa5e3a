use Rattle.std.proofs.Common.{◌≡◌, ◌+◌, suc, false, set, sym, ◌∙◌, subst, arith, length-set}
use Rattle.std.specs.Prelude.{slice_index_or}
use Rattle.tsn_entries.specs.Marks.{AreOff}
use Rattle.tsn_journal.proofs.Closing.{all_off, numbered_set, off_there, one_off}
use Rattle.tsn_journal.proofs.finding.put_off_up_to.Goals as goal

pub each-preserved : goal.each-preserved
each-preserved c =
    let i = c.each.place in
    let ms = c.each.marked in
    let d = c.index-marked-place.result in
    let one_more : suc i ≡ i + 1 = omega arith in
    record {
      off = subst (λ n. AreOff n (set ms i (record { entry = (slice_index_or ms i d).entry; is_open = false }))) one_more
          (one_off i ms (slice_index_or ms i d) c.each.invariant.off);
      same = off_there i c.args.upto ms d c.each.invariant.numbered (omega (arith, c.each-test.true)) c.index-marked-place.is
          ∙ c.each.invariant.same;
      numbered = numbered_set i ms d c.index-marked-place.is c.each.invariant.numbered;
      len = length-set ms i _ ∙ c.each.invariant.len;
    }

pub returns : goal.returns
returns c =
    sym (all_off 1 c.each.place c.args.upto c.each.marked c.each.invariant.numbered c.each.invariant.off (omega (arith, c.each-test.false)))
    ∙ c.each.invariant.same
