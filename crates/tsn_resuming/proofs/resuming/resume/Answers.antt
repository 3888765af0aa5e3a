use Rattle.std.proofs.lemmas.Result.{err_from_is_err_and}
use Rattle.tsn_resuming.proofs.Going.{begins_fed}
use Rattle.tsn_resuming.proofs.Starting.{resumed, stops_reading}
use Rattle.tsn_resuming.proofs.resuming.resume.Goals as goal

pub returns-in-Err-clause-fault : goal.returns-in-Err-clause-fault
returns-in-Err-clause-fault g c = c.in-Err.ensures.fault _ (begins_fed _ _ c.new-reader.ensures)

pub returns-clause-goes_on : goal.returns-clause-goes_on
returns-clause-goes_on g c =
    let file = g.R.ByteIn.remaining c.args.file.now in
    let begun = c.in-Ok-begin_reading.ensures.begun file (begins_fed file c.new-reader.result c.new-reader.ensures) in
    let through = c.in_ok-step_all.ensures.through file begun.setup begun.way in
    resumed file _ _ begun.setup c.step_all.new.reader _ through.1 begun.own c.chain.ensures c.lines.ensures c.good.ensures c.end.ensures
    through.0

pub returns-in_err-step_all-clause-fault : goal.returns-in_err-step_all-clause-fault
returns-in_err-step_all-clause-fault g c =
    let file = g.R.ByteIn.remaining c.args.file.now in
    let begun = c.in-Ok-begin_reading.ensures.begun file (begins_fed file c.new-reader.result c.new-reader.ensures) in
    let gone = err_from_is_err_and c.from_residual.result c.from_residual.ensures.1 in
    rw (gone.1, gone.2) (stops_reading file _ _ _ _ (c.in_err-step_all.ensures.fault file begun.setup begun.way))
