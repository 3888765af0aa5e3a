use Rattle.std.proofs.lemmas.Result.{on_ok_weaker}
use Rattle.tsn_export.proofs.Pushed.{meter_pushed}
use Rattle.tsn_export.proofs.text.PlainText.push_meter.Goals as goal

pub returns : goal.returns
returns c = on_ok_weaker c.flag_line-4.result
    (meter_pushed c.args.id c.args.meter.now c.args.self.now c.push.new.self c.number_line.new.self c.number_line-2.new.self
    c.number_line-3.new.self c.number_line-4.new.self c.number_line-5.new.self
    c.flag_line.new.self c.flag_line-2.new.self c.flag_line-3.new.self c.flag_line-4.new.self
    c.in_ok-push.ensures c.in_ok-number_line.ensures (rw c.get.ensures.same at c.in_ok-number_line-2.ensures)
    (rw c.get-2.ensures.same at c.in_ok-number_line-3.ensures)
    (rw c.get-3.ensures.same at c.in_ok-number_line-4.ensures) (rw c.get-4.ensures.same at c.in_ok-number_line-5.ensures)
    c.in_ok-flag_line.ensures c.in_ok-flag_line-2.ensures c.in_ok-flag_line-3.ensures)
    c.flag_line-4.ensures
