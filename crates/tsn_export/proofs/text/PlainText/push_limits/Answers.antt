use Rattle.std.proofs.lemmas.Result.{on_ok_weaker}
use Rattle.tsn_export.proofs.Pushed.{limits_pushed}
use Rattle.tsn_export.proofs.text.PlainText.push_limits.Goals as goal

pub returns : goal.returns
returns c = on_ok_weaker c.number_line-5.result
    (λ last. limits_pushed c.args.limits c.args.self.now c.number_line.new.self c.number_line-2.new.self c.number_line-3.new.self
    c.number_line-4.new.self c.number_line-5.new.self
    (rw c.ports.ensures.same at c.in_ok-number_line.ensures) (rw c.filters.ensures at c.in_ok-number_line-2.ensures)
    (rw c.gates.ensures at c.in_ok-number_line-3.ensures) (rw c.meters.ensures at c.in_ok-number_line-4.ensures)
    (rw c.list.ensures at last))
    c.number_line-5.ensures
