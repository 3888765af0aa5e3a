use Rattle.std.proofs.lemmas.Result.{on_ok_weaker}
use Rattle.tsn_export.proofs.Pushed.{port_pushed}
use Rattle.tsn_export.proofs.text.PlainText.push_port.Goals as goal

pub returns : goal.returns
returns c = on_ok_weaker c.number_line-5.result
    (λ last. port_pushed c.args.id c.args.port.now c.args.self.now c.push.new.self c.number_line.new.self c.number_line-2.new.self
    c.list_lines.new.self c.number_line-3.new.self c.number_line-4.new.self c.number_line-5.new.self
    c.in_ok-push.ensures c.in_ok-number_line.ensures (rw c.from.ensures at c.in_ok-number_line-2.ensures)
    (rw c.as_slice.ensures at c.in_ok-list_lines.ensures)
    (rw c.get.ensures.same at c.in_ok-number_line-3.ensures) (rw c.get-2.ensures.same at c.in_ok-number_line-4.ensures)
    (rw c.get-3.ensures.same at last))
    c.number_line-5.ensures
