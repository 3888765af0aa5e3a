use Rattle.std.proofs.Common.{◌≡◌, ◌++◌, rules}
use Rattle.std.specs.Prelude.{codes}
use Rattle.std.proofs.lemmas.Result.{on_ok_weaker}
use Rattle.tsn_export.specs.Text.{number_or_none_line}
use Rattle.tsn_export.proofs.Pushed.{gate_pushed}
use Rattle.tsn_export.proofs.text.PlainText.push_gate.Goals as goal

pub returns : goal.returns
returns c =
    let r = c.args.gate.now in
    let ipv : c.number_or_none_line.new.self ≡ c.flag_line.new.self ++ number_or_none_line (codes "ipv") r.ipv = search rules in
    on_ok_weaker c.flag_line-3.result
    (gate_pushed c.args.id r c.args.self.now c.push.new.self c.number_line.new.self c.flag_line.new.self c.number_or_none_line.new.self
    c.list_lines.new.self c.number_line-2.new.self c.number_line-3.new.self c.number_line-4.new.self
    c.flag_line-2.new.self c.flag_line-3.new.self
    c.in_ok-push.ensures c.in_ok-number_line.ensures c.in_ok-flag_line.ensures ipv (rw c.as_slice.ensures at c.in_ok-list_lines.ensures)
    (rw c.get.ensures.same at c.in_ok-number_line-2.ensures) (rw c.get-2.ensures.same at c.in_ok-number_line-3.ensures)
    (rw c.get-3.ensures.same at c.in_ok-number_line-4.ensures) c.in_ok-flag_line-2.ensures)
    c.flag_line-3.ensures
