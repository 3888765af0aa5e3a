use Rattle.std.proofs.Common.{◌≡◌, ◌++◌, rules}
use Rattle.std.specs.Prelude.{codes}
use Rattle.std.proofs.lemmas.Result.{on_ok_weaker}
use Rattle.tsn_export.specs.Text.{number_or_none_line}
use Rattle.tsn_export.proofs.Pushed.{filter_pushed}
use Rattle.tsn_export.proofs.text.PlainText.push_filter.Goals as goal

pub returns : goal.returns
returns c =
    let r = c.args.filter.now in
    let handle : c.number_or_none_line.new.self ≡ c.number_line.new.self ++ number_or_none_line (codes "handle") r.handle = search rules
    in
    let priority : c.number_or_none_line-2.new.self ≡ c.number_or_none_line.new.self ++ number_or_none_line (codes "priority") r.priority
    = search rules in
    let max_sdu : c.number_or_none_line-3.new.self ≡ c.number_line-2.new.self ++ number_or_none_line (codes "max_sdu") r.max_sdu = search
    rules in
    let meter : c.number_or_none_line-4.new.self ≡ c.number_or_none_line-3.new.self ++ number_or_none_line (codes "meter") r.meter =
    search rules in
    on_ok_weaker c.flag_line.result
    (filter_pushed c.args.id r c.args.self.now c.push.new.self c.number_line.new.self c.number_or_none_line.new.self
    c.number_or_none_line-2.new.self c.number_line-2.new.self
    c.number_or_none_line-3.new.self c.number_or_none_line-4.new.self c.flag_line.new.self
    c.in_ok-push.ensures c.in_ok-number_line.ensures handle priority (rw c.get.ensures.same at c.in_ok-number_line-2.ensures) max_sdu
    meter)
    c.flag_line.ensures
