use Rattle.std.proofs.Common.{inl}
use Rattle.std.proofs.lemmas.Result.{on_ok_weaker, on_err_weaker}
use Rattle.tsn_chain.proofs.Swapped.{has_row, acts_on, put_back, still_by}
use Rattle.tsn_chain.proofs.rows.apply_row.Goals as goal
use Rattle.tsn_schedule.specs.Acts.{Apply}

pub put-requires-in-Some : goal.put-requires-in-Some
put-requires-in-Some g c = inl (has_row c.args.table.now.map c.put.new.self.map c.args.id c.new.result c.put.ensures.map)

pub returns-clause-acts : goal.returns-clause-acts
returns-clause-acts g c =
    on_ok_weaker c.apply-answer.result
    (acts_on c.args.table.now.map c.put.new.self.map c.put-in-Some.new.self.map c.args.id c.new.result c.in-Some.runner
    c.apply-answer.new.self c.in-Some.ensures.before c.put.ensures.map c.put-in-Some.ensures.map
    (Apply c.args.schedule.now c.args.now))
    c.apply-answer.ensures.stands

pub returns-clause-err : goal.returns-clause-err
returns-clause-err g c =
    on_err_weaker c.apply-answer.result
    (put_back c.args.table.now.map c.put.new.self.map c.put-in-Some.new.self.map c.args.id c.new.result c.in-Some.runner
    c.apply-answer.new.self c.in-Some.ensures.before c.put.ensures.map c.put-in-Some.ensures.map)
    c.apply-answer.ensures.err

pub returns-clause-by : goal.returns-clause-by
returns-clause-by g c =
    still_by c.args.table.now.map c.put.new.self.map c.put-in-Some.new.self.map c.args.id c.new.result c.in-Some.runner
    c.apply-answer.new.self c.in-Some.ensures.before c.put.ensures.map c.put-in-Some.ensures.map
    c.args.now c.requires.by c.apply-answer.ensures.last
