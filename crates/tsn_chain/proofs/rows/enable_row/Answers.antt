use Rattle.std.proofs.Common.{inl}
use Rattle.tsn_chain.proofs.Swapped.{has_row, acts_on, still_by}
use Rattle.tsn_chain.proofs.rows.enable_row.Goals as goal
use Rattle.tsn_schedule.specs.Acts.{Enable}

pub put-requires-in-Some : goal.put-requires-in-Some
put-requires-in-Some g c = inl (has_row c.args.table.now.map c.put.new.self.map c.args.id c.new.result c.put.ensures.map)

pub returns-clause-acts : goal.returns-clause-acts
returns-clause-acts g c =
    acts_on c.args.table.now.map c.put.new.self.map c.put-in-Some.new.self.map c.args.id c.new.result c.in-Some.runner
    c.enable-change.new.self c.in-Some.ensures.before c.put.ensures.map c.put-in-Some.ensures.map
    (Enable c.args.now) c.enable-change.ensures.stands

pub returns-clause-by : goal.returns-clause-by
returns-clause-by g c =
    still_by c.args.table.now.map c.put.new.self.map c.put-in-Some.new.self.map c.args.id c.new.result c.in-Some.runner
    c.enable-change.new.self c.in-Some.ensures.before c.put.ensures.map c.put-in-Some.ensures.map
    c.args.now c.requires.by c.enable-change.ensures.last
