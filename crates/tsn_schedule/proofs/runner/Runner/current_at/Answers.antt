use Rattle.std.proofs.Common.{◌≤◌, ◌-◌, arith, inl, inr}
use Rattle.std.proofs.lemmas.Bool.{cases_lt}
use Rattle.tsn_schedule.proofs.Filled.{has_entry}
use Rattle.tsn_schedule.proofs.runner.Runner.current_at.Goals as goal

pub returns-in-None : goal.returns-in-None
returns-in-None g c =
    λ acts s.
    let by : c.args.self.now.last ≤ c.args.t =
    elim (cases_lt c.args.t c.args.self.now.last) [ inl lt ↦ cc (c.is_past.ensures.1 lt) | inr le ↦ le ]
    in
    absurd (has_entry g.E.Timed.interval c.args.self.now acts c.get-t.result c.in-Some.planned.now c.in-Some.start
    (c.get-t.result - c.in-Some.start) s (omega (arith, by, c.get-t.ensures)) c.in-Some.ensures.value c.in-None.ensures.entry)
