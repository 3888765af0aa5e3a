use Rattle.std.proofs.Common.{All, List, ℕ, suc, ◌≡◌, ◌++◌, subst, arith}
use Rattle.std.proofs.KnownBytes.{Appends-trans}
use Rattle.tsn_server.specs.Reporting.{IsRested, IsToldOf, report_line}
use Rattle.tsn_port.specs.Workers.{port_of}
use Rattle.tsn_server.proofs.Lines.{one_more}
use Rattle.tsn_server.proofs.reporting.report.Goals as goal

pub last_round-requires : goal.last_round-requires
last_round-requires g c =
    let all = subst (λ l. All (λ p. IsRested c.args.desk.now p) l) c.in-Some.ensures.steps.0 c.workers.invariant.0 in
    all 0 c.in-Some.pair (omega arith)

pub workers-preserved : goal.workers-preserved
workers-preserved g c =
    let all = subst (λ l. All (λ p. IsRested c.args.desk.now p) l) c.in-Some.ensures.steps.0 c.workers.invariant.0 in
    let line : List ℕ = c.as_slice.result.now in
    let is : line ≡ report_line (port_of c.in-Some.pair.1) c.in_ok-told.told = cc in
    let told : IsToldOf c.args.desk.now c.args.at c.in-Some.pair line = (c.in_ok-told.told, c.in_ok-told.ensures.told, is) in (
      λ k d within. all (suc k) d (omega (arith, within)),
      (
        c.workers.invariant.1.0 ++ line,
        one_more c.args.desk.now c.args.at c.workers.yielded c.workers.invariant.1.0 c.in-Some.pair line c.workers.invariant.1.1 told,
        Appends-trans _ _ _ c.workers.invariant.1.0 line c.workers.invariant.1.2 c.in_ok-put_all.ensures.ok,
      ),
    )
