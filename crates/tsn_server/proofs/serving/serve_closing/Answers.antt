use Rattle.std.proofs.Common.{◌≡◌, ◌∙◌, ℕ, ap, map, rules}
use Rattle.tsn_server.specs.Serving.{followed}
use Rattle.tsn_server.proofs.Lines.{served_ports, served_rest, told_end}
use Rattle.tsn_server.proofs.serving.serve_closing.Goals as goal

pub report-requires : goal.report-requires
report-requires g c =
    served_rest c.in-Ok.desk c.in-Ok.seats.items c.as_slice.result.now c.in-Ok-served._seats.items c.in-Ok-served.workers.items
    c.in-Ok-served.ensures

pub returns-in-Ok-report-clause-lines : goal.returns-in-Ok-report-clause-lines
returns-in-Ok-report-clause-lines g c =
    let lines = c.in-Ok-report.ensures.lines in
    let count : c.ports.result ≡ c.args.bridge.book.limits.ports = search rules in
    let ports = served_ports c.in-Ok.desk c.in-Ok.seats.items c.as_slice.result.now c.in-Ok-served._seats.items
    c.in-Ok-served.workers.items c.in-Ok-served.ensures
    ∙ (ap (map (λ (p : ℕ × ℕ). p.0)) c.as_slice.ensures.value
    ∙ (c.in_ok-probes.ensures.ports ∙ (c.rounds_of-rounds.ensures.ports ∙ ap (λ n. followed n c.args.at) count))) in (
      lines.0,
      told_end c.in-Ok.desk c.args.bridge c.args.at _ _ c.in-Ok-served.workers.items lines.0 c.in-Ok.ensures.desk.0
          c.rounds_of-rounds.ensures.at ports lines.1,
      lines.2,
    )
