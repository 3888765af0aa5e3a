use Rattle.std.proofs.Common.{subst, sym}
use Rattle.tsn_desk.specs.Desks.{first_of}
use Rattle.tsn_port.specs.Workers.{EndsIn, IsPast, TellsGates, port_of}
use Rattle.tsn_port.proofs.Working.{round_gates, round_past}
use Rattle.tsn_port.proofs.worker.PortWorker.answer.Goals as goal

pub returns-in-Ok-clause-gates : goal.returns-in-Ok-clause-gates
returns-in-Ok-clause-gates c =
    let w = c.args.self.now in
    subst (λ h. EndsIn (first_of c.args._desk.now) h (TellsGates (port_of w) c.args.t c.in-Ok.gates)) (sym c.requires.2)
    (round_gates c.args._desk.now w c.requires.0 c.requires.1 c.args.t c.in-Ok.gates c.in-Ok.ensures)

pub returns-in-Err-clause-past : goal.returns-in-Err-clause-past
returns-in-Err-clause-past c _ =
    let w = c.args.self.now in
    subst (λ h. EndsIn (first_of c.args._desk.now) h (IsPast (port_of w) c.args.t)) (sym c.requires.2)
    (round_past c.args._desk.now w c.requires.0 c.requires.1 c.args.t c.in-Err.ensures)
