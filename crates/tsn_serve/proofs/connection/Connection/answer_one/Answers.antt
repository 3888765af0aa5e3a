use Rattle.std.proofs.Common.{arith}
use Rattle.tsn_serve.specs.Talk.{Talks, BreaksTalk}
use Rattle.tsn_serve.proofs.Ahead.{front_fits, fed_front, broken_front}
use Rattle.tsn_serve.proofs.connection.Connection.answer_one.Goals as goal

pub returns-in-Ok-clause-front : goal.returns-in-Ok-clause-front
returns-in-Ok-clause-front g c =
    let ok = c.in-Ok.ensures.ok in (
      omega (arith, c.requires.5),
      front_fits c.args._bytes.now c.args.count c.args.read c.requires,
      (
        ok.0,
        fed_front c.args._bytes.now c.args.count c.args.read c.requires Talks c.args.self.now ok.0 c.answer_read.new.self ok.1,
        ok.2,
      ),
    )

pub returns-in-Err-clause-front : goal.returns-in-Err-clause-front
returns-in-Err-clause-front g c =
    let broken = c.in-Err.ensures.broken in (
      c.in-Err.ensures.fault,
      (
        broken.0,
        broken_front c.args._bytes.now c.args.count c.args.read c.requires Talks BreaksTalk c.in-Err.fault
            c.args.self.now broken.0 c.answer_read.new.self broken.1,
        broken.2,
      ),
    )
