use Rattle.tsn_serve.proofs.Ahead.{front_of}
use Rattle.tsn_serve.proofs.lots.read_front.Goals as goal

pub returns-clause-read : goal.returns-clause-read
returns-clause-read c = front_of c.args.bytes.now c.in_ok-line.line.now c.read_line-read.result
    c.in_ok-line.ensures.bytes.1 c.in_ok-line.ensures.one c.in_ok-line.ensures.short c.read_line-read.ensures
