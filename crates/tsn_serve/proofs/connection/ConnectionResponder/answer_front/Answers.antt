use Rattle.tsn_serve.proofs.Ahead.{front_of}
use Rattle.tsn_serve.proofs.connection.ConnectionResponder.answer_front.Goals as goal

-- the line in front was read
pub answer_from-requires : goal.answer_from-requires
answer_from-requires g c = front_of c.args.bytes.now c.in-Some.line.now c.read_line-read.result
    c.in-Some.ensures.bytes.1 c.in-Some.ensures.one c.in-Some.ensures.short c.read_line-read.ensures
