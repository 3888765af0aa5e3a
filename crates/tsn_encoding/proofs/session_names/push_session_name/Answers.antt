use Rattle.std.proofs.Common.{arith}
use Rattle.tsn_encoding.proofs.Escapes.{held_short}
use Rattle.tsn_encoding.proofs.session_names.push_session_name.Goals as goal

pub push_escaped-requires : goal.push_escaped-requires
push_escaped-requires c = omega (
  arith,
  held_short c.push.new.self c.bytes.text c.args.name.now c.as_bytes-bytes.result.now
      c.bytes.byte-index c.bytes.invariant c.as_bytes-bytes.ensures.bytes c.as_bytes-bytes.ensures.name,
)

pub push-requires-2 : goal.push-requires-2
push-requires-2 c = omega (
  arith,
  held_short c.push.new.self c.bytes.text c.args.name.now c.as_bytes-bytes.result.now
      c.bytes.byte-index c.bytes.invariant c.as_bytes-bytes.ensures.bytes c.as_bytes-bytes.ensures.name,
)

pub returns-clause-len : goal.returns-clause-len
returns-clause-len c = omega (
  arith,
  held_short c.push.new.self c.bytes.text c.args.name.now c.as_bytes-bytes.result.now
      c.bytes.byte-index c.bytes.invariant c.as_bytes-bytes.ensures.bytes c.as_bytes-bytes.ensures.name,
)
