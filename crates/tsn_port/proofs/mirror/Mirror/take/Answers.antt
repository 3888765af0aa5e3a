use Rattle.std.proofs.Common.{◌∙◌, arith}
use Rattle.tsn_port.proofs.Taking.{next_taken}
use Rattle.tsn_port.proofs.mirror.Mirror.take.Goals as goal

pub each-preserved : goal.each-preserved
each-preserved c =
    let port = c.each.invariant.0 in
    let was = c.each.invariant.2 in (
      c.take_one.ensures.port ∙ port,
      omega (arith, c.in-Ok.ensures.front, c.each.invariant.1),
      λ opening before mirrors of_port.
          next_taken c.each.self c.take_one.new.self c.args.self.now.port opening before c.as_slice-all.result.now c.each.entry-index
          c.entry-item.result c.each-test.true c.entry-item.is port c.take_one.ensures.port c.in-Ok.ensures.front c.in-Ok.ensures.shows
          of_port (was opening before mirrors of_port),
    )
