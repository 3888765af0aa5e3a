use Rattle.std.proofs.Common.{arith, refl, ap, ◌∙◌, length, length-set, length-append}
use Rattle.tsn_encoding.proofs.Bytes.{held, no_byte, byte_more, every_byte}
use Rattle.tsn_encoding.proofs.text.ShortText.push.Goals as goal

pub loop-place-init : goal.loop-place-init
loop-place-init c = (no_byte c.self.inside.bytes c.as_bytes-piece.result.now c.self.inside.len, refl)

pub loop-place-preserved : goal.loop-place-preserved
loop-place-preserved c =
    let size = held c.args.self.now c.self.inside.bytes c.self.inside.len (omega (arith, c.self.invariant)) c.self.view_is in
    let same = ap length c.as_bytes-piece.ensures.value in (
      byte_more c.self.inside.bytes c.loop-place.self-inside.bytes c.as_bytes-piece.result.now c.self.inside.len c.loop-place.place
          (omega (arith, size, same, c.loop-place.invariant.1)) c.loop-place-test.true c.loop-place.invariant.0,
      length-set _ _ _ ∙ c.loop-place.invariant.1,
    )

pub returns-clause-text : goal.returns-clause-text
returns-clause-text c =
    every_byte _ _ _ _ _ _ c.loop-place.place c.self.view_is c.as_bytes-piece.ensures.value c.loop-place-test.false
    c.loop-place.auto.place-end c.loop-place.invariant.0

pub returns-clause-len : goal.returns-clause-len
returns-clause-len c =
    ap length (every_byte _ _ _ _ _ _ c.loop-place.place c.self.view_is c.as_bytes-piece.ensures.value c.loop-place-test.false
    c.loop-place.auto.place-end c.loop-place.invariant.0)
    ∙ length-append c.args.self.now c.args.piece.now
