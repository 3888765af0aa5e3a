use Rattle.std.proofs.Common.{arith}
use Rattle.tsn_wire.proofs.Scanning.{key_read}
use Rattle.tsn_wire.proofs.values.KeyDraftScanned.scanned.Goals as goal

pub returns : goal.returns
returns c = key_read c.in_ok-key.key.kind c.in_ok-key.key.number _ _ _ _ _ (omega (arith, c.in_ok-key.ensures.0)) c.skip.ensures
    c.in_ok-expect.ensures c.in_ok-key.ensures.1 c.in_ok-expect-2.ensures
