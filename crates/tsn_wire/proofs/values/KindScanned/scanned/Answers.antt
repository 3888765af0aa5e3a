use Rattle.tsn_wire.proofs.Scanning.{kind_read}
use Rattle.tsn_wire.proofs.values.KindScanned.scanned.Goals as goal

pub returns : goal.returns
returns c = kind_read c.in_ok-kind.kind _ _ _ _ _ c.skip.ensures c.in_ok-expect.ensures c.in_ok-kind.ensures c.in_ok-expect-2.ensures
