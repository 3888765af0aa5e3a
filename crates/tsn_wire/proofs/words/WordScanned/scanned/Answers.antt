use Rattle.tsn_wire.proofs.Scanning.{word_read}
use Rattle.tsn_wire.proofs.words.WordScanned.scanned.Goals as goal

pub returns : goal.returns
returns c = word_read c.in_ok-word.word _ _ _ _ _ c.skip.ensures c.in_ok-expect.ensures c.in_ok-word.ensures c.in_ok-expect-2.ensures
