use Rattle.std.proofs.Common.{refl}
use Rattle.tsn_encoding.proofs.Telling.{told_of}
use Rattle.tsn_encoding.proofs.Written.{written_as}
use Rattle.tsn_encoding.proofs.told.write_told.Goals as goal

pub returns : goal.returns
returns g c = written_as _ _ _ _ _ _ _
    (told_of c.args.text.now c.push.new.self _ _ c.requires c.push.ensures.text refl) c.write_listed.ensures.ok
    c.write_listed.ensures.worked c.write_listed.ensures.fault c.write_listed.ensures.failed c.write_listed.ensures.cut
