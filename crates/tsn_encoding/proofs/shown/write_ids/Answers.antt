use Rattle.std.proofs.Common.{refl, ap, codes, ◌++◌, ◌∙◌}
use Rattle.tsn_encoding.proofs.Pieces.{ids_line}
use Rattle.tsn_encoding.proofs.Written.{written_as}
use Rattle.tsn_encoding.proofs.shown.write_ids.Goals as goal

pub returns : goal.returns
returns g c = written_as _ _ _ _ _ _ _ (ids_line c.args.ids.now c.push.new.self _
    (c.push.ensures.text ∙ ap (λ l. l ++ codes "{\"ids\":[") c.requires) refl) c.write_listed.ensures.ok
    c.write_listed.ensures.worked c.write_listed.ensures.fault c.write_listed.ensures.failed c.write_listed.ensures.cut
