use Rattle.std.proofs.Common.{refl}
use Rattle.tsn_wire.proofs.Lexing.{quoted_before}
use Rattle.tsn_wire.proofs.cursor.Cursor.quoted.Goals as goal

pub returns : goal.returns
returns c = λ t. quoted_before _ _ c.args.name.now _ _ (c.if-not-take.ensures.took refl) (c.if-not-take-2.ensures.took refl)
    (c.take-3.ensures.took t) c.requires
