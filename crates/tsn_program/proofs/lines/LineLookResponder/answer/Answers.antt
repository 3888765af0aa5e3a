use Rattle.std.proofs.Common.{◌+◌, Some, ap, subst}
use Rattle.tsn_program.specs.Lines.{IsTold, Looked, counted_in}
use Rattle.tsn_program.proofs.Looking.{broke_in_looking}
use Rattle.tsn_program.proofs.lines.LineLookResponder.answer.Goals as goal

pub returns-clause-broken : goal.returns-clause-broken
returns-clause-broken g c =
    let tells = subst (λ (s : Looked). IsTold (s.lines + 1) (Some c.in-Some.why) c.told.result) c.self.view_is c.told.ensures in
    broke_in_looking c.put_all.result c.args.self.now _ _ c.in-Some.why c.told.result c.as_slice.result.now _ _ c.in-Some.ensures tells
    c.as_slice.ensures
    (ap (λ (s : Looked). counted_in s (Some c.in-Some.why)) c.self.view_is) c.put_all.ensures.fault c.put_all.ensures.cut
