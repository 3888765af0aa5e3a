use Rattle.std.proofs.Common.{sym, ap, ◌∙◌, arith}
use Rattle.tsn_wire.specs.Lexed.{lexed}
use Rattle.tsn_wire.proofs.Lexing.{mark_at}
use Rattle.tsn_wire.proofs.cursor.Cursor.pass.Goals as goal

pub returns-clause-took : goal.returns-clause-took
returns-clause-took c = λ _.
    let text = c.self.inside.text.now in
    let at = c.self.inside.at in
    sym (ap lexed c.self.view_is) ∙ mark_at text at c.args.mark (omega (arith, c.if-self.false, c.self.invariant)) c.if-self-mark.false
    c.requires
