use Rattle.std.proofs.Common.{subst}
use Rattle.tsn_wire.proofs.CompactSpelling.{front_says}
use Rattle.tsn_wire.specs.SpelledFront.{SpellsFront}
use Rattle.tsn_wire.proofs.spelled.compact_draft.Goals as goal

pub returns : goal.returns
returns c =
    front_says c.args.line.now c.front.new.text c.in_ok-command.command c.in_ok-session.session
    (subst (λ l. SpellsFront l c.in_ok-command.command c.front.new.text) c.new-text.ensures c.in_ok-command.ensures)
    c.in_ok-session.ensures.0 c.in_ok-session.ensures.1
