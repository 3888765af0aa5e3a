use Rattle.std.proofs.Common.{rules, subst}
use Rattle.tsn_wire.specs.Lexed.{lexed}
use Rattle.tsn_wire.specs.Lines.{line_rows}
use Rattle.tsn_wire.specs.Members.{ReadsMembers}
use Rattle.tsn_wire.proofs.AnySpelling.{any_says}
use Rattle.tsn_wire.proofs.any_line.any_draft.Goals as goal

pub returns-in-Ok : goal.returns-in-Ok
returns-in-Ok c =
    any_says c.args.line.now c.members.new.text c.skip.new.self _ _ _
    (subst (λ l. ReadsMembers 5 (lexed l) (line_rows c.members.new.found) c.in_ok-count.count (lexed c.members.new.text)) c.new-text.ensures
    c.in_ok-count.ensures) c.skip.ensures c.in_ok-end.ensures c.line_draft.ensures (search rules)
