use Rattle.std.proofs.Common.{refl, sym, subst, ◌∙◌}
use Rattle.tsn_wire.specs.Lexed.{lexed}
use Rattle.tsn_wire.specs.Members.{ReadsMember}
use Rattle.tsn_wire.proofs.Gathering.{none_yet, one_more, all_gathered}
use Rattle.tsn_wire.proofs.members.members.Goals as goal

pub members-init : goal.members-init
members-init g c = none_yet _ _ _ c.requires

pub returns-then-mark : goal.returns-then-mark
returns-then-mark g c =
    let member = subst (λ l. ReadsMember g.M.Gathered.nesting l (g.M.Gathered.rows c.members.found) (g.M.Gathered.rows c.member.new.self)
    (lexed c.member.new.text)) c.skip.ensures c.in_ok-member.ensures in
    all_gathered _ _ _ _ _ _ _ _ _ (c.if-not-mark.ensures.took refl) c.members.invariant member (c.if-mark.ensures.took refl)

pub members-preserved : goal.members-preserved
members-preserved g c =
    let member = subst (λ l. ReadsMember g.M.Gathered.nesting l (g.M.Gathered.rows c.members.found) (g.M.Gathered.rows c.member.new.self)
    (lexed c.member.new.text)) c.skip.ensures c.in_ok-member.ensures in
    one_more _ _ _ _ _ _ _ _ c.members.invariant member
    (sym (c.mark-in-members.ensures.kept c.if-mark.false) ∙ c.if-not-mark-2.ensures.took refl)
