use Rattle.std.proofs.Common.{[], sym, subst, ◌∙◌, ap, arith}
use Rattle.tsn_entries.specs.Entries.{added_parts}
use Rattle.tsn_journal.specs.Index.{HasRoom, TakesRoom, nodes_for}
use Rattle.tsn_journal.proofs.Keeping.{indexed_same}
use Rattle.tsn_journal.proofs.index.Index.enter.Goals as goal

pub returns-in-Undone-clause-index : goal.returns-in-Undone-clause-index
returns-in-Undone-clause-index c =
    indexed_same c.args.marked.now c.enter_session.new.self c.touch_parts.new.self (λ i. (c.touch_parts.ensures.kept.nodes i).items)
    c.touch_parts.ensures.kept.latest
    (c.enter_session.ensures.index []
    (grind arith))

pub enter_change-requires-clause-room : goal.enter_change-requires-clause-room
enter_change-requires-clause-room c =
    subst (λ n. HasRoom (nodes_for 1 n) c.args.self.now)
    (sym (c.requires.parts c.numbered.result.now c.numbered.ensures) ∙ ap added_parts c.in-Made.is) c.requires.room

pub returns-in-Made-clause-room : goal.returns-in-Made-clause-room
returns-in-Made-clause-room c =
    subst (λ n. TakesRoom (nodes_for 1 n) c.args.self.now c.enter_change.new.self)
    (sym (ap added_parts c.in-Made.is) ∙ c.requires.parts c.numbered.result.now c.numbered.ensures) c.enter_change.ensures.room

pub enter_change-requires-in-Redone-clause-room : goal.enter_change-requires-in-Redone-clause-room
enter_change-requires-in-Redone-clause-room c =
    subst (λ n. HasRoom (nodes_for 1 n) c.args.self.now)
    (sym (c.requires.parts c.numbered.result.now c.numbered.ensures) ∙ ap added_parts c.in-Redone.is) c.requires.room

pub returns-in-Redone-clause-room : goal.returns-in-Redone-clause-room
returns-in-Redone-clause-room c =
    subst (λ n. TakesRoom (nodes_for 1 n) c.args.self.now c.enter_change-in-Redone.new.self)
    (sym (ap added_parts c.in-Redone.is) ∙ c.requires.parts c.numbered.result.now c.numbered.ensures) c.enter_change-in-Redone.ensures.room
