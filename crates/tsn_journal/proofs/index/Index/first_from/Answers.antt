use Rattle.std.proofs.Common.{◌+◌, sym, ◌∙◌, arith, length}
use Rattle.tsn_journal.specs.Index.{belongs}
use Rattle.tsn_journal.proofs.Links.{came_to, node_there, step}
use Rattle.tsn_journal.proofs.index.Index.first_from.Goals as goal

pub numbered-requires-clause-within : goal.numbered-requires-clause-within
numbered-requires-clause-within c = (came_to c.back-test.true c.back.invariant.within c.index-at.ensures c.requires.nodes).within

pub back-smaller : goal.back-smaller
back-smaller c = omega (arith, (came_to c.back-test.true c.back.invariant.within c.index-at.ensures c.requires.nodes).earlier)

pub back-preserved : goal.back-preserved
back-preserved c =
    step c.args.marked.now c.args.self.now.nodes.items c.args.group.now c.back.node c.index-at.result.now c.back.invariant.group
    (node_there _ _ _ c.back-test.true c.back.invariant.within c.index-at.ensures) c.requires.nodes
    (belongs c.args.group.now) (length c.args.marked.now + 1) (λ m h. h) c.back.invariant c.numbered.result.now c.numbered.ensures
    (sym c.has.ensures ∙ c.if-has.false)
