use Rattle.std.proofs.Common.{◌+◌, ◌≤◌, sym, ◌∙◌, ap, subst, arith, length}
use Rattle.std.specs.Prelude.{not}
use Rattle.std.proofs.lemmas.Bool.{and_from}
use Rattle.tsn_journal.specs.Index.{belongs_to_others, is_by, number_at, number_of}
use Rattle.tsn_journal.proofs.Links.{came_to, hop, node_there, not_of_others, step}
use Rattle.tsn_journal.proofs.Walking.{found_after, none_after, none_from}
use Rattle.tsn_journal.proofs.index.Index.last_of_others.Goals as goal

pub numbered-entry-requires-clause-within : goal.numbered-entry-requires-clause-within
numbered-entry-requires-clause-within c =
    (came_to c.back-test.true c.back.invariant.within c.index-found.ensures c.requires.index.nodes).within

pub back-smaller-then-is_of : goal.back-smaller-then-is_of
back-smaller-then-is_of c =
    let at = came_to c.back-test.true c.back.invariant.within c.index-found.ensures c.requires.index.nodes in
    omega (arith, at.other_earlier, c.back-test.true)

pub back-preserved-then-is_of : goal.back-preserved-then-is_of
back-preserved-then-is_of c =
    hop c.args.marked.now c.args.self.now.nodes.items c.args.group.now c.back.node c.index-found.result.now c.back.invariant.group
    (node_there _ _ _ c.back-test.true c.back.invariant.within c.index-found.ensures) c.requires.index.nodes c.args.session
    (length c.args.marked.now + 1) c.back.invariant
    (ap (is_by c.args.session) c.numbered-entry.ensures ∙ sym c.is_of.ensures ∙ c.if-is_of.true)

pub returns-then-has : goal.returns-then-has
returns-then-has c =
    let at = came_to c.back-test.true c.back.invariant.within c.index-found.ensures c.requires.index.nodes in
    let here = node_there _ _ _ c.back-test.true c.back.invariant.within c.index-found.ensures in
    sym (found_after (belongs_to_others c.args.group.now c.args.session) c.args.marked.now c.args.after c.index-found.result.now.number
    c.numbered-entry.result.now (omega (arith, c.if-from-after.false, c.from.ensures)) at.within c.numbered-entry.ensures
    (λ i m low is. none_after c.args.group.now (belongs_to_others c.args.group.now c.args.session) c.args.marked.now
    c.args.self.now.nodes.items c.back.node c.back.invariant i m
    (subst (λ o. number_of o ≤ i) (sym here) low) is)
    (and_from _ _ (sym c.has.ensures ∙ c.if-has.true) (ap not (sym c.is_of.ensures ∙ c.if-is_of.false))))

pub back-smaller : goal.back-smaller
back-smaller c =
    omega (arith, (came_to c.back-test.true c.back.invariant.within c.index-found.ensures c.requires.index.nodes).earlier)

pub back-preserved : goal.back-preserved
back-preserved c =
    step c.args.marked.now c.args.self.now.nodes.items c.args.group.now c.back.node c.index-found.result.now c.back.invariant.group
    (node_there _ _ _ c.back-test.true c.back.invariant.within c.index-found.ensures) c.requires.index.nodes
    (belongs_to_others c.args.group.now c.args.session) (length c.args.marked.now + 1)
    (not_of_others c.args.group.now c.args.session) c.back.invariant c.numbered-entry.result.now c.numbered-entry.ensures
    (not_of_others c.args.group.now c.args.session c.numbered-entry.result.now (sym c.has.ensures ∙ c.if-has.false))

pub returns : goal.returns
returns c =
    sym (none_from (belongs_to_others c.args.group.now c.args.session) c.args.marked.now c.args.after
    (λ i m low is. none_after c.args.group.now (belongs_to_others c.args.group.now c.args.session) c.args.marked.now
    c.args.self.now.nodes.items c.back.node c.back.invariant i m
    (subst (λ j. number_at c.args.self.now.nodes.items j ≤ i) (sym c.back-test.false) (omega arith)) is))

pub returns-then-from-after : goal.returns-then-from-after
returns-then-from-after c =
    let here = node_there _ _ _ c.back-test.true c.back.invariant.within c.index-found.ensures in
    sym (none_from (belongs_to_others c.args.group.now c.args.session) c.args.marked.now c.args.after
    (λ i m low is. none_after c.args.group.now (belongs_to_others c.args.group.now c.args.session) c.args.marked.now
    c.args.self.now.nodes.items c.back.node c.back.invariant i m
    (subst (λ o. number_of o ≤ i) (sym here) (omega (arith, low, c.if-from-after.true, c.from.ensures))) is))
