use Rattle.std.proofs.Common.{sym, ◌∙◌, ap, arith, map}
use Rattle.std.specs.Prelude.{reverse}
use Rattle.tsn_entries.specs.declared.entries.MarkedEntry.{MarkedEntry}
use Rattle.tsn_journal.specs.Index.{belongs}
use Rattle.tsn_journal.specs.declared.groups.Group.TheVariants.{Of}
use Rattle.tsn_journal.proofs.Links.{came_to, next_group, node_there}
use Rattle.tsn_journal.proofs.Off.{none_before}
use Rattle.tsn_journal.proofs.Walking.{nothing_behind, step_back, none_numbered, one_numbered}
use Rattle.tsn_journal.proofs.index.Index.numbers_of.Goals as goal
use Rattle.tsn_journal.proofs.index.Index.numbers_of.Goals.{else-back-test, then-back-test+then-from-settled, then-is_own+in_ok-push, else-is_own}

pub back-init : goal.back-init
back-init c =
    let at = c.requires.index.latest_is (Of c.args.session) in
    let none = nothing_behind c.session_nodes-node.ensures.standing at in
    grind arith

pub numbered-entry-requires-clause-within : goal.numbered-entry-requires-clause-within
numbered-entry-requires-clause-within c =
    (came_to c.back-test.true c.back.invariant.within c.index-at.ensures c.requires.index.nodes).within

pub back-smaller : goal.back-smaller
back-smaller c =
    omega (arith, (came_to c.back-test.true c.back.invariant.within c.index-at.ensures c.requires.index.nodes).earlier)

pub back-preserved : goal.back-preserved
back-preserved c =
    let there = node_there _ _ _ c.back-test.true c.back.invariant.within c.index-at.ensures in
    let back = ap (map (λ (m : MarkedEntry). m.entry.number))
    (sym (step_back c.args.marked.now c.args.self.now.nodes.items (Of c.args.session) c.back.node c.index-at.result.now
    c.back.invariant.group there c.requires.index.nodes c.numbered-entry.result.now c.numbered-entry.ensures)) in
    record {
      within = (came_to c.back-test.true c.back.invariant.within c.index-at.ensures c.requires.index.nodes).last.within;
      group = next_group c.args.marked.now c.args.self.now.nodes.items (Of c.args.session) c.back.node c.index-at.result.now
          c.back.invariant.group there c.requires.index.nodes;
      so_far = elim c.if-is_own.branch [
        | then-is_own+in_ok-push w ↦ (λ i. reverse (w.found-is i).items) ∙ ap reverse (w.in_ok-push.ensures.items)
            ∙ one_numbered c.back.found.items _ (belongs (Of c.args.session) c.numbered-entry.result.now) c.numbered-entry.result.now
            c.back.invariant.so_far (sym c.is_own.ensures ∙ w.if-is_own.true)
            ∙ back
        | else-is_own w ↦ (λ i. reverse (w.found-is i).items)
            ∙ none_numbered c.back.found.items _ (belongs (Of c.args.session) c.numbered-entry.result.now) c.numbered-entry.result.now
            c.back.invariant.so_far (sym c.is_own.ensures ∙ w.if-is_own.false)
            ∙ back
      ];
    }

pub returns : goal.returns
returns c = grind (arith, else-back-test, then-back-test+then-from-settled, node_there, none_before)
