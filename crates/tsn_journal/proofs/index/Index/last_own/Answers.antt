use Rattle.std.proofs.Common.{◌+◌, ◌≤◌, ◌&&◌, Bool, sym, ◌∙◌, subst, arith, length, rules}
use Rattle.std.proofs.lemmas.List.{length-take-le}
use Rattle.std.proofs.lemmas.Bool.{and_from}
use Rattle.tsn_entries.specs.declared.entries.MarkedEntry.{MarkedEntry}
use Rattle.tsn_journal.specs.declared.groups.Group.TheVariants.{Of}
use Rattle.tsn_journal.specs.Index.{belongs, number_at, number_of}
use Rattle.tsn_entries.specs.Marks.{is_own}
use Rattle.tsn_journal.proofs.Links.{came_to, next_group, node_there, step_beyond, step_none}
use Rattle.tsn_journal.proofs.Lowering.{newest_told}
use Rattle.tsn_journal.proofs.Walking.{and_out, found_from, in_list, last_upto, none_from}
use Rattle.tsn_journal.proofs.index.Index.last_own.Goals as goal
use Rattle.tsn_journal.proofs.index.Index.last_own.Goals.{then-from-upto+else-is_own, else-is_own-via-then-is_own+else-test, else-is_own-via-else-is_own, else-from-upto+else-passed-upto}

pub back-init : goal.back-init
back-init g c =
    let at = newest_told (Of c.args.session) c.args.marked.now c.args.self.now c.session_nodes-node.result.standing c.requires.index
    c.session_nodes-node.ensures.standing in
    grind arith

pub numbered-entry-requires-clause-some : goal.numbered-entry-requires-clause-some
numbered-entry-requires-clause-some g c =
    (came_to c.back-test.true c.back.invariant.within c.index-found.ensures c.requires.index.nodes).some

pub numbered-entry-requires-clause-within : goal.numbered-entry-requires-clause-within
numbered-entry-requires-clause-within g c =
    (came_to c.back-test.true c.back.invariant.within c.index-found.ensures c.requires.index.nodes).within

pub back-smaller : goal.back-smaller
back-smaller g c =
    omega (arith, (came_to c.back-test.true c.back.invariant.within c.index-found.ensures c.requires.index.nodes).earlier)

pub returns-then-test : goal.returns-then-test
returns-then-test g c = λ p answers above.
    let at = came_to c.back-test.true c.back.invariant.within c.index-found.ensures c.requires.index.nodes in
    let here = node_there _ _ _ c.back-test.true c.back.invariant.within c.index-found.ensures in
    sym (found_from (λ m. is_own c.args.session m && p m) c.args.marked.now c.index-found.result.now.number c.numbered-entry.result.now
    at.some at.within c.numbered-entry.ensures
    (λ i m low is. c.back.invariant.none_later p answers above i m (subst (λ o. number_of o ≤ i) (sym here) low)
    (in_list c.args.marked.now i m is) is)
    (and_from _ _ (sym c.is_own.ensures ∙ c.if-is_own.true) (sym (answers _ _ c.test.ensures) ∙ c.if-test.true)))

pub back-preserved : goal.back-preserved
back-preserved g c =
    let at = came_to c.back-test.true c.back.invariant.within c.index-found.ensures c.requires.index.nodes in
    let here = node_there _ _ _ c.back-test.true c.back.invariant.within c.index-found.ensures in
    record {
      within = at.last.within;
      group = next_group c.args.marked.now c.args.self.now.nodes.items (Of c.args.session) c.back.node c.index-found.result.now
          c.back.invariant.group here c.requires.index.nodes;
      none_later = λ p answers above.
          let t : MarkedEntry → Bool = λ m. is_own c.args.session m && p m in
          elim c.if-from-upto.branch [
            | then-from-upto+else-is_own w ↦
                step_none c.args.marked.now c.args.self.now.nodes.items (Of c.args.session) c.back.node c.index-found.result.now
                c.back.invariant.group here c.requires.index.nodes
                t (length c.args.marked.now + 1) (and_out p (belongs (Of c.args.session))) (c.back.invariant.none_later p answers above)
                w.numbered-entry.result.now w.numbered-entry.ensures
                (grind arith)
            | else-from-upto+else-passed-upto w ↦
                step_beyond c.args.marked.now c.args.self.now.nodes.items (Of c.args.session) c.back.node c.index-found.result.now
                c.back.invariant.group here c.requires.index.nodes
                t (length c.args.marked.now + 1) (and_out p (belongs (Of c.args.session))) c.args.upto
                (omega (arith, w.if-from-upto.false, c.from.ensures)) above
          ];
    }

pub returns : goal.returns
returns g c = λ p answers above.
    let t : MarkedEntry → Bool = λ m. is_own c.args.session m && p m in
    sym (none_from t c.args.marked.now 0
    (λ i m low is. c.back.invariant.none_later p answers above i m
    (subst (λ j. number_at c.args.self.now.nodes.items j ≤ i) (sym c.back-test.false) (omega arith)) (in_list c.args.marked.now i m is)
    is))

pub slice_bounds-last-end : goal.slice_bounds-last-end
slice_bounds-last-end g c =
    let at = came_to c.back-test.true c.back.invariant.within c.index-found.ensures c.requires.index.nodes in
    grind (arith, length-take-le)

pub returns-then-passed-upto : goal.returns-then-passed-upto
returns-then-passed-upto g c = λ p answers above. c.last.ensures (λ m. is_own c.args.session m && p m) (λ x b h. search (rules, answers))
    ∙ last_upto (λ m. is_own c.args.session m && p m) c.args.marked.now c.args.upto above
