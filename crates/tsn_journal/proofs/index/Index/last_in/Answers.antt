use Rattle.std.proofs.Common.{◌+◌, ◌≤◌, ◌&&◌, Bool, sym, ◌∙◌, subst, arith, length}
use Rattle.std.proofs.lemmas.Bool.{and_from}
use Rattle.tsn_entries.specs.declared.entries.MarkedEntry.{MarkedEntry}
use Rattle.tsn_journal.specs.Index.{belongs, number_at, number_of}
use Rattle.tsn_journal.proofs.Links.{came_to, next_group, node_there, step_none}
use Rattle.tsn_journal.proofs.Walking.{and_out, found_from, in_list, none_from}
use Rattle.tsn_journal.proofs.index.Index.last_in.Goals as goal

pub numbered-entry-requires-clause-some : goal.numbered-entry-requires-clause-some
numbered-entry-requires-clause-some g c =
    (came_to c.back-test.true c.back.invariant.within c.index-found.ensures c.requires.index.nodes).some

pub numbered-entry-requires-clause-within : goal.numbered-entry-requires-clause-within
numbered-entry-requires-clause-within g c =
    (came_to c.back-test.true c.back.invariant.within c.index-found.ensures c.requires.index.nodes).within

pub back-smaller : goal.back-smaller
back-smaller g c =
    omega (arith, (came_to c.back-test.true c.back.invariant.within c.index-found.ensures c.requires.index.nodes).earlier)

pub returns-then-test : goal.returns-then-test
returns-then-test g c = λ p answers.
    let at = came_to c.back-test.true c.back.invariant.within c.index-found.ensures c.requires.index.nodes in
    let here = node_there _ _ _ c.back-test.true c.back.invariant.within c.index-found.ensures in
    sym (found_from (λ m. belongs c.args.group.now m && p m) c.args.marked.now c.index-found.result.now.number c.numbered-entry.result.now
    at.some at.within c.numbered-entry.ensures
    (λ i m low is. c.back.invariant.none_later p answers i m (subst (λ o. number_of o ≤ i) (sym here) low)
    (in_list c.args.marked.now i m is) is)
    (and_from _ _ (sym c.has.ensures ∙ c.if-has.true) (sym (answers _ _ c.test.ensures) ∙ c.if-test.true)))

pub back-preserved : goal.back-preserved
back-preserved g c =
    let at = came_to c.back-test.true c.back.invariant.within c.index-found.ensures c.requires.index.nodes in
    let here = node_there _ _ _ c.back-test.true c.back.invariant.within c.index-found.ensures in
    record {
      within = at.last.within;
      group = next_group c.args.marked.now c.args.self.now.nodes.items c.args.group.now c.back.node c.index-found.result.now
          c.back.invariant.group here c.requires.index.nodes;
      none_later = λ p answers.
          let t : MarkedEntry → Bool = λ m. belongs c.args.group.now m && p m in
          step_none c.args.marked.now c.args.self.now.nodes.items c.args.group.now c.back.node c.index-found.result.now
          c.back.invariant.group here c.requires.index.nodes
          t (length c.args.marked.now + 1) (and_out p (belongs c.args.group.now)) (c.back.invariant.none_later p answers)
          c.numbered-entry.result.now c.numbered-entry.ensures
          (grind arith);
    }

pub returns : goal.returns
returns g c = λ p answers.
    let t : MarkedEntry → Bool = λ m. belongs c.args.group.now m && p m in
    sym (none_from t c.args.marked.now 0
    (λ i m low is. c.back.invariant.none_later p answers i m
    (subst (λ j. number_at c.args.self.now.nodes.items j ≤ i) (sym c.back-test.false) (omega arith)) (in_list c.args.marked.now i m is)
    is))
