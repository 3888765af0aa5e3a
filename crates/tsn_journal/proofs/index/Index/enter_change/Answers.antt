use Rattle.std.proofs.Common.{◌+◌, ◌<◌, ◌∷◌, ◌++◌, List, [], arith, drop, sym, subst, ◌∙◌, ap, inl, inr, get_or, length}
use Rattle.std.specs.Prelude.{option_map}
use Rattle.tsn_edit.specs.Parts.{Part}
use Rattle.tsn_journal.specs.declared.groups.Group.TheVariants.{RefersTo}
use Rattle.tsn_journal.specs.Index.{IsIndexedBut, groups_of_parts}
use Rattle.tsn_journal.specs.Latest.{latest_of}
use Rattle.tsn_journal.proofs.Entering.{next_pending, none_pending, of_session, pending_change, takes_none, three_taken}
use Rattle.tsn_journal.proofs.Indexing.{but_newest}
use Rattle.tsn_journal.proofs.Newest.{in_key, in_ref}
use Rattle.tsn_journal.proofs.Telling.{same_itself', told_more, told_same}
use Rattle.tsn_journal.proofs.index.Index.enter_change.Goals.{After-enter_on}
use Rattle.tsn_journal.proofs.index.Index.enter_change.Goals as goal

pub loop-part-init : goal.loop-part-init
loop-part-init c = record {
  pending = subst (λ (ps : List Part). IsIndexedBut (groups_of_parts ps ++ of_session c.args.session c.args.ends) c.args.marked.now
      c.args.self.now.nodes.items (latest_of c.args.self.now.latest)) (sym c.parts-parts.ensures.parts)
      (pending_change c.args.marked.now c.args.number c.args.session c.args.change.now c.args.ends c.requires.newest c.args.self.now
      c.requires.index);
  newest = λ g had. had;
  told = told_same c.args.number c.args.self.now c.args.self.now (same_itself' c.args.self.now);
  room = takes_none c.args.self.now;
}

-- the groups that the newest entry still has to come into, once it is entered on the part's key
entered_on : (c : After-enter_on)
    → IsIndexedBut (option_map RefersTo c.refs_of-refs.result.first ∷ option_map RefersTo c.refs_of-refs.result.second
    ∷ (groups_of_parts (drop (c.loop-part.part-index + 1) c.parts-parts.result.now) ++ of_session c.args.session c.args.ends))
    c.args.marked.now c.enter_on.new.self.nodes.items (latest_of c.enter_on.new.self.latest)
entered_on c =
    c.enter_on.ensures.index _
    (next_pending c.args.marked.now c.loop-part.self c.parts-parts.result.now c.loop-part.part-index c.args.session c.args.ends
    c.part-item.result c.refs_of-refs.result c.loop-part-test.true c.part-item.is c.refs_of-refs.ensures c.loop-part.invariant.pending)

pub enter_ref-requires-clause-index : goal.enter_ref-requires-clause-index
enter_ref-requires-clause-index c =
    but_newest c.args.marked.now _ c.enter_on.new.self (entered_on (goal.at.enter_ref-requires-clause-index c).After-enter_on)

pub enter_ref-requires-in-loop-part-clause-index : goal.enter_ref-requires-in-loop-part-clause-index
enter_ref-requires-in-loop-part-clause-index c =
    but_newest c.args.marked.now _ c.enter_ref.new.self
    (c.enter_ref.ensures.index _ (entered_on (goal.at.enter_ref-requires-in-loop-part-clause-index c).After-enter_on))

pub loop-part-preserved : goal.loop-part-preserved
loop-part-preserved c =
    let refs = c.refs_of-refs.result in
    let first = c.enter_ref.ensures.index _ (entered_on (goal.at.loop-part-preserved c).After-enter_on) in
    record {
      pending = c.enter_ref-in-loop-part.ensures.index _ first;
      newest = λ g had. c.enter_ref-in-loop-part.ensures.newest g
          (c.enter_ref.ensures.newest g (c.enter_on.ensures.newest g (c.loop-part.invariant.newest g had)));
      told = told_more c.args.number c.loop-part.part-index c.parts-parts.result.now c.part-item.result refs c.args.self.now
          c.loop-part.self c.enter_on.new.self c.enter_ref.new.self c.enter_ref-in-loop-part.new.self c.requires.newest.some
          c.loop-part-test.true c.part-item.is c.refs_of-refs.ensures
          c.loop-part.invariant.told c.enter_on.ensures.told c.enter_ref.ensures.told c.enter_ref-in-loop-part.ensures.told;
      room = three_taken c.loop-part.part-index c.args.self.now c.loop-part.self c.enter_on.new.self c.enter_ref.new.self
          c.enter_ref-in-loop-part.new.self c.loop-part.invariant.room c.enter_on.ensures.room c.enter_ref.ensures.room
          c.enter_ref-in-loop-part.ensures.room;
    }

pub returns-clause-index : goal.returns-clause-index
returns-clause-index c =
    c.enter_session.ensures.index []
    (none_pending c.args.marked.now c.loop-part.self c.parts-parts.result.now c.loop-part.part-index c.args.session c.args.ends
    (omega arith) c.loop-part.invariant.pending)

pub enter_on-requires-clause-in_group : goal.enter_on-requires-clause-in_group
enter_on-requires-clause-in_group c = λ m at.
    let same = c.parts-parts.ensures.parts in
    in_key c.args.marked.now c.args.number c.args.session c.args.change.now c.args.ends c.requires.newest m at c.loop-part.part-index
    c.part-item.result
    (subst (λ ps. c.loop-part.part-index < length ps) same (omega (arith, c.loop-part-test.true)))
    (c.part-item.is ∙ ap (λ ps. get_or ps c.loop-part.part-index c.part-item.result) same)

pub enter_ref-requires-clause-in_group : goal.enter_ref-requires-clause-in_group
enter_ref-requires-clause-in_group c = λ k m some at.
    let same = c.parts-parts.ensures.parts in
    in_ref c.args.marked.now c.args.number c.args.session c.args.change.now c.args.ends c.requires.newest m at c.loop-part.part-index
    c.part-item.result c.refs_of-refs.result k
    (subst (λ ps. c.loop-part.part-index < length ps) same (omega (arith, c.loop-part-test.true)))
    (c.part-item.is ∙ ap (λ ps. get_or ps c.loop-part.part-index c.part-item.result) same) c.refs_of-refs.ensures (inl some)

pub enter_ref-requires-in-loop-part-clause-in_group : goal.enter_ref-requires-in-loop-part-clause-in_group
enter_ref-requires-in-loop-part-clause-in_group c = λ k m some at.
    let same = c.parts-parts.ensures.parts in
    in_ref c.args.marked.now c.args.number c.args.session c.args.change.now c.args.ends c.requires.newest m at c.loop-part.part-index
    c.part-item.result c.refs_of-refs.result k
    (subst (λ ps. c.loop-part.part-index < length ps) same (omega (arith, c.loop-part-test.true)))
    (c.part-item.is ∙ ap (λ ps. get_or ps c.loop-part.part-index c.part-item.result) same) c.refs_of-refs.ensures (inr some)
