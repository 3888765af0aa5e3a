use Rattle.std.proofs.Common.{◌≡◌, ◌+◌, ◌-◌, Bool, sym, ap, subst, arith, drop, take, filter}
use Rattle.tsn_entries.specs.declared.entries.MarkedEntry.{MarkedEntry}
use Rattle.tsn_entries.specs.Marks.{IsTally}
use Rattle.tsn_journal.specs.Index.{belongs, number_at, number_of}
use Rattle.tsn_journal.specs.declared.groups.Group.TheVariants.{Of}
use Rattle.tsn_journal.proofs.Links.{came_to, node_there, the_node}
use Rattle.tsn_journal.proofs.Off.{none_before, own_split}
use Rattle.tsn_journal.proofs.Walking.{both_told, nothing_behind, step_back}
use Rattle.tsn_journal.proofs.index.Index.tally_of.Goals as goal

pub back-init : goal.back-init
back-init c =
    let at = c.requires.index.latest_is (Of c.args.session) in
    let none = nothing_behind c.session_nodes-node.ensures.standing at in
    grind arith

pub numbered-entry-requires : goal.numbered-entry-requires
numbered-entry-requires c =
    let at = came_to c.back-test.true c.back.invariant.within c.index-at.ensures c.requires.index.nodes in
    record { some = at.some; within = at.within }

pub back-smaller : goal.back-smaller
back-smaller c =
    omega (arith, (came_to c.back-test.true c.back.invariant.within c.index-at.ensures c.requires.index.nodes).earlier)

pub back-preserved : goal.back-preserved
back-preserved c =
    let ms = c.args.marked.now in
    let ps = c.args.self.now.nodes.items in
    let g = Of c.args.session in
    let m = c.numbered-entry.result.now in
    let there = node_there ps c.back.node c.index-at.result.now c.back-test.true c.back.invariant.within c.index-at.ensures in
    let at = the_node ms ps g c.back.node c.index-at.result.now c.back.invariant.group there c.requires.index.nodes in
    let back = sym (step_back ms ps g c.back.node c.index-at.result.now c.back.invariant.group there c.requires.index.nodes m
    c.numbered-entry.ensures) in
    grind arith

pub returns-then-from-settled : goal.returns-then-from-settled
returns-then-from-settled c = grind (arith, node_there, none_before)

pub slice_bounds-left-end : goal.slice_bounds-left-end
slice_bounds-left-end c = (came_to c.back-test.true c.back.invariant.within c.index-at.ensures c.requires.index.nodes).within

pub returns-then-from-settled-2 : goal.returns-then-from-settled-2
returns-then-from-settled-2 c =
    let ms = c.args.marked.now in
    let n = c.index-at.result.now.number in
    let number : number_at c.args.self.now.nodes.items c.back.node
    ≡ n = ap number_of (node_there _ _ _ c.back-test.true c.back.invariant.within c.index-at.ensures) in
    let t : MarkedEntry → Bool = belongs (Of c.args.session) in
    let first = c.tally_own-first.result in
    subst (IsTally (c.back.entries + first.entries) (c.back.parts + first.parts))
    (own_split c.args.session c.args.settled n ms c.requires.off (omega (arith, c.from.ensures, c.if-from-settled.false)))
    (both_told first.entries first.parts c.back.entries c.back.parts (filter t (take (n - c.args.settled) (drop c.args.settled ms)))
    (filter t (drop n ms))
    c.tally_own-first.ensures.tally
    (subst (λ k. IsTally c.back.entries c.back.parts (filter t (drop k ms))) number c.back.invariant.so_far))
