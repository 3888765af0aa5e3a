use Rattle.std.proofs.Common.{◌≡◌, ◌≤◌, ◌∷◌, ◌++◌, [], refl, sym, ◌∙◌, ap, subst, drop, length, map, add-zero, arith, max}
use Rattle.tsn_journal.specs.Crossed.{IsRaised, NoneCrossed}
use Rattle.tsn_entries.specs.Entries.{IsNumbered, added_parts, adds, with_entry}
use Rattle.tsn_journal.specs.Index.{IsIndexed, IsIndexedButNewest, NewestAdds, TakesRoom, nodes_for}
use Rattle.tsn_entries.specs.Marks.{AreOff, Log, entries_of, mark_off}
use Rattle.std.specs.Prelude.{◌==◌}
use Rattle.std.specs.List.{find, slice_get}
use Rattle.std.specs.Vec.{vec_capacity, vec_len}
use Rattle.tsn_entries.specs.declared.entries.MarkedEntry.{MarkedEntry}
use Rattle.tsn_journal.specs.Newest.{KeepsNewest, MendsNewest, groups_of}
use Rattle.tsn_journal.proofs.Indexing.{takes_more}
use Rattle.tsn_journal.proofs.Keeping.{kept_pushed, off_more, pushed_adds, pushed_free, pushed_index, pushed_numbered, pushed_referred, pushed_tells, settles_there}
use Rattle.tsn_journal.proofs.Marking.{entries_pushed, new_entry, pushed_items}
use Rattle.tsn_journal.proofs.Newest.{newest_again}
use Rattle.tsn_journal.proofs.Telling.{tells_same}
use Rattle.tsn_journal.specs.Touched.{NewestTold}
use Rattle.tsn_journal.proofs.journal.Journal.push.Goals.{After-push_reserved}
use Rattle.tsn_journal.proofs.journal.Journal.push.Goals as goal

as_long : (c : After-push_reserved) → length c.self.inside.marked.items ≡ c.self.inside.marked.len
as_long c = sym (ap length c.deref_mut.ensures.value) ∙ c.deref_mut.ensures.len

-- what is kept: the marks that the entry puts off are off, and it stands at the end
pushed : (c : After-push_reserved) → c.push_reserved.new.self.items ≡ map (mark_off c.args.what) c.self.inside.marked.items
    ++ new_entry c.self.inside.marked.items c.args.session c.args.what ∷ []
pushed c =
    let ms = c.self.inside.marked.items in
    pushed_items c.args.what c.args.session c.self.inside.marked.len c.len.result ms (drop (length c.put_off.new.marked) ms)
    c.put_off.new.marked c.push_reserved.new.self.items (as_long c) c.len.ensures
    (c.put_off.ensures ∙ ap (map (mark_off c.args.what)) c.deref_mut.ensures.value) c.push_reserved.ensures.items

numbered : (c : After-push_reserved) → IsNumbered 1 (entries_of c.push_reserved.new.self.items)
numbered c =
    let room : 1 ≤ c.self.inside.room = subst (λ (l : Log). 1 ≤ l.spare) (sym c.self.view_is) c.requires.room in
    pushed_numbered c.args.what c.args.session c.self.inside.marked.items c.push_reserved.new.self.items (pushed c)
    c.self.invariant.journal (omega (arith, c.self.invariant.few, as_long c, room))

pub crossed_by-crossed-requires-clause-index : goal.crossed_by-crossed-requires-clause-index
crossed_by-crossed-requires-clause-index c =
    subst (λ xs. IsIndexed xs c.self.inside.index) (sym c.deref.ensures.value) c.self.invariant.indexed

pub enter-requires-clause-index : goal.enter-requires-clause-index
enter-requires-clause-index c =
    let at = (goal.at.enter-requires-clause-index c).After-push_reserved in
    subst (λ xs. IsIndexedButNewest xs c.self.inside.index) (sym c.deref-2.ensures.value)
    (pushed_index c.args.what c.args.session c.self.inside.marked.items c.push_reserved.new.self.items (pushed at)
    c.self.inside.index c.self.invariant.indexed)

pub enter-requires-clause-parts : goal.enter-requires-clause-parts
enter-requires-clause-parts c =
    let at = (goal.at.enter-requires-clause-parts c).After-push_reserved in
    subst (NewestAdds c.deref-2.result.now) (sym c.added_parts-parts.ensures.parts)
    (subst (λ xs. NewestAdds xs (added_parts c.args.what)) (sym c.deref-2.ensures.value)
    (pushed_adds c.args.what c.args.session c.self.inside.marked.items c.push_reserved.new.self.items (pushed at)))

pub leave-requires-clause-index : goal.leave-requires-clause-index
leave-requires-clause-index c =
    subst (λ xs. IsIndexed xs c.enter.new.self) (c.deref-2.ensures.value ∙ sym c.deref-3.ensures.value) c.enter.ensures.index

pub leave-requires-clause-numbered : goal.leave-requires-clause-numbered
leave-requires-clause-numbered c =
    let at = (goal.at.leave-requires-clause-numbered c).After-push_reserved in
    subst (λ xs. IsNumbered 1 (entries_of xs)) (sym c.deref-3.ensures.value) (numbered at)

pub leave-requires-clause-off : goal.leave-requires-clause-off
leave-requires-clause-off c =
    let at = (goal.at.leave-requires-clause-off c).After-push_reserved in
    subst (AreOff c.max-settled.result) (sym c.deref-3.ensures.value)
    (off_more c.args.what c.args.session c.self.inside.marked.items c.push_reserved.new.self.items (pushed at)
    c.self.inside.settled c.max-settled.result c.self.invariant.journal (omega (arith, c.self.invariant.settled_there, as_long at))
    (settles_there c.args.what c.self.inside.marked.items _ _ c.self.view_is refl c.requires.settles)
    (c.max-settled.ensures ∙ ap (max c.self.inside.settled) c.settles_to.ensures) c.self.invariant.off)

pub invariant_of-self : goal.invariant_of-self
invariant_of-self c =
    let at = (goal.at.invariant_of-self c).After-push_reserved in
    let ms = c.self.inside.marked.items in
    let now = c.push_reserved.new.self.items in
    kept_pushed c.args.what c.args.session ms now (pushed at)
    (vec_len c.self.inside.marked) (vec_capacity c.self.inside.marked) _ _ c.self.inside.room c.self.inside.parts c.added_parts-parts.result
    c.self.inside.settled c.max-settled.result c.self.inside.crossed c.crossed_by-crossed.result c.self.inside.index c.leave.new.index
    (subst (λ (l : Log). 1 ≤ l.spare) (sym c.self.view_is) c.requires.room)
    (subst (λ (l : Log). c.added_parts-parts.result ≤ l.parts) (sym c.self.view_is)
    (omega (arith, c.added_parts-parts.ensures.parts, c.requires.parts)))
    c.added_parts-parts.ensures.few c.self.invariant
    (pushed_free c.args.what c.args.session ms now (pushed at)
    c.self.inside.crossed c.crossed_by-crossed.result c.self.invariant.free
    (subst (NoneCrossed c.crossed_by-crossed.result (adds c.args.what) c.args.session) c.deref.ensures.value
    c.crossed_by-crossed.ensures.free) c.crossed_by-crossed.ensures.rises)
    (pushed_referred c.args.what c.args.session ms now (pushed at)
    c.self.inside.crossed c.crossed_by-crossed.result c.self.invariant.referred c.crossed_by-crossed.ensures.rises
    (λ le. c.crossed_by-crossed.ensures.own (subst (λ xs. c.crossed_by-crossed.result ≤ length xs) (sym c.deref.ensures.value) le)))
    (subst (λ xs. IsRaised c.self.inside.crossed c.crossed_by-crossed.result xs c.args.session (adds c.args.what)) c.deref.ensures.value
    c.crossed_by-crossed.ensures.raised)
    (settles_there c.args.what ms _ _ c.self.view_is refl c.requires.settles)
    (c.max-settled.ensures ∙ ap (max c.self.inside.settled) c.settles_to.ensures) (as_long at) c.push_reserved.ensures.len
    c.push_reserved.ensures.capacity
    (subst (λ xs. IsIndexed xs c.leave.new.index) c.deref-3.ensures.value c.leave.ensures.index)
    (newest_again c.args.what ms (new_entry ms c.args.session c.args.what) c.self.inside.index c.self.invariant.indexed
    c.self.invariant.journal.numbered c.self.inside.settled c.max-settled.result c.enter.new.self c.leave.new.index
    now (pushed at)
    c.self.invariant.off (c.max-settled.ensures ∙ ap (max c.self.inside.settled) c.settles_to.ensures) c.self.invariant.newest
    (subst (λ xs. KeepsNewest xs c.self.inside.index c.enter.new.self) c.deref-2.ensures.value c.enter.ensures.newest)
    (subst (λ xs. KeepsNewest xs c.enter.new.self c.leave.new.index) c.deref-3.ensures.value c.leave.ensures.newest)
    (λ n m is there. subst (λ xs. MendsNewest xs (groups_of m.entry) c.enter.new.self c.leave.new.index) c.deref-3.ensures.value
    (c.leave.ensures.named n m (c.names-taken_back.ensures ∙ is)
    (ap (find (λ (y : MarkedEntry). y.entry.number == n)) c.deref-3.ensures.value ∙ there)))
    (λ i m low high there. subst (λ xs. MendsNewest xs (groups_of m.entry) c.enter.new.self c.leave.new.index) c.deref-3.ensures.value
    (c.leave.ensures.settled i m low high (ap (λ xs. slice_get xs i) c.deref-3.ensures.value ∙ there)))
    (numbered at))
    (tells_same (entries_of now) c.enter.new.self c.leave.new.index c.leave.ensures.tells
    (pushed_tells c.args.what c.args.session ms now (pushed at)
    c.self.inside.index c.enter.new.self c.self.invariant.journal.numbered c.self.invariant.tells
    (subst (λ xs. NewestTold xs (length xs) c.self.inside.index c.enter.new.self) c.deref-2.ensures.value c.enter.ensures.told)))
    (subst (λ n. TakesRoom n c.self.inside.index c.leave.new.index) (add-zero (nodes_for 1 c.added_parts-parts.result))
    (takes_more (nodes_for 1 c.added_parts-parts.result) 0 c.self.inside.index c.enter.new.self c.leave.new.index c.enter.ensures.room
    c.leave.ensures.room))

pub returns-clause-entries : goal.returns-clause-entries
returns-clause-entries c =
    let at = (goal.at.returns-clause-entries c).After-push_reserved in
    ap entries_of (pushed at) ∙ entries_pushed c.self.inside.marked.items c.args.session c.args.what
    ∙ ap (λ (l : Log). with_entry l.entries c.args.session c.args.what) c.self.view_is
