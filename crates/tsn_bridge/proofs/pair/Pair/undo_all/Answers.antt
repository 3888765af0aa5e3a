use Rattle.std.proofs.Common.{◌≡◌, ◌∙◌, ◌≤◌, ap, arith, length, rules, subst}
use Rattle.tsn_entries.specs.Finding.{own_standing, parts_of_all}
use Rattle.tsn_undo.specs.Ledger.{Ledger}
use Rattle.tsn_bridge.specs.Pair.{PairState}
use Rattle.tsn_bridge.specs.Together.{FollowsAll, room_behind}
use Rattle.tsn_bridge.proofs.Pushed.{FollowsUndone, follows_each}
use Rattle.tsn_bridge.proofs.Room.{behind_undone}
use Rattle.tsn_bridge.proofs.Tied.{tied_all}
use Rattle.tsn_bridge.proofs.pair.Pair.undo_all.Goals.{After-follow_each}
use Rattle.tsn_bridge.proofs.pair.Pair.undo_all.Goals as goal

-- the runtime followed the entries that took all back
followed : (c : After-follow_each)
    → FollowsUndone (own_standing c.self.inside.book.ledger.entries c.args.session) c.self.inside.runtime c.follow_each.new.runtime
followed c =
    let i = c.self.inside in
    let s = c.args.session in
    follows_each i.runtime c.reserve.new.self c.follow_each.new.runtime c.reserve.ensures.runners c.reserve.ensures.frames
    c.reserve.ensures.time c.follow_each.ensures.time i.book.ledger.entries s c.len-first.result c.count_of-own.result
    (own_standing i.book.ledger.entries s) c.journal-4.result.now.entries (c.journal.ensures.sound).numbered
    (c.journal-4.ensures.entries ∙ ap (λ (l : Ledger). l.entries) (c.in_ok-count.ensures.ok).after)
    (c.len-first.ensures.number ∙ ap (λ es. length es) c.journal.ensures.entries)
    (c.count_of-own.ensures.count ∙ ap (λ es. length (own_standing es s)) c.journal-2.ensures.entries)
    c.follow_each.ensures.runners c.follow_each.ensures.frames

pub invariant_of-self-2 : goal.invariant_of-self-2
invariant_of-self-2 c =
    let i = c.self.inside in
    tied_all i.book.ledger c.undo_all_free.new.self.ledger c.args.session c.in_ok-count.count c.in_ok-count.last i.runtime
    c.follow_each.new.runtime c.self.invariant c.journal.ensures.sound c.in_ok-count.ensures.ok
    (followed (goal.at.invariant_of-self-2 c).After-follow_each)

pub returns-clause-follows : goal.returns-clause-follows
returns-clause-follows c =
    let f = followed (goal.at.returns-clause-follows c).After-follow_each in
    let new : PairState = record {
      ledger = c.undo_all_free.new.self.ledger;
      time = c.follow_each.new.runtime.time;
      frames = c.follow_each.new.runtime.frames;
    } in
    subst (λ (p : PairState). FollowsAll p (own_standing p.ledger.entries c.args.session) new) c.self.view_is
    (record { frames = f.frames; time = f.time })

pub follow_each-requires-clause-room : goal.follow_each-requires-clause-room
follow_each-requires-clause-room c =
    let b = c.self.inside.book.ledger in
    let s = c.args.session in
    let own = own_standing b.entries s in
    let now = c.journal-4.ensures.entries ∙ ap (λ (l : Ledger). l.entries) (c.in_ok-count.ensures.ok).after in
    let first = c.len-first.ensures.number ∙ ap (λ es. length es) c.journal.ensures.entries in
    let count = c.count_of-own.ensures.count ∙ ap (λ es. length (own_standing es s)) c.journal-2.ensures.entries in
    let room : room_behind c.journal-4.result.now.entries c.len-first.result c.count_of-own.result ≡ parts_of_all
    own = (λ i. room_behind (now i) (first i) (count i)) ∙ behind_undone b.entries s own (c.journal.ensures.sound).numbered in
    let parts = c.parts_of-parts.ensures ∙ ap (λ es. parts_of_all (own_standing es s)) c.journal-3.ensures.entries in
    let enough : c.parts_of-parts.result ≤ c.reserve.new.self.spare = search rules in
    omega (arith, room, parts, enough)
