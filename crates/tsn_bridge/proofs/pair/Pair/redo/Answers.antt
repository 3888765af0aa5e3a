use Rattle.std.proofs.Common.{refl, subst}
use Rattle.tsn_edit.specs.Parts.{inverse}
use Rattle.tsn_entries.specs.Entries.{redone}
use Rattle.tsn_undo.specs.Redo.{Redoes}
use Rattle.tsn_bridge.specs.Pair.{PairState}
use Rattle.tsn_bridge.specs.Together.{Follows}
use Rattle.tsn_bridge.proofs.Pushed.{FollowsEntry, follows, follows_entry}
use Rattle.tsn_bridge.proofs.Tied.{tied_entry}
use Rattle.tsn_bridge.proofs.pair.Pair.redo.Goals.{After-follow}
use Rattle.tsn_bridge.proofs.pair.Pair.redo.Goals as goal

-- the runtime followed the entry
followed : (c : After-follow)
    → FollowsEntry c.self.inside.book.ledger c.redo.new.self.ledger c.args.session (redone c.in_ok-number.ensures.ok.redoable.undone)
    (inverse c.in_ok-number.ensures.ok.redoable.undone.change) c.self.inside.runtime c.follow.new.runtime
followed c =
    let i = c.self.inside in
    let is = c.in_ok-number.ensures.ok in
    follows_entry i.runtime c.reserve.new.self c.follow.new.runtime c.reserve.ensures.runners c.reserve.ensures.frames
    c.reserve.ensures.time c.follow.ensures.time i.book.ledger c.redo.new.self.ledger c.args.session (redone is.redoable.undone)
    (inverse is.redoable.undone.change) c.in_ok-number.number c.journal.result.now.entries refl c.journal.ensures.sound.numbered
    c.journal.ensures.entries is.after is.number_is c.follow.ensures.runners c.follow.ensures.frames

pub invariant_of-self-2 : goal.invariant_of-self-2
invariant_of-self-2 c =
    tied_entry (followed (goal.at.invariant_of-self-2 c).After-follow) refl c.in_ok-number.ensures.ok.redoable.fits c.self.invariant

pub returns-clause-made : goal.returns-clause-made
returns-clause-made c =
    let new : PairState = record { ledger = c.redo.new.self.ledger; time = c.follow.new.runtime.time; frames = c.follow.new.runtime.frames }
    in
    subst (λ (p : PairState). (is : Redoes p.ledger c.args.session c.in_ok-number.number c.in_ok-number.of new.ledger)
    × Follows p (inverse is.redoable.undone.change) new) c.self.view_is
    (c.in_ok-number.ensures.ok, follows (followed (goal.at.returns-clause-made c).After-follow))
