use Rattle.std.proofs.Common.{refl, subst}
use Rattle.tsn_edit.specs.Parts.{inverse}
use Rattle.tsn_entries.specs.Entries.{undone}
use Rattle.tsn_undo.specs.Steps.{TakesBack}
use Rattle.tsn_bridge.specs.Pair.{PairState}
use Rattle.tsn_bridge.specs.Together.{Follows}
use Rattle.tsn_bridge.proofs.Pushed.{FollowsEntry, follows, follows_entry}
use Rattle.tsn_bridge.proofs.Tied.{tied_entry}
use Rattle.tsn_bridge.proofs.pair.Pair.undo.Goals.{After-follow}
use Rattle.tsn_bridge.proofs.pair.Pair.undo.Goals as goal

-- the runtime followed the entry
followed : (c : After-follow)
    → FollowsEntry c.self.inside.book.ledger c.undo.new.self.ledger c.args.session (undone c.in_ok-number.ensures.ok.newest)
    (inverse c.in_ok-number.ensures.ok.newest.change) c.self.inside.runtime c.follow.new.runtime
followed c =
    let i = c.self.inside in
    let is = c.in_ok-number.ensures.ok in
    follows_entry i.runtime c.reserve.new.self c.follow.new.runtime c.reserve.ensures.runners c.reserve.ensures.frames
    c.reserve.ensures.time c.follow.ensures.time i.book.ledger c.undo.new.self.ledger c.args.session (undone is.newest)
    (inverse is.newest.change) c.in_ok-number.number c.journal.result.now.entries refl c.journal.ensures.sound.numbered
    c.journal.ensures.entries is.after is.number_is c.follow.ensures.runners c.follow.ensures.frames

pub invariant_of-self-2 : goal.invariant_of-self-2
invariant_of-self-2 c =
    tied_entry (followed (goal.at.invariant_of-self-2 c).After-follow) refl c.in_ok-number.ensures.ok.fits c.self.invariant

pub returns-clause-made : goal.returns-clause-made
returns-clause-made c =
    let new : PairState = record { ledger = c.undo.new.self.ledger; time = c.follow.new.runtime.time; frames = c.follow.new.runtime.frames }
    in
    subst (λ (p : PairState). (is : TakesBack p.ledger c.args.session c.in_ok-number.number c.in_ok-number.of new.ledger)
    × Follows p (inverse is.newest.change) new) c.self.view_is
    (c.in_ok-number.ensures.ok, follows (followed (goal.at.returns-clause-made c).After-follow))
