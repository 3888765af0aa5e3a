use Rattle.std.proofs.Common.{refl, subst}
use Rattle.tsn_edit.specs.Batches.{change_of}
use Rattle.tsn_edit.specs.Parts.{Change}
use Rattle.tsn_entries.specs.declared.entries.What.TheVariants.{Made}
use Rattle.tsn_undo.specs.Ledger.{present}
use Rattle.tsn_bridge.specs.Pair.{PairState}
use Rattle.tsn_bridge.specs.Together.{Follows}
use Rattle.tsn_bridge.proofs.Pushed.{FollowsEntry, follows, follows_entry}
use Rattle.tsn_bridge.proofs.Tied.{tied_entry}
use Rattle.tsn_bridge.proofs.pair.Pair.edit.Goals.{After-follow}
use Rattle.tsn_bridge.proofs.pair.Pair.edit.Goals as goal

abbrev change : After-follow → Change
change c = change_of (present c.self.inside.book.ledger) c.args.batch

-- the runtime followed the entry
followed : (c : After-follow)
    → FollowsEntry c.self.inside.book.ledger c.edit.new.self.ledger c.args.session (Made (change c)) (change c) c.self.inside.runtime
    c.follow.new.runtime
followed c =
    let is = c.in_ok-number.ensures.ok in
    follows_entry c.self.inside.runtime c.reserve.new.self c.follow.new.runtime c.reserve.ensures.runners c.reserve.ensures.frames
    c.reserve.ensures.time c.follow.ensures.time c.self.inside.book.ledger c.edit.new.self.ledger c.args.session (Made (change c))
    (change c) c.in_ok-number.number c.journal.result.now.entries refl c.journal.ensures.sound.numbered c.journal.ensures.entries is.after
    is.number_is c.follow.ensures.runners c.follow.ensures.frames

pub invariant_of-self-2 : goal.invariant_of-self-2
invariant_of-self-2 c =
    tied_entry (followed (goal.at.invariant_of-self-2 c).After-follow) refl c.in_ok-number.ensures.ok.fits c.self.invariant

pub returns-clause-follows : goal.returns-clause-follows
returns-clause-follows c =
    subst (λ (p : PairState). Follows p (change_of (present p.ledger) c.args.batch)
    (record { ledger = c.edit.new.self.ledger; time = c.follow.new.runtime.time; frames = c.follow.new.runtime.frames })) c.self.view_is
    (follows (followed (goal.at.returns-clause-follows c).After-follow))
