use Rattle.std.proofs.Common.{refl}
use Rattle.tsn_journal.specs.declared.groups.Group.TheVariants.{Of, EndsRedo}
use Rattle.tsn_journal.specs.Index.{set_at}
use Rattle.tsn_journal.specs.Latest.{latest_of}
use Rattle.tsn_journal.proofs.Indexing.{reindexed}
use Rattle.tsn_journal.proofs.Lowering.{index_lowered, newest_told}
use Rattle.tsn_journal.proofs.Newest.{mends_two}
use Rattle.tsn_journal.proofs.Off.{none_own}
use Rattle.tsn_journal.proofs.Rows.{set_both}
use Rattle.tsn_journal.proofs.index.Index.lower_session.Goals as goal

pub first_from-standing-requires-clause-latest : goal.first_from-standing-requires-clause-latest
first_from-standing-requires-clause-latest c =
    newest_told (Of c.args.session) c.args.marked.now c.args.self.now _ c.requires.index c.session_nodes-latest.ensures.standing

pub first_from-ends_redo-requires-clause-latest : goal.first_from-ends_redo-requires-clause-latest
first_from-ends_redo-requires-clause-latest c =
    newest_told (EndsRedo c.args.session) c.args.marked.now c.args.self.now _ c.requires.index c.session_nodes-latest.ensures.ends_redo

pub returns-clause-index : goal.returns-clause-index
returns-clause-index c =
    let ms = c.args.marked.now in
    let ps = c.args.self.now.nodes.items in
    let s = c.args.session in
    let l = latest_of c.args.self.now.latest in
    let j = c.first_from-standing.result in
    let k = c.first_from-ends_redo.result in
    reindexed ms _ ps (set_at (EndsRedo s) k (set_at (Of s) j l)) (latest_of c.set_session.new.self)
    (set_both c.args.self.now.latest c.set_session.new.self s (record { standing = j; ends_redo = k }) c.set_session.ensures.sessions
    c.set_session.ensures.keys)
    (index_lowered ms ps (set_at (Of s) j l) (EndsRedo s) k
    (index_lowered ms ps l (Of s) j c.requires.index c.first_from-standing.ensures.last) c.first_from-ends_redo.ensures.last)

pub first_from-standing-requires-clause-settled : goal.first_from-standing-requires-clause-settled
first_from-standing-requires-clause-settled c = none_own c.args.session c.args.settled c.args.marked.now c.requires.off

pub returns-clause-newest : goal.returns-clause-newest
returns-clause-newest c =
    mends_two c.args.marked.now c.args.session c.first_from-standing.result c.first_from-ends_redo.result c.args.self.now _ refl
    (set_both c.args.self.now.latest c.set_session.new.self c.args.session
    (record { standing = c.first_from-standing.result; ends_redo = c.first_from-ends_redo.result }) c.set_session.ensures.sessions
    c.set_session.ensures.keys)
    c.first_from-standing.ensures.newest c.first_from-ends_redo.ensures.newest
