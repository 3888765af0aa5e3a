use Rattle.tsn_journal.specs.declared.groups.Group.TheVariants.{On}
use Rattle.tsn_journal.specs.Index.{set_at}
use Rattle.tsn_journal.specs.Latest.{latest_of}
use Rattle.tsn_journal.proofs.Indexing.{reindexed}
use Rattle.tsn_journal.proofs.Lowering.{index_lowered, newest_told}
use Rattle.tsn_journal.proofs.Off.{none_on}
use Rattle.tsn_journal.proofs.Rows.{set_on}
use Rattle.tsn_journal.proofs.index.Index.lower_on.Goals as goal

pub first_from-on-requires-clause-latest : goal.first_from-on-requires-clause-latest
first_from-on-requires-clause-latest c =
    newest_told (On c.args.key.now) c.args.marked.now c.args.self.now _ c.requires.index c.key_nodes-latest.ensures.on

pub first_from-on-requires-clause-settled : goal.first_from-on-requires-clause-settled
first_from-on-requires-clause-settled c = none_on c.args.key.now c.args.settled c.args.marked.now c.requires.off

pub returns-clause-index : goal.returns-clause-index
returns-clause-index c =
    let key = c.args.key.now in
    let l = latest_of c.args.self.now.latest in
    reindexed c.args.marked.now _ _ (set_at (On key) c.first_from-on.result l) (latest_of c.set_key.new.self)
    (set_on c.args.self.now.latest c.set_key.new.self key _ c.set_key.ensures.rows c.set_key.ensures.sessions
    c.key_nodes-latest.ensures.refers)
    (index_lowered _ _ l (On key) c.first_from-on.result c.requires.index c.first_from-on.ensures.last)
