use Rattle.std.proofs.Common.{◌≡◌, true, ◌∙◌, ap}
use Rattle.tsn_journal.specs.declared.latest_rows.KeyNodes.{KeyNodes}
use Rattle.tsn_journal.specs.declared.groups.Group.{Group}
use Rattle.tsn_journal.specs.declared.groups.Group.TheVariants.{On}
use Rattle.tsn_journal.specs.Index.{set_at}
use Rattle.tsn_journal.specs.Latest.{latest_of}
use Rattle.tsn_journal.proofs.Indexing.{indexed_if, reindexed}
use Rattle.tsn_journal.proofs.Newest.{added_kept}
use Rattle.tsn_journal.proofs.Rows.{enters_on}
use Rattle.tsn_journal.proofs.index.Index.enter_on.Goals.{After-set_key}
use Rattle.tsn_journal.proofs.index.Index.enter_on.Goals as goal

-- the node that was added is the newest on the key
entered : (c : After-set_key) (q : Group)
    → latest_of c.set_key.new.self q ≡ set_at (On c.args.key.now) c.add-on.result (latest_of c.args.self.now.latest) q
entered c =
    enters_on c.args.self.now.latest c.add-on.new.self.latest c.set_key.new.self c.add-on.ensures.latest c.args.key.now
    (record c.touched_by.result { on = c.add-on.result }) c.set_key.ensures.rows c.set_key.ensures.sessions
    (ap (λ (r : KeyNodes). r.refers) c.touched_by.ensures ∙ c.key_nodes-row.ensures.refers)

pub returns-clause-index : goal.returns-clause-index
returns-clause-index c = λ rest is.
    let l = latest_of c.args.self.now.latest in
    reindexed c.args.marked.now rest c.add-on.new.self.nodes.items (set_at (On c.args.key.now) c.add-on.result l)
    (latest_of c.set_key.new.self) (entered (goal.at.returns-clause-index c).After-set_key)
    (indexed_if c.args.marked.now true (On c.args.key.now) rest c.args.number c.args.session c.key_nodes-row.result.on
    c.args.self.now.nodes.items l c.requires.count c.requires.some c.requires.by c.key_nodes-row.ensures.on
    c.add-on.new.self.nodes.items c.add-on.result c.add-on.ensures.added is)

pub returns-clause-newest : goal.returns-clause-newest
returns-clause-newest c =
    added_kept c.args.marked.now true (On c.args.key.now) c.args.number c.args.session c.key_nodes-row.result.on
    c.args.self.now.nodes.items c.add-on.new.self.nodes.items c.add-on.result c.requires.count c.requires.some
    c.requires.index.nodes c.add-on.ensures.added (λ yes m at. c.requires.in_group m at)
    (latest_of c.args.self.now.latest) (latest_of c.set_key.new.self) c.key_nodes-row.ensures.on
    (λ q. (c.requires.index.latest_is q).within) (entered (goal.at.returns-clause-newest c).After-set_key)
