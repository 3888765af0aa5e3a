use Rattle.std.proofs.Common.{◌≡◌, ◌∷◌, true, subst, ◌∙◌, ap}
use Rattle.std.specs.Prelude.{option_map}
use Rattle.tsn_journal.specs.declared.latest_rows.KeyNodes.{KeyNodes}
use Rattle.tsn_journal.specs.declared.groups.Group.{Group}
use Rattle.tsn_journal.specs.declared.groups.Group.TheVariants.{RefersTo}
use Rattle.tsn_journal.specs.Index.{IsIndexedBut, set_at}
use Rattle.tsn_journal.specs.Latest.{latest_of}
use Rattle.tsn_journal.proofs.Indexing.{indexed_if, reindexed}
use Rattle.tsn_journal.proofs.Newest.{added_kept}
use Rattle.tsn_journal.proofs.Rows.{enters_ref}
use Rattle.tsn_journal.proofs.index.Index.enter_ref.Goals.{After-set_key}
use Rattle.tsn_journal.proofs.index.Index.enter_ref.Goals as goal

-- the node that was added is the newest of those that refer to the key
entered : (c : After-set_key) (q : Group)
    → latest_of c.set_key.new.self q ≡ set_at (RefersTo c.in-Some.key) c.add-refers.result (latest_of c.args.self.now.latest) q
entered c =
    enters_ref c.args.self.now.latest c.add-refers.new.self.latest c.set_key.new.self c.add-refers.ensures.latest c.in-Some.key
    (record c.referred_by.result { refers = c.add-refers.result }) c.set_key.ensures.rows c.set_key.ensures.sessions
    (ap (λ (r : KeyNodes). r.on) c.referred_by.ensures ∙ c.key_nodes-row.ensures.on)

pub returns-clause-index : goal.returns-clause-index
returns-clause-index c = λ rest is.
    let ps = c.args.self.now.nodes.items in
    let l = latest_of c.args.self.now.latest in
    reindexed c.args.marked.now rest c.add-refers.new.self.nodes.items (set_at (RefersTo c.in-Some.key) c.add-refers.result l)
    (latest_of c.set_key.new.self) (entered (goal.at.returns-clause-index c).After-set_key)
    (indexed_if c.args.marked.now true (RefersTo c.in-Some.key) rest c.args.number c.args.session c.key_nodes-row.result.refers
    ps l c.requires.count c.requires.some c.requires.by c.key_nodes-row.ensures.refers
    c.add-refers.new.self.nodes.items c.add-refers.result c.add-refers.ensures.added
    (subst (λ o. IsIndexedBut (option_map RefersTo o ∷ rest) c.args.marked.now ps l) c.in-Some.is is))

pub returns-clause-newest : goal.returns-clause-newest
returns-clause-newest c =
    added_kept c.args.marked.now true (RefersTo c.in-Some.key) c.args.number c.args.session c.key_nodes-row.result.refers
    c.args.self.now.nodes.items c.add-refers.new.self.nodes.items c.add-refers.result c.requires.count c.requires.some
    c.requires.index.nodes c.add-refers.ensures.added (λ yes m at. c.requires.in_group c.in-Some.key m c.in-Some.is at)
    (latest_of c.args.self.now.latest) (latest_of c.set_key.new.self) c.key_nodes-row.ensures.refers
    (λ q. (c.requires.index.latest_is q).within) (entered (goal.at.returns-clause-newest c).After-set_key)
