use Rattle.std.proofs.Common.{◌∷◌, ◌∙◌, ap, refl}
use Rattle.tsn_journal.specs.declared.groups.Group.TheVariants.{Of, EndsRedo}
use Rattle.tsn_journal.specs.declared.latest_rows.Latest.{Latest}
use Rattle.tsn_journal.specs.Index.{group_if, set_at}
use Rattle.tsn_journal.specs.Latest.{latest_of}
use Rattle.tsn_journal.proofs.Indexing.{indexed_if, reindexed}
use Rattle.tsn_journal.proofs.Newest.{added_kept, added_within}
use Rattle.tsn_journal.proofs.Rows.{set_both}
use Rattle.tsn_journal.proofs.index.Index.enter_session.Goals as goal

pub returns-clause-index : goal.returns-clause-index
returns-clause-index c = λ rest is.
    let ms = c.args.marked.now in
    let ps = c.args.self.now.nodes.items in
    let mid = c.add-standing.new.self.nodes.items in
    let s = c.args.session in
    let l = latest_of c.args.self.now.latest in
    let j = c.add-standing.result in
    let k = c.add-ends_redo.result in
    let same = c.add-ends_redo.ensures.latest ∙ c.add-standing.ensures.latest in
    reindexed ms rest c.add-ends_redo.new.self.nodes.items (set_at (EndsRedo s) k (set_at (Of s) j l)) (latest_of c.set_session.new.self)
    (λ q. set_both c.add-ends_redo.new.self.latest c.set_session.new.self s (record { standing = j; ends_redo = k })
    c.set_session.ensures.sessions c.set_session.ensures.keys q
    ∙ ap (λ (x : Latest). set_at (EndsRedo s) k (set_at (Of s) j (latest_of x)) q) same)
    (indexed_if ms c.args.ends (EndsRedo s) rest c.args.number s c.session_nodes-standing.result.ends_redo mid (set_at (Of s) j l)
    c.requires.count c.requires.some c.requires.by c.session_nodes-standing.ensures.ends_redo c.add-ends_redo.new.self.nodes.items k
    c.add-ends_redo.ensures.added
    (indexed_if ms c.args.stands (Of s) (group_if c.args.ends (EndsRedo s) ∷ rest) c.args.number s c.session_nodes-standing.result.standing
    ps l c.requires.count c.requires.some c.requires.by c.session_nodes-standing.ensures.standing mid j c.add-standing.ensures.added
    is))

pub returns-clause-newest : goal.returns-clause-newest
returns-clause-newest c = λ g had.
    let ms = c.args.marked.now in
    let s = c.args.session in
    let l = latest_of c.args.self.now.latest in
    let j = c.add-standing.result in
    let k = c.add-ends_redo.result in
    let first = c.add-standing.ensures.kept in
    let same = c.add-ends_redo.ensures.latest ∙ c.add-standing.ensures.latest in
    added_kept ms c.args.ends (EndsRedo s) c.args.number s c.session_nodes-standing.result.ends_redo c.add-standing.new.self.nodes.items
    c.add-ends_redo.new.self.nodes.items k c.requires.count c.requires.some first.nodes c.add-ends_redo.ensures.added
    (λ yes m at. c.requires.in_ending m yes at)
    (set_at (Of s) j l) (latest_of c.set_session.new.self) c.session_nodes-standing.ensures.ends_redo
    (added_within ms c.args.stands (Of s) c.args.number s c.session_nodes-standing.result.standing c.args.self.now.nodes.items
    c.add-standing.new.self.nodes.items j c.requires.count c.requires.some c.requires.index.nodes c.add-standing.ensures.added
    (λ yes m at. c.requires.in_standing m yes at)
    l c.session_nodes-standing.ensures.standing (λ q. (c.requires.index.latest_is q).within))
    (λ q. set_both c.add-ends_redo.new.self.latest c.set_session.new.self s (record { standing = j; ends_redo = k })
    c.set_session.ensures.sessions c.set_session.ensures.keys q
    ∙ ap (λ (x : Latest). set_at (EndsRedo s) k (set_at (Of s) j (latest_of x)) q) same)
    g
    (added_kept ms c.args.stands (Of s) c.args.number s c.session_nodes-standing.result.standing c.args.self.now.nodes.items
    c.add-standing.new.self.nodes.items j c.requires.count c.requires.some c.requires.index.nodes c.add-standing.ensures.added
    (λ yes m at. c.requires.in_standing m yes at)
    l (set_at (Of s) j l) c.session_nodes-standing.ensures.standing (λ q. (c.requires.index.latest_is q).within) (λ q. refl) g had)
