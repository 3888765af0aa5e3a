use Rattle.std.proofs.Common.{◌∷◌, [], Option, option_map, refl, sym, subst}
use Rattle.tsn_types.specs.declared.keys.Key.{Key}
use Rattle.tsn_journal.specs.declared.groups.Group.TheVariants.{RefersTo}
use Rattle.tsn_journal.specs.Index.{set_at}
use Rattle.tsn_journal.specs.declared.index.Index.{Index}
use Rattle.tsn_journal.specs.Latest.{latest_of}
use Rattle.tsn_journal.specs.Newest.{MendsNewest}
use Rattle.tsn_journal.proofs.Indexing.{reindexed}
use Rattle.tsn_journal.proofs.Lowering.{index_lowered, newest_told}
use Rattle.tsn_journal.proofs.Newest.{mends_ref}
use Rattle.tsn_journal.proofs.Off.{none_refers}
use Rattle.tsn_journal.proofs.Rows.{set_refers}
use Rattle.tsn_journal.proofs.index.Index.lower_ref.Goals as goal

pub first_from-refers-requires-clause-latest : goal.first_from-refers-requires-clause-latest
first_from-refers-requires-clause-latest c =
    newest_told (RefersTo c.in-Some.key) c.args.marked.now c.args.self.now _ c.requires.index c.key_nodes-latest.ensures.refers

pub first_from-refers-requires-clause-settled : goal.first_from-refers-requires-clause-settled
first_from-refers-requires-clause-settled c = none_refers c.in-Some.key c.args.settled c.args.marked.now c.requires.off

pub returns-clause-index : goal.returns-clause-index
returns-clause-index c =
    let key = c.in-Some.key in
    let l = latest_of c.args.self.now.latest in
    reindexed c.args.marked.now _ _ (set_at (RefersTo key) c.first_from-refers.result l) (latest_of c.set_key.new.self)
    (set_refers c.args.self.now.latest c.set_key.new.self key _ c.set_key.ensures.rows c.set_key.ensures.sessions
    c.key_nodes-latest.ensures.on)
    (index_lowered _ _ l (RefersTo key) c.first_from-refers.result c.requires.index c.first_from-refers.ensures.last)

pub returns-clause-newest : goal.returns-clause-newest
returns-clause-newest c =
    let i = c.args.self.now in
    let key = c.in-Some.key in
    let after : Index = record { nodes = i.nodes; latest = c.set_key.new.self; stray = i.stray } in
    subst (λ (o : Option Key). MendsNewest c.args.marked.now (option_map RefersTo o ∷ []) i after) (sym c.in-Some.is)
    (mends_ref c.args.marked.now key c.first_from-refers.result i after refl
    (set_refers i.latest c.set_key.new.self key _ c.set_key.ensures.rows c.set_key.ensures.sessions c.key_nodes-latest.ensures.on)
    c.first_from-refers.ensures.newest)
