use Rattle.std.proofs.Common.{◌≡◌, ◌∙◌, ◌≤◌, ◌<◌, Some, ap, subst, sym}
use Rattle.std.specs.Prelude.{MatchResult, is_some}
use Rattle.std.specs.FinMap.{get}
use Rattle.tsn_edit.specs.Configuration.{Configuration}
use Rattle.tsn_chain.specs.Acts.{HasList, KeyStates}
use Rattle.tsn_undo.specs.Ledger.{present}
use Rattle.tsn_bridge.specs.Looking.{last_at, shown_at}
use Rattle.tsn_bridge.specs.Pair.{PairState}
use Rattle.tsn_bridge.proofs.Telling.{list_of, runner_of, states_told}
use Rattle.tsn_bridge.proofs.pair.Pair.states_at.Goals as goal

pub states_at-requires-clause-list : goal.states_at-requires-clause-list
states_at-requires-clause-list c =
    let b = c.self.inside.book.ledger in
    let key = c.args.key.now in
    let there = ap (λ (p : PairState). is_some (get (present p.ledger) key)) c.self.view_is ∙ c.requires.there in
    subst (λ (m : Configuration). HasList key (get m key)) (sym c.config.ensures.map)
    (list_of b key c.config.ensures.kept c.requires.list there)

pub returns : goal.returns
returns c =
    let i = c.self.inside in
    let b = i.book.ledger in
    let key = c.args.key.now in
    let there = ap (λ (p : PairState). is_some (get (present p.ledger) key)) c.self.view_is ∙ c.requires.there in
    let told = subst (λ (m : Configuration). KeyStates i.runtime.runners key (get m key) c.args.at c.states_at.result) c.config.ensures.map
    c.states_at.ensures in
    subst (λ (p : PairState). MatchResult c.states_at.result
    (λ state. (last_at p.ledger key ≤ c.args.at) × (shown_at p.ledger key (get (present p.ledger) key) c.args.at ≡ Some state))
    (λ _. c.args.at < last_at p.ledger key)) c.self.view_is
    (states_told b i.runtime c.self.invariant key (get (present b) key) c.args.at c.states_at.result
    (runner_of b i.runtime c.self.invariant key c.requires.list there) told)
