use Rattle.std.proofs.Common.{◌≡◌, ◌∙◌, Some, ap, subst, sym}
use Rattle.std.specs.Prelude.{is_some}
use Rattle.std.specs.FinMap.{get}
use Rattle.tsn_undo.specs.Ledger.{present}
use Rattle.tsn_bridge.specs.Looking.{counted_at}
use Rattle.tsn_bridge.specs.Pair.{PairState}
use Rattle.tsn_bridge.proofs.Telling.{counted_told, data_of}
use Rattle.tsn_bridge.proofs.pair.Pair.counters.Goals as goal

pub returns : goal.returns
returns c =
    let i = c.self.inside in
    let b = i.book.ledger in
    let key = c.args.key.now in
    let there = ap (λ (p : PairState). is_some (get (present p.ledger) key)) c.self.view_is ∙ c.requires in
    subst (λ (p : PairState). counted_at p.ledger p.frames p.time key ≡ Some c.counters.result) c.self.view_is
    (sym (counted_told b i.runtime c.self.invariant key i.runtime.time c.counters.result
    (data_of b i.runtime c.self.invariant key there) c.counters.ensures))
