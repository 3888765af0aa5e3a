use Rattle.std.proofs.Common.{◌≡◌, ◌∙◌, Some, ap, max, subst, sym}
use Rattle.tsn_edit.specs.Configuration.{Configuration}
use Rattle.tsn_chain.specs.Frames.{framed}
use Rattle.tsn_undo.specs.Ledger.{present}
use Rattle.tsn_bridge.specs.Frames.{acts_of_gates}
use Rattle.tsn_bridge.specs.Pair.{PairState}
use Rattle.tsn_bridge.proofs.pair.Pair.frame.Goals as goal

pub returns-clause-framed : goal.returns-clause-framed
returns-clause-framed c =
    let i = c.self.inside in
    let is = c.police.ensures.framed (acts_of_gates i.book.ledger) (λ m kept there. (c.self.invariant).runs.gates m kept there) in
    subst (λ (p : PairState). framed (present p.ledger) p.frames (acts_of_gates p.ledger) c.args.frame (max p.time c.args.now)
    ≡ Some (c.police.result, c.police.new.runtime.frames)) c.self.view_is
    (ap (λ (m : Configuration). framed m i.runtime.frames (acts_of_gates i.book.ledger) c.args.frame (max i.runtime.time c.args.now))
    (sym c.config.ensures.map) ∙ is)
