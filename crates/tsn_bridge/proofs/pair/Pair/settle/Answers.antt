use Rattle.std.proofs.Common.{◌≡◌, ℕ, subst, sym}
use Rattle.std.specs.Prelude.{IfOk, OnErr, Result, Ok, Err}
use Rattle.tsn_types.specs.declared.refusals.Refusal.{Refusal}
use Rattle.tsn_undo.specs.Ledger.{Ledger}
use Rattle.tsn_undo.specs.Settling.{Settles}
use Rattle.tsn_chain.specs.Instances.{FrameData, Runners}
use Rattle.tsn_bridge.specs.Kept.{IsTied}
use Rattle.tsn_bridge.proofs.TiedActs.{tied_settled}
use Rattle.tsn_bridge.proofs.pair.Pair.settle.Goals as goal

-- settled or refused, the runtime stays tied
tied : (r : Result ℕ Refusal) (b b' : Ledger) (s upto : ℕ) (runners : Runners) (frames : FrameData)
    → IfOk r (λ number. Settles b s upto number b') → OnErr r (b' ≡ b) → IsTied b runners frames → IsTied b' runners frames
tied (Ok number) b b' s upto runners frames made same h = tied_settled b b' runners frames s upto made.after h
tied (Err why) b b' s upto runners frames made same h = subst (λ (l : Ledger). IsTied l runners frames) (sym same) h

pub invariant_of-self : goal.invariant_of-self
invariant_of-self c =
    let i = c.self.inside in
    tied c.settle.result i.book.ledger c.settle.new.self.ledger c.args.session c.args.upto i.runtime.runners i.runtime.frames
    c.settle.ensures.ok c.settle.ensures.unchanged c.self.invariant
