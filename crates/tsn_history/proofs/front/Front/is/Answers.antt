use Rattle.std.proofs.Common.{◌≡◌, ap, sym, subst, arith, length, List, ℕ}
use mathlib.Core.List.{IsPrefix}
use Rattle.tsn_history.proofs.Fronts.{prefix_shorter, prefix_whole}
use Rattle.tsn_history.proofs.front.Front.is.Goals as goal

pub returns-then-other-self : goal.returns-then-other-self
returns-then-other-self g c =
    let both = c.learn.new.self.log in
    let this : IsPrefix c.self.inside.seen.log both = subst (λ (l : List (List ℕ)). IsPrefix l both) (ap (λ s. s.log) c.again-both.ensures)
    c.learn.ensures.2 in
    let same : length c.other.inside.seen.log ≡ length c.self.inside.seen.log = omega (arith, c.self.invariant.0, c.other.invariant.0) in
    let whole : c.other.inside.seen.log ≡ c.self.inside.seen.log = prefix_whole c.other.inside.seen.log c.self.inside.seen.log
    (prefix_shorter c.other.inside.seen.log c.self.inside.seen.log both c.learn.ensures.3 this (omega arith)) (omega arith) in
    λ _. rw (← c.self.view_is, ← c.other.view_is) (sym whole)
