use Rattle.std.proofs.Common.{◌≡◌, ◌==◌, ◌∷◌, [], ◌++◌, Bool, true, false, eq-eqb, sym, ◌∙◌, ap}
use Rattle.std.specs.Prelude.{MatchBool}
use Rattle.tsn_history.proofs.Adding.{adds_moves}
use Rattle.tsn_history.proofs.front.Front.add.Goals as goal

pub compare_exchange-found-requires : goal.compare_exchange-found-requires
compare_exchange-found-requires g c =
    let h = c.args.book.now.head_is in
    let offer = c.plain-offer.ensures in
    let pen = c.no_pen-pen.ensures in (
      ap (λ w. w.tracked) h,
      c.self.invariant.1 ∙ sym (ap (λ w. w.book) h),
      pen.0 ∙ (c.self.invariant.1 ∙ sym (ap (λ w. w.book) h)),
      offer.0,
      rw (ap (λ w. w.key) h, pen.1, offer.1, offer.3)
          (adds_moves c.self.inside.seen.log c.args.line.now c.self.inside.lines (sym c.self.invariant.0)),
    )

matched : (b : Bool) (P Q : Type 0) → b ≡ true → MatchBool b P Q → P
matched true P Q e h = h
matched false P Q e h = absurd cc

pub returns-then-found-lines : goal.returns-then-found-lines
returns-then-found-lines g c =
    let log = c.self.inside.seen.log in
    let here : (c.compare_exchange-found.result == c.self.inside.lines) ≡ true = eq-eqb _ _ c.if-found-lines.true in
    let grown : c.compare_exchange-found.new.seen.log ≡ log ++ c.plain-offer.result.ask
    ∷ [] = matched _ _ _ here c.compare_exchange-found.ensures.7 in
    λ _. rw (← c.self.view_is) (grown ∙ ap (λ a. log ++ a ∷ []) c.plain-offer.ensures.1)
