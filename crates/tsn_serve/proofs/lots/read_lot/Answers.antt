use Rattle.std.proofs.Common.{◌≡◌, ◌≤◌, ◌-◌, ◌+◌, [], ◌∷◌, ◌++◌, ℕ, List, refl, length, length-drop, drop, sym, ap, ◌∙◌, subst, arith}
use Rattle.std.proofs.lemmas.List.{take_rest}
use Rattle.tsn_serve.specs.Lots.{IsLot}
use Rattle.tsn_serve.proofs.Ahead.{front_fits, lot_read}
use Rattle.tsn_serve.proofs.lots.read_lot.Goals as goal

pub lines-init : goal.lines-init
lines-init c =
    let bytes = c.args.bytes.now in
    let first = c.args.first in
    let one : IsLot bytes (first ∷ []) (drop first.count bytes) = (c.requires, refl) in
    let alone : c.push_reserved.new.self.items ≡ first ∷ [] =
    c.push_reserved.ensures.items ∙ ap (λ rs. rs ++ first ∷ []) c.in-Ok.ensures.items in (
      subst (λ rs. IsLot bytes rs (drop first.count bytes)) (sym alone) one,
      front_fits bytes first.count first.read c.requires,
      omega (arith, c.push_reserved.ensures.len),
      omega (arith, c.push_reserved.ensures.capacity, c.in-Ok.ensures.capacity),
    )

pub returns-then-not-is_brief-clause-lot : goal.returns-then-not-is_brief-clause-lot
returns-then-not-is_brief-clause-lot c =
    let bytes = c.args.bytes.now in
    let behind : List ℕ = drop (c.lines.done + c.in-Some.line.count) bytes in (
      behind,
      subst (λ rs. IsLot bytes rs behind) (sym c.push_reserved-in-lines.ensures.items)
          (lot_read bytes c.lines.done c.lines.lot.items c.in-Some.line c.lines.invariant.0 c.in-Some.ensures.read),
    )

pub lines-preserved : goal.lines-preserved
lines-preserved c =
    let bytes = c.args.bytes.now in
    let done = c.lines.done in
    let fits : c.in-Some.line.count ≤ length bytes - done =
    simp length-drop at (rw (take_rest bytes done) at c.in-Some.ensures.count.1) in (
      subst (λ rs. IsLot bytes rs (drop (done + c.in-Some.line.count) bytes)) (sym c.push_reserved-in-lines.ensures.items)
          (lot_read bytes done c.lines.lot.items c.in-Some.line c.lines.invariant.0 c.in-Some.ensures.read),
      omega (arith, fits, c.lines.invariant.1),
      omega (arith, c.push_reserved-in-lines.ensures.len),
      omega (arith, c.push_reserved-in-lines.ensures.capacity, c.lines.invariant.3),
    )
