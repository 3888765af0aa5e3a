use Rattle.std.proofs.Common.{◌∙◌, ◌<◌, ◌≤◌, ◌-◌, length, length-drop, arith}
use Rattle.std.proofs.lemmas.List.{take_rest}
use Rattle.tsn_bytes.proofs.Gathering.{handed_on}
use Rattle.tsn_bytes.proofs.buffered.Buffered.hand_on.Goals as goal

pub puts-preserved : goal.puts-preserved
puts-preserved g c =
    let now = c.puts.self-inside in
    let whole = c.deref.result.now in
    let count : c.in-Ok.count ≤ length whole - now.start = simp length-drop at (rw (take_rest whole now.start) at c.in-Ok.ensures.count) in
    let some : 0 < c.in-Ok.count = omega arith in (
      omega (arith, count, c.deref.ensures.len),
      c.puts.invariant.1,
      c.in-Ok.ensures.worked (λ none. absurd (omega arith)) ∙ c.puts.invariant.2,
      handed_on _ _ _ now.bytes.items _ whole now.start c.in-Ok.count c.deref.ensures.value c.puts.invariant.3
          (rw (take_rest whole now.start) at c.in-Ok.ensures.bytes),
    )
