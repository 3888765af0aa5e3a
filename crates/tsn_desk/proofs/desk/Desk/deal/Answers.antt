use Rattle.std.proofs.Common.{rules, ◌≡◌, ◌+◌, ◌-◌, [], suc, length, slice_get, ap, sym, ◌∙◌, arith}
use Rattle.tsn_desk.specs.Rule.{dealt}
use Rattle.tsn_desk.specs.Steps.{number_of, made_of, first_calls, rest_calls}
use Rattle.tsn_desk.specs.Desks.{first_of, IsFresh}
use Rattle.tsn_desk.proofs.Parts.{gives_out, each_snoc}
use Rattle.tsn_desk.proofs.desk.Desk.deal.Goals as goal

pub split_seat-other-requires : goal.split_seat-other-requires
split_seat-other-requires g c = (search rules, search rules, gives_out _ _ _ _ _ (ap (λ m. m.0.stage) c.loop.invariant.1))

pub loop-preserved : goal.loop-preserved
loop-preserved g c =
    let e = c.split_seat-other.ensures in
    let i = c.loop.counter in
    let n = c.args.seats - i in
    let more : n ≡ suc (c.args.seats - (i + 1)) = omega arith in
    let next : suc i ≡ i + 1 = omega arith in
    let x = first_of c.args.self.now in
    let was = c.loop.invariant.1 in (
      e.0 ∙ c.loop.invariant.0,
      e.2 ∙ (ap (λ m. (record m.0 { calls = rest_calls m.0.calls }, m.1)) was ∙ (λ j. (dealt x (next j) (more j), []))),
      search rules,
      search rules,
      (λ k s h. each_snoc (λ k s. IsFresh c.args.self.now s (k + 1)) c.loop.row.items _ c.loop.invariant.4
          (let q = e.4 ∙ ap (λ m. (record m.0 { calls = first_calls m.0.calls }, [])) was in
          let count : i ≡ length c.loop.row.items + 1 = omega arith in
          record {
            own = (e.3 ∙ (c.loop.invariant.0 ∙ c.requires.seat.0), ap (λ m. m.0.first) q);
            nothing_seen = ap (λ m. m.0.seen) q;
            nothing_made = ap (λ m. made_of m.0.calls) q;
            number_is = ap (λ m. number_of m.0.calls) q ∙ count;
          })
          k s (ap (λ l. slice_get l k) (sym c.push_reserved.ensures.items) ∙ h)),
    )

pub returns-clause-fresh : goal.returns-clause-fresh
returns-clause-fresh g c =
    let q = c.loop.invariant.1 in
    let count : c.loop.counter ≡ length c.loop.row.items + 1 = omega arith in
    λ k s h. each_snoc (λ k s. IsFresh c.args.self.now s (k + 1)) c.loop.row.items _ c.loop.invariant.4
    record {
      own = (c.loop.invariant.0 ∙ c.requires.seat.0, ap (λ m. m.0.first) q);
      nothing_seen = ap (λ m. m.0.seen) q;
      nothing_made = ap (λ m. made_of m.0.calls) q;
      number_is = ap (λ m. number_of m.0.calls) q ∙ count;
    }
    k s (ap (λ l. slice_get l k) (sym c.push_reserved-2.ensures.items) ∙ h)
