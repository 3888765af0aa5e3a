use Rattle.std.proofs.Common.{◌≡◌, ◌≤◌, ◌-◌, ◌+◌, ◌++◌, ◌∷◌, [], List, ℕ, Option, Some, length, length-drop, length-append, take, drop, take-append-drop, refl, sym, subst, ◌∙◌, arith}
use Rattle.std.proofs.KnownBytes.{Appends-nil, Appends-trans}
use Rattle.std.proofs.Math.Seq.{take-add}
use Rattle.tsn_serve.specs.Answers.{MayRead}
use Rattle.tsn_serve.specs.Lots.{IsLot}
use Rattle.tsn_serve.specs.Talk.{Caller, Talks, BreaksTalk}
use Rattle.tsn_serve.proofs.Running.{fed_more, fed_as, fed_nothing, broken_after, broken_as}
use Rattle.tsn_serve.proofs.Ahead.{front_fits, fed_front, broken_front, lot_on}
use Rattle.tsn_serve.proofs.connection.Connection.answer_each.Goals as goal

pub lines-init : goal.lines-init
lines-init g c =
    let all : c.into_iter-line-iterator.result.rest.items ≡ c.args.lot.items = c.into_iter-line-iterator.ensures.into_iter_gives.0 in (
      (c.requires.1.0, subst (λ rs. IsLot c.args._bytes.now rs c.requires.1.0) (sym all) c.requires.1.1),
      omega arith,
      omega arith,
      ([], fed_nothing Talks c.args.self.now (Some []), Appends-nil _),
      refl,
    )

pub returns-in-Err-clause-front : goal.returns-in-Err-clause-front
returns-in-Err-clause-front g c =
    let inv = c.lines.invariant in
    let r = c.in-Some.line in
    let broken = c.in-Err.ensures.broken in
    let bytes = c.args._bytes.now in
    let done = c.lines.done in
    let new = c.answer_read.new.self in
    let lot : IsLot (drop done bytes) (r ∷ c.next.new.self.rest.items) inv.0.0 =
    subst (λ l. IsLot (drop done bytes) l inv.0.0) c.in-Some.ensures.steps.0 inv.0.1 in
    let all : (line : Option (List ℕ)) → MayRead line r.read → BreaksTalk c.lines.self line c.in-Err.fault broken.0 new =
    subst (λ (s : Caller). (line : Option (List ℕ)) → MayRead line r.read → BreaksTalk s line c.in-Err.fault broken.0 new)
    c.leave_unless.ensures broken.1 in
    let here = broken_front (drop done bytes) r.count r.read lot.0 Talks BreaksTalk c.in-Err.fault c.lines.self broken.0 new all in (
      c.in-Err.ensures.fault,
      (
        inv.3.0 ++ broken.0,
        broken_as Talks BreaksTalk c.in-Err.fault c.args.self.now new (Some []) _ bytes (inv.3.0 ++ broken.0) (take-append-drop done bytes)
            (broken_after Talks BreaksTalk c.in-Err.fault c.args.self.now c.lines.self new (Some []) (Some []) (take done bytes)
            (drop done bytes) inv.3.0 broken.0 inv.3.1 here),
        Appends-trans _ _ _ _ _ inv.3.2 broken.2,
      ),
    )

pub lines-preserved : goal.lines-preserved
lines-preserved g c =
    let inv = c.lines.invariant in
    let bytes = c.args._bytes.now in
    let done = c.lines.done in
    let r = c.in-Some.line in
    let rs = c.next.new.self.rest.items in
    let rest : List ℕ = inv.0.0 in
    let new = c.answer_read.new.self in
    let ok = c.in_default.ensures.ok in
    let lot : IsLot (drop done bytes) (r ∷ rs) rest = subst (λ l. IsLot (drop done bytes) l rest) c.in-Some.ensures.steps.0 inv.0.1 in
    let fits : r.count ≤ length bytes - done = simp length-drop at (front_fits (drop done bytes) r.count r.read lot.0) in
    let all : (line : Option (List ℕ)) → MayRead line r.read → Talks c.lines.self line ok.0 new =
    subst (λ (s : Caller). (line : Option (List ℕ)) → MayRead line r.read → Talks s line ok.0 new) c.leave_unless.ensures ok.1 in
    let here = fed_front (drop done bytes) r.count r.read lot.0 Talks c.lines.self ok.0 new all in (
      (rest, lot_on bytes done r rs rest lot),
      omega (arith, fits, inv.1),
      omega (arith, length-append c.lines.yielded (r ∷ []), inv.2, lot.0.5),
      (
        inv.3.0 ++ ok.0,
        fed_as Talks c.args.self.now new (Some []) (Some []) _ (take (done + r.count) bytes) (inv.3.0 ++ ok.0)
            (sym (take-add done r.count bytes))
            (fed_more Talks c.args.self.now c.lines.self new (Some []) (Some []) (Some []) (take done bytes)
            (take r.count (drop done bytes)) inv.3.0 ok.0 inv.3.1 here),
        Appends-trans _ _ _ _ _ inv.3.2 ok.2,
      ),
      c.in_default.ensures.worked (λ e. cc) ∙ inv.4,
    )
