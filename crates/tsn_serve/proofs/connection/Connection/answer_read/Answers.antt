use Rattle.std.proofs.Common.{rules, ℕ, List, Option, [], inr, refl, subst, sym}
use Rattle.std.specs.Io.KnownBytes.{Appends}
use Rattle.std.specs.Result.{IfErr}
use Rattle.tsn_serve.specs.Answers.{MayRead}
use Rattle.tsn_serve.specs.Talk.{BreaksTalk, Caller}
use Rattle.tsn_serve.proofs.Writing.{cut_for_each}
use Rattle.tsn_serve.proofs.connection.Connection.answer_read.Goals as goal

pub returns-in-Err-clause-broken : goal.returns-in-Err-clause-broken
returns-in-Err-clause-broken g c =
    ([], (λ line may. inr (c.in-Err.ensures.fault, refl, (c.args.read, may, c.in-Err.ensures.tired))), search rules)

pub returns-clause-broken : goal.returns-clause-broken
returns-clause-broken g c =
    let taken = g.O.ByteOut.taken in
    let written = c.write_reply_by-written in
    subst (λ (x : Caller). IfErr written.result (λ e. (part : List ℕ)
    × ((line : Option (List ℕ)) → MayRead line c.args.read → BreaksTalk c.args.self.now line e part x)
    × Appends (taken c.args.writer.now) (taken written.new.writer) part)) (sym c.self.view_is)
    (cut_for_each written.result c.args.self.now c.args.read _ c.reply_to.new.self _ _ c.in-Ok.ensures.ok written.ensures.fault
    written.ensures.cut)
