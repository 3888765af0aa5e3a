use Rattle.std.proofs.Common.{[], ◌∷◌, subst}
use Rattle.std.proofs.lemmas.Result.{IfErr-weaker, IfOk-weaker}
use Rattle.std.specs.Prelude.{option_map}
use Rattle.tsn_resuming.specs.Resuming.{Begins, OpensNone}
use Rattle.tsn_resuming.specs.Standing.{IsFed}
use Rattle.tsn_resuming.proofs.Going.{at_true}
use Rattle.tsn_resuming.proofs.Starting.{has_begun, not_begun}
use Rattle.tsn_resuming.proofs.resuming.begin_reading.Goals as goal

pub returns-clause-begun : goal.returns-clause-begun
returns-clause-begun g c = λ before fed.
    let given = option_map (λ own. own.now) c.args.given in
    IfOk-weaker c.begin.result _ _
    (λ bridge begins. has_begun before _ given c.find_first.new.reader bridge
    (at_true {A = IsFed before _ (c.find_first.new.reader.latest ∷ []) c.find_first.new.reader} _ c.if-not-branch.false
    (c.in_ok-find_first.ensures.found before fed))
    (subst (λ command. Begins given command bridge) c.command.ensures begins))
    c.begin.ensures.begun

pub returns-clause-fault : goal.returns-clause-fault
returns-clause-fault g c = λ before fed.
    let given = option_map (λ own. own.now) c.args.given in
    IfErr-weaker c.begin.result _ _
    (λ why none. not_begun before _ _ given c.find_first.new.reader why
    (at_true {A = IsFed before _ (c.find_first.new.reader.latest ∷ []) c.find_first.new.reader} _ c.if-not-branch.false
    (c.in_ok-find_first.ensures.found before fed))
    (subst (λ command. OpensNone given command why) c.command.ensures none))
    c.begin.ensures.fault
