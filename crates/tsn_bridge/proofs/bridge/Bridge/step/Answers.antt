use Rattle.std.proofs.Common.{sym, subst}
use Rattle.tsn_bridge.specs.Edits.{edit_rule}
use Rattle.tsn_bridge.specs.Machine.{Step}
use Rattle.tsn_bridge.specs.Rule.{Allows}
use Rattle.tsn_bridge.proofs.bridge.Bridge.step.Goals as goal

pub returns-in-Create : goal.returns-in-Create
returns-in-Create c =
    let s = c.args.self.now in
    subst (λ command. Step s c.args.session command c.edit.result c.edit.new.self) (sym c.in-Create.is)
    (subst (λ batch. Allows (edit_rule s c.args.session batch) s c.edit.result c.edit.new.self) c.one.ensures c.edit.ensures)

pub returns-in-Replace : goal.returns-in-Replace
returns-in-Replace c =
    let s = c.args.self.now in
    subst (λ command. Step s c.args.session command c.edit-in-Replace.result c.edit-in-Replace.new.self) (sym c.in-Replace.is)
    (subst (λ batch. Allows (edit_rule s c.args.session batch) s c.edit-in-Replace.result c.edit-in-Replace.new.self)
    c.one-in-Replace.ensures c.edit-in-Replace.ensures)

pub returns-in-Remove : goal.returns-in-Remove
returns-in-Remove c =
    let s = c.args.self.now in
    subst (λ command. Step s c.args.session command c.edit-in-Remove.result c.edit-in-Remove.new.self) (sym c.in-Remove.is)
    (subst (λ batch. Allows (edit_rule s c.args.session batch) s c.edit-in-Remove.result c.edit-in-Remove.new.self) c.one-in-Remove.ensures
    c.edit-in-Remove.ensures)
