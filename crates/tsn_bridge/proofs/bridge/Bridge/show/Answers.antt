use Rattle.std.proofs.Common.{◌≡◌, ◌∙◌, Some, ap, sym, true}
use Rattle.std.specs.FinMap.{get}
use Rattle.tsn_types.specs.declared.limits.Limits.{Limits}
use Rattle.tsn_types.specs.Lent.{lent_record}
use Rattle.tsn_types.specs.Limits.{holds_key}
use Rattle.tsn_edit.specs.Configuration.{Configuration}
use Rattle.tsn_undo.specs.Ledger.{present}
use Rattle.tsn_bridge.proofs.Showing.{show_refused}
use Rattle.tsn_bridge.proofs.bridge.Bridge.show.Goals as goal

pub returns-in-Err : goal.returns-in-Err
returns-in-Err c =
    let s = c.args.self.now in
    let k = c.args.key.now in
    let holds : holds_key s.book.limits k ≡ true = ap (λ (l : Limits). holds_key l k)
    (sym c.config.ensures.limits ∙ sym c.limits.ensures.limits) ∙ sym c.if-not-holds.ensures in
    let stands : get (present s.book) k ≡ Some (lent_record c.in-Some.found) = ap (λ (m : Configuration). get m k)
    (sym c.config-2.ensures.map) ∙ sym c.in-Some.ensures in
    show_refused s c.args.session k (lent_record c.in-Some.found) c.config.ensures.kept holds (sym c.if-not-is_given.ensures) stands
    c.in-Err.ensures.memory
