use Rattle.std.proofs.Common.{◌∙◌, Ok, Err, ap₂, inl, inr, refl, sym, subst}
use Rattle.tsn_export.specs.Text.{exported}
use Rattle.tsn_bridge.proofs.Showing.{setup_refused, setup_told}
use Rattle.tsn_bridge.proofs.bridge.Bridge.setup.Goals as goal

pub returns-in-Ok : goal.returns-in-Ok
returns-in-Ok c =
    setup_told c.args.self.now c.args.session c.in-Ok.text (sym c.if-not-is_given.ensures)
    (sym (ap₂ exported c.config.ensures.limits c.config.ensures.map) ∙ c.in-Ok.ensures.ok)

pub returns-in-Err : goal.returns-in-Err
returns-in-Err c =
    setup_refused c.args.self.now c.args.session c.in-Err.why (sym c.if-not-is_given.ensures)
    (ap₂ exported c.config.ensures.limits c.config.ensures.map) c.in-Err.ensures.refused
