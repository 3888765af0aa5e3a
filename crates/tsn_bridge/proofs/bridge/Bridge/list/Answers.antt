use Rattle.std.proofs.Common.{◌<◌, length, subst, sym}
use Rattle.tsn_edit.specs.Configuration.{Configuration}
use Rattle.tsn_config.specs.Ids.{ids_of}
use Rattle.tsn_bridge.proofs.Showing.{list_refused}
use Rattle.tsn_bridge.proofs.bridge.Bridge.list.Goals as goal

pub returns-in-Err : goal.returns-in-Err
returns-in-Err c =
    let some = subst (λ (m : Configuration). 0 < length (ids_of c.args.kind m)) c.config.ensures.map c.in-Err.ensures.memory in
    list_refused c.args.self.now c.args.session c.args.kind (sym c.if-not-is_given.ensures) some
