use Rattle.std.proofs.Common.{◌∙◌, sym}
use Rattle.tsn_program.proofs.Listing.{look, never_untold, told_gates}
use Rattle.tsn_program.proofs.states.gates_at.Goals as goal

pub unreachable-requires : goal.unreachable-requires
unreachable-requires c =
    let seen = look c.args.bridge.now c.args.bridge.now c.args.port c.args.at c.states-reply.result c.requires c.states-reply.ensures in
    never_untold _ c.states-reply.result seen.1 (sym c.gates_told.ensures ∙ c.in-None.is)

pub returns : goal.returns
returns c =
    let seen = look c.args.bridge.now c.args.bridge.now c.args.port c.args.at c.states-reply.result c.requires c.states-reply.ensures in
    told_gates _ c.states-reply.result c.in-Some.gates seen.1 (sym c.gates_told.ensures ∙ c.in-Some.is)
