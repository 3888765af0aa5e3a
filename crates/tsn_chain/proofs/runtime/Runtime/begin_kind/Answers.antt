use Rattle.std.proofs.Common.{◌∙◌}
use Rattle.tsn_config.proofs.Keyed.{number_at}
use Rattle.tsn_chain.proofs.runtime.Runtime.begin_kind.Goals as goal

pub key_of-requires : goal.key_of-requires
key_of-requires c =
    number_at c.args.config.now.limits c.args.config.now.map c.requires.kept c.args.kind c.as_slice-id-items.result.now c.loop-id.id-index
    (c.as_slice-id-items.ensures ∙ c.in_ok-ids.ensures.ids) c.loop-id-test.true
