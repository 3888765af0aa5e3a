use Rattle.std.proofs.Common.{rules}
use Rattle.tsn_edit.specs.Batches.{edited_keys}
use Rattle.tsn_config.proofs.Config.unedited_referrer.Goals as goal

pub returns : goal.returns
returns c = c.referrer_but.ensures (edited_keys c.args.edits.now) (λ x b h. search rules)
