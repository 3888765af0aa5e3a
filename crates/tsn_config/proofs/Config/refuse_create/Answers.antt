use Rattle.std.proofs.Common.{sym, ◌∙◌, [], ◌∷◌}
use Rattle.std.specs.Prelude.{is_none}
use Rattle.std.specs.FinMap.{get}
use Rattle.tsn_types.specs.declared.refusals.Refusal.TheVariants.{Exists}
use Rattle.tsn_types.specs.Limits.{unless}
use Rattle.tsn_edit.specs.Batches.{result}
use Rattle.tsn_edit.specs.Edits.{dangling}
use Rattle.tsn_config.proofs.Edits.{limits_first}
use Rattle.tsn_config.proofs.Config.refuse_create.Goals as goal

pub returns-in-Some : goal.returns-in-Some
returns-in-Some c =
    let late = unless (is_none (get c.args.self.now.map c.args.key.now)) (Exists c.args.key.now)
    ∷ dangling (result c.args.self.now.map c.args.edits.now) c.args.value.now ∷ [] in
    limits_first _ c.args.self.now c.args.key.now c.args.value.now _ late c.self.view_is (sym c.refuse_limits.ensures ∙ c.in-Some.is)
