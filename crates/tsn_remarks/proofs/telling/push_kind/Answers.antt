use Rattle.std.proofs.Common.{◌++◌, ap, refl, ◌∙◌}
use Rattle.std.specs.FinMap.{entries}
use Rattle.std.specs.List.{flat_map}
use Rattle.tsn_config.proofs.Keyed.{number_at}
use Rattle.tsn_export.proofs.Along.{text_at, texts_of_kind}
use Rattle.tsn_export.proofs.Lists.{left_end, left_more}
use Rattle.tsn_remarks.specs.Remarks.{remarks_on}
use Rattle.tsn_remarks.proofs.telling.push_kind.Goals as goal

pub key_of-requires : goal.key_of-requires
key_of-requires c =
    number_at _ _ c.requires c.args.kind _ c.loop-id.id-index (c.as_slice-id-items.ensures ∙ c.in_ok-ids.ensures.ids) c.loop-id-test.true

pub loop-id-preserved : goal.loop-id-preserved
loop-id-preserved c =
    let m = c.args.config.now.map in
    left_more (text_at (remarks_on (entries m)) m c.args.kind) c.as_slice-id-items.result.now c.loop-id.id-index c.loop-id.text _
    c.loop-id.invariant _ 0 c.push_entry.new.text c.loop-id-test.true refl (rw c.key_of.ensures at c.in_ok-push_entry.ensures)

pub returns : goal.returns
returns c =
    let m = c.args.config.now.map in
    let lines = text_at (remarks_on (entries m)) m c.args.kind in
    left_end lines c.as_slice-id-items.result.now c.loop-id.id-index c.loop-id.text _ c.loop-id.invariant c.loop-id-test.false
    ∙ ap (λ ns. c.args.text.now ++ flat_map lines ns) (c.as_slice-id-items.ensures ∙ c.in_ok-ids.ensures.ids)
    ∙ ap (λ t. c.args.text.now ++ t) (texts_of_kind (remarks_on (entries m)) c.args.kind m)
