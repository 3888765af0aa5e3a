use Rattle.std.proofs.Common.{◌∙◌, ap, length, sym}
use Rattle.serde_json.specs.View.{view}
use Rattle.tsn_records.proofs.Counting.{count_of_array, len_of_items}
use Rattle.tsn_records.proofs.members.item_count.Goals as goal

pub returns-in-Some : goal.returns-in-Some
returns-in-Some c = ap length c.as_slice.ensures.value
    ∙ (sym (len_of_items c.in-Some.items.now.items) ∙ sym (count_of_array (view c.args.value.now) _ c.in-Some.ensures))
