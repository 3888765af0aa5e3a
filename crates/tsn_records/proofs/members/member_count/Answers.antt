use Rattle.std.proofs.Common.{◌∙◌, sym}
use Rattle.serde_json.specs.View.{view}
use Rattle.tsn_records.proofs.Counting.{count_of_object, len_of_members}
use Rattle.tsn_records.proofs.members.member_count.Goals as goal

pub returns-in-Some : goal.returns-in-Some
returns-in-Some c = c.len.ensures.len
    ∙ (sym (len_of_members c.in-Some.members.now.entries) ∙ sym (count_of_object (view c.args.value.now) _ c.in-Some.ensures))
