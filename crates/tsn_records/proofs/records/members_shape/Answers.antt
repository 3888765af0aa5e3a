use Rattle.std.proofs.Common.{ap, subst, sym, ◌∙◌}
use Rattle.tsn_records.specs.Answers.{Reads, each}
use Rattle.tsn_records.specs.Records.{member_shape}
use Rattle.tsn_records.proofs.Entries.{each_map}
use Rattle.tsn_records.proofs.records.members_shape.Goals as goal

pub returns : goal.returns
returns g c =
    let look = g.F.Format.look in
    let d = g.F.Format.view c.args.value.now in
    subst (Reads c.members_of_rows.result)
    (sym (each_map (λ row. member_shape look c.args.kind row.1 (look.at row.0 d)) (λ member. (member.0.now, member.1)) _)
    ∙ ap (each (λ row. member_shape look c.args.kind row.1 (look.at row.0 d))) c.record_members_of.ensures.rows)
    c.members_of_rows.ensures
