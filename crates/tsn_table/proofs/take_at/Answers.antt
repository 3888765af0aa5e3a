use Rattle.std.proofs.Common.{Some, sym, ap, ◌∙◌}
use Rattle.tsn_table.proofs.Places.{lies_found, same_row}
use Rattle.tsn_table.proofs.take_at.Goals as goal

pub returns-clause-before : goal.returns-clause-before
returns-clause-before g c =
    let rows = c.args.rows.now in
    lies_found rows c.len-len.ensures.unique c.args.id c.args.place c.requires
    ∙ sym (ap Some (same_row rows c.args.id c.args.place c.in-Some.field-0-0 c.in-Some.row c.requires c.in-Some.ensures.entry))
