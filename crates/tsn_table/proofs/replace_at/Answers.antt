use Rattle.std.proofs.Common.{Some, cond, sym, ap, ◌∙◌, nat_eq}
use Rattle.std.specs.HashMap as hash
use Rattle.std.proofs.lemmas.Cmp.{nat_eq_equiv}
use Rattle.indexmap.proofs.CallerLemmas.{updates-with_value_at}
use Rattle.tsn_table.proofs.Places.{lies_found, same_value}
use Rattle.tsn_table.proofs.replace_at.Goals as goal

pub returns-clause-before : goal.returns-clause-before
returns-clause-before g c =
    let rows = c.args.rows.now in
    lies_found rows c.get_index_mut.ensures.unique c.args.id c.args.place c.requires
    ∙ sym (ap Some (c.replace.ensures.value
    ∙ same_value rows c.args.id c.args.place c.in-Some.kept.now c.requires c.in-Some.ensures.value))

pub returns-clause-rows : goal.returns-clause-rows
returns-clause-rows g c = λ q.
    let rows = c.args.rows.now in
    (updates-with_value_at rows c.args.place c.replace.new.dest nat_eq_equiv c.get_index_mut.ensures.unique c.args.id c.requires.row
    c.requires.is_there).0 q
    ∙ ap (λ r. cond (nat_eq c.args.id q) (Some r) (hash.get nat_eq rows q)) c.replace.ensures.after
