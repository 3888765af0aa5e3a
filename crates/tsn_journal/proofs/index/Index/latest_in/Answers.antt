use Rattle.std.proofs.Common.{Bool, true, ◌∙◌, rules}
use Rattle.std.proofs.Math.Bool.{and-true}
use Rattle.tsn_entries.specs.declared.entries.MarkedEntry.{MarkedEntry}
use Rattle.tsn_entries.specs.Finding.{last_where}
use Rattle.tsn_journal.specs.Index.{belongs}
use Rattle.tsn_journal.proofs.index.Index.latest_in.Goals as goal

pub returns : goal.returns
returns c =
    let t : MarkedEntry → Bool = λ m. true in
    c.last_in.ensures t (λ x b h. search rules)
    ∙ (λ i. last_where (λ (m : MarkedEntry). and-true (belongs c.args.group.now m) i) c.args.marked.now)
