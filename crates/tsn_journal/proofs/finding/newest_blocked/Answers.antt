use Rattle.std.proofs.Common.{Bool, rules}
use Rattle.std.specs.Prelude.{is_some}
use Rattle.tsn_entries.specs.declared.entries.MarkedEntry.{MarkedEntry}
use Rattle.tsn_entries.specs.Marks.{conflict_of_others}
use Rattle.tsn_journal.proofs.Bounding.{none_blocked}
use Rattle.tsn_journal.proofs.finding.newest_blocked.Goals as goal

pub returns : goal.returns
returns c =
    let p : MarkedEntry → Bool = λ m. is_some (conflict_of_others c.args.marked.now m.entry) in
    c.last_own.ensures p (λ x b h. search rules)
    (λ i m le at. none_blocked c.args.marked.now c.args.crossed c.requires.numbered c.requires.free c.args.session i m le at)
