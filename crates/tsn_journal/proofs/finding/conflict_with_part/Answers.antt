use Rattle.std.proofs.Common.{◌∙◌, ◌+◌, drop}
use Rattle.tsn_journal.specs.Index.{is_sought}
use Rattle.tsn_entries.specs.Marks.{later_of}
use Rattle.tsn_journal.proofs.Sought.{numbered_after, sought_groups}
use Rattle.tsn_journal.proofs.finding.conflict_with_part.Goals as goal

pub returns : goal.returns
returns c =
    c.later_of.ensures
    ∙ (λ i. later_of (c.later_of-by_key.ensures i) (c.later_of-by_refs.ensures i))
    ∙ (λ i. later_of (later_of (c.number_in-on_key.ensures i) (c.number_in-to_key.ensures i))
    (later_of (c.number_on-on_first.ensures i) (c.number_on-on_second.ensures i)))
    ∙ sought_groups c.args.part.now c.refs_of-refs.result c.refs_of-refs.ensures (is_sought c.args.but) (1 + c.args.after)
    (drop c.args.after c.args.marked.now) (numbered_after 1 c.args.after c.args.marked.now c.requires.numbered)
