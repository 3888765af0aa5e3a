use Rattle.std.proofs.Common.{Bool, ◌∙◌, ap, sym, subst}
use Rattle.std.specs.Prelude.{is_some, option_map}
use Rattle.std.specs.Option.{option_and_then, option_copied}
use Rattle.std.proofs.Math.Bool.{and-true}
use Rattle.tsn_entries.specs.declared.entries.MarkedEntry.{MarkedEntry}
use Rattle.tsn_entries.specs.Marks.{Log, conflict_after, stands}
use Rattle.tsn_journal.proofs.Conflicts.{standing_conflict}
use Rattle.tsn_journal.specs.Index.{IsIndexed}
use Rattle.tsn_journal.proofs.journal.Journal.find_conflict.Goals as goal

pub returns : goal.returns
returns c = λ e is.
    let p : MarkedEntry → Bool = (λ m. is_some (stands m)) in
    c.standing_conflict_after.ensures
    ∙ (λ i. option_map (λ (m : MarkedEntry). m.entry.number)
    (option_and_then (conflict_after (λ m. and-true (is_some (stands m)) i) c.deref.result.now) (option_copied c.entry.result)))
    ∙ (λ i. option_map (λ (m : MarkedEntry). m.entry.number)
    (option_and_then (conflict_after p (c.deref.ensures.value i)) (c.entry.ensures i)))
    ∙ standing_conflict c.self.inside.marked.items c.self.invariant.journal _ (ap (λ (l : Log). l.entries) c.self.view_is) c.args.number e
    is

pub standing_conflict_after-requires-clause-index : goal.standing_conflict_after-requires-clause-index
standing_conflict_after-requires-clause-index c =
    subst (λ xs. IsIndexed xs c.self.inside.index) (sym c.deref.ensures.value) c.self.invariant.indexed
