use Rattle.std.proofs.Common.{◌≡◌, sym, subst, ◌∙◌, ap}
use Rattle.std.specs.Prelude.{◌==◌}
use Rattle.std.specs.List.{find}
use Rattle.std.specs.Option.{option_copied}
use Rattle.std.proofs.lemmas.Option.{same_Some}
use Rattle.tsn_entries.specs.declared.entries.MarkedEntry.{MarkedEntry}
use Rattle.tsn_journal.specs.Newest.{MendsNewest, groups_of}
use Rattle.tsn_journal.proofs.Links.{none_some}
use Rattle.tsn_journal.proofs.finding.leave_one.Goals as goal

pub returns-in-Some-at-clause-named : goal.returns-in-Some-at-clause-named
returns-in-Some-at-clause-named c = λ n m is there.
    let same : c.in-Some.number ≡ n = same_Some _ _ (sym c.in-Some.is ∙ is) in
    let one : c.in-Some-at.found.now ≡ m = same_Some _ _
    (sym (ap option_copied c.in-Some-at.is) ∙ c.at.ensures
    ∙ ap (λ k. find (λ (x : MarkedEntry). x.entry.number == k) c.args.marked.now) same ∙ there) in
    subst (λ (x : MarkedEntry). MendsNewest c.args.marked.now (groups_of x.entry) c.args.index.now c.leave.new.self) one
    c.leave.ensures.newest

pub returns-in_default-at-clause-named : goal.returns-in_default-at-clause-named
returns-in_default-at-clause-named c = λ n m is there.
    let same : c.in-Some.number ≡ n = same_Some _ _ (sym c.in-Some.is ∙ is) in
    none_some m (sym (ap option_copied c.in_default-at.is) ∙ c.at.ensures
    ∙ ap (λ k. find (λ (x : MarkedEntry). x.entry.number == k) c.args.marked.now) same ∙ there)
