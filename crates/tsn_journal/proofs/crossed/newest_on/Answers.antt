use Rattle.std.proofs.Common.{◌≡◌, ◌≤◌, max, sym, ◌∙◌, ap, subst, arith}
use Rattle.std.specs.Option.{option_copied}
use Rattle.std.proofs.Math.Nat.{le-max_left, le-max_right}
use Rattle.std.proofs.lemmas.Option.{same_Some}
use Rattle.tsn_entries.specs.declared.entries.MarkedEntry.{MarkedEntry}
use Rattle.tsn_journal.specs.declared.groups.Group.TheVariants.{On}
use Rattle.tsn_journal.specs.Index.{belongs_to_others}
use Rattle.tsn_journal.proofs.Bounding.{after_last}
use Rattle.tsn_journal.proofs.Links.{none_some}
use Rattle.tsn_journal.proofs.Needed.{found_on}
use Rattle.tsn_journal.proofs.crossed.newest_on.Goals as goal

pub returns-in-Some-clause-none : goal.returns-in-Some-clause-none
returns-in-Some-clause-none c = λ i e le at.
    let m = c.in-Some.found.now in
    let n = c.args.number in
    let top : max m.entry.number n ≤ i = subst (λ k. k ≤ i) c.max.ensures le in
    let left : m.entry.number ≤ max m.entry.number n = le-max_left m.entry.number n in
    let right : n ≤ max m.entry.number n = le-max_right m.entry.number n in
    after_last (belongs_to_others (On c.args.key.now) c.args.session) 0 n c.args.marked.now m.entry.number c.requires.numbered
    (λ y some. let same : m ≡ y = same_Some m y (sym (ap option_copied c.in-Some.is) ∙ c.last_of_others.ensures ∙ some) in
    let number : m.entry.number ≡ y.entry.number = ap (λ (z : MarkedEntry). z.entry.number) same in omega arith)
    i e (omega arith) (omega arith) at

pub returns-in-None-clause-none : goal.returns-in-None-clause-none
returns-in-None-clause-none c = λ i e le at.
    after_last (belongs_to_others (On c.args.key.now) c.args.session) 0 c.args.number c.args.marked.now 0 c.requires.numbered
    (λ y some. none_some y (sym (ap option_copied c.in-None.is) ∙ c.last_of_others.ensures ∙ some))
    i e le (omega arith) at

pub returns-in-Some-clause-raised : goal.returns-in-Some-clause-raised
returns-in-Some-clause-raised c =
    found_on c.args.session c.max.result c.args.number c.args.key.now c.args.marked.now c.in-Some.found.now c.requires.numbered
    (sym (sym (ap option_copied c.in-Some.is) ∙ c.last_of_others.ensures)) c.max.ensures
