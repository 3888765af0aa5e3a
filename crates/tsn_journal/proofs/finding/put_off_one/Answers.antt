use Rattle.std.proofs.Common.{sym, ◌∙◌, true, false, arith}
use Rattle.tsn_journal.proofs.Marking.{all_stay, out_of_reach, set_at}
use Rattle.tsn_journal.proofs.finding.put_off_one.Goals as goal

pub returns-in_default : goal.returns-in_default
returns-in_default c = sym (all_stay c.args.what.now c.args.marked.now c.requires.no_settle (sym c.names.ensures ∙ c.in_default.is))

pub returns-in_default-place_of : goal.returns-in_default-place_of
returns-in_default-place_of c = grind (arith, out_of_reach)

pub returns-then-closes : goal.returns-then-closes
returns-then-closes c =
    set_at c.args.what.now c.args.marked.now c.in-Some-place_of.place c.in-Some.of c.index-marked-place.result true
    (sym c.names.ensures ∙ c.in-Some.is) c.requires.numbered c.in-Some-place_of.ensures.some.0 c.index-marked-place.is
    (sym c.closes.ensures ∙ c.if-closes.true)

pub returns-else-closes : goal.returns-else-closes
returns-else-closes c =
    set_at c.args.what.now c.args.marked.now c.in-Some-place_of.place c.in-Some.of c.index-marked-place.result false
    (sym c.names.ensures ∙ c.in-Some.is) c.requires.numbered c.in-Some-place_of.ensures.some.0 c.index-marked-place.is
    (sym c.closes.ensures ∙ c.if-closes.false)
