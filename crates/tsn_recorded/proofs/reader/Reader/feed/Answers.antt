use Rattle.std.proofs.Common.{refl, subst, sym}
use Rattle.tsn_recorded.specs.Reader.{HasGiven, Standing}
use Rattle.tsn_recorded.proofs.Giving.{found_with, gives_counted}
use Rattle.tsn_recorded.proofs.reader.Reader.feed.Goals as goal

pub returns-then-self-clause-fed : goal.returns-then-self-clause-fed
returns-then-self-clause-fed c fed rs given =
    let piece = c.args.piece.now in
    let P : Standing → Type 0 = λ s. HasGiven fed rs s in
    let here = subst P (sym c.self.view_is) given in
    gives_counted fed piece rs _ _ here (record { last = refl; lines = refl; good = refl }) refl refl
    (found_with _ _ here.counted piece here.line_feeds c.has_line_feed-self-inside.ensures.some c.has_line_feed-self-inside.ensures.none)
