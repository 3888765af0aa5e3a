use Rattle.std.proofs.Common.{refl}
use Rattle.tsn_commit.proofs.Having.{has_more, keeps_both}
use Rattle.tsn_commit.proofs.together.keep_both.Goals as goal

pub returns : goal.returns
returns g c =
    let a = rw c.in_ok-first.was at c.join-first.ensures.first in
    let b = rw c.in_ok-second.was at c.join-first.ensures.second in
    keeps_both g.K.Ahead.had g.K.Ahead.digest c.in_ok-keeper.kept c.args.keeper c.in_ok-keeper.keeper c.args.one.now c.args.other.now
    c.requires.keeper c.in_ok-keeper.ensures
    (has_more c.in_ok-keeper.kept c.in_ok-first.first c.args.one.now (c.if-not-covers.ensures refl) a)
    (has_more c.in_ok-keeper.kept c.in_ok-second.second c.args.other.now (c.if-not-covers-2.ensures refl) b)
