use Rattle.std.proofs.Common.{arith}
use Rattle.tsn_journal.proofs.Keeping.{kept_reserved, still_room}
use Rattle.tsn_journal.proofs.journal.Journal.reserve.Goals as goal

pub invariant_of-self-in_err-reserve-2 : goal.invariant_of-self-in_err-reserve-2
invariant_of-self-in_err-reserve-2 c =
    kept_reserved _ _ _ _ _ _ _ _ c.self.invariant _ _ c.reserve.ensures.items c.reserve-2.ensures.spare.items c.reserve-2.ensures.latest
    c.reserve-2.ensures.tells _ _ _ _ c.reserve.ensures.len
    (omega (arith, c.self.invariant.entries, c.reserve.ensures.len, c.reserve.ensures.capacity))
    (omega (arith, c.self.invariant.few, c.reserve.ensures.len)) c.self.invariant.few_parts
    (still_room _ _ _ c.reserve-2.ensures.spare c.self.invariant.nodes)

pub invariant_of-self-2 : goal.invariant_of-self-2
invariant_of-self-2 c =
    kept_reserved _ _ _ _ _ _ _ _ c.self.invariant _ _ c.reserve.ensures.items c.reserve-2.ensures.spare.items c.reserve-2.ensures.latest
    c.reserve-2.ensures.tells _ _ _ _ c.reserve.ensures.len
    (omega (arith, c.in_ok-reserve.ensures.ok))
    (omega (arith, c.if-len-count.false, c.len.ensures, c.reserve.ensures.len, c.self.invariant.few))
    (omega (arith, c.requires, c.if-len-count.false, c.len.ensures, c.self.invariant.few_parts))
    c.in_ok-reserve-2.ensures.ok
