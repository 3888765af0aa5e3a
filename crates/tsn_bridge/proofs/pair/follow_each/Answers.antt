use Rattle.std.proofs.Common.{arith, suc}
use Rattle.tsn_bridge.proofs.Room.{behind_to}
use Rattle.tsn_bridge.proofs.pair.follow_each.Goals as goal

pub follow-requires : goal.follow-requires
follow-requires c =
    let es = c.args.journal.now.entries in
    let more = behind_to es c.args.first (suc c.loop-place.place) c.args.count (omega (arith, c.loop-place-test.true)) in
    record { room = λ few. omega (arith, more, c.requires.room, c.loop-place.invariant.3) }
