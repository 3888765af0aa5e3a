use Rattle.std.proofs.Common.{◌≡◌, ap, false, refl}
use Rattle.tsn_port.specs.declared.worker.PortWorker.{PortWorker}
use Rattle.tsn_desk.specs.Desks.{seen}
use Rattle.tsn_port.specs.Workers.{last_seen}
use Rattle.tsn_port.proofs.Working.{goes_both, starts}
use Rattle.tsn_port.proofs.worker.PortWorker.start.Goals as goal

pub returns-in-Err-looked-clause-goes : goal.returns-in-Err-looked-clause-goes
returns-in-Err-looked-clause-goes g c =
    goes_both c.args.desk.now c.args.seat c.say_hello-seat.result.0 c.look-seat.result.0 c.say_hello-seat.ensures.goes
    c.look-seat.ensures.goes

pub returns-in-Err-read-clause-goes : goal.returns-in-Err-read-clause-goes
returns-in-Err-read-clause-goes g c =
    goes_both c.args.desk.now c.args.seat c.look-seat.result.0 c.read_behind-seat.result.0
    (goes_both c.args.desk.now c.args.seat c.say_hello-seat.result.0 c.look-seat.result.0 c.say_hello-seat.ensures.goes
    c.look-seat.ensures.goes) c.read_behind-seat.ensures.goes

pub returns-clause-worker : goal.returns-clause-worker
returns-clause-worker g c =
    let w : PortWorker = record {
      mirror = c.in-Ok-of.mirror;
      session = c.in-Ok.session;
      place = c.in-Ok-read.told.1;
      is_short = false;
      last = c.of-2.result;
    } in
    let looked = rw c.in-Ok-looked.is at c.look-seat.ensures.looked in
    let read = rw c.in-Ok-read.is at c.read_behind-seat.ensures.read in
    let is = c.in-Ok-of.ensures in
    let last : last_seen w ≡ seen c.read_behind-seat.result.0 = ap (λ s. seen s) c.of-2.ensures in (
      starts c.args.desk.now c.requires.1 c.say_hello-seat.result.0 c.look-seat.result.0 c.read_behind-seat.result.0 c.args.port
          c.in-Ok.session c.in-Ok-looked.shown c.in-Ok-read.told.0 c.in-Ok-read.told.1 c.get.ensures.in_range.0 looked read w is.port refl
          refl last is.front is.mirrors,
      is.port,
      refl,
    )
