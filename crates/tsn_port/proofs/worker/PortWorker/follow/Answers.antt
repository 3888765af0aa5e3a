use Rattle.std.proofs.Common.{◌≡◌, ◌∙◌, [], Result, Ok, Err, append-nil, ap, false, is_err, is_ok, refl, rules, sym}
use Rattle.std.specs.Prelude.{OnOk}
use Rattle.tsn_desk.specs.Desks.{first_of, seen}
use Rattle.tsn_port.specs.declared.worker.PortWorker.{PortWorker}
use Rattle.tsn_port.specs.Histories.{TookSome}
use Rattle.tsn_port.specs.Starting.{HasRead}
use Rattle.tsn_port.specs.Workers.{last_seen}
use Rattle.tsn_port.proofs.Working.{follows, given_on}
use Rattle.tsn_port.proofs.worker.PortWorker.follow.Goals as goal

pub read_behind-seat-requires : goal.read_behind-seat-requires
read_behind-seat-requires g c =
    let w = c.requires.1 in (
      c.requires.0,
      w.reached,
      given_on (first_of c.args.desk.now) w.reached (last_seen c.args.self.now) (seen c.args.seat)
          c.args.self.now.session c.requires.2 w.given,
    )

not_short : {T E P : Type 0} (r : Result T E) → is_err r ≡ false → OnOk r P → P
not_short (Ok x) long p = p
not_short (Err e) long p = (cc)

told_well : {T E D P : Type 0} (told : Result T D) (r : Result T E) → is_ok told ≡ is_ok r → (is_err r ≡ false → P) → OnOk told P
told_well (Ok x) (Ok y) same p = p refl
told_well (Ok x) (Err e) same p = (cc)
told_well (Err d) r same p = tt

pub returns-clause-worker : goal.returns-clause-worker
returns-clause-worker g c =
    let w : PortWorker = record {
      mirror = c.take-taken.new.self;
      session = c.args.self.now.session;
      place = c.in-Ok-read.told.1;
      is_short = c.is_err-self.result;
      last = c.of.result;
    } in
    let read = rw c.in-Ok-read.is at c.read_behind-seat.ensures.read in
    let after : c.in-Ok.after ≡ c.args.self.now.mirror.front = search rules in
    let behind : HasRead c.args.desk.now c.args.seat c.args.self.now.session c.args.self.now.mirror.front c.in-Ok-read.told.0
    c.in-Ok-read.told.1 c.read_behind-seat.result.0 = rw (sym after) read in
    let took : TookSome c.args.self.now.mirror c.in-Ok-read.told.0 c.take-taken.new.self = record {
      port = c.take-taken.ensures.port;
      more = c.take-taken.ensures.front.0;
      most = c.take-taken.ensures.front.1;
      taken = c.take-taken.ensures.taken;
    } in
    let last : last_seen w ≡ seen c.read_behind-seat.result.0 = ap (λ s. seen s) c.of.ensures in (
      follows c.args.desk.now c.args.self.now w c.requires.1 c.args.seat c.read_behind-seat.result.0 c.requires.2 c.in-Ok-read.told.0
          c.in-Ok-read.told.1 behind took refl refl last
          (λ long. not_short c.take-taken.result (sym c.is_err-self.ensures.value ∙ long) c.take-taken.ensures.all),
      ([], append-nil (last_seen w) ∙ last),
      c.take-taken.ensures.port,
    )

pub returns-clause-ok : goal.returns-clause-ok
returns-clause-ok g c = told_well c.map_err.result c.take-taken.result c.map_err.ensures.variant
    (λ long. (c.is_err-self.ensures.value ∙ long, sym (ap (λ s. seen s) c.of.ensures)))

pub returns-in-Err-clause-once : goal.returns-in-Err-clause-once
returns-in-Err-clause-once g c =
    let after : c.in-Ok.after ≡ c.args.self.now.mirror.front = search rules in
    rw (sym after) c.read_behind-seat.ensures.once
