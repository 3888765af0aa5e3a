use Rattle.tsn_chain.proofs.Beginning.{followed_keys}
use Rattle.tsn_configuration_tests.proofs.chain.tests.bench.Bench.edit.Goals as goal

pub invariant_of-self-2 : goal.invariant_of-self-2
invariant_of-self-2 c =
    let s = c.args.self.now in
    record {
      keys = followed_keys s.config.limits s.config.map c.reserve.new.self.map c.apply.new.self.map s.runtime.runners
          c.reserve-2.new.self.runners c.follow.new.self.runners s.runtime.frames c.reserve-2.new.self.frames c.follow.new.self.frames
          c.reserve-2.new.self.time c.in_ok-change.change s.keys c.in_ok-change.ensures.fits c.reserve.ensures.map
          c.reserve-2.ensures.runners c.reserve-2.ensures.frames c.follow.ensures.runners c.follow.ensures.frames c.apply.ensures.map;
    }
