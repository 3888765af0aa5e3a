use Rattle.std.proofs.Common.{max}
use Rattle.std.specs.FinMap.{get}
use Rattle.tsn_types.specs.declared.keys.Key.TheVariants.{Gate}
use Rattle.tsn_chain.proofs.Beginning.{applied_keys}
use Rattle.tsn_configuration_tests.proofs.chain.tests.bench.Bench.apply_gate.Goals as goal

pub invariant_of-self : goal.invariant_of-self
invariant_of-self c =
    let s = c.args.self.now in
    record {
      keys = applied_keys c.apply.result s.runtime.runners c.apply.new.self.runners s.runtime.frames c.apply.new.self.frames s.config.map
          (Gate c.args.id) (get s.config.map (Gate c.args.id)) (max s.runtime.time c.instant.result) s.keys c.apply.ensures.frames
          c.apply.ensures.acts c.apply.ensures.kept;
    }
