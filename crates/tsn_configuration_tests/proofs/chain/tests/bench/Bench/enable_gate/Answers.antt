use Rattle.std.proofs.Common.{max, subst, sym}
use Rattle.tsn_types.specs.declared.keys.Key.TheVariants.{Gate}
use Rattle.tsn_schedule.specs.Acts.{Enable}
use Rattle.tsn_chain.specs.Instances.{FrameData, HasKeys}
use Rattle.tsn_chain.proofs.Keys.{keys_act}
use Rattle.tsn_configuration_tests.proofs.chain.tests.bench.Bench.enable_gate.Goals as goal

pub invariant_of-self : goal.invariant_of-self
invariant_of-self c =
    let s = c.args.self.now in
    let t = max s.runtime.time c.instant.result in
    let h : HasKeys s.runtime.runners c.enable.new.self.frames s.config.map = subst
    (λ (f : FrameData). HasKeys s.runtime.runners f s.config.map) (sym c.enable.ensures.frames) s.keys in
    record {
      keys = keys_act s.runtime.runners c.enable.new.self.runners c.enable.new.self.frames s.config.map (Gate c.args.id) (Enable t)
          (Enable t) h c.enable.ensures.acts;
    }
