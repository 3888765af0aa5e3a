use Rattle.std.proofs.Common.{[], ◌∷◌, ◌∙◌, ap, None, Some}
use Rattle.tsn_types.specs.declared.keys.Key.{Key}
use Rattle.tsn_types.specs.declared.limits.Limits.{Limits}
use Rattle.tsn_types.specs.declared.records.PortGates.{PortGates}
use Rattle.tsn_types.specs.declared.records.Record.TheVariants as records
use Rattle.tsn_config.specs.Opening.{opening}
use Rattle.tsn_edit.specs.Parts.{Change}
use Rattle.tsn_chain.specs.Following.{frames_after, runners_after}
use Rattle.tsn_chain.specs.Instances.{FrameData, Runners}
use Rattle.tsn_chain.proofs.Beginning.{begun, first_port}
use Rattle.tsn_configuration_tests.proofs.chain.tests.bench.Bench.new.Goals as goal

pub invariant_of-result : goal.invariant_of-result
invariant_of-result c =
    let p : PortGates = c.port.result in
    let created : Key → Change = λ k. record { key = k; before = None; after = Some (records.Port p) } ∷ [] in
    let t = c.reserve.new.self.time in
    record {
      keys = begun p c.in_ok-limits.limits c.in_ok-config.config.map c.follow.new.self.runners c.follow.new.self.frames t
          (ap (λ (l : Limits). l.ports) c.in_ok-limits.ensures.same)
          (c.in_ok-config.ensures.map ∙ ap (opening c.in_ok-limits.limits) c.new-2.ensures)
          (c.follow.ensures.runners ∙ ap (λ (e : Change). runners_after c.reserve.new.self.runners e) c.of-change.ensures
          ∙ ap (λ k. runners_after c.reserve.new.self.runners (created k)) c.port_key.ensures
          ∙ ap (λ (s : Runners). runners_after s (first_port p)) (c.reserve.ensures.runners ∙ c.in_ok-runtime.ensures.runners))
          (c.follow.ensures.frames ∙ ap (λ (e : Change). frames_after t c.reserve.new.self.frames e) c.of-change.ensures
          ∙ ap (λ k. frames_after t c.reserve.new.self.frames (created k)) c.port_key.ensures
          ∙ ap (λ (s : FrameData). frames_after t s (first_port p)) (c.reserve.ensures.frames ∙ c.in_ok-runtime.ensures.frames));
    }
