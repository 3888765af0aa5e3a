use Rattle.std.proofs.Common.{◌∙◌, ap, max, Some}
use Rattle.tsn_chain.specs.Instances.{Instances}
use Rattle.tsn_chain.specs.Rows.{frames_in}
use Rattle.tsn_chain.proofs.Framing.{seen}
use Rattle.tsn_chain.proofs.runtime.police.Goals as goal

pub returns-clause-framed : goal.returns-clause-framed
returns-clause-framed c =
    seen c.args.config.now.map c.args.frame c.runtime.inside.gates.map c.args.runtime.now.runners.gates (frames_in c.runtime.inside.rows)
    c.args.runtime.now.frames c.later-time.result (max c.args.runtime.now.time c.args.now)
    (Some (c.police.result, frames_in c.police.new.self)) (ap (λ (s : Instances). s.runners.gates) c.runtime.view_is)
    (ap (λ (s : Instances). s.frames) c.runtime.view_is)
    (c.later-time.ensures ∙ ap (λ (s : Instances). max s.time c.args.now) c.runtime.view_is) c.police.ensures.framed
