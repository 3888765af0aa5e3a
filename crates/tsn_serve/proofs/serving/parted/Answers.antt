use Rattle.std.proofs.Common.{All, subst, sym, ◌∙◌}
use Rattle.std.proofs.lemmas.List.Elements.{All-take, All-drop}
use Rattle.tsn_desk.specs.Desks.{IsSeatOf}
use Rattle.tsn_port.specs.Workers.{BridgeSeat}
use Rattle.tsn_serve.specs.declared.probing.Probe.{Probe}
use Rattle.tsn_serve.proofs.Matching.{of_images}
use Rattle.tsn_serve.proofs.serving.parted.Goals as goal

pub returns-clause-own : goal.returns-clause-own
returns-clause-own c =
    let P : BridgeSeat → Type 0 = λ s. IsSeatOf c.args.desk.now s in (
      subst (λ l. All P l) (sym c.in-Ok.ensures.items) (All-take P _ c.args.seats.items c.requires.own),
      of_images P (λ (p : Probe). p.seat) c.in_ok-probes.probes.items
          (subst (λ l. All P l) (sym (c.in_ok-probes.ensures.seats ∙ c.in-Ok.ensures.tail))
          (All-drop P _ c.args.seats.items c.requires.own)),
    )
