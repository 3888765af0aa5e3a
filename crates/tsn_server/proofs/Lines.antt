-- The lines of last rounds, one after another.
use Rattle.std.proofs.Common.{◌≡◌, ℕ, zero, suc, Option, Some, None, ◌++◌, List, [], ◌∷◌, All, map, refl, sym, ap, subst, ◌∙◌, arith, append_assoc, append-nil, unwrap_or}
use Rattle.tsn_desk.specs.declared.desk.Desk.{Desk}
use Rattle.tsn_desk.specs.Desks.{first_of}
use Rattle.tsn_bridge.specs.State.{State}
use Rattle.tsn_commands.specs.declared.command.Ask.{Ask}
use Rattle.tsn_commands.specs.declared.reply.Reply.{Reply}
use Rattle.tsn_port.specs.declared.worker.PortWorker.{PortWorker}
use Rattle.tsn_port.specs.Workers.{BridgeSeat, port_of}
use Rattle.tsn_serve.specs.declared.probing.Probe.{Probe}
use Rattle.tsn_serve.specs.Probes.{IsProbed}
use Rattle.tsn_serve.specs.Serving.{Matched, HasProbed}
use Rattle.tsn_server.specs.Reporting.{IsRested, IsToldOf, Reports}
use Rattle.tsn_server.specs.Serving.{IsSo, ReportsEnd, ReportsPorts, followed}

module _ (desk : Desk State Ask Reply) where
  -- a line behind the others
  pub one_more : (at : ℕ) (pairs : List (BridgeSeat × PortWorker)) (text : List ℕ) (pair : BridgeSeat × PortWorker) (line : List ℕ)
      → Reports desk at pairs text → IsToldOf desk at pair line → Reports desk at (pairs ++ pair ∷ []) (text ++ line)
  one_more at [] text pair line none told = (line, [], told, refl, subst (λ t. t ++ line ≡ line ++ []) (sym none) (sym (append-nil line)))
  one_more at (first ∷ pairs) text pair line (head, more, is, rest, whole) told = (
    head,
    more ++ line,
    is,
    one_more at pairs more pair line rest told,
    subst (λ t. t ++ line ≡ head ++ (more ++ line)) (sym whole) (append_assoc head more line),
  )

  told_so : (at : ℕ) (pair : BridgeSeat × PortWorker) (line : List ℕ) → IsToldOf desk at pair line
      → IsSo (first_of desk) at (port_of pair.1) line
  told_so at pair line (told, (history, begins, ends), is) = (told, (history, (history, refl), ends), is)

  -- what is told of workers is so of their ports
  of_ports : (at : ℕ) (pairs : List (BridgeSeat × PortWorker)) (text : List ℕ) → Reports desk at pairs text
      → ReportsPorts (first_of desk) at (map (λ p. port_of p.1) pairs) text
  of_ports at [] text none = none
  of_ports at (pair ∷ pairs) text (line, more, is, rest, whole) = (line, more, told_so at pair line is, of_ports at pairs more rest, whole)

  -- workers that were probes
  pub rested : (probes : List Probe) (pairs : List (BridgeSeat × PortWorker))
      → Matched (λ probe pair. IsProbed desk probe pair) probes pairs → All (λ p. IsRested desk p) pairs
  rested probes [] m k d within = absurd (omega (arith, within))
  rested [] (pair ∷ pairs) m k d within = absurd m
  rested (probe ∷ probes) (pair ∷ pairs) m zero d within = record { own = m.0.goes.own; worker = m.0.worker; last = m.0.last }
  rested (probe ∷ probes) (pair ∷ pairs) m (suc k) d within = rested probes pairs m.1 k d (omega (arith, within))

  -- their ports are the probes'
  pub ports : (probes : List Probe) (pairs : List (BridgeSeat × PortWorker)) → Matched (λ probe pair. IsProbed desk probe pair) probes pairs
      → map (λ p. port_of p.1) pairs ≡ map (λ p. p.port) probes
  ports [] [] m = refl
  ports [] (pair ∷ pairs) m = absurd m
  ports (probe ∷ probes) [] m = absurd m
  ports (probe ∷ probes) (pair ∷ pairs) m = let here : port_of pair.1 ≡ probe.port = m.0.port in let more = ports probes pairs m.1 in cc

  asked_ports : (probes : List Probe) → map (λ (p : ℕ × ℕ). p.0) (map (λ p. (p.port, p.at)) probes) ≡ map (λ p. p.port) probes
  asked_ports [] = refl
  asked_ports (probe ∷ probes) = ap (λ ps. probe.port ∷ ps) (asked_ports probes)

  -- and so those that were asked for
  pub served_ports : (olds : List BridgeSeat) (asked : List (ℕ × ℕ)) (served : List BridgeSeat) (pairs : List (BridgeSeat × PortWorker))
      → HasProbed desk olds asked served pairs → map (λ p. port_of p.1) pairs ≡ map (λ (p : ℕ × ℕ). p.0) asked
  served_ports olds asked served pairs h =
      ports h.probes pairs h.last_ones ∙ (sym (asked_ports h.probes) ∙ sym (ap (λ l. map (λ (p : ℕ × ℕ). p.0) l) h.asked_are))

  pub served_rest : (olds : List BridgeSeat) (asked : List (ℕ × ℕ)) (served : List BridgeSeat) (pairs : List (BridgeSeat × PortWorker))
      → HasProbed desk olds asked served pairs → All (λ p. IsRested desk p) pairs
  served_rest olds asked served pairs h = rested h.probes pairs h.last_ones

-- what is told at the end is of the ports that were followed, at the instant; where none is given, of no port, whatever the instant
told_of : (first : State) (asked : Option ℕ) (other : ℕ) (text : List ℕ)
    → ReportsPorts first (unwrap_or asked other) (followed first.book.limits.ports asked) text → ReportsEnd first asked text
told_of first None other text told = told
told_of first (Some at) other text told = told

pub told_end : (desk : Desk State Ask Reply) (first : State) (asked : Option ℕ) (other at : ℕ) (pairs : List (BridgeSeat × PortWorker))
    (text : List ℕ)
    → first_of desk ≡ first → at ≡ unwrap_or asked other
    → map (λ p. port_of p.1) pairs ≡ followed first.book.limits.ports asked → Reports desk at pairs text → ReportsEnd first asked text
told_end desk first asked other at pairs text same is ports told =
    told_of first asked other text (subst (λ (ps : List ℕ). ReportsPorts first (unwrap_or asked other) ps text) ports
    (subst (λ n. ReportsPorts first n (map (λ p. port_of p.1) pairs) text) is
    (subst (λ (s : State). ReportsPorts s at (map (λ p. port_of p.1) pairs) text) same (of_ports desk at pairs text told))))
