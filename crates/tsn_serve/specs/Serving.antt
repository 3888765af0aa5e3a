-- What serving leaves of the seats.
use Rattle.std.specs.Prelude.{◌≡◌, ℕ, ◌++◌, List, [], ◌∷◌, map}
use Rattle.tsn_desk.specs.declared.desk.Desk.{Desk}
use Rattle.tsn_bridge.specs.State.{State}
use Rattle.tsn_commands.specs.declared.command.Ask.{Ask}
use Rattle.tsn_commands.specs.declared.reply.Reply.{Reply}
use Rattle.tsn_port.specs.declared.worker.PortWorker.{PortWorker}
use Rattle.tsn_port.specs.Workers.{BridgeSeat, GoesOn}
use Rattle.tsn_serve.specs.declared.probing.Probe.{Probe}
use Rattle.tsn_serve.specs.Probes.{IsProbed}

-- the lists are as long, and this holds of each two elements at one place
abbrev pub Matched : {X Y : Type 0} → (X → Y → Type 0) → List X → List Y → Type 0
Matched R [] [] = Unit {0}
Matched R [] (y ∷ ys) = ⊥
Matched R (x ∷ xs) [] = ⊥
Matched R (x ∷ xs) (y ∷ ys) = R x y × Matched R xs ys

-- Each seat goes on as itself, and is back in its place. The last ones went to the probes: each stands beside its worker, in
-- the order of the probes.
pub record HasProbed (desk : Desk State Ask Reply) (olds : List BridgeSeat) (asked : List (ℕ × ℕ)) (served : List BridgeSeat)
    (probed : List (BridgeSeat × PortWorker)) : Type 0 where
  pub firsts : List BridgeSeat
  pub probes : List Probe
  pub olds_are : olds ≡ firsts ++ map (λ p. p.seat) probes
  pub asked_are : asked ≡ map (λ p. (p.port, p.at)) probes
  pub first_ones : Matched (λ old new. GoesOn desk old new) firsts served
  pub last_ones : Matched (λ probe pair. IsProbed desk probe pair) probes probed

-- The same with all seats in their first order, and the workers apart.
pub record HasServed (desk : Desk State Ask Reply) (olds : List BridgeSeat) (asked : List (ℕ × ℕ)) (news : List BridgeSeat)
    (workers : List PortWorker) : Type 0 where
  pub served : List BridgeSeat
  pub probed : List (BridgeSeat × PortWorker)
  pub each : HasProbed desk olds asked served probed
  pub news_are : news ≡ served ++ map (λ p. p.0) probed
  pub workers_are : workers ≡ map (λ p. p.1) probed
