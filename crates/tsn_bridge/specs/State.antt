-- The state of the bridge: its limits, opening and entries, how many sessions it has given out, their names, the bridge time, and
-- what the filter chain keeps of each filter, gate and meter.
use Rattle.std.specs.Prelude.{refl, ℕ, List}
use Rattle.std.specs.Coded.{Coded, code_by, coded×, coded_list, coded_ℕ}
use Rattle.tsn_undo.specs.Ledger.{Ledger, ledger_code}
use Rattle.tsn_chain.specs.Instances.{FrameData, frames_code}
use Rattle.tsn_bridge.specs.declared.sessions.Named.{Named}
use Rattle.tsn_bridge.specs.Names.{named_code}

pub record State : Type 0 where
  pub book : Ledger
  pub sessions : ℕ
  pub names : List Named
  pub time : ℕ
  pub frames : FrameData

abbrev pub state_code : Coded State
state_code =
    code_by (Ledger × (ℕ × (List Named × (ℕ × FrameData))))
    (coded× ledger_code (coded× coded_ℕ (coded× (coded_list named_code) (coded× coded_ℕ frames_code))))
    (λ s. (s.book, (s.sessions, (s.names, (s.time, s.frames)))))
    (λ p. record { book = p.0; sessions = p.1.0; names = p.1.1.0; time = p.1.1.1.0; frames = p.1.1.1.1 }) (λ _. refl)
