-- A book and a runtime that are tied, as contracts see them: the ledger, the bridge time, and what the filter chain keeps;
-- and what an act leaves of them.
use Rattle.std.specs.Prelude.{refl, ℕ, max}
use Rattle.std.specs.Coded.{Coded, code_by, coded×, coded_ℕ}
use Rattle.tsn_types.specs.declared.keys.Key.{Key}
use Rattle.tsn_entries.specs.declared.entries.Act.{Act as Asked}
use Rattle.tsn_entries.specs.declared.entries.What.TheVariants.{Acted}
use Rattle.tsn_undo.specs.Ledger.{Ledger, enter, ledger_code}
use Rattle.tsn_chain.specs.Instances.{FrameData, frames_code}

pub record PairState : Type 0 where
  pub ledger : Ledger
  pub time : ℕ
  pub frames : FrameData

abbrev pub pair_code : Coded PairState
pair_code = code_by (Ledger × (ℕ × FrameData)) (coded× ledger_code (coded× coded_ℕ frames_code)) (λ p. (p.ledger, (p.time, p.frames)))
    (λ p. record { ledger = p.0; time = p.1.0; frames = p.1.1 }) (λ _. refl)

-- after an act, it is entered with the instant that counts, and the bridge time is that instant
abbrev pub acted : PairState → ℕ → Asked → Key → ℕ → PairState
acted p n act k now = record { ledger = enter p.ledger n (Acted act k (max p.time now)); time = max p.time now; frames = p.frames }
