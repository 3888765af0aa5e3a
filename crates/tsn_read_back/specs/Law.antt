-- What is written of a configuration is read as the setup of its limits and of the records that a setup names.
use Rattle.std.specs.Prelude.{◌≡◌, ℕ, ◌≤◌, List, length, None, Ok}
use Rattle.tsn_types.specs.declared.limits.Limits.{Limits}
use Rattle.tsn_edit.specs.Configuration.{Configuration, IsWellKept}
use Rattle.tsn_config.specs.Opening.{opening, opening_refusal}
use Rattle.tsn_config.specs.declared.setup.Setup.{Setup}
use Rattle.tsn_export.specs.Text.{exported, named, setup_text}
use Rattle.tsn_setup.specs.Setups.{longest_setup, setup_of}

-- the text is read as this setup
abbrev pub IsReadAs : List ℕ → Limits → Configuration → Type 0
IsReadAs text l c = setup_of text ≡ Ok (record { limits = l; records = named c })

-- the text of a configuration, unless it is too long
abbrev pub ReadsBack : Type 0
ReadsBack = (l : Limits) (c : Configuration) → IsWellKept l c → length (setup_text l c) ≤ longest_setup → IsReadAs (setup_text l c) l c

-- every text that is exported
abbrev pub ReadsExported : Type 0
ReadsExported = (l : Limits) (c : Configuration) (text : List ℕ) → IsWellKept l c → exported l c ≡ Ok text → IsReadAs text l c

-- The setup has these limits, and a bridge that begins with it has this configuration.
pub record BeginsWith (l : Limits) (c : Configuration) (s : Setup) : Type 0 where
  pub limits : s.limits ≡ l
  pub opens : opening s.limits s.records ≡ c
  pub unrefused : opening_refusal s.limits s.records ≡ None

-- every setup that is read of a text that is exported
abbrev pub BeginsAgain : Type 0
BeginsAgain = (l : Limits) (c : Configuration) (text : List ℕ) (s : Setup) → IsWellKept l c → exported l c ≡ Ok text → setup_of text ≡ Ok s
    → BeginsWith l c s
