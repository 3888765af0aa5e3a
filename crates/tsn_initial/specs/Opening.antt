-- The bridge that a setup's text opens.
use Rattle.std.specs.Prelude.{◌≡◌, ℕ, List, [], Option, Some, None, Result, Ok, Err}
use Rattle.tsn_types.specs.declared.refusals.Refusal.{Refusal}
use Rattle.tsn_config.specs.Opening.{opening_refusal}
use Rattle.tsn_bridge.specs.Beginning.{begun}
use Rattle.tsn_bridge.specs.State.{State}
use Rattle.tsn_config.specs.declared.setup.Setup.{Setup}
use Rattle.tsn_setup.specs.Setups.{setup_of}

abbrev unless_refused : Option Refusal → State → Result State Refusal
unless_refused None s = Ok s
unless_refused (Some why) s = Err why

-- the beginning with the limits and records of a setup, unless they are refused
abbrev pub begun_of : Result Setup Refusal → Result State Refusal
begun_of (Ok setup) = unless_refused (opening_refusal setup.limits setup.records) (begun setup.limits setup.records)
begun_of (Err why) = Err why

-- the state that the text of a setup opens, or why it is refused
unfoldable pub opened : List ℕ → Result State Refusal
opened text = begun_of (setup_of text)

-- nothing was done with the bridge yet
abbrev pub IsNew : State → Type 0
IsNew s = (s.book.entries ≡ []) × (s.time ≡ 0)
