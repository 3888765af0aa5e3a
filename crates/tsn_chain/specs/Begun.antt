-- The instance data of a configuration at the instant 0: as a change from none left it at each key.
use Rattle.std.specs.Prelude.{◌≡◌, ℕ, List, [], ◌∷◌, fold, Some, None}
use Rattle.std.specs.FinMap.{empty, get}
use Rattle.tsn_types.specs.declared.keys.Key.{Key}
use Rattle.tsn_types.specs.declared.keys.Kind.{Kind}
use Rattle.tsn_types.specs.declared.keys.Kind.TheVariants as kinds
use Rattle.tsn_types.specs.declared.records.GateEntry.{GateEntry}
use Rattle.tsn_types.specs.declared.records.PortEntry.{PortEntry}
use Rattle.tsn_config.specs.Ids.{ids_of, key_by}
use Rattle.tsn_edit.specs.Configuration.{Configuration}
use Rattle.tsn_edit.specs.Parts.{Change}
use Rattle.tsn_schedule.specs.Kept.{Kept, fresh}
use Rattle.tsn_chain.specs.Following.{frames_after, runners_after}
use Rattle.tsn_chain.specs.Instances.{FrameData, Runners}

-- a change from none to what a configuration has at a key
abbrev pub first_change : Configuration → Key → Change
first_change c k = record { key = k; before = None; after = get c k } ∷ []

-- one after another at the keys of these numbers
abbrev pub frames_from : Configuration → Kind → FrameData → List ℕ → FrameData
frames_from c kind f ns = fold (λ d n. frames_after 0 d (first_change c (key_by kind n))) f ns

abbrev pub runners_from : Configuration → Kind → Runners → List ℕ → Runners
runners_from c kind r ns = fold (λ d n. runners_after d (first_change c (key_by kind n))) r ns

-- at all keys of a kind
abbrev pub frames_of_kind : Configuration → FrameData → Kind → FrameData
frames_of_kind c f kind = frames_from c kind f (ids_of kind c)

abbrev pub runners_of_kind : Configuration → Runners → Kind → Runners
runners_of_kind c r kind = runners_from c kind r (ids_of kind c)

abbrev pub no_frames : FrameData
no_frames = record { filters = empty; gates = empty; meters = empty }

abbrev pub no_runners : Runners
no_runners = record { ports = empty; gates = empty }

-- kind after kind, in the order of keys
abbrev pub begun_frames : Configuration → FrameData
begun_frames c =
    frames_of_kind c (frames_of_kind c (frames_of_kind c (frames_of_kind c no_frames kinds.Port) kinds.Filter) kinds.Gate) kinds.Meter

abbrev pub begun_runners : Configuration → Runners
begun_runners c =
    runners_of_kind c (runners_of_kind c (runners_of_kind c (runners_of_kind c no_runners kinds.Port) kinds.Filter) kinds.Gate) kinds.Meter

-- each runner is one that nothing was done to
pub record AreFresh (r : Runners) : Type 0 where
  pub ports : (n : ℕ) (k : Kept PortEntry) → get r.ports n ≡ Some k → k ≡ fresh
  pub gates : (n : ℕ) (k : Kept GateEntry) → get r.gates n ≡ Some k → k ≡ fresh
