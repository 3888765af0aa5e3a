-- What a meter lets through: frames marked one after another by one record, with no clip between.
use Rattle.std.specs.Prelude.{ℕ, ◌+◌, ◌≤◌, Bool, if◌then◌else◌, List, [], ◌∷◌}
use Rattle.tsn_types.specs.declared.records.FlowMeter.{FlowMeter}
use Rattle.tsn_meter.specs.declared.bucket.Colour.{Colour}
use Rattle.tsn_meter.specs.Bucket.{Tokens, colour_of, marked}

-- a frame that comes to the meter: when, how long, and its colour before
pub record Arrival : Type 0 where
  pub time : ℕ
  pub octets : ℕ
  pub colour : Colour

abbrev pub mark_on : FlowMeter → Tokens → Arrival → Colour
mark_on m b f = colour_of m f.time f.octets f.colour b

abbrev pub next : FlowMeter → Tokens → Arrival → Tokens
next m b f = marked m f.time f.octets f.colour b

-- the octets of the frames whose mark passes a test
abbrev pub octets_marked : (Colour → Bool) → FlowMeter → Tokens → List Arrival → ℕ
octets_marked counts m b [] = 0
octets_marked counts m b (f ∷ fs) = (if counts (mark_on m b f) then f.octets else 0) + octets_marked counts m (next m b f) fs

-- from an instant on, the instants do not fall
abbrev pub IsRising : ℕ → List Arrival → Type 0
IsRising t [] = Unit {0}
IsRising t (f ∷ fs) = (t ≤ f.time) × IsRising f.time fs

-- the instant of the last frame, or the one given where there is none
abbrev pub end_of : ℕ → List Arrival → ℕ
end_of t [] = t
end_of t (f ∷ fs) = end_of f.time fs
