-- Meters and frames of worked examples.
use Rattle.std.specs.Prelude.{ℕ, Bool, true, false, List, [], ◌∷◌}
use Rattle.tsn_types.specs.declared.records.FlowMeter.{FlowMeter}
use Rattle.tsn_meter.specs.declared.bucket.Colour.{Colour}
use Rattle.tsn_meter.specs.declared.bucket.Colour.TheVariants.{Green}
use Rattle.tsn_meter.specs.Bucket.{Tokens, full_of}
use Rattle.tsn_meter.specs.Rates.{Arrival, mark_on, next}

-- a committed rate of 8 Mbit/s and a committed size; no excess
abbrev pub committed_only : ℕ → FlowMeter
committed_only cbs = record { cir = 8000000; cbs = cbs; eir = 0; ebs = 0; cf = false; aware = false; drop_yellow = false; all_red = false }

-- both sizes 100 octets, and no excess rate
abbrev pub two_sizes : Bool → FlowMeter
two_sizes cf = record { cir = 8000000; cbs = 100; eir = 0; ebs = 100; cf = cf; aware = false; drop_yellow = false; all_red = false }

-- both sizes 100 octets, where a colour counts
abbrev pub aware_sizes : FlowMeter
aware_sizes = record { cir = 8000000; cbs = 100; eir = 0; ebs = 100; cf = false; aware = true; drop_yellow = false; all_red = false }

-- a green frame of so many octets at an instant
abbrev pub green_at : ℕ → ℕ → Arrival
green_at time octets = record { time = time; octets = octets; colour = Green }

-- the marks of the frames in order, and the bucket after them
abbrev pub marks : FlowMeter → Tokens → List Arrival → List Colour
marks m b [] = []
marks m b (f ∷ fs) = mark_on m b f ∷ marks m (next m b f) fs

abbrev pub left_by : FlowMeter → Tokens → List Arrival → Tokens
left_by m b [] = b
left_by m b (f ∷ fs) = left_by m (next m b f) fs

-- from a bucket that is full at 0
abbrev pub marks_from_full : FlowMeter → List Arrival → List Colour
marks_from_full m fs = marks m (full_of m 0) fs

-- frames of 1000 octets at 0, at 100000 and at 500000
abbrev pub three : List Arrival
three = green_at 0 1000 ∷ green_at 100000 1000 ∷ green_at 500000 1000 ∷ []

-- three frames of 100 octets at 0, and at 150000 one of 100 and one of 50
abbrev pub five : List Arrival
five = green_at 0 100 ∷ green_at 0 100 ∷ green_at 0 100 ∷ green_at 150000 100 ∷ green_at 150000 50 ∷ []
