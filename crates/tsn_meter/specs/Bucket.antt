-- The bucket: two counts of tokens and an instant, after a list of marks and clips.
use Rattle.std.specs.Prelude.{refl, ℕ, ◌+◌, ◌-◌, ◌*◌, ◌≤◌, min, nat_le, if◌then◌else◌, List, fold}
use Rattle.std.specs.Coded.{Coded, code_by, coded×, coded_ℕ}
use Rattle.tsn_types.specs.declared.records.FlowMeter.{FlowMeter}
use Rattle.tsn_meter.specs.declared.bucket.Colour.{Colour}
use Rattle.tsn_meter.specs.declared.bucket.Colour.TheVariants.{Green, Yellow, Red}

-- the tokens, committed and excess, and the instant of the last mark
pub record Tokens : Type 0 where
  pub committed : ℕ
  pub excess : ℕ
  pub last : ℕ

-- The tokens of so many octets. A token is a billionth of a bit, which a rate of a bit per second brings in a
-- nanosecond.
abbrev pub tokens : ℕ → ℕ
tokens octets = octets * 8000000000

-- a full bucket
abbrev pub full_of : FlowMeter → ℕ → Tokens
full_of m now = record { committed = tokens m.cbs; excess = tokens m.ebs; last = now }

-- A clip lowers both counts to the sizes; the last instant stays.
abbrev pub clipped : FlowMeter → Tokens → Tokens
clipped m b = record { committed = min b.committed (tokens m.cbs); excess = min b.excess (tokens m.ebs); last = b.last }

-- What the committed tokens grow to by an instant. `-` stops at 0, so an instant before the last one adds nothing.
abbrev pub grown : FlowMeter → ℕ → Tokens → ℕ
grown m now b = b.committed + m.cir * (now - b.last)

-- What flows over into the excess: with the coupling flag, what the committed size does not hold.
abbrev pub over : FlowMeter → ℕ → Tokens → ℕ
over m now b = if m.cf then grown m now b - tokens m.cbs else 0

-- the refill up to an instant, each count to its size at most
abbrev pub refilled : FlowMeter → ℕ → Tokens → Tokens
refilled m now b = record {
  committed = min (grown m now b) (tokens m.cbs);
  excess = min (b.excess + m.eir * (now - b.last) + over m now b) (tokens m.ebs);
  last = now;
}

-- yellow where the excess tokens suffice
abbrev pub by_excess : ℕ → Tokens → Colour
by_excess price b = if nat_le price b.excess then Yellow else Red

-- The best colour that the tokens pay for: a green frame tries the committed ones and then the excess, a yellow one
-- the excess alone, a red one neither.
abbrev pub best : ℕ → Tokens → Colour → Colour
best price b Green = if nat_le price b.committed then Green else by_excess price b
best price b Yellow = by_excess price b
best price b Red = Red

-- The colour that a frame counts as before: in blind mode every frame counts as green.
abbrev pub told : FlowMeter → Colour → Colour
told m colour = if m.aware then colour else Green

-- the colour that a frame is marked with
abbrev pub colour_of : FlowMeter → ℕ → ℕ → Colour → Tokens → Colour
colour_of m now octets colour b = best (tokens octets) (refilled m now b) (told m colour)

-- A frame's tokens are taken from the count of its mark; a red frame takes nothing.
abbrev pub taken : ℕ → Tokens → Colour → Tokens
taken price b Green = record { committed = b.committed - price; excess = b.excess; last = b.last }
taken price b Yellow = record { committed = b.committed; excess = b.excess - price; last = b.last }
taken price b Red = b

-- the bucket after a mark
abbrev pub marked : FlowMeter → ℕ → ℕ → Colour → Tokens → Tokens
marked m now octets colour b = taken (tokens octets) (refilled m now b) (colour_of m now octets colour b)

-- A mark, with its instant, octets and colour before, or a clip; by the meter's record then.
pub data Event : Type 0 where
  Mark : FlowMeter → ℕ → ℕ → Colour → Event
  Clip : FlowMeter → Event

abbrev pub after : Tokens → Event → Tokens
after b (Mark m now octets colour) = marked m now octets colour b
after b (Clip m) = clipped m b

-- the bucket after a list of events, the earliest first, full at an instant by a record
abbrev pub bucket : FlowMeter → ℕ → List Event → Tokens
bucket m now events = fold after (full_of m now) events

-- the record by which an event is done
abbrev pub record_of : Event → FlowMeter
record_of (Mark m now octets colour) = m
record_of (Clip m) = m

-- neither count is above its size
pub record IsWithin (m : FlowMeter) (b : Tokens) : Type 0 where
  pub committed : b.committed ≤ tokens m.cbs
  pub excess : b.excess ≤ tokens m.ebs

abbrev pub tokens_code : Coded Tokens
tokens_code = code_by (ℕ × (ℕ × ℕ)) (coded× coded_ℕ (coded× coded_ℕ coded_ℕ)) (λ b. (b.committed, (b.excess, b.last)))
    (λ p. record { committed = p.0; excess = p.1.0; last = p.1.1 }) (λ _. refl)
