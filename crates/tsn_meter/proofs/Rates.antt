-- What a meter lets through over marks by one record whose instants do not fall.
use Rattle.std.proofs.Common.{◌≡◌, ◌≤◌, ◌+◌, ◌-◌, ◌*◌, ℕ, arith, min, Bool, cond, List, [], ◌∷◌, ap}
use Rattle.tsn_types.specs.declared.records.FlowMeter.{FlowMeter}
use Rattle.tsn_meter.specs.declared.bucket.Colour.{Colour}
use Rattle.tsn_meter.specs.declared.bucket.Colour.TheVariants.{Red}
use Rattle.tsn_meter.specs.Bucket.{Tokens, tokens, grown, over, refilled, best, told, colour_of, taken, marked, Event, Mark, after, record_of, IsWithin}
use Rattle.tsn_meter.specs.Colours.{is_green, is_yellow, is_passed}
use Rattle.tsn_meter.specs.Rates.{Arrival, next, mark_on, octets_marked, IsRising, end_of}

-- the tokens of a frame of so many octets, where a test of its mark counts it
abbrev pub paid : Bool → ℕ → ℕ
paid counts octets = tokens (cond counts octets 0)

-- what the committed, the excess and both counts pay for a frame
pub record Pays (octets : ℕ) (b : Tokens) (mark : Colour) : Type 0 where
  pub green : paid (is_green mark) octets + (taken (tokens octets) b mark).committed ≡ b.committed
  pub yellow : paid (is_yellow mark) octets + (taken (tokens octets) b mark).excess ≡ b.excess
  pub passed : paid (is_passed mark) octets + (taken (tokens octets) b mark).committed + (taken (tokens octets) b mark).excess
      ≡ b.committed + b.excess

-- The tokens that a frame's mark takes are those of its octets.
best_pays : (octets : ℕ) (b : Tokens) (colour : Colour) → Pays octets b (best (tokens octets) b colour)
best_pays octets b colour = grind arith

mark_pays : (m : FlowMeter) (b : Tokens) (f : Arrival) → Pays f.octets (refilled m f.time b) (mark_on m b f)
mark_pays m b f = best_pays f.octets (refilled m f.time b) (told m f.colour)

-- The instant of a mark is the last one.
taken_last : (price : ℕ) (b : Tokens) (mark : Colour) → (taken price b mark).last ≡ b.last
taken_last price b mark = grind arith

next_last : (m : FlowMeter) (b : Tokens) (f : Arrival) → (next m b f).last ≡ f.time
next_last m b f = taken_last (tokens f.octets) (refilled m f.time b) (mark_on m b f)

-- What flows over is no more than what the committed count loses by its size.
coupled : (cf : Bool) (g s e t : ℕ) → min g s + min (e + cond cf (g - s) 0) t ≤ g + e
coupled cf g s e t = grind arith

flows : (cf : Bool) (g s : ℕ) → cond cf (g - s) 0 ≤ g - s
flows cf g s = grind arith

-- what a rate brings in two spans of time, one after the other
spans : (k a b c : ℕ) → a ≤ b → b ≤ c → k * (b - a) + k * (c - b) ≡ k * (c - a)
spans k a b c ab bc = grind arith

end_after : (t : ℕ) (fs : List Arrival) → IsRising t fs → t ≤ end_of t fs
end_after t [] r = omega arith
end_after t (f ∷ fs) r = grind (arith, (end_after f.time fs r.1))

-- what the rates bring up to a frame, and on to the last
record Brings (m : FlowMeter) (b : Tokens) (t : ℕ) (f : Arrival) (fs : List Arrival) : Type 0 where
  committed : m.cir * (f.time - t) + m.cir * (end_of f.time fs - f.time) ≡ m.cir * (end_of f.time fs - t)
  excess : m.eir * (f.time - t) + m.eir * (end_of f.time fs - f.time) ≡ m.eir * (end_of f.time fs - t)
  grows : grown m f.time b ≡ b.committed + m.cir * (f.time - t)
  earns : m.eir * (f.time - b.last) ≡ m.eir * (f.time - t)

brings : (m : FlowMeter) (b : Tokens) (t : ℕ) (f : Arrival) (fs : List Arrival) → b.last ≡ t → IsRising t (f ∷ fs) → Brings m b t f fs
brings m b t f fs at r =
    let ends = end_after f.time fs r.1 in
    record {
      committed = spans m.cir t f.time (end_of f.time fs) r.0 ends;
      excess = spans m.eir t f.time (end_of f.time fs) r.0 ends;
      grows = ap (λ l. b.committed + m.cir * (f.time - l)) at;
      earns = ap (λ l. m.eir * (f.time - l)) at;
    }

-- No count is above its size after a mark or a clip.
pub within : (b : Tokens) (e : Event) → IsWithin (record_of e) (after b e)
within b e = grind arith

-- A red frame takes nothing.
pub red_takes_nothing : (m : FlowMeter) (now octets : ℕ) (colour : Colour) (b : Tokens) → colour_of m now octets colour b ≡ Red
    → marked m now octets colour b ≡ refilled m now b
red_takes_nothing m now octets colour b red = ap (λ mark. taken (tokens octets) (refilled m now b) mark) red

-- What is marked is no more than what was there at t and what came since.
green_bound : (m : FlowMeter) (b : Tokens) (t : ℕ) (fs : List Arrival) → b.last ≡ t → IsRising t fs
    → tokens (octets_marked is_green m b fs) ≤ b.committed + m.cir * (end_of t fs - t)
green_bound m b t [] at r = omega arith
green_bound m b t (f ∷ fs) at r =
    let rest : tokens (octets_marked is_green m (next m b f) fs) ≤ (next m b f).committed + m.cir
    * (end_of f.time fs - f.time) = green_bound m (next m b f) f.time fs (next_last m b f) r.1 in
    let pays : paid (is_green (mark_on m b f)) f.octets + (next m b f).committed ≡ min (grown m f.time b)
    (tokens m.cbs) = (mark_pays m b f).green in
    let brought : Brings m b t f fs = brings m b t f fs at r in
    omega arith

passed_bound : (m : FlowMeter) (b : Tokens) (t : ℕ) (fs : List Arrival) → b.last ≡ t → IsRising t fs
    → tokens (octets_marked is_passed m b fs) ≤ b.committed + b.excess + (m.cir * (end_of t fs - t) + m.eir * (end_of t fs - t))
passed_bound m b t [] at r = omega arith
passed_bound m b t (f ∷ fs) at r =
    let rest : tokens (octets_marked is_passed m (next m b f) fs) ≤ (next m b f).committed + (next m b f).excess
    + (m.cir * (end_of f.time fs - f.time) + m.eir * (end_of f.time fs - f.time)) =
    passed_bound m (next m b f) f.time fs (next_last m b f) r.1 in
    let pays : paid (is_passed (mark_on m b f)) f.octets + (next m b f).committed + (next m b f).excess ≡ (refilled m f.time b).committed
    + (refilled m f.time b).excess = (mark_pays m b f).passed in
    let fills : (refilled m f.time b).committed + (refilled m f.time b).excess ≤ grown m f.time b + (b.excess + m.eir * (f.time - b.last)) =
    coupled m.cf (grown m f.time b) (tokens m.cbs) (b.excess + m.eir * (f.time - b.last)) (tokens m.ebs) in
    let brought : Brings m b t f fs = brings m b t f fs at r in
    omega arith

-- Of yellow alone, what flows over is no more than what the committed rate brought.
yellow_bound : (m : FlowMeter) (b : Tokens) (t : ℕ) (fs : List Arrival) → b.last ≡ t → b.committed ≤ tokens m.cbs → IsRising t fs
    → tokens (octets_marked is_yellow m b fs) ≤ b.excess + (m.cir * (end_of t fs - t) + m.eir * (end_of t fs - t))
yellow_bound m b t [] at full r = omega arith
yellow_bound m b t (f ∷ fs) at full r =
    let rest : tokens (octets_marked is_yellow m (next m b f) fs) ≤ (next m b f).excess
    + (m.cir * (end_of f.time fs - f.time) + m.eir * (end_of f.time fs - f.time)) =
    yellow_bound m (next m b f) f.time fs (next_last m b f) (within b (Mark m f.time f.octets f.colour)).committed r.1 in
    let pays : paid (is_yellow (mark_on m b f)) f.octets + (next m b f).excess
    ≡ min (b.excess + m.eir * (f.time - b.last) + over m f.time b) (tokens m.ebs) = (mark_pays m b f).yellow in
    let spill : over m f.time b ≤ grown m f.time b - tokens m.cbs = flows m.cf (grown m f.time b) (tokens m.cbs) in
    let brought : Brings m b t f fs = brings m b t f fs at r in
    omega arith

-- With the time counted from the first frame on, that frame's refill bounds what was there by the sizes.
module _ (m : FlowMeter) (b : Tokens) (f : Arrival) (fs : List Arrival) (r : IsRising f.time fs) where
  pub green_rate : tokens (octets_marked is_green m b (f ∷ fs)) ≤ tokens m.cbs + m.cir * (end_of f.time fs - f.time)
  green_rate = grind (arith, green_bound, next_last, mark_pays)

  pub passed_rate : tokens (octets_marked is_passed m b (f ∷ fs)) ≤ tokens m.cbs + tokens m.ebs + (m.cir + m.eir)
      * (end_of f.time fs - f.time)
  passed_rate = grind (arith, passed_bound, next_last, mark_pays)

  pub yellow_rate : tokens (octets_marked is_yellow m b (f ∷ fs)) ≤ tokens m.ebs + (m.cir + m.eir) * (end_of f.time fs - f.time)
  yellow_rate = grind (arith, yellow_bound, next_last, within, mark_pays)
