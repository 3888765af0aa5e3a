-- Indexes of the stream filters: which filters are about a number.
use Rattle.std.specs.Prelude.{◌≡◌, ℕ, ◌+◌, ◌*◌, ◌/◌, ◌%◌, ◌<◌, ◌≤◌, nat_eq, Bool, false, Option, Some, None, IfSome, IsSome, MatchOption, is_some}
use Rattle.std.specs.Ordering.{nat_cmp}
use Rattle.std.specs.FinMap.{FinMap, get, insert, remove}
use Rattle.tsn_types.specs.declared.records.StreamFilter.{StreamFilter}

-- a specification as a number, 0 for the wildcard
abbrev pub specified : Option ℕ → ℕ
specified None = 0
specified (Some n) = n + 1

-- the two as one number
abbrev pub specification : Option ℕ → Option ℕ → ℕ
specification handle priority = specified handle * 16 + specified priority

-- what a filter is about in each of the three indexes: its gate, its meter, its specifications
abbrev pub gate_about : StreamFilter → Option ℕ
gate_about r = Some r.gate

abbrev pub meter_about : StreamFilter → Option ℕ
meter_about r = r.meter

abbrev pub match_about : StreamFilter → Option ℕ
match_about r = Some (specification r.handle r.priority)

-- what the value of a filter is about
abbrev pub about_at : (StreamFilter → Option ℕ) → Option StreamFilter → Option ℕ
about_at about None = None
about_at about (Some r) = about r

abbrev pub is_the : ℕ → Option ℕ → Bool
is_the q None = false
is_the q (Some a) = nat_eq a q

-- An index has the number q * 65,536 + n where the filter n is about q, and no other.
abbrev pub Indexes : (StreamFilter → Option ℕ) → FinMap nat_cmp StreamFilter → FinMap nat_cmp (Unit {0}) → Type 0
Indexes about fs index = (c : ℕ) → is_some (get index c) ≡ is_the (c / 65536) (about_at about (get fs (c % 65536)))

-- the first number of an index from one on
pub record IsFirst (index : FinMap nat_cmp (Unit {0})) (from : ℕ) (first : Option ℕ) : Type 0 where
  pub there : IfSome first (λ n. (from ≤ n) × IsSome (get index n))
  pub least : (n : ℕ) → from ≤ n → IsSome (get index n) → MatchOption first ⊥ (λ least. least ≤ n)

-- an index without a filter, and with one
abbrev pub left : FinMap nat_cmp (Unit {0}) → ℕ → Option ℕ → FinMap nat_cmp (Unit {0})
left index n None = index
left index n (Some q) = remove index (q * 65536 + n)

abbrev pub entered : FinMap nat_cmp (Unit {0}) → ℕ → Option ℕ → FinMap nat_cmp (Unit {0})
entered index n None = index
entered index n (Some q) = insert index (q * 65536 + n) tt

-- every filter's number is below 65,536
abbrev pub AreSmall : FinMap nat_cmp StreamFilter → Type 0
AreSmall fs = (n : ℕ) → IsSome (get fs n) → n < 65536

-- every filter's priority specification is below 16, so that no two specifications are one number
abbrev pub AreNarrow : FinMap nat_cmp StreamFilter → Type 0
AreNarrow fs = (n : ℕ) (r : StreamFilter) → get fs n ≡ Some r → specified r.priority < 16

-- the three indexes of the filters
pub record IsIndexed (fs : FinMap nat_cmp StreamFilter) (by_gate by_meter by_match : FinMap nat_cmp (Unit {0})) : Type 0 where
  pub small : AreSmall fs
  pub narrow : AreNarrow fs
  pub gates : Indexes gate_about fs by_gate
  pub meters : Indexes meter_about fs by_meter
  pub matches : Indexes match_about fs by_match
