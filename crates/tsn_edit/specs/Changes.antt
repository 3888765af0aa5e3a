-- Changes: what one does to a configuration, where it fits, and what it conflicts with. A change is its parts, on distinct keys.
use Rattle.std.specs.Prelude.{◌≡◌, ℕ, Bool, ◌||◌, List, [], ◌∷◌, Option, find, length, map, flat_map}
use Rattle.std.specs.List.{AllByRecursion, IsDistinct}
use Rattle.std.specs.FinMap.{get}
use Rattle.tsn_types.specs.declared.keys.Key.{Key}
use Rattle.tsn_edit.specs.Parts.{Change, Part, inverse, parts}
use Rattle.tsn_types.specs.declared.limits.Limits.{Limits}
use Rattle.tsn_types.specs.Keys.{same_key, meets, refs_of}
use Rattle.tsn_edit.specs.Configuration.{Configuration, put, IsWellKept}

-- the keys, what the values before refer to, and what the values after refer to
abbrev pub keys_of : List Part → List Key
keys_of ps = map (λ p. p.key) ps

-- the part on a key, if there is one
abbrev pub part_of : Key → List Part → Option Part
part_of k ps = find (λ p. same_key k p.key) ps

abbrev pub refs_before : List Part → List Key
refs_before ps = flat_map (λ p. refs_of p.before) ps

abbrev pub refs_after : List Part → List Key
refs_after ps = flat_map (λ p. refs_of p.after) ps

-- c with the value after at each key
abbrev pub put_all : Configuration → List Part → Configuration
put_all c [] = c
put_all c (p ∷ ps) = put (put_all c ps) p.key p.after

-- how many rows a change may add to a configuration, and so how much room it takes: one for each part
abbrev pub room_of : Change → ℕ
room_of e = length (parts e)

-- what the change leaves of c
abbrev pub after_change : Configuration → Change → Configuration
after_change c e = put_all c (parts e)

-- c with the change's values before put back
abbrev pub restored : Configuration → Change → Configuration
restored c e = after_change c (inverse e)

-- every value before stands in c
abbrev pub Stands : Configuration → List Part → Type 0
Stands c ps = AllByRecursion (λ p. get c p.key ≡ p.before) ps

-- a change fits where every value before stands and the result is a well kept configuration
pub record Fits (l : Limits) (c : Configuration) (e : Change) : Type 0 where
  pub distinct : IsDistinct same_key (keys_of (parts e))
  pub stands : Stands c (parts e)
  pub kept : IsWellKept l (after_change c e)

-- whether later parts ps conflict with qs: they have a key in common, or a value after in ps refers to a key of qs, or ps have a key that a
-- value before in qs refers to
abbrev pub clashes : List Part → List Part → Bool
clashes ps qs = meets (keys_of ps) (keys_of qs) || (meets (refs_after ps) (keys_of qs) || meets (keys_of ps) (refs_before qs))

-- whether a later change f conflicts with e
abbrev pub conflicts : Change → Change → Bool
conflicts f e = clashes (parts f) (parts e)
