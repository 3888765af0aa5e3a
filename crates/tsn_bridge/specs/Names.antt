-- The sessions that were given out, and the names of those that have one.
use Rattle.std.specs.Prelude.{refl, ℕ, ◌==◌, ◌<◌, ◌≤◌, List, [], ◌∷◌, ◌++◌, Option, Some, None, if◌then◌else◌}
use Rattle.std.specs.Coded.{Coded, code_by, coded×, coded_list, coded_ℕ}
use Rattle.std.specs.Str.{bytes_eq}
use Rattle.tsn_bridge.specs.declared.sessions.Named.{Named}

-- the session that goes by the name, if one does
abbrev pub session_of : List Named → List ℕ → Option ℕ
session_of [] name = None
session_of (x ∷ xs) name = if bytes_eq x.name name then Some x.session else session_of xs name

-- the name of the session, if it has one
abbrev pub name_of : List Named → ℕ → Option (List ℕ)
name_of [] n = None
name_of (x ∷ xs) n = if x.session == n then Some x.name else name_of xs n

-- the session that goes by the name that is said, if one is said and one does
abbrev pub known : List Named → Option (List ℕ) → Option ℕ
known names None = None
known names (Some name) = session_of names name

-- the names, and behind them that of a further session, if it has one
abbrev pub with_name : List Named → ℕ → Option (List ℕ) → List Named
with_name names n None = names
with_name names n (Some name) = names ++ record { session = n; name = name } ∷ []

-- each is that of a later session than the one ahead of it, the first of one behind `before`, and none of one behind `last`
abbrev pub AreWithin : ℕ → List Named → ℕ → Type 0
AreWithin before [] last = before ≤ last
AreWithin before (x ∷ xs) last = (before < x.session) × AreWithin x.session xs last

-- how many sessions were given out, and the names of those that have one, in the order of the sessions
pub record GivenOut : Type 0 where
  pub count : ℕ
  pub names : List Named

abbrev pub named_code : Coded Named
named_code = code_by (ℕ × List ℕ) (coded× coded_ℕ (coded_list coded_ℕ)) (λ x. (x.session, x.name))
    (λ p. record { session = p.0; name = p.1 }) (λ _. refl)

abbrev pub given_out_code : Coded GivenOut
given_out_code = code_by (ℕ × List Named) (coded× coded_ℕ (coded_list named_code)) (λ g. (g.count, g.names))
    (λ p. record { count = p.0; names = p.1 }) (λ _. refl)
