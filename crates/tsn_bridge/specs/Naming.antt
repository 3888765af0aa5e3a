-- The names as they are told session by session. All of it is for private clauses.
use Rattle.std.specs.Prelude.{ℕ, ◌==◌, List, [], ◌∷◌, Option, Some, None, if◌then◌else◌}
use Rattle.tsn_bridge.specs.declared.sessions.Named.{Named}

-- the first name, where it is that of the session
abbrev pub head_name : List Named → ℕ → Option (List ℕ)
head_name [] n = None
head_name (x ∷ xs) n = if x.session == n then Some x.name else None

-- the names without the first, where it is that of the session
abbrev pub behind : List Named → ℕ → List Named
behind [] n = []
behind (x ∷ xs) n = if x.session == n then xs else x ∷ xs
