-- The newest node of each group, and the newest entries of each key, as the rows of keys and sessions say them.
use Rattle.std.specs.Prelude.{ℕ, ◌+◌, ◌≤◌, Bool, false, Option, Some, None, ◌==◌}
use Rattle.std.specs.FinMap.{get}
use Rattle.tsn_types.specs.declared.keys.Key.{Key}
use Rattle.tsn_types.specs.declared.keys.Key.TheVariants.{Port, Filter, Gate, Meter}
use Rattle.tsn_types.specs.Keys.{same_key}
use Rattle.tsn_journal.specs.declared.groups.Group.{Group}
use Rattle.tsn_journal.specs.declared.groups.Group.TheVariants.{On, RefersTo, Of, EndsRedo}
use Rattle.tsn_journal.specs.declared.latest_rows.Latest.{Latest}
use Rattle.tsn_journal.specs.declared.latest_rows.KeyNodes.{KeyNodes}
use Rattle.tsn_journal.specs.declared.latest_rows.SessionNodes.{SessionNodes}

-- whether two groups are the same
abbrev pub same_group : Group → Group → Bool
same_group (On a) (On b) = same_key a b
same_group (RefersTo a) (RefersTo b) = same_key a b
same_group (Of s) (Of t) = s == t
same_group (EndsRedo s) (EndsRedo t) = s == t
same_group a b = false

-- the row of a key, and of a session
abbrev pub key_row : Latest → Key → Option KeyNodes
key_row l (Port n) = get l.ports.map n
key_row l (Filter n) = get l.filters.map n
key_row l (Gate n) = get l.gates.map n
key_row l (Meter n) = get l.meters.map n

abbrev pub session_row : Latest → ℕ → Option SessionNodes
session_row l s = get l.sessions.map s

-- what a row says, and 0 where there is none
abbrev pub on_of : Option KeyNodes → ℕ
on_of None = 0
on_of (Some r) = r.on

abbrev pub refers_of : Option KeyNodes → ℕ
refers_of None = 0
refers_of (Some r) = r.refers

abbrev pub touched_of : Option KeyNodes → ℕ
touched_of None = 0
touched_of (Some r) = r.touched

abbrev pub referred_of : Option KeyNodes → ℕ
referred_of None = 0
referred_of (Some r) = r.referred

abbrev pub standing_of : Option SessionNodes → ℕ
standing_of None = 0
standing_of (Some r) = r.standing

abbrev pub ends_of : Option SessionNodes → ℕ
ends_of None = 0
ends_of (Some r) = r.ends_redo

-- the newest node of the group, from 1, and 0 for none
abbrev pub latest_of : Latest → Group → ℕ
latest_of l (On k) = on_of (key_row l k)
latest_of l (RefersTo k) = refers_of (key_row l k)
latest_of l (Of s) = standing_of (session_row l s)
latest_of l (EndsRedo s) = ends_of (session_row l s)

-- there is room for n rows more of each kind
pub record HasRows (n : ℕ) (l : Latest) : Type 0 where
  pub ports : n ≤ l.ports.spare
  pub filters : n ≤ l.filters.spare
  pub gates : n ≤ l.gates.spare
  pub meters : n ≤ l.meters.spare
  pub sessions : n ≤ l.sessions.spare

-- k has the room of l but for n rows
pub record TakesRows (n : ℕ) (l k : Latest) : Type 0 where
  pub ports : l.ports.spare ≤ k.ports.spare + n
  pub filters : l.filters.spare ≤ k.filters.spare + n
  pub gates : l.gates.spare ≤ k.gates.spare + n
  pub meters : l.meters.spare ≤ k.meters.spare + n
  pub sessions : l.sessions.spare ≤ k.sessions.spare + n
