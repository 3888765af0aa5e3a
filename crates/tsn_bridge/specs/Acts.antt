-- The rules of acts on the list of a port or a stream gate: each makes an entry and moves the bridge time; and what the
-- acts of a key in the journal say of it.
use Rattle.std.specs.Prelude.{ℕ, ◌+◌, max, Bool, true, false, List, [], ◌∷◌, ◌++◌, Option, Some, None, is_some, length}
use Rattle.std.specs.FinMap.{get}
use Rattle.tsn_types.specs.declared.keys.Key.{Key}
use Rattle.tsn_types.specs.declared.keys.Key.TheVariants.{Port, Filter, Gate, Meter}
use Rattle.tsn_types.specs.declared.records.Record.{Record}
use Rattle.tsn_types.specs.declared.records.Record.TheVariants as records
use Rattle.tsn_types.specs.declared.refusals.Field.TheVariants as fields
use Rattle.tsn_types.specs.declared.refusals.Refusal.{Refusal}
use Rattle.tsn_types.specs.declared.refusals.Refusal.TheVariants.{EmptyList, Missing, NotEnabled, Range, Shape}
use Rattle.tsn_types.specs.Limits.{holds_key, unless}
use Rattle.tsn_chain.specs.declared.state.Counters.{Counters}
use Rattle.tsn_chain.specs.declared.state.Counters.TheVariants as counters
use Rattle.tsn_schedule.specs.Acts.{is_enabled}
use Rattle.tsn_schedule.specs.Counters.{enabled_change}
use Rattle.tsn_schedule.specs.Refusing.{has_entries}
use Rattle.tsn_schedule.specs.Times.{change_of}
use Rattle.tsn_entries.specs.declared.entries.Act.{Act as Asked}
use Rattle.tsn_entries.specs.declared.entries.Act.TheVariants as asked
use Rattle.tsn_entries.specs.declared.entries.What.TheVariants.{Acted}
use Rattle.tsn_entries.specs.Entries.{no_room}
use Rattle.tsn_undo.specs.Ledger.{Ledger, enter, present}
use Rattle.tsn_commands.specs.declared.reply.Reply.{Reply}
use Rattle.tsn_commands.specs.declared.reply.Reply.TheVariants as replies
use Rattle.tsn_bridge.specs.Objects.{gate_at, port_at}
use Rattle.tsn_bridge.specs.Rule.{Rule, no_session}
use Rattle.tsn_bridge.specs.State.{State}

-- a port or a stream gate, which have lists
abbrev pub has_list : Key → Bool
has_list (Port n) = true
has_list (Filter n) = false
has_list (Gate n) = true
has_list (Meter n) = false

-- a key outside the limits, a session that was not given out, a key that is absent, and further causes
abbrev pub key_causes : State → ℕ → Key → List (Option Refusal) → List (Option Refusal)
key_causes s n k more =
    unless (holds_key s.book.limits k) (Range fields.Key) ∷ no_session s n ∷ unless (is_some (get (present s.book) k)) (Missing k) ∷ more

-- before these, a key of a kind that has no list
abbrev pub list_causes : State → ℕ → Key → List (Option Refusal) → List (Option Refusal)
list_causes s n k more = unless (has_list k) Shape ∷ key_causes s n k more

-- the instant that counts: an earlier one counts as the bridge time
abbrev pub instant : State → ℕ → ℕ
instant s now = max s.time now

-- the state after an act
abbrev pub acted_state : State → ℕ → Asked → Key → ℕ → State
acted_state s n act k now = record s { book = enter s.book n (Acted act k (instant s now)); time = instant s now }

abbrev pub acted_reply : State → Option ℕ → ℕ → Reply
acted_reply s change now = replies.Acted change (length s.book.entries + 1) (instant s now)

-- whether the acts of a key leave it enabled
abbrev pub enabled_at : Ledger → Key → Bool
enabled_at b (Port m) = is_enabled (port_at b m).acts
enabled_at b (Filter m) = false
enabled_at b (Gate m) = is_enabled (gate_at b m).acts
enabled_at b (Meter m) = false

-- whether the counters of a key say that it is enabled
abbrev pub says_enabled : Counters → Bool
says_enabled (counters.Port list) = list.enabled
says_enabled (counters.Filter d) = false
says_enabled (counters.Gate list invalid_rx octets_exceeded) = list.enabled
says_enabled (counters.Meter all_red) = false

-- the change time that an enable answers
abbrev pub enable_change : Ledger → Key → ℕ → Option ℕ
enable_change b (Port m) a = enabled_change a (port_at b m).acts
enable_change b (Filter m) a = None
enable_change b (Gate m) a = enabled_change a (gate_at b m).acts
enable_change b (Meter m) a = None

-- a record whose list has an entry
abbrev pub has_entry : Option Record → Bool
has_entry (Some (records.Port r)) = has_entries r.admin.list
has_entry (Some (records.Gate r)) = has_entries r.admin.list
has_entry v = false

-- the change time of the record's schedule
abbrev pub apply_change : Option Record → ℕ → Option ℕ
apply_change (Some (records.Port r)) a = Some (change_of r.admin.base r.admin.cycle a)
apply_change (Some (records.Gate r)) a = Some (change_of r.admin.base r.admin.cycle a)
apply_change v a = None

-- an apply of a disabled key, or of an empty list
abbrev pub apply_causes : Ledger → Key → List (Option Refusal)
apply_causes b k = unless (enabled_at b k) NotEnabled ∷ unless (has_entry (get (present b) k)) EmptyList ∷ []

-- what an act of a key adds to its causes, before the journal's one
abbrev pub act_causes : Ledger → Asked → Key → List (Option Refusal)
act_causes b asked.Enable k = []
act_causes b asked.Disable k = []
act_causes b asked.Apply k = apply_causes b k

-- the change time that an act answers; a disable has none
abbrev pub act_change : Ledger → Asked → Key → ℕ → Option ℕ
act_change b asked.Enable k a = enable_change b k a
act_change b asked.Disable k a = None
act_change b asked.Apply k a = apply_change (get (present b) k) a

-- an act makes one entry, and the instant that counts is the bridge time
abbrev pub act_rule : State → ℕ → Asked → Key → ℕ → Rule
act_rule s n act k now = record {
  causes = list_causes s n k (act_causes s.book act k ++ no_room s.book.entries 1 ∷ []);
  done = Some (acted_reply s (act_change s.book act k (instant s now)) now, acted_state s n act k now);
  takes_memory = true;
}

abbrev pub enable_rule : State → ℕ → Key → ℕ → Rule
enable_rule s n k now = act_rule s n asked.Enable k now

abbrev pub apply_rule : State → ℕ → Key → ℕ → Rule
apply_rule s n k now = act_rule s n asked.Apply k now
