-- What replies tell of a running bridge as JSON values: an act on a gate list, the verdict on a frame, states and
-- counters. The members stand in ascending order of their names.
use Rattle.std.specs.Prelude.{ℕ, Bool, List, Option, codes}
use Rattle.serde_json.specs.Data.{Data, boolean, string, object, member, no_members}
use Rattle.tsn_chain.specs.declared.data.FilterData.{FilterData}
use Rattle.tsn_chain.specs.declared.frame.DropCause.{DropCause}
use Rattle.tsn_chain.specs.declared.frame.DropCause.TheVariants.{Blocked, Oversize, Closed, Octets, Red, Yellow}
use Rattle.tsn_chain.specs.declared.frame.Verdict.{Verdict}
use Rattle.tsn_chain.specs.declared.frame.Verdict.TheVariants.{Passed, Dropped}
use Rattle.tsn_chain.specs.declared.state.Counters.{Counters}
use Rattle.tsn_chain.specs.declared.state.Counters.TheVariants as counters
use Rattle.tsn_chain.specs.declared.state.ListCounters.{ListCounters}
use Rattle.tsn_chain.specs.declared.state.State.{State}
use Rattle.tsn_chain.specs.declared.state.State.TheVariants as states
use Rattle.tsn_records.specs.Shown.{whole_data, or_null}

-- the change time that an act leads to, or null, its entry and the instant that counted
abbrev pub act_data : Option ℕ → ℕ → ℕ → Data
act_data change entry now =
    object (member (codes "change") (or_null change)
    (member (codes "entry") (whole_data entry)
    (member (codes "now") (whole_data now) no_members)))

-- the verdict that drops a frame for such a cause
abbrev pub cause_name : DropCause → List ℕ
cause_name Blocked = codes "blocked"
cause_name Oversize = codes "oversize"
cause_name Closed = codes "closed"
cause_name Octets = codes "octets"
cause_name Red = codes "red"
cause_name Yellow = codes "yellow"

-- null where no filter matches
abbrev pub pass_data : Option ℕ → ℕ → ℕ → Bool → Data
pass_data filter now priority yellow =
    object (member (codes "filter") (or_null filter)
    (member (codes "now") (whole_data now)
    (member (codes "priority") (whole_data priority)
    (member (codes "verdict") (string (codes "pass"))
    (member (codes "yellow") (boolean yellow) no_members)))))

abbrev pub drop_data : ℕ → ℕ → DropCause → Data
drop_data filter now cause =
    object (member (codes "filter") (whole_data filter)
    (member (codes "now") (whole_data now)
    (member (codes "verdict") (string (cause_name cause)) no_members)))

abbrev pub verdict_data : Verdict → Data
verdict_data (Passed filter now priority yellow) = pass_data filter now priority yellow
verdict_data (Dropped filter now cause) = drop_data filter now cause

-- the gates of a port, by their bits; a stream gate, and its internal priority value or null
abbrev pub state_data : State → Data
state_data (states.Port gates) = object (member (codes "gates") (whole_data gates) no_members)
state_data (states.Gate is_open ipv) =
    object (member (codes "ipv") (or_null ipv)
    (member (codes "open") (boolean is_open) no_members))

-- null where no list is in force or to come
abbrev pub port_counters_data : ListCounters → Data
port_counters_data l =
    object (member (codes "change_error") (whole_data l.change_error)
    (member (codes "change_time") (or_null l.change_time)
    (member (codes "enabled") (boolean l.enabled)
    (member (codes "pending") (boolean l.pending) no_members))))

abbrev pub filter_counters_data : FilterData → Data
filter_counters_data f =
    object (member (codes "blocked") (boolean f.blocked)
    (member (codes "matching") (whole_data f.matching)
    (member (codes "not_passing") (whole_data f.not_passing)
    (member (codes "not_passing_sdu") (whole_data f.not_passing_sdu)
    (member (codes "passing") (whole_data f.passing)
    (member (codes "passing_sdu") (whole_data f.passing_sdu)
    (member (codes "red") (whole_data f.red) no_members)))))))

-- what is told of the gate's list, and its two latches
abbrev pub gate_counters_data : ListCounters → Bool → Bool → Data
gate_counters_data l invalid_rx octets_exceeded =
    object (member (codes "change_error") (whole_data l.change_error)
    (member (codes "change_time") (or_null l.change_time)
    (member (codes "enabled") (boolean l.enabled)
    (member (codes "invalid_rx") (boolean invalid_rx)
    (member (codes "octets_exceeded") (boolean octets_exceeded)
    (member (codes "pending") (boolean l.pending) no_members))))))

abbrev pub counters_data : Counters → Data
counters_data (counters.Port l) = port_counters_data l
counters_data (counters.Filter f) = filter_counters_data f
counters_data (counters.Gate l invalid_rx octets_exceeded) = gate_counters_data l invalid_rx octets_exceeded
counters_data (counters.Meter all_red) = object (member (codes "all_red") (boolean all_red) no_members)
