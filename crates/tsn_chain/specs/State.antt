-- The state of a gate at an instant: by the entry in force and the instant at which its interval began, or by the
-- record.
use Rattle.std.specs.Prelude.{ℕ, Option, Some, None}
use Rattle.tsn_types.specs.declared.records.PortGates.{PortGates}
use Rattle.tsn_types.specs.declared.records.PortEntry.{PortEntry}
use Rattle.tsn_types.specs.declared.records.StreamGate.{StreamGate}
use Rattle.tsn_types.specs.declared.records.GateEntry.{GateEntry}
use Rattle.tsn_chain.specs.declared.data.GateState.{GateState}
use Rattle.tsn_chain.specs.declared.state.State.{State}
use Rattle.tsn_chain.specs.declared.state.State.TheVariants as states

-- what a port shows: the gates of its entry in force, or of its record
abbrev pub port_state : PortGates → Option PortEntry → State
port_state r None = states.Port r.gates
port_state r (Some e) = states.Port e.gates

-- what a stream gate shows, likewise
abbrev pub gate_state : StreamGate → Option GateEntry → State
gate_state r None = states.Gate r.is_open r.ipv
gate_state r (Some e) = states.Gate e.is_open e.ipv

-- What the chain reads of a gate: the entry in force and its interval are there together, or not at all.
abbrev pub read_state : StreamGate → Option GateEntry → Option ℕ → GateState
read_state r (Some e) (Some began) =
    record { is_open = e.is_open; ipv = e.ipv; running = Some (record { began = began; octets = e.octets }) }
read_state r e began = record { is_open = r.is_open; ipv = r.ipv; running = None }
