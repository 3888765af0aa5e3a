-- The rules of what looks at a key at an instant and changes nothing: the state of its gates, and its counters.
use Rattle.std.specs.Prelude.{ℕ, false, [], ◌∷◌, Option, Some, None, nat_le, option_map}
use Rattle.std.specs.FinMap.{get}
use Rattle.tsn_types.specs.declared.keys.Key.{Key}
use Rattle.tsn_types.specs.declared.keys.Key.TheVariants.{Port, Filter, Gate, Meter}
use Rattle.tsn_types.specs.declared.records.Record.{Record}
use Rattle.tsn_types.specs.declared.records.Record.TheVariants as records
use Rattle.tsn_types.specs.declared.refusals.Refusal.TheVariants.{Past}
use Rattle.tsn_types.specs.Limits.{unless}
use Rattle.tsn_schedule.specs.Acts.{last_instant}
use Rattle.tsn_schedule.specs.States.{state_in}
use Rattle.tsn_chain.specs.declared.state.Counters.{Counters}
use Rattle.tsn_chain.specs.declared.state.Counters.TheVariants as counters
use Rattle.tsn_chain.specs.declared.state.State.{State as Shown}
use Rattle.tsn_chain.specs.Counters.{gate_counters, list_counters}
use Rattle.tsn_chain.specs.Instances.{FrameData}
use Rattle.tsn_chain.specs.State.{gate_state, port_state}
use Rattle.tsn_undo.specs.Ledger.{Ledger, present}
use Rattle.tsn_commands.specs.declared.reply.Reply.TheVariants as replies
use Rattle.tsn_bridge.specs.Acts.{key_causes, list_causes}
use Rattle.tsn_bridge.specs.Objects.{gate_at, port_at}
use Rattle.tsn_bridge.specs.Rule.{Look, Rule, look_rule}
use Rattle.tsn_bridge.specs.State.{State}

-- the instant of the last act on a key
abbrev pub last_at : Ledger → Key → ℕ
last_at b (Port m) = last_instant (port_at b m).acts
last_at b (Filter m) = 0
last_at b (Gate m) = last_instant (gate_at b m).acts
last_at b (Meter m) = 0

-- what a key of this record shows at an instant, by its acts or its record now
abbrev pub shown_at : Ledger → Key → Option Record → ℕ → Option Shown
shown_at b (Port m) (Some (records.Port r)) t = Some (port_state r (state_in (λ e. e.interval) (port_at b m).acts t))
shown_at b (Gate m) (Some (records.Gate r)) t = Some (gate_state r (state_in (λ e. e.interval) (gate_at b m).acts t))
shown_at b k v t = None

-- the state of a port's or a gate's list, or of its record; refused 16 before the last act on it
abbrev pub states_look : State → ℕ → Key → ℕ → Look
states_look s n k t = record {
  causes = list_causes s n k (unless (nat_le (last_at s.book k) t) Past ∷ []);
  answer = option_map (λ x. replies.States x) (shown_at s.book k (get (present s.book) k) t);
  takes_memory = false;
}

abbrev pub states_rule : State → ℕ → Key → ℕ → Rule
states_rule s n k t = look_rule s (states_look s n k t)

-- the counters of a key at the bridge time, by its acts and what the filter chain keeps
abbrev pub counted_at : Ledger → FrameData → ℕ → Key → Option Counters
counted_at b f now (Port m) = Some (counters.Port (list_counters now (port_at b m).acts))
counted_at b f now (Filter m) = option_map (λ d. counters.Filter d) (get f.filters m)
counted_at b f now (Gate m) = option_map (λ d. gate_counters now d (gate_at b m).acts) (get f.gates m)
counted_at b f now (Meter m) = option_map (λ d. counters.Meter d.red) (get f.meters m)

abbrev pub counters_look : State → ℕ → Key → Look
counters_look s n k = record {
  causes = key_causes s n k [];
  answer = option_map (λ x. replies.Counters x) (counted_at s.book s.frames s.time k);
  takes_memory = false;
}

abbrev pub counters_rule : State → ℕ → Key → Rule
counters_rule s n k = look_rule s (counters_look s n k)
