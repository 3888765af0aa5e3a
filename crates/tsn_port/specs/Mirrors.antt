-- What a mirror of a port keeps, and when it is the port's after some entries.
use Rattle.std.specs.Prelude.{◌≡◌, refl, ℕ, List, [], ◌∷◌, Option, Some, None, length}
use Rattle.std.specs.Option.{option_and_then, unwrap_or}
use Rattle.std.specs.Coded.{Coded, code_by, coded×, coded_ℕ}
use Rattle.tsn_types.specs.contracts.records.PortEntry as port_entry_row
use Rattle.tsn_types.specs.contracts.records.PortGates as port_gates_row
use Rattle.tsn_types.specs.declared.keys.Key.TheVariants.{Port}
use Rattle.tsn_types.specs.declared.records.PortEntry.{PortEntry}
use Rattle.tsn_types.specs.declared.records.PortGates.{PortGates}
use Rattle.tsn_types.specs.declared.records.Record.{Record}
use Rattle.tsn_types.specs.declared.records.Record.TheVariants as records
use Rattle.tsn_edit.specs.Changes.{part_of}
use Rattle.tsn_edit.specs.Parts.{Part, parts}
use Rattle.tsn_schedule.specs.Acts.{IsHistory}
use Rattle.tsn_schedule.specs.Kept.{Kept, kept_code}
use Rattle.tsn_schedule.specs.Stands.{StandsFor}
use Rattle.tsn_schedule.specs.States.{state_in}
use Rattle.tsn_entries.specs.declared.entries.Act.{Act as Asked}
use Rattle.tsn_entries.specs.declared.entries.Entry.{Entry}
use Rattle.tsn_entries.specs.declared.entries.What.{What}
use Rattle.tsn_entries.specs.Entries.{applies}
use Rattle.tsn_bridge.specs.Objects.{Object, after_entry, object, port_schedule, with_asked}

-- the port's number and record, what its runner keeps, and how many entries are in
pub record MirrorState : Type 0 where
  pub port : ℕ
  pub value : PortGates
  pub runner : Kept PortEntry
  pub front : ℕ

abbrev pub mirror_code : Coded MirrorState
mirror_code =
    code_by (ℕ × (PortGates × (Kept PortEntry × ℕ)))
    (coded× coded_ℕ (coded× port_gates_row.the_row.coded (coded× (kept_code port_entry_row.the_row.coded) coded_ℕ)))
    (λ m. (m.port, (m.value, (m.runner, m.front)))) (λ p. record { port = p.0; value = p.1.0; runner = p.1.1.0; front = p.1.1.1 })
    (λ _. refl)

-- a port after these entries, of a journal that began with this record of it
abbrev pub mirrored : ℕ → PortGates → List Entry → Object PortEntry
mirrored n opening es = object port_schedule (Port n) (Some (records.Port opening)) es

-- The mirror shows an object: it has the object's record, and its runner stands for the object's acts.
pub record Shows (m : MirrorState) (o : Object PortEntry) : Type 0 where
  pub value : o.value ≡ Some (records.Port m.value)
  pub runs : StandsFor m.runner o.acts

-- the mirror is the port's after just these entries
pub record Mirrors (m : MirrorState) (opening : PortGates) (es : List Entry) : Type 0 where
  pub front : m.front ≡ length es
  pub shows : Shows m (mirrored m.port opening es)

-- An object is such as a bridge makes of a port: it has a port's record, and its acts are in order of time, each with
-- effect.
pub record IsOfPort (o : Object PortEntry) : Type 0 where
  pub value : PortGates
  pub value_is : o.value ≡ Some (records.Port value)
  pub history : IsHistory o.acts

-- and so it is after each of these entries
abbrev pub AreOfPort : ℕ → Object PortEntry → List Entry → Type 0
AreOfPort n o [] = Unit {0}
AreOfPort n o (e ∷ es) =
    IsOfPort (after_entry port_schedule (Port n) o e.what) × AreOfPort n (after_entry port_schedule (Port n) o e.what) es

-- what an entry changed of a port
abbrev pub port_part : ℕ → What → Option Part
port_part n w = option_and_then (λ e. part_of (Port n) (parts e)) (applies w)

-- an object after an act that was asked for at an instant
abbrev pub acted : Asked → ℕ → Object PortEntry → Object PortEntry
acted act a o = record { value = o.value; acts = with_asked act (port_schedule o.value) a o.acts }

-- the gates that a port shows: those of its entry in force, or of its record
abbrev pub shown_by : PortGates → Option PortEntry → ℕ
shown_by p None = p.gates
shown_by p (Some e) = e.gates

-- these are the gates that an object shows at an instant
pub record ShowsGates (o : Object PortEntry) (t gates : ℕ) : Type 0 where
  pub value : PortGates
  pub value_is : o.value ≡ Some (records.Port value)
  pub gates_are : gates ≡ shown_by value (state_in (λ e. e.interval) o.acts t)

-- the port's record in a value, if it is one
abbrev pub port_in : Option Record → Option PortGates
port_in (Some (records.Port p)) = Some p
port_in v = None

-- the record that a port had before an entry changed it, if it did
abbrev pub record_before : ℕ → What → Option PortGates
record_before n w = option_and_then (λ p. port_in p.before) (port_part n w)

-- The record with which the journal began: the one before the first change of the port, or the one that is shown where no
-- entry changed it.
abbrev pub first_record : ℕ → List Entry → PortGates → PortGates
first_record n [] shown = shown
first_record n (e ∷ es) shown = unwrap_or (record_before n e.what) (first_record n es shown)
