-- The acts of a port or a stream gate in a journal: a fold over its entries, with the record that it has at each.
use Rattle.std.specs.Prelude.{ℕ, List, [], Option, Some, None, if◌then◌else◌}
use Rattle.std.specs.List.{fold}
use Rattle.std.specs.FinMap.{get}
use Rattle.tsn_types.specs.declared.keys.Key.{Key}
use Rattle.tsn_types.specs.declared.keys.Key.TheVariants.{Port, Gate}
use Rattle.tsn_types.specs.declared.records.Record.{Record}
use Rattle.tsn_types.specs.declared.records.Record.TheVariants as records
use Rattle.tsn_types.specs.declared.records.Schedule.{Schedule}
use Rattle.tsn_types.specs.declared.records.PortEntry.{PortEntry}
use Rattle.tsn_types.specs.declared.records.GateEntry.{GateEntry}
use Rattle.tsn_types.specs.Keys.{same_key}
use Rattle.tsn_edit.specs.Changes.{part_of}
use Rattle.tsn_edit.specs.Parts.{Change, Part, parts}
use Rattle.tsn_schedule.specs.Acts.{Act, Enable, Disable, Apply, with_act}
use Rattle.tsn_entries.specs.Entries.{Asked, act_of, applies}
use Rattle.tsn_entries.specs.declared.entries.Act.{Act as AskedAct}
use Rattle.tsn_entries.specs.declared.entries.Act.TheVariants as asked
use Rattle.tsn_entries.specs.declared.entries.What.{What}
use Rattle.tsn_entries.specs.declared.entries.Entry.{Entry}
use Rattle.tsn_undo.specs.Ledger.{Ledger}

-- an object: its record, none while it is absent, and its acts since it was last created, the latest first
pub record Object (E : Type 0) : Type 0 where
  pub value : Option Record
  pub acts : List (Act E)

-- acts outlive a replacement; a creation begins with none, and a removal drops them
abbrev pub lived : {A : Type 0} → Option Record → Option Record → List A → List A
lived None after acts = []
lived (Some q) None acts = []
lived (Some q) (Some r) acts = acts

-- an object after the part of a change on its key, if there is one
abbrev pub after_part : {E : Type 0} → Object E → Option Part → Object E
after_part o None = o
after_part o (Some p) = record { value = p.after; acts = lived p.before p.after o.acts }

-- the acts with one that was asked for; an apply takes the schedule of the record at that entry
abbrev pub with_asked : {E : Type 0} → AskedAct → Option (Schedule E) → ℕ → List (Act E) → List (Act E)
with_asked asked.Enable schedule a acts = with_act (Enable a) acts
with_asked asked.Disable schedule a acts = with_act (Disable a) acts
with_asked asked.Apply None a acts = acts
with_asked asked.Apply (Some schedule) a acts = with_act (Apply schedule a) acts

-- an object after the change that an entry applied, if it applied one
abbrev pub after_changed : {E : Type 0} → Key → Object E → Option Change → Object E
after_changed k o None = o
after_changed k o (Some e) = after_part o (part_of k (parts e))

-- an object after the act that an entry is, if it is one, where `admin` is the schedule in a record of its kind
abbrev pub after_asked : {E : Type 0} → (Option Record → Option (Schedule E)) → Key → Object E → Option Asked → Object E
after_asked admin k o None = o
after_asked admin k o (Some a) =
    if same_key k a.key then record { value = o.value; acts = with_asked a.act (admin o.value) a.now o.acts } else o

-- an object after an entry
abbrev pub after_entry : {E : Type 0} → (Option Record → Option (Schedule E)) → Key → Object E → What → Object E
after_entry admin k o w = after_asked admin k (after_changed k o (applies w)) (act_of w)

-- the object of a key after the entries, from its record in the opening
abbrev pub object : {E : Type 0} → (Option Record → Option (Schedule E)) → Key → Option Record → List Entry → Object E
object admin k opening es = fold (λ o e. after_entry admin k o e.what) (record { value = opening; acts = [] }) es

-- the schedule in a port's record, in a gate's
abbrev pub port_schedule : Option Record → Option (Schedule PortEntry)
port_schedule (Some (records.Port r)) = Some r.admin
port_schedule v = None

abbrev pub gate_schedule : Option Record → Option (Schedule GateEntry)
gate_schedule (Some (records.Gate r)) = Some r.admin
gate_schedule v = None

-- a port, a gate of a journal
abbrev pub port_at : Ledger → ℕ → Object PortEntry
port_at b n = object port_schedule (Port n) (get b.opening (Port n)) b.entries

abbrev pub gate_at : Ledger → ℕ → Object GateEntry
gate_at b n = object gate_schedule (Gate n) (get b.opening (Gate n)) b.entries
