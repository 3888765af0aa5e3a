-- The acts of a port in a bridge are in order of time, each with effect, after each of the bridge's entries.
use Rattle.std.proofs.Common.{◌≡◌, ◌≢◌, ◌<◌, ◌≤◌, ◌++◌, ℕ, Bool, true, false, cond, List, [], ◌∷◌, Option, Some, None, refl, subst, sym}
use Rattle.std.specs.List.{fold}
use Rattle.tsn_types.specs.declared.keys.Key.{Key}
use Rattle.tsn_types.specs.declared.keys.Key.TheVariants.{Port}
use Rattle.tsn_types.specs.declared.records.PortEntry.{PortEntry}
use Rattle.tsn_types.specs.declared.records.PortGates.{PortGates}
use Rattle.tsn_types.specs.declared.records.Record.{Record}
use Rattle.tsn_types.specs.declared.records.Record.TheVariants as records
use Rattle.tsn_types.specs.Keys.{same_key}
use Rattle.tsn_edit.specs.Changes.{part_of}
use Rattle.tsn_edit.specs.Parts.{Change, Part, parts}
use Rattle.tsn_schedule.specs.Acts.{Act, Disable, Enable, IsHistory, is_enabled, last_instant}
use Rattle.tsn_schedule.specs.Refusing.{has_entries}
use Rattle.tsn_entries.specs.declared.entries.Act.{Act as Asked}
use Rattle.tsn_entries.specs.declared.entries.Act.TheVariants as asked
use Rattle.tsn_entries.specs.declared.entries.Entry.{Entry}
use Rattle.tsn_entries.specs.declared.entries.What.{What}
use Rattle.tsn_entries.specs.declared.entries.What.TheVariants.{Acted}
use Rattle.tsn_entries.specs.Entries.{applies}
use Rattle.tsn_bridge.specs.Objects.{Object, after_entry, after_part, lived, port_schedule, with_asked}
use Rattle.tsn_bridge.proofs.Following.{applied_entry}
use Rattle.tsn_port.proofs.Taking.{after}

-- after each of these entries, the acts are in order of time, each with effect
abbrev pub AreActs : ℕ → Object PortEntry → List Entry → Type 0
AreActs n o [] = Unit {0}
AreActs n o (e ∷ es) = IsHistory (after n o e).acts × AreActs n (after n o e) es

pub acts_push : (n : ℕ) (o : Object PortEntry) (es : List Entry) (e : Entry) → AreActs n o es
    → IsHistory (after n (fold (after n) o es) e).acts → AreActs n o (es ++ e ∷ [])
acts_push n o [] e h one = (one, tt)
acts_push n o (x ∷ es) e h one = (h.0, acts_push n (after n o x) es e h.1 one)

pub acts_now : (n : ℕ) (o : Object PortEntry) (es : List Entry) → IsHistory o.acts → AreActs n o es → IsHistory (fold (after n) o es).acts
acts_now n o [] first h = first
acts_now n o (x ∷ es) first h = acts_now n (after n o x) es h.0 h.1

-- ---- a change keeps the acts, or drops them

lived_history : {E : Type 0} (before now : Option Record) (acts : List (Act E)) → IsHistory acts → IsHistory (lived before now acts)
lived_history None now acts h = tt
lived_history (Some q) None acts h = tt
lived_history (Some q) (Some r) acts h = h

part_history : (o : Object PortEntry) (q : Option Part) → IsHistory o.acts → IsHistory (after_part o q).acts
part_history o None h = h
part_history o (Some p) h = lived_history p.before p.after o.acts h

pub change_history : (n : ℕ) (o : Object PortEntry) (w : What) (e : Change) → applies w ≡ Some e → IsHistory o.acts
    → IsHistory (after_entry port_schedule (Port n) o w).acts
change_history n o w e is h = subst (λ (x : Object PortEntry). IsHistory x.acts) (sym (applied_entry port_schedule (Port n) o w e is))
    (part_history o (part_of (Port n) (parts e)) h)

-- ---- an act at an instant not before the last one

-- what an apply finds
pub record Finds (o : Object PortEntry) : Type 0 where
  pub enabled : is_enabled o.acts ≡ true
  pub value : PortGates
  pub value_is : o.value ≡ Some (records.Port value)
  pub some : has_entries value.admin.list ≡ true
  pub cycle : 0 < value.admin.cycle

not_empty : {E : Type 0} (list : List E) → has_entries list ≡ true → list ≢ []
not_empty [] some = λ same. (cc)
not_empty (x ∷ list) some = λ same. (cc)

enabled_history : {E : Type 0} (a : ℕ) (acts : List (Act E)) (b : Bool) → is_enabled acts ≡ b → IsHistory acts → last_instant acts ≤ a
    → IsHistory (cond b acts (Enable a ∷ acts))
enabled_history a acts true is h last = h
enabled_history a acts false is h last = (last, is, h)

disabled_history : {E : Type 0} (a : ℕ) (acts : List (Act E)) (b : Bool) → is_enabled acts ≡ b → IsHistory acts → last_instant acts ≤ a
    → IsHistory (cond b (Disable a ∷ acts) acts)
disabled_history a acts true is h last = (last, is, h)
disabled_history a acts false is h last = h

applied_history : (a : ℕ) (o : Object PortEntry) → Finds o → IsHistory o.acts → last_instant o.acts ≤ a
    → IsHistory (with_asked asked.Apply (port_schedule o.value) a o.acts)
applied_history a o f h last =
    subst (λ v. IsHistory (with_asked asked.Apply (port_schedule v) a o.acts)) (sym f.value_is)
    (last, (f.enabled, not_empty f.value.admin.list f.some, f.cycle), h)

pub asked_history : (act : Asked) (a : ℕ) (o : Object PortEntry) → (act ≡ asked.Apply → Finds o) → IsHistory o.acts
    → last_instant o.acts ≤ a → IsHistory (with_asked act (port_schedule o.value) a o.acts)
asked_history asked.Enable a o finds h last = enabled_history a o.acts (is_enabled o.acts) refl h last
asked_history asked.Disable a o finds h last = disabled_history a o.acts (is_enabled o.acts) refl h last
asked_history asked.Apply a o finds h last = applied_history a o (finds refl) h last

-- an act on this port, or on another key
pub acted_history : (n : ℕ) (o : Object PortEntry) (act : Asked) (key : Key) (a : ℕ)
    → (same_key (Port n) key ≡ true → act ≡ asked.Apply → Finds o) → IsHistory o.acts → last_instant o.acts ≤ a
    → IsHistory (after_entry port_schedule (Port n) o (Acted act key a)).acts
acted_history n o act key a finds h last = go (same_key (Port n) key) refl
  where
    go : (b : Bool) → same_key (Port n) key ≡ b
        → IsHistory (cond b (record { value = o.value; acts = with_asked act (port_schedule o.value) a o.acts }) o).acts
    go true is = asked_history act a o (finds is) h last
    go false is = h
