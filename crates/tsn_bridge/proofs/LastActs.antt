-- The last act on an object was done by the time by which all acts were.
use Rattle.std.proofs.Common.{◌≤◌, ℕ, Bool, true, false, cond, arith, List, [], ◌∷◌, Option, Some, None}
use Rattle.std.specs.List.{AllByRecursion, fold}
use Rattle.tsn_types.specs.declared.keys.Key.{Key}
use Rattle.tsn_types.specs.declared.records.Record.{Record}
use Rattle.tsn_types.specs.declared.records.Schedule.{Schedule}
use Rattle.tsn_types.specs.Keys.{same_key}
use Rattle.tsn_edit.specs.Changes.{part_of}
use Rattle.tsn_edit.specs.Parts.{Part, parts}
use Rattle.tsn_schedule.specs.Acts.{Act, Disable, Enable, is_enabled, last_instant}
use Rattle.tsn_entries.specs.declared.entries.Act.{Act as Asked}
use Rattle.tsn_entries.specs.declared.entries.Act.TheVariants as asked
use Rattle.tsn_entries.specs.declared.entries.Entry.{Entry}
use Rattle.tsn_entries.specs.declared.entries.What.{What}
use Rattle.tsn_entries.specs.declared.entries.What.TheVariants.{Made, Undone, Redone, Acted, Settled}
use Rattle.tsn_bridge.specs.Later.{IsBy}
use Rattle.tsn_bridge.specs.Objects.{Object, after_entry, after_part, lived, with_asked}

pub asked_last : {E : Type 0} (act : Asked) (schedule : Option (Schedule E)) (a t : ℕ) (acts : List (Act E)) → a ≤ t → last_instant acts ≤ t
    → last_instant (with_asked act schedule a acts) ≤ t
asked_last asked.Enable schedule a t acts now before = go (is_enabled acts)
  where
    go : (b : Bool) → last_instant (cond b acts (Enable a ∷ acts)) ≤ t
    go true = before
    go false = now
asked_last asked.Disable schedule a t acts now before = go (is_enabled acts)
  where
    go : (b : Bool) → last_instant (cond b (Disable a ∷ acts) acts) ≤ t
    go true = now
    go false = before
asked_last asked.Apply None a t acts now before = before
asked_last asked.Apply (Some schedule) a t acts now before = now

lived_last : {E : Type 0} (before now : Option Record) (acts : List (Act E)) (t : ℕ) → last_instant acts ≤ t
    → last_instant (lived before now acts) ≤ t
lived_last None now acts t h = omega arith
lived_last (Some q) None acts t h = omega arith
lived_last (Some q) (Some r) acts t h = h

part_last : {E : Type 0} (o : Object E) (q : Option Part) (t : ℕ) → last_instant o.acts ≤ t → last_instant (after_part o q).acts ≤ t
part_last o None t h = h
part_last o (Some p) t h = lived_last p.before p.after o.acts t h

module _ {E : Type 0} (admin : Option Record → Option (Schedule E)) (k : Key) (t : ℕ) where
  entry_last : (o : Object E) (w : What) → IsBy t w → last_instant o.acts ≤ t → last_instant (after_entry admin k o w).acts ≤ t
  entry_last o (Made e) by h = part_last o (part_of k (parts e)) t h
  entry_last o (Undone n e) by h = part_last o (part_of k (parts e)) t h
  entry_last o (Redone n e) by h = part_last o (part_of k (parts e)) t h
  entry_last o (Acted act key a) by h = go (same_key k key)
    where
      go : (b : Bool) → last_instant (cond b (record { value = o.value; acts = with_asked act (admin o.value) a o.acts }) o).acts ≤ t
      go true = asked_last act (admin o.value) a t o.acts by h
      go false = h
  entry_last o (Settled upto) by h = h

  pub all_last : (o : Object E) (es : List Entry) → AllByRecursion (λ (e : Entry). IsBy t e.what) es → last_instant o.acts ≤ t
      → last_instant (fold (λ (o : Object E) (e : Entry). after_entry admin k o e.what) o es).acts ≤ t
  all_last o [] by h = h
  all_last o (e ∷ es) by h = all_last (after_entry admin k o e.what) es by.1 (entry_last o e.what by.0 h)
