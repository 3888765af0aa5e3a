-- The entries of the map of four tables are those of the tables, one table after another.
use Rattle.std.proofs.Common.{◌≡◌, ℕ, Bool, true, false, cond, List, [], ◌∷◌, ◌++◌, refl, sym, ◌∙◌, ap, Some, None}
use Rattle.std.specs.Prelude.{find, option_map}
use Rattle.std.proofs.lemmas.Bool.{and_from, and_parts}
use Rattle.std.proofs.lemmas.List.{append-nil}
use Rattle.std.specs.Ordering.{nat_cmp, is_lt}
use Rattle.std.specs.declared.cmp.Ordering.TheVariants.{Less}
use Rattle.std.specs.FinMap.{FinMap, entries, entries_sorted, from_entries, from_sorted, get-from_entries, get-from_sorted, entries-from_sorted, same_map, is_sorted}
use Rattle.std.specs.FinMap.Entries.{below_all}
use Rattle.std.proofs.lemmas.Float.{T_from_true}
use Rattle.tsn_table.proofs.Orders.{of_T}
use Rattle.tsn_types.specs.declared.keys.Key.{Key}
use Rattle.tsn_types.specs.declared.keys.Key.TheVariants.{Port, Filter, Gate, Meter}
use Rattle.tsn_types.specs.declared.refusals.Refusal.TheVariants.{Referred}
use Rattle.tsn_types.specs.declared.records.Record.{Record}
use Rattle.tsn_types.specs.declared.records.Record.TheVariants.{Port as PortRecord, Filter as FilterRecord, Gate as GateRecord, Meter as MeterRecord}
use Rattle.tsn_types.specs.declared.records.PortGates.{PortGates}
use Rattle.tsn_types.specs.declared.records.StreamFilter.{StreamFilter}
use Rattle.tsn_types.specs.declared.records.StreamGate.{StreamGate}
use Rattle.tsn_types.specs.declared.records.FlowMeter.{FlowMeter}
use Rattle.tsn_types.specs.Keys.{key_cmp, has, refs}
use Rattle.tsn_edit.proofs.KeyFacts.{keys_total, exact_keys}
use Rattle.tsn_table.specs.Firsts.{first_id}
use Rattle.tsn_config.specs.Views.{keyed_rows, map_of_tables}
use Rattle.tsn_edit.specs.Edits.{referrer}

below_append : (k : Key) (xs ys : List (Key × Record)) → below_all key_cmp k xs ≡ true → below_all key_cmp k ys ≡ true
    → below_all key_cmp k (xs ++ ys) ≡ true
below_append k [] ys h g = g
below_append k (x ∷ xs) ys h g = and_from _ _ ((and_parts _ _ h).0) (below_append k xs ys ((and_parts (is_lt (key_cmp k x.0)) _ h).1) g)

module _ {A : Type 0} (key : ℕ → Key) (record' : A → Record) where
  below_keyed_rows : ((a b : ℕ) → key_cmp (key a) (key b) ≡ nat_cmp a b) → (x : ℕ) (es : List (ℕ × A)) → below_all nat_cmp x es ≡ true
      → below_all key_cmp (key x) (keyed_rows key record' es) ≡ true
  below_keyed_rows same x [] h = refl
  below_keyed_rows same x (e ∷ es) h =
      and_from _ _ (ap is_lt (same x e.0) ∙ (and_parts _ _ h).0) (below_keyed_rows same x es ((and_parts (is_lt (nat_cmp x e.0)) _ h).1))

  sorted_keyed_rows : ((a b : ℕ) → key_cmp (key a) (key b) ≡ nat_cmp a b) → (es : List (ℕ × A)) → is_sorted nat_cmp es ≡ true
      → is_sorted key_cmp (keyed_rows key record' es) ≡ true
  sorted_keyed_rows same [] h = refl
  sorted_keyed_rows same (e ∷ es) h =
      and_from _ _ (below_keyed_rows same e.0 es ((and_parts _ _ h).0))
      (sorted_keyed_rows same es ((and_parts (below_all nat_cmp e.0 es) _ h).1))

  higher : (k : Key) → ((n : ℕ) → key_cmp k (key n) ≡ Less) → (es : List (ℕ × A)) → below_all key_cmp k (keyed_rows key record' es) ≡ true
  higher k less [] = refl
  higher k less (e ∷ es) = and_from _ _ (ap is_lt (less e.0)) (higher k less es)

  sorted_then : (es : List (ℕ × A)) (ys : List (Key × Record)) → is_sorted key_cmp (keyed_rows key record' es) ≡ true
      → is_sorted key_cmp ys ≡ true → ((n : ℕ) → below_all key_cmp (key n) ys ≡ true)
      → is_sorted key_cmp (keyed_rows key record' es ++ ys) ≡ true
  sorted_then [] ys h g below = g
  sorted_then (e ∷ es) ys h g below =
      and_from _ _ (below_append (key e.0) (keyed_rows key record' es) ys ((and_parts _ _ h).0) (below e.0))
      (sorted_then es ys ((and_parts (below_all key_cmp (key e.0) (keyed_rows key record' es)) _ h).1) g below)

  skips : (p : Key × Record → Bool) → ((n : ℕ) (r : A) → p (key n, record' r) ≡ false) → (es : List (ℕ × A)) (ys : List (Key × Record))
      → find p (keyed_rows key record' es ++ ys) ≡ find p ys
  skips p misses [] ys = refl
  skips p misses (e ∷ es) ys =
      ap (λ b. cond b (Some (key e.0, record' e.1)) (find p (keyed_rows key record' es ++ ys))) (misses e.0 e.1) ∙ skips p misses es ys

  first : (k : Key) (es : List (ℕ × A)) (ys : List (Key × Record)) → find (λ e. has (refs e.1) k) ys ≡ None
      → option_map (λ (e : Key × Record). Referred e.0) (find (λ e. has (refs e.1) k) (keyed_rows key record' es ++ ys))
      ≡ option_map (λ n. Referred (key n)) (first_id (λ r. has (refs (record' r)) k) es)
  first k [] ys none = ap (option_map (λ (e : Key × Record). Referred e.0)) none
  first k (e ∷ es) ys none = elim (has (refs (record' e.1)) k) as
      (λ b. option_map (λ (e : Key × Record). Referred e.0)
      (cond b (Some (key e.0, record' e.1)) (find (λ e. has (refs e.1) k) (keyed_rows key record' es ++ ys)))
      ≡ option_map (λ n. Referred (key n)) (cond b (Some e.0) (first_id (λ r. has (refs (record' r)) k) es))) [
        | true ↦ refl
        | false ↦ first k es ys none
      ]

pub from_sorted_list : (es : List (Key × Record)) → is_sorted key_cmp es ≡ true → entries (from_entries {R = key_cmp} es) ≡ es
from_sorted_list es h =
    ap entries (same_map keys_total exact_keys (from_entries es) (from_sorted es)
    (λ q. get-from_entries keys_total es q ∙ sym (get-from_sorted key_cmp es q (T_from_true _ h))))
    ∙ entries-from_sorted key_cmp es (T_from_true _ h)

module _ (ps : FinMap nat_cmp PortGates) (fs : FinMap nat_cmp StreamFilter) (gs : FinMap nat_cmp StreamGate) (ms : FinMap nat_cmp FlowMeter)
  where
    sorted_all : is_sorted key_cmp (keyed_rows Port PortRecord (entries ps)
        ++ (keyed_rows Filter FilterRecord (entries fs)
        ++ (keyed_rows Gate GateRecord (entries gs) ++ keyed_rows Meter MeterRecord (entries ms)))) ≡ true
    sorted_all =
        let m = sorted_keyed_rows Meter MeterRecord (λ a b. refl) (entries ms) (of_T _ (entries_sorted ms)) in
        let g = sorted_then Gate GateRecord (entries gs) (keyed_rows Meter MeterRecord (entries ms))
        (sorted_keyed_rows Gate GateRecord (λ a b. refl) (entries gs) (of_T _ (entries_sorted gs))) m
        (λ n. higher Meter MeterRecord (Gate n) (λ _. refl) (entries ms)) in
        let f = sorted_then Filter FilterRecord (entries fs)
        (keyed_rows Gate GateRecord (entries gs) ++ keyed_rows Meter MeterRecord (entries ms))
        (sorted_keyed_rows Filter FilterRecord (λ a b. refl) (entries fs) (of_T _ (entries_sorted fs))) g
        (λ n. below_append (Filter n) (keyed_rows Gate GateRecord (entries gs)) (keyed_rows Meter MeterRecord (entries ms))
        (higher Gate GateRecord (Filter n) (λ _. refl) (entries gs)) (higher Meter MeterRecord (Filter n) (λ _. refl) (entries ms))) in
        sorted_then Port PortRecord (entries ps)
        (keyed_rows Filter FilterRecord (entries fs)
        ++ (keyed_rows Gate GateRecord (entries gs) ++ keyed_rows Meter MeterRecord (entries ms)))
        (sorted_keyed_rows Port PortRecord (λ a b. refl) (entries ps) (of_T _ (entries_sorted ps))) f
        (λ n. below_append (Port n) (keyed_rows Filter FilterRecord (entries fs))
        (keyed_rows Gate GateRecord (entries gs) ++ keyed_rows Meter MeterRecord (entries ms))
        (higher Filter FilterRecord (Port n) (λ _. refl) (entries fs))
        (below_append (Port n) (keyed_rows Gate GateRecord (entries gs)) (keyed_rows Meter MeterRecord (entries ms))
        (higher Gate GateRecord (Port n) (λ _. refl) (entries gs)) (higher Meter MeterRecord (Port n) (λ _. refl) (entries ms))))

    pub entries-map_of_tables : entries (map_of_tables ps fs gs ms) ≡ keyed_rows Port PortRecord (entries ps)
        ++ (keyed_rows Filter FilterRecord (entries fs)
        ++ (keyed_rows Gate GateRecord (entries gs) ++ keyed_rows Meter MeterRecord (entries ms)))
    entries-map_of_tables = from_sorted_list _ sorted_all

    -- the least filter that refers to a key is found in the table of filters
    pub referrer-map_of_tables : (k : Key)
        → referrer (map_of_tables ps fs gs ms) k ≡ option_map (λ n. Referred (Filter n))
        (first_id (λ r. has (refs (FilterRecord r)) k) (entries fs))
    referrer-map_of_tables k =
        ap (λ es. option_map (λ (e : Key × Record). Referred e.0) (find (λ e. has (refs e.1) k) es)) entries-map_of_tables
        ∙ ap (option_map (λ (e : Key × Record). Referred e.0)) (skips Port PortRecord (λ e. has (refs e.1) k) (λ n r. refl) (entries ps) _)
        ∙ first Filter FilterRecord k (entries fs) _
        (skips Gate GateRecord (λ e. has (refs e.1) k) (λ n r. refl) (entries gs) _
        ∙ ap (find (λ e. has (refs e.1) k)) (sym (append-nil (keyed_rows Meter MeterRecord (entries ms))))
        ∙ skips Meter MeterRecord (λ e. has (refs e.1) k) (λ n r. refl) (entries ms) [])
