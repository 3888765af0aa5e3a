-- The numbers of one kind are those of its table.
use Rattle.std.proofs.Common.{◌≡◌, ℕ, true, false, List, [], ◌∷◌, ◌++◌, refl, sym, ◌∙◌, map, arith}
use Rattle.std.proofs.lemmas.Grind.{common_steps}
use Rattle.std.specs.Prelude.{filter}
use Rattle.std.proofs.lemmas.List.{append-nil}
use Rattle.std.specs.Ordering.{nat_cmp}
use Rattle.std.specs.FinMap.{FinMap, entries, keys}
use Rattle.tsn_types.specs.declared.keys.Key.{Key}
use Rattle.tsn_types.specs.declared.keys.Key.TheVariants.{Port, Filter, Gate, Meter}
use Rattle.tsn_types.specs.declared.keys.Kind.{Kind}
use Rattle.tsn_types.specs.declared.keys.Kind.TheVariants as kinds
use Rattle.tsn_types.specs.declared.records.Record.{Record}
use Rattle.tsn_types.specs.declared.records.Record.TheVariants.{Port as PortRecord, Filter as FilterRecord, Gate as GateRecord, Meter as MeterRecord}
use Rattle.tsn_types.specs.declared.records.PortGates.{PortGates}
use Rattle.tsn_types.specs.declared.records.StreamFilter.{StreamFilter}
use Rattle.tsn_types.specs.declared.records.StreamGate.{StreamGate}
use Rattle.tsn_types.specs.declared.records.FlowMeter.{FlowMeter}
use Rattle.tsn_types.specs.Keys.{number_of}
use Rattle.tsn_edit.specs.Configuration.{Configuration}
use Rattle.tsn_config.specs.Views.{keyed_rows, map_of_tables}
use Rattle.tsn_config.specs.Ids.{is_of, ids_of}
use Rattle.tsn_config.proofs.Listed.{entries-map_of_tables}

abbrev picked : Kind → List (Key × Record) → List ℕ
picked kind es = map (λ k. number_of k) (filter (λ k. is_of kind k) (map (λ (e : Key × Record). e.0) es))

picked-append : (kind : Kind) (xs ys : List (Key × Record)) → picked kind (xs ++ ys) ≡ picked kind xs ++ picked kind ys
picked-append kind xs ys = grind (arith, common_steps)

module _ {A : Type 0} (key : ℕ → Key) (rec : A → Record) (kind : Kind) where
  all_picked : ((n : ℕ) → is_of kind (key n) ≡ true) → ((n : ℕ) → number_of (key n) ≡ n) → (es : List (ℕ × A))
      → picked kind (keyed_rows key rec es) ≡ map (λ (e : ℕ × A). e.0) es
  all_picked own number [] = refl
  all_picked own number (e ∷ es) = grind (arith, (all_picked own number es))

  none_picked : ((n : ℕ) → is_of kind (key n) ≡ false) → (es : List (ℕ × A)) → picked kind (keyed_rows key rec es) ≡ []
  none_picked other [] = refl
  none_picked other (e ∷ es) = grind (arith, (none_picked other es))

module _ (ps : FinMap nat_cmp PortGates) (fs : FinMap nat_cmp StreamFilter) (gs : FinMap nat_cmp StreamGate) (ms : FinMap nat_cmp FlowMeter)
  where
    abbrev tp : List (Key × Record)
    tp = keyed_rows Port PortRecord (entries ps)

    abbrev tf : List (Key × Record)
    tf = keyed_rows Filter FilterRecord (entries fs)

    abbrev tg : List (Key × Record)
    tg = keyed_rows Gate GateRecord (entries gs)

    abbrev tm : List (Key × Record)
    tm = keyed_rows Meter MeterRecord (entries ms)

    parts : (kind : Kind) → ids_of kind (map_of_tables ps fs gs ms) ≡ picked kind tp
        ++ (picked kind tf ++ (picked kind tg ++ picked kind tm))
    parts kind = grind (arith, common_steps, entries-map_of_tables, picked-append)

    pub ids_of_ports : ids_of kinds.Port (map_of_tables ps fs gs ms) ≡ keys ps
    ids_of_ports = grind (arith, parts, all_picked, none_picked, append-nil)

    pub ids_of_filters : ids_of kinds.Filter (map_of_tables ps fs gs ms) ≡ keys fs
    ids_of_filters = grind (arith, parts, none_picked, all_picked, append-nil)

    pub ids_of_gates : ids_of kinds.Gate (map_of_tables ps fs gs ms) ≡ keys gs
    ids_of_gates = grind (arith, parts, none_picked, all_picked, append-nil)

    pub ids_of_meters : ids_of kinds.Meter (map_of_tables ps fs gs ms) ≡ keys ms
    ids_of_meters = grind (arith, parts, none_picked, all_picked)

    -- the same of any kind and map, by what they are
    pub ports_numbered : (kind : Kind) (m : Configuration) → map_of_tables ps fs gs ms ≡ m → kind ≡ kinds.Port → ids_of kind m ≡ keys ps
    ports_numbered kind m tables is = (λ i. ids_of (is i) (sym tables i)) ∙ ids_of_ports

    pub filters_numbered : (kind : Kind) (m : Configuration) → map_of_tables ps fs gs ms ≡ m → kind ≡ kinds.Filter → ids_of kind m ≡ keys fs
    filters_numbered kind m tables is = (λ i. ids_of (is i) (sym tables i)) ∙ ids_of_filters

    pub gates_numbered : (kind : Kind) (m : Configuration) → map_of_tables ps fs gs ms ≡ m → kind ≡ kinds.Gate → ids_of kind m ≡ keys gs
    gates_numbered kind m tables is = (λ i. ids_of (is i) (sym tables i)) ∙ ids_of_gates

    pub meters_numbered : (kind : Kind) (m : Configuration) → map_of_tables ps fs gs ms ≡ m → kind ≡ kinds.Meter → ids_of kind m ≡ keys ms
    meters_numbered kind m tables is = (λ i. ids_of (is i) (sym tables i)) ∙ ids_of_meters
