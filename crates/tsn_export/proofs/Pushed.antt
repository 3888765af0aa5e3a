-- Pieces that are put one behind another.
use Rattle.std.proofs.Common.{◌≡◌, ℕ, List, [], ◌∷◌, ◌++◌, append_assoc, refl, ◌∙◌, ap}
use Rattle.std.specs.Prelude.{codes}
use Rattle.tsn_types.specs.declared.limits.Limits.{Limits}
use Rattle.tsn_types.specs.declared.records.FlowMeter.{FlowMeter}
use Rattle.tsn_types.specs.declared.records.PortGates.{PortGates}
use Rattle.tsn_types.specs.declared.records.StreamFilter.{StreamFilter}
use Rattle.tsn_types.specs.declared.records.StreamGate.{StreamGate}
use Rattle.tsn_export.specs.Text.{filter_table, flag_line, gate_entry_line, gate_table, limits_text, list_lines, meter_table, number_line, number_or_none_line, port_entry_line, port_table}

further : (old text piece new next : List ℕ) → new ≡ old ++ text → next ≡ new ++ piece → next ≡ old ++ (text ++ piece)
further old text piece new next before now = now ∙ ap (λ t. t ++ piece) before ∙ append_assoc old text piece

-- a text with pieces behind it
abbrev joined : List ℕ → List (List ℕ) → List ℕ
joined text [] = text
joined text (piece ∷ more) = joined (text ++ piece) more

-- putting pieces behind a text, one by one, made another of it
abbrev Grew : List (List ℕ) → List ℕ → List ℕ → Type 0
Grew [] new last = last ≡ new
Grew (piece ∷ more) new last = (next : List ℕ) × (next ≡ new ++ piece) × Grew more next last

grown : (text : List ℕ) (more : List (List ℕ)) (old new last : List ℕ) → new ≡ old ++ text → Grew more new last
    → last ≡ old ++ joined text more
grown text [] old new last is same = same ∙ is
grown text (piece ∷ more) old new last is (next, now, others) =
    grown (text ++ piece) more old next last (further old text piece new next is now) others

pub limits_pushed : (l : Limits) (old a1 a2 a3 a4 a5 : List ℕ) → a1 ≡ old ++ number_line (codes "ports") l.ports
    → a2 ≡ a1 ++ number_line (codes "max_filters") l.filters → a3 ≡ a2 ++ number_line (codes "max_gates") l.gates
    → a4 ≡ a3 ++ number_line (codes "max_meters") l.meters → a5 ≡ a4 ++ number_line (codes "list_max") l.list → a5 ≡ old ++ limits_text l
limits_pushed l old a1 a2 a3 a4 a5 h1 h2 h3 h4 h5 =
    grown (number_line (codes "ports") l.ports) (number_line (codes "max_filters") l.filters ∷ number_line (codes "max_gates") l.gates
    ∷ number_line (codes "max_meters") l.meters ∷ number_line (codes "list_max") l.list ∷ [])
    old a1 a5 h1 (a2, h2, (a3, h3, (a4, h4, (a5, h5, refl))))

pub port_pushed : (id : ℕ) (r : PortGates) (old a1 a2 a3 a4 a5 a6 a7 : List ℕ) → a1 ≡ old ++ codes "\n[[port]]\n"
    → a2 ≡ a1 ++ number_line (codes "id") id → a3 ≡ a2 ++ number_line (codes "gates") r.gates
    → a4 ≡ a3 ++ list_lines port_entry_line r.admin.list → a5 ≡ a4 ++ number_line (codes "cycle") r.admin.cycle
    → a6 ≡ a5 ++ number_line (codes "extension") r.admin.extension → a7 ≡ a6 ++ number_line (codes "base") r.admin.base
    → a7 ≡ old ++ port_table id r
port_pushed id r old a1 a2 a3 a4 a5 a6 a7 h1 h2 h3 h4 h5 h6 h7 =
    grown (codes "\n[[port]]\n") (number_line (codes "id") id ∷ number_line (codes "gates") r.gates
    ∷ list_lines port_entry_line r.admin.list ∷ number_line (codes "cycle") r.admin.cycle
    ∷ number_line (codes "extension") r.admin.extension ∷ number_line (codes "base") r.admin.base ∷ [])
    old a1 a7 h1 (a2, h2, (a3, h3, (a4, h4, (a5, h5, (a6, h6, (a7, h7, refl))))))

pub filter_pushed : (id : ℕ) (r : StreamFilter) (old a1 a2 a3 a4 a5 a6 a7 a8 : List ℕ) → a1 ≡ old ++ codes "\n[[filter]]\n"
    → a2 ≡ a1 ++ number_line (codes "id") id → a3 ≡ a2 ++ number_or_none_line (codes "handle") r.handle
    → a4 ≡ a3 ++ number_or_none_line (codes "priority") r.priority → a5 ≡ a4 ++ number_line (codes "gate") r.gate
    → a6 ≡ a5 ++ number_or_none_line (codes "max_sdu") r.max_sdu → a7 ≡ a6 ++ number_or_none_line (codes "meter") r.meter
    → a8 ≡ a7 ++ flag_line (codes "oversize") r.oversize → a8 ≡ old ++ filter_table id r
filter_pushed id r old a1 a2 a3 a4 a5 a6 a7 a8 h1 h2 h3 h4 h5 h6 h7 h8 =
    grown (codes "\n[[filter]]\n") (number_line (codes "id") id ∷ number_or_none_line (codes "handle") r.handle
    ∷ number_or_none_line (codes "priority") r.priority ∷ number_line (codes "gate") r.gate
    ∷ number_or_none_line (codes "max_sdu") r.max_sdu ∷ number_or_none_line (codes "meter") r.meter
    ∷ flag_line (codes "oversize") r.oversize ∷ [])
    old a1 a8 h1 (a2, h2, (a3, h3, (a4, h4, (a5, h5, (a6, h6, (a7, h7, (a8, h8, refl)))))))

pub gate_pushed : (id : ℕ) (r : StreamGate) (old a1 a2 a3 a4 a5 a6 a7 a8 a9 a10 : List ℕ) → a1 ≡ old ++ codes "\n[[gate]]\n"
    → a2 ≡ a1 ++ number_line (codes "id") id → a3 ≡ a2 ++ flag_line (codes "open") r.is_open
    → a4 ≡ a3 ++ number_or_none_line (codes "ipv") r.ipv → a5 ≡ a4 ++ list_lines gate_entry_line r.admin.list
    → a6 ≡ a5 ++ number_line (codes "cycle") r.admin.cycle → a7 ≡ a6 ++ number_line (codes "extension") r.admin.extension
    → a8 ≡ a7 ++ number_line (codes "base") r.admin.base → a9 ≡ a8 ++ flag_line (codes "invalid_rx") r.invalid_rx
    → a10 ≡ a9 ++ flag_line (codes "octets_exceeded") r.octets_exceeded → a10 ≡ old ++ gate_table id r
gate_pushed id r old a1 a2 a3 a4 a5 a6 a7 a8 a9 a10 h1 h2 h3 h4 h5 h6 h7 h8 h9 h10 =
    grown (codes "\n[[gate]]\n") (number_line (codes "id") id ∷ flag_line (codes "open") r.is_open
    ∷ number_or_none_line (codes "ipv") r.ipv ∷ list_lines gate_entry_line r.admin.list ∷ number_line (codes "cycle") r.admin.cycle
    ∷ number_line (codes "extension") r.admin.extension ∷ number_line (codes "base") r.admin.base
    ∷ flag_line (codes "invalid_rx") r.invalid_rx ∷ flag_line (codes "octets_exceeded") r.octets_exceeded ∷ [])
    old a1 a10 h1 (a2, h2, (a3, h3, (a4, h4, (a5, h5, (a6, h6, (a7, h7, (a8, h8, (a9, h9, (a10, h10, refl)))))))))

pub meter_pushed : (id : ℕ) (r : FlowMeter) (old a1 a2 a3 a4 a5 a6 a7 a8 a9 a10 : List ℕ) → a1 ≡ old ++ codes "\n[[meter]]\n"
    → a2 ≡ a1 ++ number_line (codes "id") id → a3 ≡ a2 ++ number_line (codes "cir") r.cir → a4 ≡ a3 ++ number_line (codes "cbs") r.cbs
    → a5 ≡ a4 ++ number_line (codes "eir") r.eir → a6 ≡ a5 ++ number_line (codes "ebs") r.ebs → a7 ≡ a6 ++ flag_line (codes "cf") r.cf
    → a8 ≡ a7 ++ flag_line (codes "aware") r.aware → a9 ≡ a8 ++ flag_line (codes "drop_yellow") r.drop_yellow
    → a10 ≡ a9 ++ flag_line (codes "all_red") r.all_red → a10 ≡ old ++ meter_table id r
meter_pushed id r old a1 a2 a3 a4 a5 a6 a7 a8 a9 a10 h1 h2 h3 h4 h5 h6 h7 h8 h9 h10 =
    grown (codes "\n[[meter]]\n") (number_line (codes "id") id ∷ number_line (codes "cir") r.cir ∷ number_line (codes "cbs") r.cbs
    ∷ number_line (codes "eir") r.eir ∷ number_line (codes "ebs") r.ebs ∷ flag_line (codes "cf") r.cf ∷ flag_line (codes "aware") r.aware
    ∷ flag_line (codes "drop_yellow") r.drop_yellow ∷ flag_line (codes "all_red") r.all_red ∷ [])
    old a1 a10 h1 (a2, h2, (a3, h3, (a4, h4, (a5, h5, (a6, h6, (a7, h7, (a8, h8, (a9, h9, (a10, h10, refl)))))))))
