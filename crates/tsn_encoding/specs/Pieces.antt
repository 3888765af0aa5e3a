-- The text of a shown record in pieces: what stands before its list and behind it, and what a writer took of a text
-- whose end is still held. All of it is for clauses of pieces.
use Rattle.std.specs.Prelude.{◌≡◌, ◌++◌, ℕ, List, [], ◌∷◌, map, false, Option, codes, decimal}
use Rattle.std.specs.Io.KnownBytes.{Appends}
use Rattle.serde_json.specs.Data.{Data, array, boolean, string}
use Rattle.serde_json.specs.View.{items_of}
use Rattle.serde_json.specs.Written.{compact_text, items_text}
use Rattle.tsn_types.specs.declared.keys.Key.{Key}
use Rattle.tsn_types.specs.declared.records.PortGates.{PortGates}
use Rattle.tsn_types.specs.declared.records.StreamGate.{StreamGate}
use Rattle.tsn_records.specs.Keys.{key_text}
use Rattle.tsn_records.specs.Shown.{or_null}
use Rattle.tsn_encoding.specs.Shown.{key_data}

-- a front of the text was taken, and the rest of it is held
abbrev pub TakesFront : Option (List ℕ) → Option (List ℕ) → List ℕ → List ℕ → Type 0
TakesFront old new text held = (gone : List ℕ) × Appends old new gone × (text ≡ gone ++ held)

-- up to the record
abbrev pub key_front : Key → List ℕ
key_front k = codes "{\"key\":" ++ (compact_text (string (key_text k)) ++ codes ",\"record\":")

-- up to the entries, the opening bracket in it
abbrev pub port_front : PortGates → List ℕ
port_front r =
    codes "{\"base\":" ++ (decimal r.admin.base
    ++ (codes ",\"cycle\":" ++ (decimal r.admin.cycle
    ++ (codes ",\"extension\":" ++ (decimal r.admin.extension
    ++ (codes ",\"gates\":" ++ (decimal r.gates
    ++ codes ",\"list\":[")))))))

abbrev pub gate_front : StreamGate → List ℕ
gate_front r =
    codes "{\"base\":" ++ (decimal r.admin.base
    ++ (codes ",\"cycle\":" ++ (decimal r.admin.cycle
    ++ (codes ",\"extension\":" ++ (decimal r.admin.extension
    ++ (codes ",\"invalid_rx\":" ++ (compact_text (boolean r.invalid_rx)
    ++ (codes ",\"ipv\":" ++ (compact_text (or_null r.ipv)
    ++ codes ",\"list\":[")))))))))

-- what comes behind the closing bracket
abbrev pub gate_end : StreamGate → List ℕ
gate_end r =
    codes ",\"octets_exceeded\":" ++ (compact_text (boolean r.octets_exceeded)
    ++ (codes ",\"open\":" ++ (compact_text (boolean r.is_open)
    ++ codes "}")))

-- the same with the end of the line
abbrev pub gate_rest : StreamGate → List ℕ
gate_rest r = gate_end r ++ codes "}\n"

-- the member that tells the keys of a change, with a comma before it
abbrev pub keys_piece : List Key → List ℕ
keys_piece (k ∷ []) = codes ",\"key\":" ++ compact_text (key_data k)
keys_piece ks = codes ",\"keys\":" ++ compact_text (array (items_of (map key_data ks)))

-- an entry that takes one back, up to what was done
abbrev pub taking_back_front : ℕ → ℕ → ℕ → List Key → List ℕ
taking_back_front number session of keys =
    codes "{\"entry\":" ++ (decimal number
    ++ (keys_piece keys
    ++ (codes ",\"of\":" ++ (decimal of
    ++ (codes ",\"session\":" ++ decimal session)))))

-- the line of entries as they are told, in their order
abbrev pub told_line : List Data → List ℕ
told_line told = codes "{\"entries\":[" ++ (items_text false (items_of told) ++ codes "}\n")
