-- The text of each value, piece by piece.
use Rattle.std.proofs.Common.{◌≡◌, ℕ, ◌++◌, List, [], Some, codes, decimal, map, false, refl, append_assoc}
use Rattle.json.specs.Print.{escape_byte, quoted}
use Rattle.serde_json.specs.Data.{Data, boolean}
use Rattle.serde_json.specs.View.{items_of}
use Rattle.serde_json.specs.Written.{compact_text, items_text}
use Rattle.tsn_chain.specs.declared.frame.Frame.{Frame}
use Rattle.tsn_edit.specs.declared.Edit.{Edit}
use Rattle.tsn_records.specs.Keys.{key_text}
use Rattle.tsn_types.specs.declared.keys.Key.{Key}
use Rattle.tsn_spelling.specs.Growing.{edit_front, session_end}
use Rattle.tsn_wire.specs.Values.{edit_data, put_data, states_data, batch_data, edit_value, frame_data, hello_data, asked_data}

-- ---- so many pieces, the first behind an empty text

three : (a1 x1 a2 x2 rest t0 t1 t2 t3 : List ℕ) → t0 ≡ [] → t1 ≡ t0 ++ (a1 ++ x1) → t2 ≡ t1 ++ (a2 ++ x2) → t3 ≡ t2 ++ rest
    → t3 ≡ a1 ++ (x1 ++ (a2 ++ (x2 ++ rest)))
three a1 x1 a2 x2 rest t0 t1 t2 t3 e0 e1 e2 e3 = rw (e3, e2, e1, e0) (simp append_assoc)

seven : (a1 x1 a2 x2 a3 x3 a4 x4 a5 x5 a6 x6 rest t0 t1 t2 t3 t4 t5 t6 t7 : List ℕ) → t0 ≡ [] → t1 ≡ t0 ++ (a1 ++ x1)
    → t2 ≡ t1 ++ (a2 ++ x2) → t3 ≡ t2 ++ (a3 ++ x3) → t4 ≡ t3 ++ (a4 ++ x4) → t5 ≡ t4 ++ (a5 ++ x5) → t6 ≡ t5 ++ (a6 ++ x6)
    → t7 ≡ t6 ++ rest → t7 ≡ a1 ++ (x1 ++ (a2 ++ (x2 ++ (a3 ++ (x3 ++ (a4 ++ (x4 ++ (a5 ++ (x5 ++ (a6 ++ (x6 ++ rest)))))))))))
seven a1 x1 a2 x2 a3 x3 a4 x4 a5 x5 a6 x6 rest t0 t1 t2 t3 t4 t5 t6 t7 e0 e1 e2 e3 e4 e5 e6 e7 =
    rw (e7, e6, e5, e4, e3, e2, e1, e0) (simp append_assoc)

-- ---- commands with no record

pub states_line : (s : ℕ) (key : List ℕ) (at : ℕ) (t0 t1 t2 t3 : List ℕ) → t0 ≡ [] → t1 ≡ t0 ++ (codes "{\"at\":" ++ decimal at)
    → t2 ≡ t1 ++ (codes ",\"do\":\"states\",\"key\":" ++ quoted key) → t3 ≡ t2 ++ session_end (decimal s)
    → t3 ≡ compact_text (states_data s key at)
unfolding escape_byte
states_line s key at t0 t1 t2 t3 e0 e1 e2 e3 =
    three (codes "{\"at\":") (decimal at) (codes ",\"do\":\"states\",\"key\":") (quoted key) (session_end (decimal s)) t0 t1 t2 t3 e0 e1 e2
    e3

-- the line of a hello by a name, in three pieces
pub named_text : (name : List ℕ) → compact_text (hello_data (Some name)) ≡ codes "{\"do\":\"hello\",\"name\":" ++ (quoted name ++ codes "}")
unfolding escape_byte
named_text name = refl

pub frame_line : (s : ℕ) (f : Frame) (now : ℕ) (t0 t1 t2 t3 t4 t5 t6 t7 : List ℕ) → t0 ≡ []
    → t1 ≡ t0 ++ (codes "{\"do\":\"frame\",\"handle\":" ++ decimal f.handle) → t2 ≡ t1 ++ (codes ",\"now\":" ++ decimal now)
    → t3 ≡ t2 ++ (codes ",\"octets\":" ++ decimal f.octets) → t4 ≡ t3 ++ (codes ",\"priority\":" ++ decimal f.priority)
    → t5 ≡ t4 ++ (codes ",\"s\":" ++ decimal s) → t6 ≡ t5 ++ (codes ",\"yellow\":" ++ compact_text (boolean f.yellow))
    → t7 ≡ t6 ++ codes "}" → t7 ≡ compact_text (frame_data s f now)
unfolding escape_byte
frame_line s f now t0 t1 t2 t3 t4 t5 t6 t7 e0 e1 e2 e3 e4 e5 e6 e7 =
    seven (codes "{\"do\":\"frame\",\"handle\":") (decimal f.handle) (codes ",\"now\":") (decimal now) (codes ",\"octets\":")
    (decimal f.octets) (codes ",\"priority\":") (decimal f.priority)
    (codes ",\"s\":") (decimal s) (codes ",\"yellow\":") (compact_text (boolean f.yellow)) (codes "}") t0 t1 t2 t3 t4 t5 t6 t7 e0 e1 e2 e3
    e4 e5 e6 e7

since_of : (a1 x1 a2 rest t0 t1 t2 t3 : List ℕ) → t0 ≡ [] → t1 ≡ t0 ++ (a1 ++ x1) → t2 ≡ t1 ++ a2 → t3 ≡ t2 ++ rest
    → t3 ≡ a1 ++ (x1 ++ (a2 ++ rest))
since_of a1 x1 a2 rest t0 t1 t2 t3 e0 e1 e2 e3 = rw (e3, e2, e1, e0) (simp append_assoc)

pub since_line : (s after : ℕ) (t0 t1 t2 t3 : List ℕ) → t0 ≡ [] → t1 ≡ t0 ++ (codes "{\"after\":" ++ decimal after)
    → t2 ≡ t1 ++ codes ",\"do\":\"since\"" → t3 ≡ t2 ++ session_end (decimal s) → t3 ≡ compact_text (asked_data s after)
unfolding escape_byte
since_line s after t0 t1 t2 t3 e0 e1 e2 e3 =
    since_of (codes "{\"after\":") (decimal after) (codes ",\"do\":\"since\"") (session_end (decimal s)) t0 t1 t2 t3 e0 e1 e2 e3

-- ---- edits

edit_of : (word key value rest : List ℕ)
    → ((codes "{\"do\":" ++ (word ++ (codes ",\"key\":" ++ (key ++ codes ",\"record\":")))) ++ value) ++ rest
    ≡ codes "{\"do\":" ++ (word ++ (codes ",\"key\":" ++ (key ++ (codes ",\"record\":" ++ (value ++ rest)))))
edit_of word key value rest = simp append_assoc

pub edit_text : (word : List ℕ) (k : Key) (value : Data) (s : ℕ)
    → (edit_front word k ++ compact_text value) ++ session_end (decimal s) ≡ compact_text (edit_data word s (key_text k) value)
unfolding escape_byte
edit_text word k value s = edit_of (quoted word) (quoted (key_text k)) (compact_text value) (session_end (decimal s))

pub put_text : (word : List ℕ) (k : Key) (value : Data)
    → (edit_front word k ++ compact_text value) ++ codes "}" ≡ compact_text (put_data word (key_text k) value)
unfolding escape_byte
put_text word k value = edit_of (quoted word) (quoted (key_text k)) (compact_text value) (codes "}")

batch_of : (items digits : List ℕ)
    → (codes "{\"do\":\"batch\",\"edits\":[" ++ items) ++ session_end digits ≡ codes "{\"do\":\"batch\",\"edits\":["
    ++ (items ++ session_end digits)
batch_of items digits = append_assoc (codes "{\"do\":\"batch\",\"edits\":[") items (session_end digits)

pub batch_text : (s : ℕ) (b : List Edit) → (codes "{\"do\":\"batch\",\"edits\":[" ++ items_text false (items_of (map edit_value b)))
    ++ session_end (decimal s) ≡ compact_text (batch_data s b)
unfolding escape_byte
batch_text s b = batch_of (items_text false (items_of (map edit_value b))) (decimal s)
