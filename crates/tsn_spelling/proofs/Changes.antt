-- The lines of edits and of batches, put together.
use Rattle.std.proofs.Common.{◌≡◌, ℕ, ◌++◌, List, [], codes, decimal, map, false, ap, ◌∙◌, append_assoc}
use Rattle.json.specs.Print.{quoted}
use Rattle.serde_json.specs.Data.{Data}
use Rattle.serde_json.specs.View.{items_of}
use Rattle.serde_json.specs.Written.{compact_text, items_text}
use Rattle.tsn_edit.specs.declared.Edit.{Edit}
use Rattle.tsn_records.specs.Keys.{key_text}
use Rattle.tsn_types.specs.declared.keys.Key.{Key}
use Rattle.tsn_wire.specs.Values.{batch_data, edit_data, edit_value, put_data}
use Rattle.tsn_spelling.specs.Growing.{GoesOn, edit_front, session_end}
use Rattle.tsn_spelling.proofs.Growing.{as_piece, ended, goes_on, pushed}
use Rattle.tsn_spelling.proofs.Shapes.{batch_text, edit_text, put_text}

front_of : (word key t0 t1 t2 t3 : List ℕ) → t1 ≡ t0 ++ (codes "{\"do\":" ++ word) → t2 ≡ t1 ++ (codes ",\"key\":" ++ key)
    → t3 ≡ t2 ++ codes ",\"record\":" → t3 ≡ t0 ++ (codes "{\"do\":" ++ (word ++ (codes ",\"key\":" ++ (key ++ codes ",\"record\":"))))
front_of word key t0 t1 t2 t3 e1 e2 e3 = rw (e3, e2, e1) (simp append_assoc)

pub front_pieces : (word : List ℕ) (k : Key) (t0 t1 t2 t3 : List ℕ) → t1 ≡ t0 ++ (codes "{\"do\":" ++ quoted word)
    → t2 ≡ t1 ++ (codes ",\"key\":" ++ quoted (key_text k)) → t3 ≡ t2 ++ codes ",\"record\":" → t3 ≡ t0 ++ edit_front word k
front_pieces word k t0 t1 t2 t3 e1 e2 e3 = front_of (quoted word) (quoted (key_text k)) t0 t1 t2 t3 e1 e2 e3

-- the value of a creation or a replacement, up to its last brace
change : (word : List ℕ) (k : Key) (value : Data) (l0 t0 t1 l2 t2 : List ℕ) → t1 ≡ t0 ++ edit_front word k
    → GoesOn l0 t1 l2 t2 (compact_text value) → GoesOn l0 t0 l2 t2 (edit_front word k ++ compact_text value)
change word k value l0 t0 t1 l2 t2 e1 e2 = goes_on l0 t0 l0 t1 l2 t2 _ _ (pushed l0 t0 t1 _ e1) e2

pub edit_line : (word : List ℕ) (k : Key) (value : Data) (s : ℕ) (l0 t0 t1 l2 t2 t3 l4 : List ℕ) → t0 ≡ [] → t1 ≡ t0 ++ edit_front word k
    → GoesOn l0 t1 l2 t2 (compact_text value) → t3 ≡ t2 ++ session_end (decimal s) → l4 ≡ l2 ++ t3
    → l4 ≡ l0 ++ compact_text (edit_data word s (key_text k) value)
edit_line word k value s l0 t0 t1 l2 t2 t3 l4 e0 e1 e2 e3 e4 =
    ended l0 t0 l2 t3 l4 _ e0 (as_piece l0 t0 l2 t3 _ _ (edit_text word k value s)
    (goes_on l0 t0 l2 t2 l2 t3 _ _ (change word k value l0 t0 t1 l2 t2 e1 e2) (pushed l2 t2 t3 _ e3))) e4

pub part_pieces : (word : List ℕ) (k : Key) (value : Data) (l0 t0 t1 l2 t2 t3 : List ℕ) → t1 ≡ t0 ++ edit_front word k
    → GoesOn l0 t1 l2 t2 (compact_text value) → t3 ≡ t2 ++ codes "}" → GoesOn l0 t0 l2 t3 (compact_text (put_data word (key_text k) value))
part_pieces word k value l0 t0 t1 l2 t2 t3 e1 e2 e3 =
    as_piece l0 t0 l2 t3 _ _ (put_text word k value)
    (goes_on l0 t0 l2 t2 l2 t3 _ _ (change word k value l0 t0 t1 l2 t2 e1 e2) (pushed l2 t2 t3 _ e3))

pub batch_line : (s : ℕ) (b es : List Edit) (l0 t0 t1 l2 t2 t3 l4 : List ℕ) → t0 ≡ [] → es ≡ b
    → t1 ≡ t0 ++ codes "{\"do\":\"batch\",\"edits\":[" → GoesOn l0 t1 l2 t2 (items_text false (items_of (map edit_value es)))
    → t3 ≡ t2 ++ session_end (decimal s) → l4 ≡ l2 ++ t3 → l4 ≡ l0 ++ compact_text (batch_data s b)
batch_line s b es l0 t0 t1 l2 t2 t3 l4 e0 e e1 e2 e3 e4 =
    ended l0 t0 l2 t3 l4 _ e0
    (as_piece l0 t0 l2 t3 _ _ (ap (λ x. (codes "{\"do\":\"batch\",\"edits\":[" ++ items_text false (items_of (map edit_value x)))
    ++ session_end (decimal s)) e ∙ batch_text s b)
    (goes_on l0 t0 l2 t2 l2 t3 _ _ (goes_on l0 t0 l0 t1 l2 t2 _ _ (pushed l0 t0 t1 _ e1) e2) (pushed l2 t2 t3 _ e3))) e4
