-- What the bytes of a line are read as.
use Rattle.std.proofs.Common.{◌≡◌, ℕ, List, true, false, cond, Some, None, refl, ap, ◌∙◌}
use Rattle.std.specs.Str.{IsUtf8, is_utf8}
use Rattle.std.proofs.lemmas.Str.{is_utf8-from_IsUtf8, IsUtf8-from_is_utf8}
use Rattle.serde_json.specs.Data.{Data}
use Rattle.serde_json.specs.Read.{read}
use Rattle.tsn_wire.specs.Reading.{data_of}

pub data_of_refused : (bytes : List ℕ) → (IsUtf8 bytes → read bytes ≡ None) → data_of bytes ≡ None
data_of_refused bytes refused =
    elim (is_utf8 bytes) as (λ b. is_utf8 bytes ≡ b → cond b (read bytes) None ≡ None)
    [ true ↦ λ e. refused (IsUtf8-from_is_utf8 bytes e) | false ↦ λ e. refl ] refl

pub data_of_read : (bytes : List ℕ) (d : Data) → IsUtf8 bytes → read bytes ≡ Some d → data_of bytes ≡ Some d
data_of_read bytes d text e = ap (λ b. cond b (read bytes) None) (is_utf8-from_IsUtf8 bytes text) ∙ e
