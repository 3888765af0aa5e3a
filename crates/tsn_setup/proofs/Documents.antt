-- What the bytes of a document are read as.
use Rattle.std.proofs.Common.{◌≡◌, ℕ, List, true, false, cond, Some, None, option_map, refl, ap, ◌∙◌}
use Rattle.std.specs.Str.{IsUtf8, is_utf8}
use Rattle.std.proofs.lemmas.Str.{is_utf8-from_IsUtf8, IsUtf8-from_is_utf8}
use Rattle.toml.specs.Data.{Members, table}
use Rattle.toml.specs.Parse.{parse_document}
use Rattle.tsn_setup.specs.Setups.{document_of}

pub document_refused : (text : List ℕ) → (IsUtf8 text → parse_document text ≡ None) → document_of text ≡ None
document_refused text refused =
    elim (is_utf8 text) as (λ b. is_utf8 text ≡ b → cond b (option_map table (parse_document text)) None ≡ None)
    [ true ↦ λ e. ap (option_map table) (refused (IsUtf8-from_is_utf8 text e)) | false ↦ λ e. refl ] refl

pub document_read : (text : List ℕ) (ms : Members) → IsUtf8 text → parse_document text ≡ Some ms → document_of text ≡ Some (table ms)
document_read text ms utf8 e =
    ap (λ b. cond b (option_map table (parse_document text)) None) (is_utf8-from_IsUtf8 text utf8) ∙ ap (option_map table) e
