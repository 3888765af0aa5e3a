-- The text of a batch's edits, piece by piece.
use Rattle.std.proofs.Common.{◌≡◌, ℕ, ◌++◌, List, codes, ap, ◌∙◌, append_assoc}
use Rattle.json.specs.Print.{escape, escape_byte}
use Rattle.serde_json.specs.Written.{compact_text}
use Rattle.tsn_records.specs.Keys.{spelled_key}
use Rattle.tsn_records.specs.declared.drafts.KeyDraft.{KeyDraft}
use Rattle.tsn_records.specs.declared.drafts.RecordDraft.{RecordDraft}
use Rattle.tsn_wire.specs.Spelled.{SpellsEdit, SpellsEdited, SpellsRecord}
use Rattle.tsn_records.specs.Shown.{draft_data}
use Rattle.tsn_wire.specs.declared.drafts.EditDraft.TheVariants as drafts
use Rattle.tsn_wire.specs.declared.drafts.EditDraft.{EditDraft}
use Rattle.tsn_wire.specs.declared.words.Put.TheVariants as puts
use Rattle.tsn_wire.proofs.CompactSpelling.{quoted_key}

-- the braces round a key and a record, and what comes behind them
put_of : (front key value rest : List ℕ)
    → front ++ ((key ++ codes "\"") ++ (codes ",\"record\":" ++ (value ++ (codes "}" ++ rest))))
    ≡ (front ++ ((key ++ codes "\"") ++ (codes ",\"record\":" ++ (value ++ codes "}")))) ++ rest
put_of front key value rest = simp append_assoc

removal_of : (front key rest : List ℕ)
    → front ++ ((key ++ codes "\"") ++ (codes "}" ++ rest)) ≡ (front ++ ((key ++ codes "\"") ++ codes "}")) ++ rest
removal_of front key rest = simp append_assoc

put_text : (word : List ℕ) (key : KeyDraft) (v : RecordDraft) (t0 t1 t2 t3 t4 : List ℕ) → t0 ≡ codes "{\"do\":\"" ++ t1 → t1 ≡ word ++ t2
    → SpellsRecord t2 key v t3 → t3 ≡ codes "}" ++ t4
    → t0 ≡ ((codes "{\"do\":\"" ++ word) ++ ((escape (spelled_key key.kind key.number) ++ codes "\"")
    ++ (codes ",\"record\":" ++ (compact_text (draft_data v) ++ codes "}")))) ++ t4
put_text word key v t0 t1 t2 t3 t4 e0 e1 (k, small, is) e3 =
    let front = codes "{\"do\":\"" ++ word in
    e0 ∙ ap (λ l. codes "{\"do\":\"" ++ l) e1 ∙ ap (λ l. front ++ l)
    (is ∙ ap (λ l. spelled_key key.kind key.number ++ (codes "\",\"record\":" ++ (compact_text (draft_data v) ++ l))) e3)
    ∙ quoted_key front (codes ",\"record\":" ++ (compact_text (draft_data v) ++ (codes "}" ++ t4))) key.kind key.number k
    ∙ put_of front (escape (spelled_key key.kind key.number)) (compact_text (draft_data v)) t4

pub edit_spelled : (e : EditDraft) (t0 t1 t2 t3 : List ℕ) → t0 ≡ codes "{\"do\":\"" ++ t1 → SpellsEdited t1 e t2 → t2 ≡ codes "}" ++ t3
    → SpellsEdit t0 e t3
unfolding escape_byte
edit_spelled (drafts.Put puts.Create key v) t0 t1 t2 t3 e0 (behind, e1, spells) e2 =
    ((spells.0, spells.1), put_text (codes "create\",\"key\":\"") key v t0 t1 behind t2 t3 e0 e1 spells e2)
edit_spelled (drafts.Put puts.Replace key v) t0 t1 t2 t3 e0 (behind, e1, spells) e2 =
    ((spells.0, spells.1), put_text (codes "replace\",\"key\":\"") key v t0 t1 behind t2 t3 e0 e1 spells e2)
edit_spelled (drafts.Remove key) t0 t1 t2 t3 e0 (k, other, e1) e2 = (
  (k, other),
  e0 ∙ ap (λ l. codes "{\"do\":\"" ++ l)
      (e1 ∙ ap (λ l. codes "remove\",\"key\":\"" ++ (spelled_key key.kind key.number ++ (codes "\"" ++ l))) e2)
      ∙ quoted_key (codes "{\"do\":\"remove\",\"key\":\"") (codes "}" ++ t3) key.kind key.number k
      ∙ removal_of (codes "{\"do\":\"remove\",\"key\":\"") (escape (spelled_key key.kind key.number)) t3,
)
