-- The value of what a line in the service's compact spelling asks for: its numbers fit 64 bits, and its texts are plain ASCII. So its text
-- is UTF-8, and is read as the value.
use Rattle.std.proofs.Common.{◌≡◌, ℕ, suc, List, cond, Option, Some, None, true, IfSome, refl, ap, ◌∙◌, arith}
use Rattle.std.specs.List.{AllByRecursion}
use Rattle.serde_json.specs.Data.{Data}
use Rattle.serde_json.specs.Read.{read}
use Rattle.serde_json.specs.Written.{compact_text}
use Rattle.tsn_chain.specs.declared.frame.Frame.{Frame}
use Rattle.tsn_types.specs.declared.keys.Kind.{Kind}
use Rattle.tsn_types.specs.declared.keys.Kind.TheVariants as kinds
use Rattle.tsn_records.proofs.Pairs.{◌&◌}
use Rattle.tsn_records.specs.Keys.{kind_text}
use Rattle.tsn_records.specs.Shown.{draft_data, gate_entry_value, or_null, port_entry_value}
use Rattle.tsn_records.specs.declared.drafts.PortEntryDraft.{PortEntryDraft}
use Rattle.tsn_records.specs.declared.drafts.GateEntryDraft.{GateEntryDraft}
use Rattle.tsn_records.specs.declared.drafts.PortDraft.{PortDraft}
use Rattle.tsn_records.specs.declared.drafts.GateDraft.{GateDraft}
use Rattle.tsn_records.specs.declared.drafts.FilterDraft.{FilterDraft}
use Rattle.tsn_records.specs.declared.drafts.MeterDraft.{MeterDraft}
use Rattle.tsn_records.specs.declared.drafts.KeyDraft.{KeyDraft}
use Rattle.tsn_records.specs.declared.drafts.RecordDraft.{RecordDraft}
use Rattle.tsn_records.specs.declared.drafts.RecordDraft.TheVariants as records
use Rattle.tsn_wire.specs.Reading.{data_of}
use Rattle.tsn_wire.specs.Spelled.{IsSmall, EditIsSmall, batch_value, drafted_text, edit_value, PortEntryIsSmall, GateEntryIsSmall, PortIsSmall, GateIsSmall, FilterIsSmall, MeterIsSmall, RecordIsSmall}
use Rattle.tsn_wire.specs.Values.{asked_data, bare_data, batched_data, edit_data, frame_data, keyed_data, listed_data, states_data}
use Rattle.tsn_wire.specs.declared.drafts.EditDraft.{EditDraft}
use Rattle.tsn_wire.specs.declared.drafts.EditDraft.TheVariants as edits
use Rattle.tsn_wire.specs.declared.words.Word.TheVariants as words
use Rattle.tsn_wire.proofs.OfWords.{of_word}
use Rattle.tsn_wire.proofs.Backs.{IsPlain, items_plain, number_or_null, read_back}
use Rattle.tsn_wire.proofs.Visible.{are_plain, IsShown, items_shown, key_shown, kind_shown, or_null_shown, text_visible, visible_utf8}

-- its numbers fit, and its texts are plain
pub record IsSpelled (d : Data) : Type 0 where
  pub plain : IsPlain 6 d
  pub shown : IsShown d

-- the compact text of such a value is read as the value
pub printed_reads : (line : List ℕ) (d : Data) → IsSpelled d → line ≡ compact_text d → data_of line ≡ Some d
printed_reads line d spelled is =
    ap data_of is
    ∙ ap (λ b. cond b (read (compact_text d)) None) (visible_utf8 (compact_text d) (text_visible d spelled.shown))
    ∙ read_back 6 d (omega arith) spelled.plain

-- ---- records

small_or_null : (n : ℕ) (o : Option ℕ) → IfSome o IsSmall → IsPlain n (or_null o)
small_or_null n o small = number_or_null n IsSmall o (λ a h. h) small

port_entry_plain : (n : ℕ) (e : PortEntryDraft) → PortEntryIsSmall e → IsPlain (suc n) (port_entry_value e)
port_entry_plain n e small = (small.gates, (small.interval, tt))

gate_entry_plain : (n : ℕ) (e : GateEntryDraft) → GateEntryIsSmall e → IsPlain (suc n) (gate_entry_value e)
gate_entry_plain n e small = tt & small_or_null n e.ipv small.ipv & small.interval & small_or_null n e.octets small.octets & tt

port_plain : (n : ℕ) (r : PortDraft) → PortIsSmall r → IsPlain (suc (suc (suc n))) (draft_data (records.Port r))
port_plain n r small =
    refl & small.admin.base & small.admin.cycle & small.admin.extension & small.gates &
    items_plain (suc n) PortEntryIsSmall port_entry_value (port_entry_plain n) r.admin.list small.admin.list & tt

filter_plain : (n : ℕ) (r : FilterDraft) → FilterIsSmall r → IsPlain (suc n) (draft_data (records.Filter r))
filter_plain n r small =
    refl & small.gate & small_or_null n r.handle small.handle & small_or_null n r.max_sdu small.max_sdu &
    small_or_null n r.meter small.meter & tt & small_or_null n r.priority small.priority & tt

gate_plain : (n : ℕ) (r : GateDraft) → GateIsSmall r → IsPlain (suc (suc (suc n))) (draft_data (records.Gate r))
gate_plain n r small =
    refl & small.admin.base & small.admin.cycle & small.admin.extension & tt & small_or_null (suc (suc n)) r.ipv small.ipv &
    items_plain (suc n) GateEntryIsSmall gate_entry_value (gate_entry_plain n) r.admin.list small.admin.list & tt & tt & tt

meter_plain : (n : ℕ) (r : MeterDraft) → MeterIsSmall r → IsPlain (suc n) (draft_data (records.Meter r))
meter_plain n r small = refl & tt & tt & small.cbs & tt & small.cir & tt & small.ebs & small.eir & tt

record_plain : (n : ℕ) (k : Kind) (r : RecordDraft) → RecordIsSmall k r → IsPlain (suc (suc (suc n))) (draft_data r)
record_plain n kinds.Port (records.Port r) small = port_plain n r small
record_plain n kinds.Filter (records.Filter r) small = filter_plain (suc (suc n)) r small
record_plain n kinds.Gate (records.Gate r) small = gate_plain n r small
record_plain n kinds.Meter (records.Meter r) small = meter_plain (suc (suc n)) r small
record_plain n k r small = absurd small

port_entry_shown : (e : PortEntryDraft) → IsShown (port_entry_value e)
port_entry_shown e = (tt, (tt, tt))

gate_entry_shown : (e : GateEntryDraft) → IsShown (gate_entry_value e)
gate_entry_shown e = (tt, (or_null_shown e.ipv, (tt, (or_null_shown e.octets, tt))))

pub draft_shown : (r : RecordDraft) → IsShown (draft_data r)
draft_shown (records.Port r) = assumption (items_shown port_entry_value port_entry_shown r.admin.list)
draft_shown (records.Filter r) =
    assumption (or_null_shown r.handle, or_null_shown r.max_sdu, or_null_shown r.meter, or_null_shown r.priority)
draft_shown (records.Gate r) = assumption (or_null_shown r.ipv, items_shown gate_entry_value gate_entry_shown r.admin.list)
draft_shown (records.Meter r) = assumption

-- ---- commands

pub edited : (word : List ℕ) (s : ℕ) (key : KeyDraft) (v : RecordDraft) → are_plain word ≡ true → IsSmall s → RecordIsSmall key.kind v
    → IsSpelled (edit_data word s (drafted_text key) (draft_data v))
edited word s key v w small of_kind = record {
  plain = (refl, (tt, (tt, (record_plain 2 key.kind v of_kind, (small, tt)))));
  shown = (refl, w, (refl, key_shown key.kind key.number, (refl, draft_shown v, (refl, tt, tt))));
}

pub keyed : (word : List ℕ) (s : ℕ) (key : KeyDraft) → are_plain word ≡ true → IsSmall s
    → IsSpelled (keyed_data word s (drafted_text key))
keyed word s key w small = record {
  plain = (refl, (tt, (tt, (small, tt))));
  shown = (refl, w, (refl, key_shown key.kind key.number, (refl, tt, tt)));
}

-- a command of its word alone
pub bare : (word : List ℕ) (s : ℕ) → are_plain word ≡ true → IsSmall s → IsSpelled (bare_data word s)
bare word s w small = record { plain = (refl, (tt, (small, tt))); shown = (refl, w, (refl, tt, tt)) }

edit_plain : (e : EditDraft) → EditIsSmall e → IsPlain 4 (edit_value e)
edit_plain (edits.Put put key v) small = (refl, (tt, (tt, (record_plain 0 key.kind v small.1, tt))))
edit_plain (edits.Remove key) small = (refl, (tt, (tt, tt)))

edit_shown : (e : EditDraft) → IsShown (edit_value e)
edit_shown (edits.Put put key v) = (refl, (of_word (words.Put put)).plain, (refl, key_shown key.kind key.number, (refl, draft_shown v, tt)))
edit_shown (edits.Remove key) = (refl, refl, (refl, key_shown key.kind key.number, tt))

pub batched : (s : ℕ) (es : List EditDraft) → IsSmall s → AllByRecursion EditIsSmall es → IsSpelled (batched_data s (batch_value es))
batched s es small all = record {
  plain = (refl, (tt, (items_plain 4 EditIsSmall edit_value edit_plain es all, (small, tt))));
  shown = (refl, refl, (refl, items_shown edit_value edit_shown es, (refl, tt, tt)));
}

pub listed : (s : ℕ) (k : Kind) → IsSmall s → IsSpelled (listed_data s (kind_text k))
listed s k small = record { plain = (refl, (tt, (tt, (small, tt)))); shown = (refl, refl, (refl, kind_shown k, (refl, tt, tt))) }

pub asked : (s after : ℕ) → IsSmall s → IsSmall after → IsSpelled (asked_data s after)
asked s after small small_after =
    record { plain = (refl, (small_after, (tt, (small, tt)))); shown = (refl, tt, (refl, refl, (refl, tt, tt))) }

-- a look at states
pub states_asked : (s : ℕ) (key : KeyDraft) (at : ℕ) → IsSmall s → IsSmall at → IsSpelled (states_data s (drafted_text key) at)
states_asked s key at small small_at = record {
  plain = (refl, (small_at, (tt, (tt, (small, tt)))));
  shown = (refl, tt, (refl, refl, (refl, key_shown key.kind key.number, (refl, tt, tt))));
}

pub framed : (s : ℕ) (f : Frame) (now : ℕ) → IsSmall f.handle → IsSmall now → IsSmall f.octets → IsSmall f.priority → IsSmall s
    → IsSpelled (frame_data s f now)
framed s f now handle instant octets priority small = record {
  plain = refl & tt & handle & instant & octets & priority & small & tt & tt;
  shown = (refl, refl, (refl, tt, (refl, tt, (refl, tt, (refl, tt, (refl, tt, (refl, tt, tt)))))));
}
