-- A line in the service's compact spelling is read as the draft that it spells.
use Rattle.std.proofs.Common.{◌≡◌, ℕ, ◌++◌, List, [], ◌∷◌, Some, inl, inr, Ok, codes, decimal, refl, sym, ap, ◌∙◌, arith, append_assoc}
use Rattle.std.specs.List.{AllByRecursion}
use Rattle.json.specs.Print.{escape, escape_byte}
use Rattle.serde_json.specs.Data.{Data, object}
use Rattle.serde_json.specs.Written.{compact_text}
use Rattle.tsn_types.specs.declared.keys.Kind.{Kind}
use Rattle.tsn_types.specs.declared.keys.Kind.TheVariants as kinds
use Rattle.tsn_types.specs.Numbers.{IsInstanceId}
use Rattle.tsn_records.specs.Answers.{or_syntax}
use Rattle.tsn_records.specs.Keys.{kind_text, spelled_key}
use Rattle.tsn_records.specs.Shown.{draft_data}
use Rattle.tsn_wire.specs.Commands.{line_shape}
use Rattle.tsn_wire.specs.Reading.{data_of, line_of_draft, reading}
use Rattle.tsn_wire.specs.Lines.{command_members, IsOf, IsSound, IsSoundEdit}
use Rattle.tsn_wire.specs.Spelled.{IsSmall, EditIsSmall, batch_value, drafted_text, RecordIsSmall, Spells}
use Rattle.tsn_wire.specs.Values.{bare_data, batched_data, edit_data, keyed_data, listed_data}
use Rattle.tsn_wire.specs.SpelledFront.{SpellsFront, SpellsStates}
use Rattle.tsn_records.specs.declared.drafts.KeyDraft.{KeyDraft}
use Rattle.tsn_records.specs.declared.drafts.RecordDraft.{RecordDraft}
use Rattle.tsn_records.specs.declared.drafts.RecordDraft.TheVariants as records
use Rattle.tsn_wire.specs.declared.drafts.CommandDraft.{CommandDraft}
use Rattle.tsn_wire.specs.declared.drafts.CommandDraft.TheVariants.{Edit, Batch, States, Look, List as ListKind, Since, Bare}
use Rattle.tsn_wire.specs.declared.drafts.EditDraft.{EditDraft}
use Rattle.tsn_wire.specs.declared.drafts.EditDraft.TheVariants as edits
use Rattle.tsn_wire.specs.declared.drafts.LineDraft.{LineDraft}
use Rattle.tsn_wire.specs.declared.drafts.LineDraft.TheVariants.{Session}
use Rattle.tsn_wire.specs.declared.words.Bare.{Bare as BareWord}
use Rattle.tsn_wire.specs.declared.words.Bare.TheVariants as bares
use Rattle.tsn_wire.specs.declared.words.Look.{Look as LookWord}
use Rattle.tsn_wire.specs.declared.words.Look.TheVariants as looks
use Rattle.tsn_wire.specs.declared.words.Put.{Put as PutWord}
use Rattle.tsn_wire.specs.declared.words.Put.TheVariants as puts
use Rattle.tsn_wire.specs.declared.words.Word.TheVariants as words
use Rattle.tsn_wire.specs.Words.{bare_word, look_word, put_word}
use Rattle.tsn_wire.proofs.CompactValues.{IsSpelled, asked, bare, batched, edited, keyed, listed, printed_reads, states_asked}
use Rattle.tsn_wire.proofs.OfWords.{of_word}
use Rattle.tsn_wire.proofs.Shaping.{batch_kept, shaped}
use Rattle.tsn_records.proofs.Escaping.{escape_key}
use Rattle.tsn_records.proofs.Steps.{then}

pub reading_of : (line : List ℕ) (d : Data) (draft : LineDraft) → data_of line ≡ Some d → line_shape d ≡ Ok draft
    → reading line ≡ line_of_draft draft
reading_of line d draft found shaped =
    then (or_syntax (data_of line)) _ d _ (ap or_syntax found) (then (line_shape d) _ draft _ shaped refl)

-- what comes behind the command
abbrev tail : ℕ → List ℕ
tail s = codes ",\"s\":" ++ (decimal s ++ codes "}")

-- a line that is the text of a sound command is read as the command
pub value_says : (line : List ℕ) (s : ℕ) (command : CommandDraft) → IsSound command → IsSpelled (object (command_members s command))
    → line ≡ compact_text (object (command_members s command)) → reading line ≡ line_of_draft (Session s command)
value_says line s command sound spelled is =
    reading_of line (object (command_members s command)) (Session s command) (printed_reads line _ spelled is) (shaped s command sound)

-- the same, with what comes behind the front of most commands
word_says : (line text told : List ℕ) (s : ℕ) (command : CommandDraft) → IsSound command → IsSpelled (object (command_members s command))
    → line ≡ codes "{\"do\":\"" ++ text → text ≡ told → codes "{\"do\":\"" ++ told ≡ compact_text (object (command_members s command))
    → reading line ≡ line_of_draft (Session s command)
word_says line text told s command sound spelled first is whole_text =
    value_says line s command sound spelled (first ∙ ap (λ l. codes "{\"do\":\"" ++ l) is ∙ whole_text)

-- a key in quotes, between what stands before it and behind it
pub quoted_key : (front rest : List ℕ) (k : Kind) (n : ℕ) → IsInstanceId n
    → front ++ (spelled_key k n ++ (codes "\"" ++ rest)) ≡ front ++ ((escape (spelled_key k n) ++ codes "\"") ++ rest)
quoted_key front rest k n small =
    sym (ap (λ l. front ++ ((l ++ codes "\"") ++ rest)) (escape_key k n (omega arith))
    ∙ ap (λ l. front ++ l) (append_assoc (spelled_key k n) (codes "\"") rest))

-- of the record's kind
is_of : (k : Kind) (v : RecordDraft) → RecordIsSmall k v → IsOf k v
is_of kinds.Port (records.Port v) small = tt
is_of kinds.Filter (records.Filter v) small = tt
is_of kinds.Gate (records.Gate v) small = tt
is_of kinds.Meter (records.Meter v) small = tt
is_of k v small = absurd small

-- ---- batches

all_kept : (es : List EditDraft) → AllByRecursion EditIsSmall es → AllByRecursion IsSoundEdit es
all_kept [] all = tt
all_kept (edits.Put put key v ∷ es) all = ((all.0.0, is_of key.kind v all.0.1), all_kept es all.1)
all_kept (edits.Remove key ∷ es) all = (all.0, all_kept es all.1)

-- ---- looks

listed_text : (s : ℕ) (k : Kind)
    → codes "{\"do\":\"list\",\"kind\":\"" ++ (kind_text k ++ (codes "\"" ++ tail s)) ≡ compact_text (listed_data s (kind_text k))
unfolding escape_byte
listed_text s kinds.Port = refl
listed_text s kinds.Filter = refl
listed_text s kinds.Gate = refl
listed_text s kinds.Meter = refl

states_says : (line text rest : List ℕ) (command : CommandDraft) (s : ℕ) → line ≡ codes "{\"at\":" ++ text → SpellsStates text command rest
    → IsSmall s → rest ≡ tail s → reading line ≡ line_of_draft (Session s command)
unfolding escape_byte
states_says line text rest command s first (key, at, asks, small_at, k, has, is) small last =
    value_says line s (States key at) (k, has) (states_asked s key at small small_at)
    (first ∙ ap (λ l. codes "{\"at\":" ++ l)
    (is ∙ ap (λ l. decimal at ++ (codes ",\"do\":\"states\",\"key\":\"" ++ (spelled_key key.kind key.number ++ (codes "\"" ++ l)))) last
    ∙ ap (λ l. decimal at ++ l) (quoted_key (codes ",\"do\":\"states\",\"key\":\"") (tail s) key.kind key.number k)))
    ∙ ap (λ (c : CommandDraft). line_of_draft (Session s c)) (sym asks)

-- ---- the line of any of them

-- the text of a key and its record, behind which that comes
abbrev with_record : KeyDraft → RecordDraft → List ℕ → List ℕ
with_record key v l = spelled_key key.kind key.number ++ (codes "\",\"record\":" ++ (compact_text (draft_data v) ++ l))

-- what stands behind `{"do":"` is the rest of the text of the value
put_quoted : (put : PutWord) (key : KeyDraft) (v : RecordDraft) (s : ℕ) → IsInstanceId key.number
    → codes "{\"do\":\"" ++ (put_word put ++ (codes "\",\"key\":\"" ++ with_record key v (tail s)))
    ≡ compact_text (edit_data (put_word put) s (drafted_text key) (draft_data v))
unfolding escape_byte
put_quoted puts.Create key v s k =
    quoted_key (codes "{\"do\":\"create\",\"key\":\"") (codes ",\"record\":" ++ (compact_text (draft_data v) ++ tail s))
    key.kind key.number k
put_quoted puts.Replace key v s k =
    quoted_key (codes "{\"do\":\"replace\",\"key\":\"") (codes ",\"record\":" ++ (compact_text (draft_data v) ++ tail s))
    key.kind key.number k

look_quoted : (look : LookWord) (key : KeyDraft) (s : ℕ) → IsInstanceId key.number
    → codes "{\"do\":\"" ++ (look_word look ++ (codes "\",\"key\":\"" ++ (spelled_key key.kind key.number ++ (codes "\"" ++ tail s))))
    ≡ compact_text (keyed_data (look_word look) s (drafted_text key))
unfolding escape_byte
look_quoted looks.Counters key s k = quoted_key (codes "{\"do\":\"counters\",\"key\":\"") (tail s) key.kind key.number k
look_quoted looks.Show key s k = quoted_key (codes "{\"do\":\"show\",\"key\":\"") (tail s) key.kind key.number k

bare_quoted : (b : BareWord) (s : ℕ) → codes "{\"do\":\"" ++ (bare_word b ++ (codes "\"" ++ tail s)) ≡ compact_text (bare_data (bare_word b) s)
unfolding escape_byte
bare_quoted bares.Undo s = refl
bare_quoted b s = refl

spelled_says : (line text rest : List ℕ) (command : CommandDraft) (s : ℕ) → line ≡ codes "{\"do\":\"" ++ text → Spells text command rest
    → IsSmall s → rest ≡ tail s → reading line ≡ line_of_draft (Session s command)
unfolding escape_byte
spelled_says line text rest (Edit (edits.Put put key v)) s first (behind, word, (k, v_small, is)) small last =
    word_says line text _ s (Edit (edits.Put put key v)) (k, is_of key.kind v v_small)
    (edited (put_word put) s key v (of_word (words.Put put)).plain small v_small) first
    (word ∙ ap (λ l. put_word put ++ (codes "\",\"key\":\"" ++ l)) (is ∙ ap (with_record key v) last)) (put_quoted put key v s k)
spelled_says line text rest (Edit (edits.Remove key)) s first (k, other, is) small last =
    word_says line text _ s (Edit (edits.Remove key)) (k, other) (keyed (codes "remove") s key refl small) first
    (is ∙ ap (λ l. codes "remove\",\"key\":\"" ++ (spelled_key key.kind key.number ++ (codes "\"" ++ l))) last)
    (quoted_key (codes "{\"do\":\"remove\",\"key\":\"") (tail s) key.kind key.number k)
spelled_says line text rest (Batch es) s first (batch, all, is) small last =
    reading_of line (batched_data s (batch_value es)) (Session s (Batch es))
    (printed_reads line _ (batched s es small all) (first ∙ ap (λ l. codes "{\"do\":\"" ++ l)
    (is ∙ ap (λ l. codes "batch\",\"edits\":" ++ (compact_text (batch_value es) ++ l)) last)))
    (batch_kept s es batch (all_kept es all))
spelled_says line text rest (Bare b) s first is small last =
    word_says line text _ s (Bare b) tt (bare (bare_word b) s (of_word (words.Bare b)).plain small) first
    (is ∙ ap (λ l. bare_word b ++ (codes "\"" ++ l)) last) (bare_quoted b s)
spelled_says line text rest (Look look key) s first (k, is) small last =
    word_says line text _ s (Look look key) k (keyed (look_word look) s key (of_word (words.Look look)).plain small) first
    (is ∙ ap (λ l. look_word look ++ (codes "\",\"key\":\"" ++ (spelled_key key.kind key.number ++ (codes "\"" ++ l)))) last)
    (look_quoted look key s k)
spelled_says line text rest (ListKind k) s first is small last =
    word_says line text _ s (ListKind k) tt (listed s k small) first
    (is ∙ ap (λ l. codes "list\",\"kind\":\"" ++ (kind_text k ++ (codes "\"" ++ l))) last) (listed_text s k)
spelled_says line text rest command s first never small last = absurd never

pub front_says : (line rest : List ℕ) (command : CommandDraft) (s : ℕ) → SpellsFront line command rest → IsSmall s → rest ≡ tail s
    → reading line ≡ line_of_draft (Session s command)
unfolding escape_byte
front_says line rest command s (inl (after, asks, small_after, is)) small last =
    value_says line s (Since after) tt (asked s after small small_after)
    (is ∙ ap (λ l. codes "{\"after\":" ++ (decimal after ++ (codes ",\"do\":\"since\"" ++ l))) last)
    ∙ ap (λ (c : CommandDraft). line_of_draft (Session s c)) (sym asks)
front_says line rest command s (inr (inl (text, first, spells))) small last =
    states_says line text rest command s first spells small last
front_says line rest command s (inr (inr (text, first, spells))) small last =
    spelled_says line text rest command s first spells small last
