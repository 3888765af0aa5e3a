-- A batch is read exactly where it is the value of its edits.
use Rattle.std.proofs.Common.{◌≡◌, ℕ, List, [], ◌∷◌, map, Bool, true, false, Some, Ok, codes, refl, sym, ap, ap₂, subst, ◌∙◌}
use Rattle.std.specs.List.{AllByRecursion}
use Rattle.serde_json.specs.Data.{Data, string, array, object, Items, no_items, item, member, no_members}
use Rattle.serde_json.specs.Find.{get}
use Rattle.serde_json.specs.View.{items_of}
use Rattle.tsn_commands.specs.declared.command.Command.{Command}
use Rattle.tsn_commands.specs.declared.command.Command.TheVariants as commands
use Rattle.tsn_edit.specs.declared.Edit.{Edit}
use Rattle.tsn_edit.specs.declared.Edit.TheVariants as edits
use Rattle.tsn_edit.specs.Batches.{IsBatch}
use Rattle.tsn_types.specs.declared.keys.Key.{Key}
use Rattle.tsn_types.specs.declared.records.Record.{Record}
use Rattle.tsn_records.specs.Answers.{each, or_shape}
use Rattle.tsn_records.specs.Json.{has_members, items_at, items_list, text_at}
use Rattle.tsn_records.specs.Keys.{key_text}
use Rattle.tsn_records.specs.Ranges.{key}
use Rattle.tsn_records.specs.Shown.{whole_data, record_data}
use Rattle.tsn_records.specs.Values.{record_draft}
use Rattle.tsn_records.specs.declared.drafts.KeyDraft.{KeyDraft}
use Rattle.tsn_records.proofs.Steps.{last_step, only, steps}
use Rattle.tsn_wire.specs.Batches.{batch_of, is_batch_draft}
use Rattle.tsn_wire.specs.Commands.{key_at, removed_key, edited_shape, edit_shape, batch_shape, line_shape}
use Rattle.tsn_wire.specs.Ranges.{edit_of_draft, command_of_draft}
use Rattle.tsn_wire.specs.Rows.{members_of}
use Rattle.tsn_wire.specs.Spelled.{edit_value as edit_value_of}
use Rattle.tsn_wire.specs.Values.{put_data, removal_data, edit_value, batch_data, value_of, EditMayBeAsked, IsSession, MayBeAsked, IsNoPort}
use Rattle.tsn_wire.specs.declared.drafts.CommandDraft.{CommandDraft}
use Rattle.tsn_wire.specs.declared.drafts.CommandDraft.TheVariants as wanted
use Rattle.tsn_wire.specs.declared.drafts.EditDraft.{EditDraft}
use Rattle.tsn_wire.specs.declared.drafts.EditDraft.TheVariants as drafts
use Rattle.tsn_wire.specs.declared.drafts.LineDraft.TheVariants.{Session}
use Rattle.tsn_wire.specs.declared.words.Put.{Put}
use Rattle.tsn_wire.specs.declared.words.Put.TheVariants as puts
use Rattle.tsn_wire.specs.declared.words.Word.{Word}
use Rattle.tsn_wire.specs.declared.words.Word.TheVariants as words
use Rattle.tsn_wire.specs.Words.{put_edit, put_word, word_of, word_text}
use Rattle.tsn_wire.proofs.Drafting.{batch_passes, tested, test_of}
use Rattle.tsn_wire.specs.Lines.{IsSoundEdit}
use Rattle.tsn_wire.proofs.Shaping.{batch_kept}
use Rattle.tsn_wire.proofs.FromShapes.{items_there, text_there, value_there}
use Rattle.tsn_wire.proofs.Known.{word_known, removable_known, key_there, record_same, IsKeyed, put_known, put_back, key_draft, key_back, instance, read_back}
use Rattle.tsn_wire.proofs.Objects.{IsOrdered, ItemsAreOrdered, inner_ordered, whole_object}

-- ---- an edit that is read is the value

-- a value that asks for an edit
abbrev IsEdit : Data → Edit → Type 0
IsEdit d x = (d ≡ edit_value x) × EditMayBeAsked x

put_is : (word : List ℕ) (d : Data) (k : Key) (r : Record) → IsOrdered d → get (codes "do") d ≡ Some (string word) → IsKeyed 3 d k r
    → d ≡ put_data word (key_text k) (record_data r)
put_is word d k r ordered there held =
    whole_object 2 d (members_of (put_data word (key_text k) (record_data r))) held.unit ordered held.count refl (refl, (refl, tt))
    (there, (held.key_is, (held.record_is, tt)))

remove_known : (d : Data) (p : KeyDraft) (x : Edit) → IsOrdered d → get (codes "do") d ≡ Some (string (codes "remove"))
    → removed_key 2 d ≡ Ok p → edit_of_draft (drafts.Remove p) ≡ Ok x → IsEdit d x
unfolding removed_key
remove_known d p x ordered there shape range =
    steps (has_members 2 d) _ p shape (λ u count_is count_next.
    steps (key_at d) _ p count_next (λ q q_is q_next.
    let may = removable_known q p q.kind q_next in
    last_step (key p) x (IsEdit d) edits.Remove range (λ k k_is.
    let named = key_there d q k q_is (ap key may.0 ∙ k_is) in (
      whole_object 1 d (members_of (removal_data (key_text k))) u ordered count_is refl (refl, tt) (there, (named.0, tt)),
      (named.2, subst IsNoPort named.1 may.1),
    ))))

put_kept : (put : Put) (d : Data) (k : Key) (r : Record) → IsOrdered d → get (codes "do") d ≡ Some (string (put_word put))
    → IsKeyed 3 d k r → IsEdit d (put_edit put k r)
put_kept puts.Create d k r ordered there held = (put_is (codes "create") d k r ordered there held, held.fits)
put_kept puts.Replace d k r ordered there held = (put_is (codes "replace") d k r ordered there held, held.fits)

edited_known : (word : Word) (d : Data) (e : EditDraft) (x : Edit) → IsOrdered d → get (codes "do") d ≡ Some (string (word_text word))
    → edited_shape 0 word d ≡ Ok e → edit_of_draft e ≡ Ok x → IsEdit d x
edited_known (words.Put put) d e x ordered there shape range =
    put_known 3 (drafts.Put put) (put_edit put) edit_of_draft d e x (IsEdit d) ordered (λ _ _. refl) shape range (λ k r held.
    put_kept put d k r ordered there held)
edited_known words.Remove d e x ordered there shape range =
    steps (removed_key 2 d) _ e shape (λ p p_is p_next.
    let whole = drafts.Remove p in
    remove_known d p x ordered there p_is (ap edit_of_draft (only (Ok whole) whole e refl p_next) ∙ range))
edited_known word d e x ordered there shape range = cc

edit_known : (d : Data) (e : EditDraft) (x : Edit) → IsOrdered d → edit_shape d ≡ Ok e → edit_of_draft e ≡ Ok x → IsEdit d x
unfolding edit_shape
edit_known d e x ordered shape range =
    steps (text_at (codes "do") d) _ e shape (λ text text_is text_next.
    steps (or_shape (word_of text)) _ e text_next (λ word word_is word_next.
    let named = word_known text word (value_there (word_of text) word word_is) in
    edited_known word d e x ordered (text_there _ text text_is ∙ ap (λ l. Some (string l)) named) word_next range))

-- the items are the values of these edits
abbrev AreEditsOf : Items → List Edit → Type 0
AreEditsOf ds b = (ds ≡ items_of (map edit_value b)) × AllByRecursion EditMayBeAsked b

edits_known : (ds : Items) (es : List EditDraft) (b : List Edit) → ItemsAreOrdered ds → each edit_shape (items_list ds) ≡ Ok es
    → each edit_of_draft es ≡ Ok b → AreEditsOf ds b
edits_known no_items es b ordered shape range =
    let none : Ok [] ≡ Ok b = ap (each edit_of_draft) (only (Ok []) [] es refl shape) ∙ range in
    subst (AreEditsOf no_items) (only (Ok []) [] b refl none) (refl, tt)
edits_known (item d ds) es b ordered shape range =
    steps (edit_shape d) _ es shape (λ e e_is e_next.
    steps (each edit_shape (items_list ds)) _ es e_next (λ rest rest_is rest_next.
    let ranges : each edit_of_draft (e ∷ rest) ≡ Ok b = ap (each edit_of_draft) (only (Ok (e ∷ rest)) (e ∷ rest) es refl rest_next)
    ∙ range in
    steps (edit_of_draft e) _ b ranges (λ x x_is x_next.
    steps (each edit_of_draft rest) _ b x_next (λ xs xs_is xs_next.
    let first = edit_known d e x ordered.0 e_is x_is in
    let others = edits_known ds rest xs ordered.1 rest_is xs_is in
    subst (AreEditsOf (item d ds)) (only (Ok (x ∷ xs)) (x ∷ xs) b refl xs_next) (ap₂ item first.0 others.0, (first.1, others.1))))))

kept_at : (t : Bool) (es batch : List EditDraft) → is_batch_draft es ≡ t → batch_of es ≡ Ok batch
    → (es ≡ batch) × (is_batch_draft es ≡ true)
kept_at true es batch e h = (only (Ok es) es batch refl (sym (rw e refl) ∙ h), e)
kept_at false es batch e h = let never = (rw e at h) in cc

pub batch_known : (s : ℕ) (d : Data) (draft : CommandDraft) (c : Command) → IsOrdered d → get (codes "do") d ≡ Some (string (codes "batch"))
    → get (codes "s") d ≡ Some (whole_data s) → IsSession s → batch_shape d ≡ Ok draft → command_of_draft draft ≡ Ok c
    → MayBeAsked s c × (d ≡ value_of s c)
unfolding batch_shape
batch_known s d draft c ordered there session_there session shape range =
    steps (has_members 3 d) _ draft shape (λ u count_is count_next.
    steps (items_at (codes "edits") d) _ draft count_next (λ items items_is items_next.
    steps (each edit_shape (items_list items)) _ draft items_next (λ es es_is es_next.
    steps (batch_of es) _ draft es_next (λ batch batch_is batch_next.
    let whole = wanted.Batch batch in
    let kept = kept_at (is_batch_draft es) es batch refl batch_is in
    steps (each edit_of_draft batch) _ c (ap command_of_draft (only (Ok whole) whole draft refl batch_next) ∙ range) (λ b b_is b_next.
    let ranges : each edit_of_draft es ≡ Ok b = ap (each edit_of_draft) kept.0 ∙ b_is in
    let held = items_there (get (codes "edits") d) items items_is in
    let known = edits_known items es b (inner_ordered (codes "edits") d (array items) ordered held) es_is ranges in
    let found = commands.Batch b in
    subst (λ x. MayBeAsked s x × (d ≡ value_of s x)) (only (Ok found) found c refl b_next) (
      (session, tested b (sym (batch_passes es b ranges) ∙ kept.1), known.1),
      whole_object 2 d (members_of (batch_data s b)) u ordered count_is refl (refl, (refl, tt))
          (there, (held ∙ ap (λ l. Some (array l)) known.0, (session_there, tt))),
    ))))))

-- ---- a value is read

abbrev pub edit_draft : Edit → EditDraft
edit_draft (edits.Create k r) = drafts.Put puts.Create (key_draft k) (record_draft r)
edit_draft (edits.Replace k r) = drafts.Put puts.Replace (key_draft k) (record_draft r)
edit_draft (edits.Remove k) = drafts.Remove (key_draft k)

-- the value of the draft is that of the edit
value_drafted : (x : Edit) → edit_value_of (edit_draft x) ≡ edit_value x
value_drafted (edits.Create k r) = ap (λ d. put_data (codes "create") (key_text k) d) (record_same r)
value_drafted (edits.Replace k r) = ap (λ d. put_data (codes "replace") (key_text k) d) (record_same r)
value_drafted (edits.Remove k) = refl

values_drafted : (b : List Edit) → items_of (map edit_value_of (map edit_draft b)) ≡ items_of (map edit_value b)
values_drafted [] = refl
values_drafted (x ∷ b) = ap₂ item (value_drafted x) (values_drafted b)

drafts_kept : (b : List Edit) → AllByRecursion EditMayBeAsked b → AllByRecursion IsSoundEdit (map edit_draft b)
drafts_kept [] may = tt
drafts_kept (edits.Create k r ∷ b) may = let back = read_back k r may.0 in ((instance k back.in_range, back.of), drafts_kept b may.1)
drafts_kept (edits.Replace k r ∷ b) may = let back = read_back k r may.0 in ((instance k back.in_range, back.of), drafts_kept b may.1)
drafts_kept (edits.Remove k ∷ b) may = ((instance k may.0.0, may.0.1), drafts_kept b may.1)

edit_back : (x : Edit) → EditMayBeAsked x → edit_of_draft (edit_draft x) ≡ Ok x
edit_back (edits.Create k r) may = put_back edits.Create k r may
edit_back (edits.Replace k r) may = put_back edits.Replace k r may
edit_back (edits.Remove k) may = rw (key_back k may.0) refl

pub edits_back : (b : List Edit) → AllByRecursion EditMayBeAsked b → each edit_of_draft (map edit_draft b) ≡ Ok b
edits_back [] may = refl
edits_back (x ∷ b) may = rw (edit_back x may.0, edits_back b may.1) refl

pub batch_shaped : (s : ℕ) (b : List Edit) → IsBatch b → AllByRecursion EditMayBeAsked b
    → line_shape (batch_data s b) ≡ Ok (Session s (wanted.Batch (map edit_draft b)))
batch_shaped s b batch may =
    let passes : is_batch_draft (map edit_draft b) ≡ true = batch_passes (map edit_draft b) b (edits_back b may) ∙ test_of b batch in
    ap (λ ds. line_shape (object (member (codes "do") (string (codes "batch"))
    (member (codes "edits") (array ds) (member (codes "s") (whole_data s) no_members))))) (sym (values_drafted b))
    ∙ batch_kept s (map edit_draft b) passes (drafts_kept b may)
