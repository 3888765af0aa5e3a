-- A line is accepted exactly where it is the value of a command.
use Rattle.std.proofs.Common.{◌≡◌, ℕ, ◌≤◌, List, map, Bool, true, false, cond, Some, None, Result, Ok, Err, codes, refl, sym, ap, subst, ◌∙◌}
use Rattle.serde_json.specs.Data.{Data, boolean, object, string}
use Rattle.serde_json.specs.Find.{get}
use Rattle.tsn_commands.specs.declared.command.Command.{Command}
use Rattle.tsn_commands.specs.declared.command.Command.TheVariants as commands
use Rattle.tsn_commands.specs.Commands.{most_sessions, act_command}
use Rattle.tsn_chain.specs.declared.frame.Frame.{Frame}
use Rattle.tsn_edit.specs.declared.Edit.{Edit}
use Rattle.tsn_edit.specs.declared.Edit.TheVariants as edits
use Rattle.tsn_types.specs.declared.keys.Key.{Key}
use Rattle.tsn_types.specs.declared.keys.Kind.{Kind}
use Rattle.tsn_types.specs.declared.keys.Kind.TheVariants as kinds
use Rattle.tsn_types.specs.declared.records.Record.{Record}
use Rattle.tsn_types.specs.declared.refusals.Field.{Field}
use Rattle.tsn_types.specs.declared.refusals.Field.TheVariants as fields
use Rattle.tsn_types.specs.InRange.{KeyedInRange}
use Rattle.tsn_types.specs.Names.{is_name}
use Rattle.tsn_types.specs.Keys.{kind}
use Rattle.tsn_types.specs.Numbers.{IsHandle, IsPriority, greatest_handle, greatest_instant, greatest_priority}
use Rattle.tsn_records.specs.Answers.{◌>>=◌, or_shape, or_syntax}
use Rattle.tsn_wire.specs.Commands.{bare_or_named, key_at, listed, name_draft, named_shape, listed_at, removed_key, edited_shape, batch_shape, frame_members, frame_shape, command_shape, worded_shape, line_shape}
use Rattle.tsn_records.specs.Json.{flag_at, has_members, number_at, text_at}
use Rattle.tsn_records.specs.Keys.{kind_of, key_text, kind_text}
use Rattle.tsn_records.specs.Ranges.{within, key}
use Rattle.tsn_wire.specs.Ranges.{greatest_after, longest_frame, frame_of_draft, edit_of_draft, command_of_draft}
use Rattle.tsn_wire.specs.Rows.{members_of}
use Rattle.tsn_wire.specs.Reading.{data_of, line_of_draft, name_of_draft, reading, line_of}
use Rattle.tsn_records.specs.Shown.{record_data, whole_data}
use Rattle.tsn_wire.specs.Lines.{command_members, IsOf as IsOfKind, IsSound}
use Rattle.tsn_wire.specs.Spelled.{IsKey}
use Rattle.tsn_wire.specs.Values.{act_data, asked_data, bare_data, frame_data, keyed_data, edit_data, listed_data, hello_data, settle_data, states_data, value_of, KeyInRange, MayHaveList, ListInRange, FrameInRange, IsSession, MayBeAsked, AcceptsValues, IsNoPort}
use Rattle.tsn_wire.specs.ReadingBack.{ReadsBack}
use Rattle.tsn_records.specs.Values.{record_draft}
use Rattle.tsn_records.specs.declared.drafts.KeyDraft.{KeyDraft}
use Rattle.tsn_records.specs.declared.unread.Unread.{Unread}
use Rattle.tsn_wire.specs.declared.drafts.CommandDraft.{CommandDraft}
use Rattle.tsn_wire.specs.declared.drafts.CommandDraft.TheVariants as wanted
use Rattle.tsn_wire.specs.declared.drafts.EditDraft.{EditDraft}
use Rattle.tsn_wire.specs.declared.drafts.EditDraft.TheVariants as drafts
use Rattle.tsn_wire.specs.declared.drafts.FrameDraft.{FrameDraft}
use Rattle.tsn_wire.specs.declared.drafts.LineDraft.{LineDraft}
use Rattle.tsn_wire.specs.declared.drafts.LineDraft.TheVariants.{Hello, Named, Session}
use Rattle.tsn_wire.specs.declared.drafts.NameDraft.TheVariants.{Fit, Unfit}
use Rattle.tsn_entries.specs.declared.entries.Act.{Act}
use Rattle.tsn_entries.specs.declared.entries.Act.TheVariants as acts
use Rattle.tsn_wire.specs.declared.words.Bare.{Bare}
use Rattle.tsn_wire.specs.declared.words.Bare.TheVariants as bares
use Rattle.tsn_wire.specs.declared.words.Look.{Look}
use Rattle.tsn_wire.specs.declared.words.Look.TheVariants as looks
use Rattle.tsn_wire.specs.declared.words.Put.{Put}
use Rattle.tsn_wire.specs.declared.words.Put.TheVariants as puts
use Rattle.tsn_wire.specs.declared.words.Word.{Word}
use Rattle.tsn_wire.specs.declared.words.Word.TheVariants as words
use Rattle.tsn_wire.specs.Words.{act_word, bare_command, bare_word, edit_command, look_command, look_word, put_edit, put_word, word_of, word_text}
use Rattle.tsn_commands.specs.declared.command.Ask.{Ask}
use Rattle.tsn_records.proofs.RecordRanges.{passed, at_most, within_ok, at_most_ok}
use Rattle.tsn_records.proofs.Steps.{last_step, only, steps, syntax_there, not_refused}
use Rattle.tsn_wire.proofs.Batching.{batch_known, batch_shaped, edit_draft, edits_back}
use Rattle.tsn_wire.proofs.Known.{word_known, kind_known, put_known, put_back, removable_known, key_there, record_same, key_draft, key_back, instance, read_back}
use Rattle.tsn_wire.proofs.FromShapes.{number_there, flag_there, text_there, value_there}
use Rattle.tsn_wire.proofs.Objects.{IsOrdered, whole_object, line_ordered}
use Rattle.tsn_wire.proofs.ReadingBack.{in_steps}
use Rattle.tsn_wire.proofs.Shaping.{shaped}

-- ---- what is accepted is a value

-- a value with the word and the session of a command
record IsOf (word : List ℕ) (s : ℕ) (d : Data) : Type 0 where
  ordered : IsOrdered d
  word_there : get (codes "do") d ≡ Some (string word)
  session_there : get (codes "s") d ≡ Some (whole_data s)
  session : IsSession s

-- a value that asks for a command
abbrev IsValue : ℕ → Data → Command → Type 0
IsValue s d c = MayBeAsked s c × (d ≡ value_of s c)

-- a value that asks for what a line says
abbrev SaysAsk : Data → Ask → Type 0
SaysAsk d line = IsValue line.session d line.command

named_by_key : (word : List ℕ) (s : ℕ) (d : Data) (q : KeyDraft) (k : Key) (u : Unit {0}) → IsOf word s d → has_members 3 d ≡ Ok u
    → key_at d ≡ Ok q → key q ≡ Ok k → d ≡ keyed_data word s (key_text k)
named_by_key word s d q k u of count at_key range =
    let named = key_there d q k at_key range in
    whole_object 2 d (members_of (keyed_data word s (key_text k))) u of.ordered count refl (refl, (refl, tt))
    (of.word_there, (named.0, (of.session_there, tt)))

-- a value with this word and of this shape asks for what its draft passes as
abbrev Asks : List ℕ → (Data → Result CommandDraft Unread) → Type 0
Asks word shape = (s : ℕ) (d : Data) (draft : CommandDraft) (c : Command) → IsOf word s d → shape d ≡ Ok draft
    → command_of_draft draft ≡ Ok c → IsValue s d c

-- the draft of a shape's last step passes as what was asked
drafted : (asked draft : CommandDraft) (c : Command) → ◌≡◌ {A = Result CommandDraft Unread} (Ok asked) (Ok draft)
    → command_of_draft draft ≡ Ok c → command_of_draft asked ≡ Ok c
drafted asked draft c is range = ap command_of_draft (only (Ok asked) asked draft refl is) ∙ range

-- what is asked by a word with a key and a record, with a key and an instant, with a key, with nothing
put_value : (put : Put) (s : ℕ) (d : Data) (k : Key) (r : Record) → IsSession s → KeyedInRange k r
    → d ≡ edit_data (put_word put) s (key_text k) (record_data r) → IsValue s d (edit_command (put_edit put k r))
put_value puts.Create s d k r session fits is = ((session, fits), is)
put_value puts.Replace s d k r session fits is = ((session, fits), is)

act_value : (act : Act) (s : ℕ) (d : Data) (k : Key) (a : ℕ) → IsSession s → ListInRange k a
    → d ≡ act_data (act_word act) s (key_text k) a → IsValue s d (act_command act k a)
act_value acts.Enable s d k a session fits is = ((session, fits), is)
act_value act s d k a session fits is = ((session, fits), is)

look_value : (look : Look) (s : ℕ) (d : Data) (k : Key) → IsSession s → KeyInRange k
    → d ≡ keyed_data (look_word look) s (key_text k) → IsValue s d (look_command look k)
look_value looks.Counters s d k session fits is = ((session, fits), is)
look_value looks.Show s d k session fits is = ((session, fits), is)

bare_value : (b : Bare) (s : ℕ) (d : Data) → IsSession s → d ≡ bare_data (bare_word b) s → IsValue s d (bare_command b)
bare_value bares.Undo s d session is = (session, is)
bare_value b s d session is = (session, is)

edited_known : (word : Word) (s : ℕ) (d : Data) (e : EditDraft) (x : Edit) → IsOf (word_text word) s d
    → edited_shape 1 word d ≡ Ok e → edit_of_draft e ≡ Ok x → IsValue s d (edit_command x)
unfolding removed_key
edited_known (words.Put put) s d e x of shape range =
    put_known 4 (drafts.Put put) (put_edit put) edit_of_draft d e x (λ x. IsValue s d (edit_command x)) of.ordered (λ _ _. refl)
    shape range (λ k r held. put_value put s d k r of.session held.fits
    (whole_object 3 d (members_of (edit_data (put_word put) s (key_text k) (record_data r))) held.unit of.ordered held.count refl
    (refl, (refl, (refl, tt))) (of.word_there, (held.key_is, (held.record_is, (of.session_there, tt))))))
edited_known words.Remove s d e x of shape range =
    steps (removed_key 3 d) _ e shape (λ p p_is p_next.
    steps (has_members 3 d) _ p p_is (λ count count_is count_next.
    steps (key_at d) _ p count_next (λ q q_is q_next.
    let may = removable_known q p q.kind q_next in
    let whole = drafts.Remove p in
    last_step (key p) x (λ x. IsValue s d (edit_command x)) edits.Remove (ap edit_of_draft (only (Ok whole) whole e refl p_next) ∙ range)
    (λ k k_is.
    let range_of : key q ≡ Ok k = ap key may.0 ∙ k_is in
    let named = key_there d q k q_is range_of in
    ((of.session, named.2, subst IsNoPort named.1 may.1), named_by_key (codes "remove") s d q k count of count_is q_is range_of)))))
edited_known word s d e x of shape range = cc

edit_asked : (word : Word) → Asks (word_text word) (λ d. edited_shape 1 word d >>= λ e. Ok (wanted.Edit e))
edit_asked word s d draft c of shape range =
    steps (edited_shape 1 word d) _ draft shape (λ e e_is e_next.
    steps (edit_of_draft e) _ c (drafted (wanted.Edit e) draft c e_next range) (λ x x_is x_next.
    let found = edit_command x in
    subst (IsValue s d) (only (Ok found) found c refl x_next) (edited_known word s d e x of e_is x_is)))

look_asked : (look : Look) → Asks (look_word look) (λ d. has_members 3 d >>= λ _. key_at d >>= λ q. Ok (wanted.Look look q))
look_asked look s d draft c of shape range =
    steps (has_members 3 d) _ draft shape (λ count count_is count_next.
    steps (key_at d) _ draft count_next (λ q q_is q_next.
    last_step (key q) c (IsValue s d) (look_command look) (drafted (wanted.Look look q) draft c q_next range) (λ k k_is.
    look_value look s d k of.session (key_there d q k q_is k_is).2 (named_by_key (look_word look) s d q k count of count_is q_is k_is))))

bare_asked : (b : Bare) → Asks (bare_word b) (λ d. has_members 2 d >>= λ _. Ok (wanted.Bare b))
bare_asked b s d draft c of shape range =
    steps (has_members 2 d) _ draft shape (λ count count_is count_next.
    let found = bare_command b in
    subst (IsValue s d) (only (Ok found) found c refl (drafted (wanted.Bare b) draft c count_next range))
    (bare_value b s d of.session (whole_object 1 d (members_of (bare_data (bare_word b) s)) count of.ordered count_is refl (refl, tt)
    (of.word_there, (of.session_there, tt)))))

list_known : Asks (codes "list")
    (λ d. has_members 3 d >>= λ _. text_at (codes "kind") d >>= λ text. or_shape (kind_of text) >>= λ kind. Ok (wanted.List kind))
list_known s d draft c of shape range =
    steps (has_members 3 d) _ draft shape (λ count count_is count_next.
    steps (text_at (codes "kind") d) _ draft count_next (λ text text_is text_next.
    steps (or_shape (kind_of text)) _ draft text_next (λ k k_is k_next.
    let name = kind_known text k (value_there (kind_of text) k k_is) in
    let found = commands.List k in
    subst (IsValue s d) (only (Ok found) found c refl (drafted (wanted.List k) draft c k_next range)) (
      of.session,
      whole_object 2 d (members_of (listed_data s (kind_text k))) count of.ordered count_is refl (refl, (refl, tt))
          (of.word_there, (text_there _ text text_is ∙ ap (λ l. Some (string l)) name, (of.session_there, tt))),
    ))))

-- a value of three members with a number under a name
record IsNumbered (name : List ℕ) (d : Data) (n : ℕ) : Type 0 where
  unit : Unit {0}
  count : has_members 3 d ≡ Ok unit
  number_is : get name d ≡ Some (whole_data n)
  fits : n ≤ greatest_after

-- commands up to an entry
numbered_known : (word name : List ℕ) (field : Field) (asked : ℕ → CommandDraft) (found : ℕ → Command)
    → ((n : ℕ) → command_of_draft (asked n) ≡ (within field 0 greatest_after n >>= λ m. Ok (found m)))
    → ((s : ℕ) (d : Data) (n : ℕ) → IsOf word s d → IsNumbered name d n → IsValue s d (found n))
    → Asks word (λ d. has_members 3 d >>= λ _. number_at name d >>= λ n. Ok (asked n))
numbered_known word name field asked found ranges value s d draft c of shape range =
    steps (has_members 3 d) _ draft shape (λ count count_is count_next.
    steps (number_at name d) _ draft count_next (λ n n_is n_next.
    last_step (within field 0 greatest_after n) c (IsValue s d) found (sym (ranges n) ∙ drafted (asked n) draft c n_next range) (λ m m_is.
    let fits = at_most field greatest_after n m m_is in
    value s d m of (record {
      unit = count;
      count = count_is;
      number_is = number_there _ n n_is ∙ ap (λ x. Some (whole_data x)) fits.0;
      fits = fits.1;
    }))))

since_known : Asks (codes "since") (λ d. has_members 3 d >>= λ _. number_at (codes "after") d >>= λ n. Ok (wanted.Since n))
since_known = numbered_known (codes "since") (codes "after") fields.After wanted.Since commands.Since (λ _. refl) (λ s d after of held. (
  (of.session, held.fits),
  whole_object 2 d (members_of (asked_data s after)) held.unit of.ordered held.count refl (refl, (refl, tt))
      (held.number_is, (of.word_there, (of.session_there, tt))),
))

settle_known : Asks (codes "settle") (λ d. has_members 3 d >>= λ _. number_at (codes "upto") d >>= λ n. Ok (wanted.Settle n))
settle_known = numbered_known (codes "settle") (codes "upto") fields.Upto wanted.Settle commands.Settle (λ _. refl) (λ s d upto of held. (
  (of.session, held.fits),
  whole_object 2 d (members_of (settle_data s upto)) held.unit of.ordered held.count refl (refl, (refl, tt))
      (of.word_there, (of.session_there, (held.number_is, tt))),
))

-- ---- acts on lists, frames and looks

listed_known : (q p : KeyDraft) (of : Kind) → listed q of ≡ Ok p → (q ≡ p) × MayHaveList of
listed_known q p kinds.Port h = (only (Ok q) q p refl h, tt)
listed_known q p kinds.Filter h = cc
listed_known q p kinds.Gate h = (only (Ok q) q p refl h, tt)
listed_known q p kinds.Meter h = cc

-- a value of four members with a key that has a list, and an instant under a name
record IsListedAt (name : List ℕ) (d : Data) (k : Key) (a : ℕ) : Type 0 where
  unit : Unit {0}
  count : has_members 4 d ≡ Ok unit
  key_is : get (codes "key") d ≡ Some (string (key_text k))
  instant_is : get name d ≡ Some (whole_data a)
  fits : ListInRange k a

listed_at_known : (name : List ℕ) (field : Field) (d : Data) (p : KeyDraft × ℕ) (k : Key) (a : ℕ) → listed_at name d ≡ Ok p → key p.0 ≡ Ok k
    → within field 0 greatest_instant p.1 ≡ Ok a → IsListedAt name d k a
unfolding listed_at
listed_at_known name field d p k a shape range instant =
    steps (has_members 4 d) _ p shape (λ u u_is u_next.
    steps (key_at d) _ p u_next (λ q q_is q_next.
    steps (listed q q.kind) _ p q_next (λ l l_is l_next.
    steps (number_at name d) _ p l_next (λ n n_is n_next.
    let both = only (Ok (l, n)) (l, n) p refl n_next in
    let may = listed_known q l q.kind l_is in
    let range_of : key q ≡ Ok k = ap key may.0 ∙ (ap (λ x. key x.0) both ∙ range) in
    let named = key_there d q k q_is range_of in
    let fits = at_most field greatest_instant n a (ap (λ x. within field 0 greatest_instant x.1) both ∙ instant) in
    record {
      unit = u;
      count = u_is;
      key_is = named.0;
      instant_is = number_there _ n n_is ∙ ap (λ m. Some (whole_data m)) fits.0;
      fits = record { key = named.2; list = subst MayHaveList named.1 may.1; instant = fits.1 };
    }))))

-- what is asked of a key with a list, at an instant under a name
at_instant_known : (word name : List ℕ) (field : Field) (asked : KeyDraft → ℕ → CommandDraft) (found : Key → ℕ → Command)
    → ((q : KeyDraft) (n : ℕ) → command_of_draft (asked q n) ≡ (key q >>= λ k. within field 0 greatest_instant n >>= λ a. Ok (found k a)))
    → ((s : ℕ) (d : Data) (k : Key) (a : ℕ) → IsOf word s d → IsListedAt name d k a → IsValue s d (found k a))
    → Asks word (λ d. listed_at name d >>= λ p. Ok (asked p.0 p.1))
at_instant_known word name field asked found ranges value s d draft c of shape range =
    steps (listed_at name d) _ draft shape (λ p p_is p_next.
    steps (key p.0) _ c (sym (ranges p.0 p.1) ∙ drafted (asked p.0 p.1) draft c p_next range) (λ k k_is k_next.
    last_step (within field 0 greatest_instant p.1) c (IsValue s d) (found k) k_next (λ a a_is.
    value s d k a of (listed_at_known name field d p k a p_is k_is a_is))))

act_asked : (act : Act) → Asks (act_word act) (λ d. listed_at (codes "now") d >>= λ p. Ok (wanted.Act act p.0 p.1))
act_asked act = at_instant_known (act_word act) (codes "now") fields.Now (wanted.Act act) (act_command act) (λ _ _. refl)
    (λ s d k a of at. act_value act s d k a of.session at.fits
    (whole_object 3 d (members_of (act_data (act_word act) s (key_text k) a)) at.unit of.ordered at.count refl (refl, (refl, (refl, tt)))
    (of.word_there, (at.key_is, (at.instant_is, (of.session_there, tt))))))

states_known : Asks (codes "states") (λ d. listed_at (codes "at") d >>= λ p. Ok (wanted.States p.0 p.1))
states_known = at_instant_known (codes "states") (codes "at") fields.At wanted.States commands.States (λ _ _. refl) (λ s d k a of at. (
  (of.session, at.fits),
  whole_object 3 d (members_of (states_data s (key_text k) a)) at.unit of.ordered at.count refl
      (refl, (refl, (refl, tt))) (at.instant_is, (of.word_there, (at.key_is, (of.session_there, tt)))),
))

-- the members of a frame
record HoldsFrame (d : Data) (f : FrameDraft) : Type 0 where
  handle : get (codes "handle") d ≡ Some (whole_data f.handle)
  octets : get (codes "octets") d ≡ Some (whole_data f.octets)
  priority : get (codes "priority") d ≡ Some (whole_data f.priority)
  yellow : get (codes "yellow") d ≡ Some (boolean f.yellow)

frame_members_known : (d : Data) (f : FrameDraft) → frame_members d ≡ Ok f → HoldsFrame d f
unfolding frame_members
frame_members_known d f shape =
    steps (number_at (codes "handle") d) _ f shape (λ handle handle_is handle_next.
    steps (number_at (codes "priority") d) _ f handle_next (λ priority priority_is priority_next.
    steps (number_at (codes "octets") d) _ f priority_next (λ octets octets_is octets_next.
    last_step (flag_at (codes "yellow") d) f (HoldsFrame d)
    (λ yellow. record { handle = handle; priority = priority; octets = octets; yellow = yellow }) octets_next (λ yellow yellow_is. record {
      handle = number_there _ handle handle_is;
      octets = number_there _ octets octets_is;
      priority = number_there _ priority priority_is;
      yellow = flag_there _ yellow yellow_is;
    }))))

-- a frame as a line names it
abbrev frame_draft : Frame → FrameDraft
frame_draft f = record { handle = f.handle; priority = f.priority; octets = f.octets; yellow = f.yellow }

frame_passed : (d : FrameDraft) (f : Frame) → frame_of_draft d ≡ Ok f
    → (d ≡ frame_draft f) × IsHandle f.handle × IsPriority f.priority × (f.octets ≤ longest_frame)
unfolding frame_of_draft
frame_passed d f h =
    steps (within fields.Handle 0 greatest_handle d.handle) _ f h (λ handle handle_is handle_next.
    steps (within fields.Priority 0 greatest_priority d.priority) _ f handle_next (λ priority priority_is priority_next.
    steps (within fields.Octets 0 longest_frame d.octets) _ f priority_next (λ octets octets_is octets_next.
    let found : Frame = record { handle = handle; priority = priority; octets = octets; yellow = d.yellow } in
    let a = at_most fields.Handle greatest_handle d.handle handle handle_is in
    let b = at_most fields.Priority greatest_priority d.priority priority priority_is in
    let e = at_most fields.Octets longest_frame d.octets octets octets_is in
    subst (λ (x : Frame). (d ≡ frame_draft x) × IsHandle x.handle × IsPriority x.priority × (x.octets ≤ longest_frame))
    (only (Ok found) found f refl octets_next) (rw (← a.0, ← b.0, ← e.0), a.1, b.1, e.1))))

frame_known : Asks (codes "frame") frame_shape
unfolding frame_shape
frame_known s d draft c of shape range =
    steps (has_members 7 d) _ draft shape (λ count count_is count_next.
    steps (frame_members d) _ draft count_next (λ g g_is g_next.
    steps (number_at (codes "now") d) _ draft g_next (λ n n_is n_next.
    steps (frame_of_draft g) _ c (drafted (wanted.Frame g n) draft c n_next range) (λ f f_is f_next.
    last_step (within fields.Now 0 greatest_instant n) c (IsValue s d) (commands.Frame f) f_next (λ a a_is.
    let members = frame_members_known d g g_is in
    let fits = frame_passed g f f_is in
    let at = at_most fields.Now greatest_instant n a a_is in
    let held = subst (HoldsFrame d) fits.0 members in (
      (of.session, record { handle = fits.1; priority = fits.2; octets = fits.3; now = at.1 }),
      whole_object 6 d (members_of (frame_data s f a)) count of.ordered count_is refl (refl, (refl, (refl, (refl, (refl, (refl, tt)))))) (
        of.word_there,
        (
          held.handle,
          (
            number_there _ n n_is ∙ ap (λ m. Some (whole_data m)) at.0,
            (held.octets, (held.priority, (of.session_there, (held.yellow, tt)))),
          ),
        ),
      ),
    ))))))

batch_asked : Asks (codes "batch") batch_shape
batch_asked s d draft c of shape range = batch_known s d draft c of.ordered of.word_there of.session_there of.session shape range

command_known : (word : Word) → Asks (word_text word) (command_shape word)
unfolding command_shape
command_known words.Hello s d draft c of shape range = cc
command_known (words.Put put) s d draft c of shape range = edit_asked (words.Put put) s d draft c of shape range
command_known words.Remove s d draft c of shape range = edit_asked words.Remove s d draft c of shape range
command_known words.Batch s d draft c of shape range = batch_asked s d draft c of shape range
command_known (words.Act act) s d draft c of shape range = act_asked act s d draft c of shape range
command_known words.Frame s d draft c of shape range = frame_known s d draft c of shape range
command_known words.States s d draft c of shape range = states_known s d draft c of shape range
command_known (words.Look look) s d draft c of shape range = look_asked look s d draft c of shape range
command_known words.List s d draft c of shape range = list_known s d draft c of shape range
command_known words.Since s d draft c of shape range = since_known s d draft c of shape range
command_known words.Settle s d draft c of shape range = settle_known s d draft c of shape range
command_known (words.Bare b) s d draft c of shape range = bare_asked b s d draft c of shape range

bare_hello_known : (d : Data) (u : Unit {0}) (line : Ask) → IsOrdered d → get (codes "do") d ≡ Some (string (codes "hello"))
    → has_members 1 d ≡ Ok u → line_of_draft Hello ≡ Ok line → SaysAsk d line
bare_hello_known d u line ordered word count range =
    let found : Ask = record { session = 0; command = commands.Hello None } in
    subst (SaysAsk d) (only (Ok found) found line refl range)
    (refl, whole_object 0 d (members_of (value_of 0 (commands.Hello None))) u ordered count refl tt (word, tt))

-- the name that a text is, where it may be one
name_known : (text name : List ℕ) → name_of_draft (name_draft text) ≡ Ok name → (text ≡ name) × (is_name text ≡ true)
name_known text name h = at (is_name text) h
  where
    at : (b : Bool) → name_of_draft (cond b (Fit text) Unfit) ≡ Ok name → (text ≡ name) × (b ≡ true)
    at true h = (only (Ok text) text name refl h, refl)
    at false h = cc

named_known : (d : Data) (draft : LineDraft) (line : Ask) → IsOrdered d → get (codes "do") d ≡ Some (string (codes "hello"))
    → named_shape d ≡ Ok draft → line_of_draft draft ≡ Ok line → SaysAsk d line
unfolding named_shape
named_known d draft line ordered word shape range =
    steps (has_members 2 d) _ draft shape (λ u count count_next.
    steps (text_at (codes "name") d) _ draft count_next (λ text text_is text_next.
    let whole = Named (name_draft text) in
    steps (name_of_draft (name_draft text)) _ line (ap line_of_draft (only (Ok whole) whole draft refl text_next) ∙ range)
    (λ name name_is name_next.
    let fits = name_known text name name_is in
    let found : Ask = record { session = 0; command = commands.Hello (Some name) } in
    subst (SaysAsk d) (only (Ok found) found line refl name_next) (
      (refl, ap is_name (sym fits.0) ∙ fits.1),
      whole_object 1 d (members_of (hello_data (Some name))) u ordered count refl (refl, tt)
          (word, (text_there _ text text_is ∙ ap (λ l. Some (string l)) fits.0, tt)),
    ))))

hello_known : (d : Data) (draft : LineDraft) (line : Ask) (one : Result (Unit {0}) Unread) → IsOrdered d
    → get (codes "do") d ≡ Some (string (codes "hello")) → has_members 1 d ≡ one → bare_or_named one d ≡ Ok draft
    → line_of_draft draft ≡ Ok line → SaysAsk d line
hello_known d draft line (Ok u) ordered word count shape range =
    bare_hello_known d u line ordered word count (ap line_of_draft (only (Ok Hello) Hello draft refl shape) ∙ range)
hello_known d draft line (Err why) ordered word count shape range = named_known d draft line ordered word shape range

session_known : (word : Word) (n : ℕ) (d : Data) (draft : CommandDraft) (line : Ask) → IsOrdered d
    → get (codes "do") d ≡ Some (string (word_text word)) → get (codes "s") d ≡ Some (whole_data n)
    → command_shape word d ≡ Ok draft → line_of_draft (Session n draft) ≡ Ok line → SaysAsk d line
session_known word n d draft line ordered there session shape range =
    steps (within fields.S 1 most_sessions n) _ line range (λ s s_is s_next.
    steps (command_of_draft draft) _ line s_next (λ c c_is c_next.
    let fits = passed fields.S 1 most_sessions n s s_is in
    let of : IsOf (word_text word) s d = record
    { ordered = ordered; word_there = there; session_there = session ∙ ap (λ m. Some (whole_data m)) fits.0; session = fits.1 } in
    let found : Ask = record { session = s; command = c } in
    subst (SaysAsk d) (only (Ok found) found line refl c_next) (command_known word s d draft c of shape c_is)))

worded_known : (word : Word) (d : Data) (draft : LineDraft) (line : Ask) → IsOrdered d
    → get (codes "do") d ≡ Some (string (word_text word)) → worded_shape word d ≡ Ok draft → line_of_draft draft ≡ Ok line → SaysAsk d line
worded_known words.Hello d draft line ordered there shape range = hello_known d draft line (has_members 1 d) ordered there refl shape range
worded_known word d draft line ordered there shape range =
    steps (number_at (codes "s") d) _ draft shape (λ n n_is n_next.
    steps (command_shape word d) _ draft n_next (λ command command_is command_next.
    let whole = Session n command in
    session_known word n d command line ordered there (number_there _ n n_is) command_is
    (ap line_of_draft (only (Ok whole) whole draft refl command_next) ∙ range)))

line_known : (d : Data) (draft : LineDraft) (line : Ask) → IsOrdered d → line_shape d ≡ Ok draft → line_of_draft draft ≡ Ok line
    → SaysAsk d line
unfolding line_shape
line_known d draft line ordered shape range =
    steps (text_at (codes "do") d) _ draft shape (λ text text_is text_next.
    steps (or_shape (word_of text)) _ draft text_next (λ word word_is word_next.
    let named = word_known text word (value_there (word_of text) word word_is) in
    worded_known word d draft line ordered (text_there _ text text_is ∙ ap (λ l. Some (string l)) named) word_next range))

accepted : (line : List ℕ) (l : Ask) → line_of line ≡ Ok l
    → MayBeAsked l.session l.command × (data_of line ≡ Some (value_of l.session l.command))
accepted line l h =
    steps (or_syntax (data_of line)) _ l (not_refused (reading line) l h) (λ d d_is d_next.
    steps (line_shape d) _ l d_next (λ draft draft_is draft_next.
    let found = syntax_there (data_of line) d d_is in
    let known = line_known d draft l (line_ordered line d found) draft_is draft_next in
    (known.0, found ∙ ap Some known.1)))

-- ---- a value is accepted

hello_shaped : (s : ℕ) → line_shape (value_of s (commands.Hello None)) ≡ Ok Hello
unfolding line_shape word_of
hello_shaped s = refl

named_shaped : (name : List ℕ) → line_shape (hello_data (Some name)) ≡ Ok (Named (name_draft name))
unfolding line_shape named_shape word_of
named_shaped name = refl

frame_back : (f : Frame) (now : ℕ) → FrameInRange f now → frame_of_draft (frame_draft f) ≡ Ok f
unfolding frame_of_draft
frame_back f now fits = rw (
  at_most_ok fields.Handle greatest_handle f.handle fits.handle,
  at_most_ok fields.Priority greatest_priority f.priority fits.priority,
  at_most_ok fields.Octets longest_frame f.octets fits.octets,
) refl

-- the drafts of a key and an instant in range pass as these
at_instant_back : (field : Field) (found : Key → ℕ → Command) (k : Key) (a : ℕ) → ListInRange k a
    → (key (key_draft k) >>= λ named. within field 0 greatest_instant a >>= λ at. Ok (found named at)) ≡ Ok (found k a)
at_instant_back field found k a fits = rw (key_back k fits.key, at_most_ok field greatest_instant a fits.instant) refl

-- a value is read by the shape of its draft, and what the draft passes as
by_shape : (line : List ℕ) (s : ℕ) (d : Data) (draft : CommandDraft) (c : Command) → IsSession s → data_of line ≡ Some d
    → line_shape d ≡ Ok (Session s draft) → command_of_draft draft ≡ Ok c → line_of line ≡ Ok (record { session = s; command = c })
by_shape line s d draft c session read shape passes =
    in_steps line d (Session s draft) _ read shape (rw (within_ok fields.S 1 most_sessions s session, passes) refl)

-- the same of a sound command
by_members : (line : List ℕ) (s : ℕ) (draft : CommandDraft) (c : Command) → IsSession s
    → data_of line ≡ Some (object (command_members s draft)) → IsSound draft → command_of_draft draft ≡ Ok c
    → line_of line ≡ Ok (record { session = s; command = c })
by_members line s draft c session read sound passes =
    by_shape line s (object (command_members s draft)) draft c session read (shaped s draft sound) passes

edit_sound : (k : Key) (r : Record) → KeyedInRange k r → IsKey (key_draft k) × IsOfKind (kind k) (record_draft r)
edit_sound k r fits = let back = read_back k r fits in (instance k back.in_range, back.of)

-- the same by the word; the record in the value of an edit is seen as its draft
by_put : (put : Put) (line : List ℕ) (s : ℕ) (k : Key) (r : Record) → IsSession s × KeyedInRange k r
    → data_of line ≡ Some (edit_data (put_word put) s (key_text k) (record_data r))
    → line_of line ≡ Ok (record { session = s; command = edit_command (put_edit put k r) })
by_put put line s k r fits read =
    let asked = wanted.Edit (drafts.Put put (key_draft k) (record_draft r)) in
    by_shape line s _ asked (edit_command (put_edit put k r)) fits.0
    (read ∙ ap (λ d. Some (edit_data (put_word put) s (key_text k) d)) (sym (record_same r)))
    (shaped s asked (edit_sound k r fits.1)) (rw (put_back (put_edit put) k r fits.1) refl)

by_act : (act : Act) (line : List ℕ) (s : ℕ) (k : Key) (now : ℕ) → IsSession s × ListInRange k now
    → data_of line ≡ Some (act_data (act_word act) s (key_text k) now)
    → line_of line ≡ Ok (record { session = s; command = act_command act k now })
by_act act line s k now fits read =
    by_members line s (wanted.Act act (key_draft k) now) _ fits.0 read (instance k fits.1.key, fits.1.list)
    (at_instant_back fields.Now (act_command act) k now fits.1)

by_look : (look : Look) (line : List ℕ) (s : ℕ) (k : Key) → IsSession s × KeyInRange k
    → data_of line ≡ Some (keyed_data (look_word look) s (key_text k))
    → line_of line ≡ Ok (record { session = s; command = look_command look k })
by_look look line s k fits read =
    by_members line s (wanted.Look look (key_draft k)) _ fits.0 read (instance k fits.1) (rw (key_back k fits.1) refl)

by_bare : (b : Bare) (line : List ℕ) (s : ℕ) → IsSession s → data_of line ≡ Some (bare_data (bare_word b) s)
    → line_of line ≡ Ok (record { session = s; command = bare_command b })
by_bare b line s fits read = by_members line s (wanted.Bare b) _ fits read tt refl

read_as : (line : List ℕ) (s : ℕ) (c : Command) → MayBeAsked s c → data_of line ≡ Some (value_of s c)
    → line_of line ≡ Ok (record { session = s; command = c })
read_as line s (commands.Hello None) fits read = rw fits (in_steps line _ Hello _ read (hello_shaped s) refl)
read_as line s (commands.Hello (Some name)) fits read =
    rw fits.0 (in_steps line _ (Named (name_draft name)) _ read (named_shaped name) (rw fits.1 refl))
read_as line s (commands.Create k r) fits read = by_put puts.Create line s k r fits read
read_as line s (commands.Replace k r) fits read = by_put puts.Replace line s k r fits read
read_as line s (commands.Remove k) fits read =
    by_members line s (wanted.Edit (drafts.Remove (key_draft k))) _ fits.0 read (instance k fits.1, fits.2) (rw (key_back k fits.1) refl)
read_as line s (commands.Batch b) fits read =
    by_shape line s _ (wanted.Batch (map edit_draft b)) _ fits.0 read (batch_shaped s b fits.1 fits.2) (rw (edits_back b fits.2) refl)
read_as line s (commands.Settle upto) fits read =
    by_members line s (wanted.Settle upto) _ fits.0 read tt (rw (at_most_ok fields.Upto greatest_after upto fits.1) refl)
read_as line s (commands.Enable k now) fits read = by_act acts.Enable line s k now fits read
read_as line s (commands.Disable k now) fits read = by_act acts.Disable line s k now fits read
read_as line s (commands.Apply k now) fits read = by_act acts.Apply line s k now fits read
read_as line s (commands.Frame frame now) fits read =
    by_members line s (wanted.Frame (frame_draft frame) now) _ fits.0 read tt
    (rw (frame_back frame now fits.1, at_most_ok fields.Now greatest_instant now fits.1.now) refl)
read_as line s (commands.States k at) fits read =
    by_members line s (wanted.States (key_draft k) at) _ fits.0 read (instance k fits.1.key, fits.1.list)
    (at_instant_back fields.At commands.States k at fits.1)
read_as line s (commands.Counters k) fits read = by_look looks.Counters line s k fits read
read_as line s (commands.Show k) fits read = by_look looks.Show line s k fits read
read_as line s (commands.List k) fits read = by_members line s (wanted.List k) _ fits read tt refl
read_as line s (commands.Since after) fits read =
    by_members line s (wanted.Since after) _ fits.0 read tt (rw (at_most_ok fields.After greatest_after after fits.1) refl)
read_as line s commands.Undo fits read = by_bare bares.Undo line s fits read
read_as line s commands.UndoAll fits read = by_bare bares.UndoAll line s fits read
read_as line s commands.Redo fits read = by_bare bares.Redo line s fits read
read_as line s commands.Resume fits read = by_bare bares.Resume line s fits read
read_as line s commands.Sessions fits read = by_bare bares.Sessions line s fits read
read_as line s commands.Setup fits read = by_bare bares.Setup line s fits read

pub accepts_values : AcceptsValues
accepts_values line s c = (λ h. accepted line (record { session = s; command = c }) h, λ p. read_as line s c p.0 p.1)

pub reads_back : ReadsBack
reads_back s k r line session fits read = read_as line s (commands.Create k r) (session, fits) read
