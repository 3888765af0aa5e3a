-- The text of the journal's entries and of sessions, piece by piece.
use Rattle.std.proofs.Common.{◌≡◌, ℕ, ◌+◌, ◌-◌, ◌^◌, ◌<◌, ◌≤◌, ◌++◌, List, [], ◌∷◌, length, take, take_all, drop, get_or, map, true, false, Option, codes, decimal, refl, sym, ap, ap₂, ◌∙◌, append_assoc, append-nil, arith}
use Rattle.std.proofs.lemmas.List.{take_more}
use Rattle.json.specs.Print.{escape_byte}
use Rattle.serde_json.specs.Data.{Data, string, object, item, Members, member, no_members}
use Rattle.serde_json.specs.View.{items_of}
use Rattle.serde_json.specs.Written.{compact_text, items_text, members_text}
use Rattle.tsn_entries.specs.declared.sessions.GivenSession.{GivenSession}
use Rattle.tsn_edit.specs.Changes.{keys_of}
use Rattle.tsn_edit.specs.Parts.{Part}
use Rattle.tsn_entries.specs.declared.entries.Act.{Act}
use Rattle.tsn_entries.specs.declared.entries.Entry.{Entry}
use Rattle.tsn_entries.specs.declared.entries.MarkedEntry.{MarkedEntry}
use Rattle.tsn_entries.specs.Marks.{entries_of}
use Rattle.tsn_types.specs.declared.keys.Key.{Key}
use Rattle.tsn_types.specs.Keys.{number_of}
use Rattle.tsn_encoding.proofs.Grown.{grown}
use Rattle.tsn_records.specs.Keys.{key_text}
use Rattle.tsn_records.specs.Shown.{whole_data}
use Rattle.tsn_encoding.specs.Pieces.{keys_piece, taking_back_front, told_line}
use Rattle.tsn_encoding.specs.Told.{act_name, with_keys, made_data, taking_back_data, acted_data, settled_data, session_data, sessions_data, entry_data, entries_data, kept_data}
use Rattle.tsn_encoding.specs.Shown.{key_data, name_data}
use Rattle.tsn_encoding.proofs.Pieces.{behind, behind_none, behind_more, behind_closed, text_unescaped}

-- ---- keys

-- the keys of parts, as they are told
told_keys : (ps : List Part) → items_of (map key_data (keys_of ps)) ≡ items_of (map (λ p. key_data p.key) ps)
told_keys [] = refl
told_keys (p ∷ ps) = ap (item (key_data p.key)) (told_keys ps)

-- the keys of these parts, each with a comma before it
abbrev pub others_text : List Part → List ℕ
others_text ps = behind (λ p. key_data p.key) ps

pub no_others : (t : List ℕ) → t ≡ t ++ others_text []
no_others t = sym (ap (λ l. t ++ l) (behind_none (λ p. key_data p.key)) ∙ append-nil t)

-- one key more
pub other_more : (t held later : List ℕ) (ps : List Part) (p d : Part) (i : ℕ) → i < length ps → p ≡ get_or ps i d
    → held ≡ t ++ others_text (take i ps) → later ≡ held ++ (codes "," ++ compact_text (key_data p.key))
    → later ≡ t ++ others_text (take (i + 1) ps)
other_more t held later ps p d i within is before e =
    let piece = 44 ∷ compact_text (key_data p.key) in
    let more : others_text (take (i + 1) ps) ≡ others_text (take i ps) ++ piece =
    ap others_text (take_more ps i d within ∙ ap (λ x. take i ps ++ x ∷ []) (sym is)) ∙ behind_more (λ q. key_data q.key) (take i ps) p in
    e ∙ ap (λ l. l ++ piece) before ∙ append_assoc t (others_text (take i ps)) piece ∙ sym (ap (λ l. t ++ l) more)

-- the first part, and those after it
pub first_of : (ps : List Part) (p : Part) → 1 ≤ length ps → p ≡ get_or ps 0 p → ps ≡ p ∷ take (length ps - 1) (drop 1 ps)
first_of [] p some is = absurd (omega arith)
first_of (q ∷ ps) p some is = ap₂ ◌∷◌ (sym is) (sym (take_all (length (q ∷ ps) - 1) ps (omega arith)))

several_of : (first others t0 : List ℕ)
    → ((t0 ++ (codes ",\"keys\":[" ++ first)) ++ others) ++ codes "]" ≡ t0 ++ (codes ",\"keys\":[" ++ (first ++ (others ++ codes "]")))
several_of first others t0 = simp append_assoc

-- all keys of two parts or more
pub several_pieces : (ps others : List Part) (p : Part) (t0 t1 t2 t3 : List ℕ) (i : ℕ) → ps ≡ p ∷ others → 2 ≤ length ps → length others ≤ i
    → t1 ≡ t0 ++ (codes ",\"keys\":[" ++ compact_text (key_data p.key)) → t2 ≡ t1 ++ others_text (take i others) → t3 ≡ t2 ++ codes "]"
    → t3 ≡ t0 ++ keys_piece (keys_of ps)
several_pieces ps [] p t0 t1 t2 t3 i is two all e1 e2 e3 = absurd (omega (arith, ap length is, two))
several_pieces ps (q ∷ others) p t0 t1 t2 t3 i is two all e1 e2 e3 =
    let whole : take i (q ∷ others) ≡ q ∷ others = take_all i (q ∷ others) all in
    let text : items_text true (items_of (map key_data (keys_of (q ∷ others)))) ≡ others_text (q ∷ others) ++ codes "]" =
    ap (items_text true) (told_keys (q ∷ others)) ∙ behind_closed (λ x. key_data x.key) (q ∷ others) in
    e3 ∙ ap (λ l. l ++ codes "]") (e2 ∙ ap (λ l. t1 ++ others_text l) whole ∙ ap (λ l. l ++ others_text (q ∷ others)) e1)
    ∙ several_of (compact_text (key_data p.key)) (others_text (q ∷ others)) t0
    ∙ sym (ap (λ l. t0 ++ (codes ",\"keys\":[" ++ (compact_text (key_data p.key) ++ l))) text)
    ∙ sym (ap (λ l. t0 ++ keys_piece (keys_of l)) is)

-- the keys before the other members
keys_text : (ks : List Key) (others : Members) → members_text true (with_keys ks others) ≡ keys_piece ks ++ members_text true others
unfolding escape_byte
keys_text [] others = refl
keys_text (k ∷ []) others = refl
keys_text (k ∷ (l ∷ ks)) others = refl

-- ---- entries

made_of : (number keys session t0 t1 t2 t3 t4 : List ℕ) → t1 ≡ t0 ++ (codes "{\"entry\":" ++ number) → t2 ≡ t1 ++ keys
    → t3 ≡ t2 ++ (codes ",\"session\":" ++ session) → t4 ≡ t3 ++ codes ",\"what\":\"made\"}"
    → t4 ≡ t0 ++ (codes "{\"entry\":" ++ (number ++ (keys ++ (codes ",\"session\":" ++ (session ++ codes ",\"what\":\"made\"}")))))
made_of number keys session t0 t1 t2 t3 t4 e1 e2 e3 e4 = rw (e4, e3, e2, e1) (simp append_assoc)

-- an entry's text, which begins with its number and its keys
numbered : ℕ → List Key → Members → Data
numbered number ks others = object (member (codes "entry") (whole_data number) (with_keys ks others))

numbered_text : (number : ℕ) (ks : List Key) (others : Members)
    → codes "{\"entry\":" ++ (decimal number ++ (keys_piece ks ++ members_text true others)) ≡ compact_text (numbered number ks others)
unfolding escape_byte numbered
numbered_text number ks others = sym (ap (λ l. codes "{\"entry\":" ++ (decimal number ++ l)) (keys_text ks others))

pub made_pieces : (number session : ℕ) (ks : List Key) (t0 t1 t2 t3 t4 : List ℕ) → t1 ≡ t0 ++ (codes "{\"entry\":" ++ decimal number)
    → t2 ≡ t1 ++ keys_piece ks → t3 ≡ t2 ++ (codes ",\"session\":" ++ decimal session) → t4 ≡ t3 ++ codes ",\"what\":\"made\"}"
    → t4 ≡ t0 ++ compact_text (made_data number session ks)
unfolding escape_byte numbered
made_pieces number session ks t0 t1 t2 t3 t4 e1 e2 e3 e4 =
    made_of (decimal number) (keys_piece ks) (decimal session) t0 t1 t2 t3 t4 e1 e2 e3 e4
    ∙ ap (λ l. t0 ++ l) (numbered_text number ks
    (member (codes "session") (whole_data session) (member (codes "what") (string (codes "made")) no_members)))

taking_back_of : (number keys of session t0 t1 t2 t3 t4 : List ℕ) → t1 ≡ t0 ++ (codes "{\"entry\":" ++ number) → t2 ≡ t1 ++ keys
    → t3 ≡ t2 ++ (codes ",\"of\":" ++ of) → t4 ≡ t3 ++ (codes ",\"session\":" ++ session)
    → t4 ≡ t0 ++ (codes "{\"entry\":" ++ (number ++ (keys ++ (codes ",\"of\":" ++ (of ++ (codes ",\"session\":" ++ session))))))
taking_back_of number keys of session t0 t1 t2 t3 t4 e1 e2 e3 e4 = rw (e4, e3, e2, e1) (simp append_assoc)

pub taking_back_pieces : (number session of : ℕ) (ks : List Key) (t0 t1 t2 t3 t4 : List ℕ)
    → t1 ≡ t0 ++ (codes "{\"entry\":" ++ decimal number) → t2 ≡ t1 ++ keys_piece ks → t3 ≡ t2 ++ (codes ",\"of\":" ++ decimal of)
    → t4 ≡ t3 ++ (codes ",\"session\":" ++ decimal session) → t4 ≡ t0 ++ taking_back_front number session of ks
taking_back_pieces number session of ks t0 t1 t2 t3 t4 e1 e2 e3 e4 =
    taking_back_of (decimal number) (keys_piece ks) (decimal of) (decimal session) t0 t1 t2 t3 t4 e1 e2 e3 e4

-- up to what was done, and the rest
ending_of : (number keys of session rest t0 t1 t2 : List ℕ)
    → t1 ≡ t0 ++ (codes "{\"entry\":" ++ (number ++ (keys ++ (codes ",\"of\":" ++ (of ++ (codes ",\"session\":" ++ session))))))
    → t2 ≡ t1 ++ rest
    → t2 ≡ t0 ++ (codes "{\"entry\":" ++ (number ++ (keys ++ (codes ",\"of\":" ++ (of ++ (codes ",\"session\":" ++ (session ++ rest)))))))
ending_of number keys of session rest t0 t1 t2 e1 e2 = rw (e2, e1) (simp append_assoc)

-- an entry that takes one back, with what was done
taken_back : (number session of : ℕ) (ks : List Key) (what t0 t1 t2 : List ℕ) → t1 ≡ t0 ++ taking_back_front number session of ks
    → t2 ≡ t1 ++ (codes ",\"what\":" ++ (compact_text (string what) ++ codes "}"))
    → t2 ≡ t0 ++ compact_text (taking_back_data number session of ks what)
unfolding escape_byte numbered
taken_back number session of ks what t0 t1 t2 e1 e2 =
    ending_of (decimal number) (keys_piece ks) (decimal of) (decimal session)
    (codes ",\"what\":" ++ (compact_text (string what) ++ codes "}")) t0 t1 t2 e1 e2
    ∙ ap (λ l. t0 ++ l) (numbered_text number ks
    (member (codes "of") (whole_data of) (member (codes "session") (whole_data session) (member (codes "what") (string what) no_members))))

pub undone_pieces : (number session of : ℕ) (ks : List Key) (t0 t1 t2 : List ℕ) → t1 ≡ t0 ++ taking_back_front number session of ks
    → t2 ≡ t1 ++ codes ",\"what\":\"undone\"}" → t2 ≡ t0 ++ compact_text (taking_back_data number session of ks (codes "undone"))
unfolding escape_byte
undone_pieces number session of ks = taken_back number session of ks (codes "undone")

pub redone_pieces : (number session of : ℕ) (ks : List Key) (t0 t1 t2 : List ℕ) → t1 ≡ t0 ++ taking_back_front number session of ks
    → t2 ≡ t1 ++ codes ",\"what\":\"redone\"}" → t2 ≡ t0 ++ compact_text (taking_back_data number session of ks (codes "redone"))
unfolding escape_byte
redone_pieces number session of ks = taken_back number session of ks (codes "redone")

pub acted_pieces : (number session : ℕ) (act : Act) (k : Key) (now : ℕ) (t0 t1 t2 t3 t4 t5 t6 : List ℕ)
    → t1 ≡ t0 ++ (codes "{\"act\":" ++ compact_text (string (act_name act))) → t2 ≡ t1 ++ (codes ",\"entry\":" ++ decimal number)
    → t3 ≡ t2 ++ (codes ",\"key\":" ++ compact_text (key_data k)) → t4 ≡ t3 ++ (codes ",\"now\":" ++ decimal now)
    → t5 ≡ t4 ++ (codes ",\"session\":" ++ decimal session) → t6 ≡ t5 ++ codes ",\"what\":\"acted\"}"
    → t6 ≡ t0 ++ compact_text (acted_data number session act k now)
unfolding escape_byte
acted_pieces number session act k now t0 t1 t2 t3 t4 t5 t6 e1 e2 e3 e4 e5 e6 =
    grown ((codes "{\"act\":" ++ compact_text (string (act_name act))) ∷ (codes ",\"entry\":" ++ decimal number)
    ∷ (codes ",\"key\":" ++ compact_text (key_data k)) ∷ (codes ",\"now\":" ++ decimal now)
    ∷ (codes ",\"session\":" ++ decimal session) ∷ [])
    t0 t5 t6 (codes ",\"what\":\"acted\"}") (t1, e1, (t2, e2, (t3, e3, (t4, e4, (t5, e5, refl))))) e6

pub settled_pieces : (number session upto : ℕ) (t0 t1 t2 t3 t4 : List ℕ) → t1 ≡ t0 ++ (codes "{\"entry\":" ++ decimal number)
    → t2 ≡ t1 ++ (codes ",\"session\":" ++ decimal session) → t3 ≡ t2 ++ (codes ",\"settled\":" ++ decimal upto)
    → t4 ≡ t3 ++ codes ",\"what\":\"settled\"}" → t4 ≡ t0 ++ compact_text (settled_data number session upto)
unfolding escape_byte
settled_pieces number session upto t0 t1 t2 t3 t4 e1 e2 e3 e4 =
    grown ((codes "{\"entry\":" ++ decimal number) ∷ (codes ",\"session\":" ++ decimal session)
    ∷ (codes ",\"settled\":" ++ decimal upto) ∷ [])
    t0 t3 t4 (codes ",\"what\":\"settled\"}") (t1, e1, (t2, e2, (t3, e3, refl))) e4

given_of : (name session standing t0 t1 t2 t3 t4 t5 : List ℕ) → t1 ≡ t0 ++ codes "{\"name\":" → t2 ≡ t1 ++ name
    → t3 ≡ t2 ++ (codes ",\"session\":" ++ session) → t4 ≡ t3 ++ (codes ",\"standing\":" ++ standing) → t5 ≡ t4 ++ codes "}"
    → t5 ≡ t0 ++ (codes "{\"name\":"
    ++ (name ++ (codes ",\"session\":" ++ (session ++ (codes ",\"standing\":" ++ (standing ++ codes "}"))))))
given_of name session standing t0 t1 t2 t3 t4 t5 e1 e2 e3 e4 e5 = rw (e5, e4, e3, e2, e1) (simp append_assoc)

pub given_pieces : (name : Option (List ℕ)) (session standing : ℕ) (t0 t1 t2 t3 t4 t5 : List ℕ) → t1 ≡ t0 ++ codes "{\"name\":"
    → t2 ≡ t1 ++ compact_text (name_data name) → t3 ≡ t2 ++ (codes ",\"session\":" ++ decimal session)
    → t4 ≡ t3 ++ (codes ",\"standing\":" ++ decimal standing) → t5 ≡ t4 ++ codes "}"
    → t5 ≡ t0 ++ compact_text (session_data (record { name = name; session = session; standing = standing }))
unfolding escape_byte
given_pieces name session standing t0 t1 t2 t3 t4 t5 e1 e2 e3 e4 e5 =
    given_of (compact_text (name_data name)) (decimal session) (decimal standing) t0 t1 t2 t3 t4 t5 e1 e2 e3 e4 e5

-- ---- the line

entries_text_of : (items : List ℕ)
    → codes "{\"entries\":[" ++ (items ++ codes "}\n") ≡ (codes "{\"entries\":[" ++ (items ++ codes "}")) ++ codes "\n"
entries_text_of items = simp append_assoc

pub entries_line : (es : List Entry) → told_line (map entry_data es) ≡ compact_text (entries_data es) ++ codes "\n"
unfolding escape_byte
entries_line es = entries_text_of (items_text false (items_of (map entry_data es)))

-- entries that are kept are told as their entries are
kept_items : (ms : List MarkedEntry) → items_of (map kept_data ms) ≡ items_of (map entry_data (entries_of ms))
kept_items [] = refl
kept_items (m ∷ ms) = ap (item (entry_data m.entry)) (kept_items ms)

pub kept_line : (ms : List MarkedEntry) → told_line (map kept_data ms) ≡ compact_text (entries_data (entries_of ms)) ++ codes "\n"
kept_line ms = ap (λ l. codes "{\"entries\":[" ++ (items_text false l ++ codes "}\n")) (kept_items ms) ∙ entries_line (entries_of ms)

-- what is pushed first, and what is written behind it
pub told_of : (t t1 items rest : List ℕ) → t ≡ [] → t1 ≡ t ++ codes "{\"entries\":[" → rest ≡ codes "}\n"
    → t1 ++ (items ++ rest) ≡ codes "{\"entries\":[" ++ (items ++ codes "}\n")
told_of t t1 items rest e0 e1 e2 = rw (e1, e0, e2) refl

-- ---- sessions

sessions_text_of : (items : List ℕ)
    → codes "{\"sessions\":[" ++ (items ++ codes "}\n") ≡ (codes "{\"sessions\":[" ++ (items ++ codes "}")) ++ codes "\n"
sessions_text_of items = simp append_assoc

pub sessions_line : (all : List GivenSession) (t rest : List ℕ) → t ≡ codes "{\"sessions\":[" → rest ≡ codes "}\n"
    → t ++ (items_text false (items_of (map session_data all)) ++ rest) ≡ compact_text (sessions_data all) ++ codes "\n"
unfolding escape_byte
sessions_line all t rest e1 e2 = rw (e1, e2) (sessions_text_of (items_text false (items_of (map session_data all))))
