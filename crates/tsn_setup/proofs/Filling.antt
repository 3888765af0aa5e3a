-- A member more: what stands at each name once a key was put into the nodes of a table, or another node in its place.
use Rattle.std.proofs.Common.{rules, ◌≡◌, ℕ, List, [], ◌∷◌, Bool, true, false, cond, Option, Some, None, option_map, Ordering, Less, Equal, Greater, Result, Ok, Err, refl, sym, ap, subst, ◌∙◌}
use Rattle.std.specs.Prelude.{IsSome, if◌then◌else◌}
use Rattle.std.specs.Ordering.{match_ordering, is_eq}
use Rattle.std.specs.Str.{bytes_eq}
use Rattle.std.proofs.lemmas.Map.Text.{is_eq-slice_cmp}
use Rattle.toml.specs.Data.{Data, Members, as_array, get_member, same_key}
use Rattle.toml.specs.Tables.{Node, value, Nodes, no_nodes, node, get_node, insert, replace, close_node, close, along_dots, at_key, put}
use Rattle.toml.proofs.NodeLaws.{get_node-insert, get_node-replace}
use Rattle.tsn_records.specs.Answers.{each, or_shape, ◌>>=◌}
use Rattle.tsn_records.specs.declared.unread.Unread.{Unread}
use Rattle.tsn_records.specs.Records.{port_entry_shape, gate_entry_shape}
use Rattle.tsn_setup.specs.Toml.{are_among, items_list, as_toml}
use Rattle.tsn_setup.specs.Plain.{Tray, number, flag, port_list, gate_list, tables, Stands, IsOpen, Trays, tray_at, put_tray, AreOpen, Tells, names, TellsAll}
use Rattle.tsn_records.proofs.NameOrder.{at_order, order, same_bytes, same_name, same_text}
use Rattle.tsn_setup.proofs.Rows.{is_among, known_at, all_among}

-- ---- nodes and the members that they stand for

closed_first : (o : Ordering) (x : Node) (r : Option Node) (m : Option Data) → m ≡ option_map close_node r
    → match_ordering o m (Some (close_node x)) m ≡ option_map close_node (cond (is_eq o) (Some x) r)
closed_first Less x r m h = h
closed_first Equal x r m h = refl
closed_first Greater x r m h = h

-- what is closed stands under the same name
pub closed_at : (k : List ℕ) (ns : Nodes) → get_member k (close ns) ≡ option_map close_node (get_node k ns)
closed_at k no_nodes = refl
closed_at k (node l x ns) = closed_first (order k l) x (get_node k ns) (get_member k (close ns)) (closed_at k ns)

unequal : (b : Bool) (k l : List ℕ) → bytes_eq k l ≡ b → (k ≡ l → ⊥) → b ≡ false
unequal true k l is other = absurd (other (same_text k l is))
unequal false k l is other = refl

differ : (k l : List ℕ) → (k ≡ l → ⊥) → same_key k l ≡ false
differ k l other = is_eq-slice_cmp k l ∙ unequal (bytes_eq k l) k l refl other

pub insert_other : (l k : List ℕ) (x : Node) (ns : Nodes) → (l ≡ k → ⊥) → get_node l (insert k x ns) ≡ get_node l ns
insert_other l k x no_nodes other = rw (differ l k other) refl
insert_other l k x (node m y ns) other =
    at_order (λ found. get_node l found ≡ get_node l (node m y ns)) (order k m)
    (node k x (node m y ns)) (node m x ns) (node m y (insert k x ns)) (λ _. rw (differ l k other) refl)
    (λ is. let apart : l ≡ m → ⊥ = λ same. other (same ∙ sym (same_name k m is)) in rw (differ l m apart) refl)
    (λ _. rw (insert_other l k x ns other) refl)

replace_other_at : (b : Bool) (l k m : List ℕ) (x y : Node) (ns : Nodes) → same_key k m ≡ b → (l ≡ k → ⊥)
    → get_node l (replace k x ns) ≡ get_node l ns
    → get_node l (cond b (node m x ns) (node m y (replace k x ns))) ≡ get_node l (node m y ns)
replace_other_at true l k m x y ns is other later =
    let same : k ≡ m = same_text k m (sym (is_eq-slice_cmp k m) ∙ is) in
    let apart : l ≡ m → ⊥ = λ e. other (e ∙ sym same) in
    rw (differ l m apart) refl
replace_other_at false l k m x y ns is other later = rw later refl

pub replace_other : (l k : List ℕ) (x : Node) (ns : Nodes) → (l ≡ k → ⊥) → get_node l (replace k x ns) ≡ get_node l ns
replace_other l k x no_nodes other = refl
replace_other l k x (node m y ns) other = replace_other_at (same_key k m) l k m x y ns refl other (replace_other l k x ns other)

-- ---- members of which one is new or another

-- the members after a change under one name
pub record Changes (k : List ℕ) (d : Data) (before after : Members) : Type 0 where
  pub here : get_member k after ≡ Some d
  pub others : (l : List ℕ) → (l ≡ k → ⊥) → get_member l after ≡ get_member l before

pub inserted : (k : List ℕ) (x : Node) (ns : Nodes) → Changes k (close_node x) (close ns) (close (insert k x ns))
inserted k x ns = record {
  here = closed_at k (insert k x ns) ∙ ap (option_map close_node) (get_node-insert k x ns);
  others = λ l other. closed_at l (insert k x ns) ∙ ap (option_map close_node) (insert_other l k x ns other) ∙ sym (closed_at l ns);
}

pub replaced : (k : List ℕ) (x y : Node) (ns : Nodes) → get_node k ns ≡ Some y
    → Changes k (close_node x) (close ns) (close (replace k x ns))
replaced k x y ns there = record {
  here = closed_at k (replace k x ns) ∙ ap (option_map close_node) (get_node-replace k x ns y there);
  others = λ l other. closed_at l (replace k x ns) ∙ ap (option_map close_node) (replace_other l k x ns other) ∙ sym (closed_at l ns);
}

-- ---- what the trays say of them

tray_told : (b : Bool) (k l : List ℕ) (s filled : Tray) (d : Data) (before after : Members) → bytes_eq k l ≡ b → Changes k d before after
    → Stands filled (Some d) → Stands s (get_member l before)
    → Stands (if b then filled else s) (get_member l after)
tray_told true k l s filled d before after is change full told =
    let same = same_text k l is in
    subst (λ n. Stands filled (get_member n after)) same (subst (Stands filled) (sym change.here) full)
tray_told false k l s filled d before after is change full told =
    let apart : l ≡ k → ⊥ = λ same. let equal = same_bytes k l (sym same) in cc in
    subst (Stands s) (sym (change.others l apart)) told

tells_changed : (trays : Trays) (k : List ℕ) (filled : Tray) (d : Data) (before after : Members) → Changes k d before after
    → Stands filled (Some d) → Tells before trays → Tells after (put_tray k filled trays)
tells_changed [] k filled d before after change full told = tt
tells_changed (s ∷ trays) k filled d before after change full told = (
  tray_told (bytes_eq k s.0) k s.0 s.1 filled d before after refl change full told.0,
  tells_changed trays k filled d before after change full told.1,
)

names_put : (trays : Trays) (k : List ℕ) (filled : Tray) → names (put_tray k filled trays) ≡ names trays
names_put [] k filled = refl
names_put (s ∷ trays) k filled = ap (λ ns. s.0 ∷ ns) (names_put trays k filled)

known_first : (b : Bool) (k l : List ℕ) (s t : Tray) (trays : Trays) → bytes_eq k l ≡ b → (if b then Some t else tray_at k trays) ≡ Some s
    → (tray_at k trays ≡ Some s → is_among (names trays) k ≡ true)
    → is_among (l ∷ names trays) k ≡ true
known_first true k l s t trays is at later = rw (same_bytes l k (sym (same_text k l is))) refl
known_first false k l s t trays is at later = rw (later at) (grind rules)

known_name : (trays : Trays) (k : List ℕ) (s : Tray) → tray_at k trays ≡ Some s → is_among (names trays) k ≡ true
known_name [] k s at = cc
known_name (t ∷ trays) k s at = known_first (bytes_eq k t.0) k t.0 s t.1 trays refl at (known_name trays k s)

still_known : (b : Bool) (ns : List (List ℕ)) (k l : List ℕ) (d : Data) (before after : Members) → bytes_eq l k ≡ b → is_among ns k ≡ true
    → Changes k d before after → are_among ns before ≡ true → IsSome (get_member l after)
    → is_among ns l ≡ true
still_known true ns k l d before after is known change only there = subst (λ n. is_among ns n ≡ true) (sym (same_text l k is)) known
still_known false ns k l d before after is known change only there =
    let apart : l ≡ k → ⊥ = λ same. let equal = same_bytes l k same in cc in
    known_at (is_among ns l) ns before l refl only (subst IsSome (change.others l apart) there)

-- the trays say the members after the change, too
pub told_after : (trays : Trays) (k : List ℕ) (s filled : Tray) (d : Data) (before after : Members) → Changes k d before after
    → tray_at k trays ≡ Some s → Stands filled (Some d) → TellsAll before trays
    → TellsAll after (put_tray k filled trays)
told_after trays k s filled d before after change at full told =
    let known = known_name trays k s at in
    let only : are_among (names trays) after ≡ true = all_among (names trays) after
    (λ l there. still_known (bytes_eq l k) (names trays) k l d before after refl known change told.only there) in
    record {
      tells = tells_changed trays k filled d before after change full told.tells;
      only = rw (names_put trays k filled) only;
    }

-- ---- trays that are unread

unfilled : {A : Type 0} (o : Option A) → or_shape o >>= (λ x. Ok (Some x)) ≡ Ok None → ⊥
unfilled None h = cc
unfilled (Some x) h = cc

nothing : {B : Type 0} (r : Result B Unread) → r >>= (λ y. Ok (Some y)) ≡ Ok None → ⊥
nothing (Ok y) h = cc
nothing (Err e) h = cc

unlisted : {A B : Type 0} (o : Option A) (f : A → Result B Unread) → or_shape o >>= (λ x. f x >>= λ y. Ok (Some y)) ≡ Ok None → ⊥
unlisted None f h = cc
unlisted (Some x) f h = nothing (f x) h

pub not_there : (s : Tray) (o : Option Data) → IsOpen s → Stands s o → o ≡ None
not_there s None unread stands = refl
not_there (number n) (Some d) unread stands = absurd (unfilled _ (stands ∙ ap Ok unread))
not_there (flag b) (Some d) unread stands = absurd (unfilled _ (stands ∙ ap Ok unread))
not_there (port_list es) (Some d) unread stands =
    absurd (unlisted (as_array d) (λ items. each (port_entry_shape as_toml) (items_list items)) (stands ∙ ap Ok unread))
not_there (gate_list es) (Some d) unread stands =
    absurd (unlisted (as_array d) (λ items. each (gate_entry_shape as_toml) (items_list items)) (stands ∙ ap Ok unread))
not_there (tables kind ts) (Some d) unread stands = absurd unread

told_tray_at : (b : Bool) (k l : List ℕ) (s t : Tray) (trays : Trays) (ms : Members) → bytes_eq k l ≡ b
    → (if b then Some t else tray_at k trays) ≡ Some s → Stands t (get_member l ms)
    → (tray_at k trays ≡ Some s → Stands s (get_member k ms))
    → Stands s (get_member k ms)
told_tray_at true k l s t trays ms is at told later =
    let same = same_text k l is in
    let e : Some t ≡ Some s = at in
    let this : t ≡ s = cc in
    subst (λ n. Stands s (get_member n ms)) (sym same) (subst (λ u. Stands u (get_member l ms)) this told)
told_tray_at false k l s t trays ms is at told later = later at

-- what stands at a name is what its tray says
pub told_tray : (trays : Trays) (k : List ℕ) (s : Tray) (ms : Members) → tray_at k trays ≡ Some s → Tells ms trays
    → Stands s (get_member k ms)
told_tray [] k s ms at told = cc
told_tray (t ∷ trays) k s ms at told =
    told_tray_at (bytes_eq k t.0) k t.0 s t.1 trays ms refl at told.0 (λ later. told_tray trays k s ms later told.1)

-- an open tray's name has no member
pub nothing_yet : (trays : Trays) (k : List ℕ) (s : Tray) (ms : Members) → tray_at k trays ≡ Some s → IsOpen s → Tells ms trays
    → get_member k ms ≡ None
nothing_yet trays k s ms at unread told = not_there s (get_member k ms) unread (told_tray trays k s ms at told)

pub no_node : (o : Option Node) → option_map close_node o ≡ None → o ≡ None
no_node None h = refl
no_node (Some x) h = cc

-- a new key goes in
pub put_new : (k : List ℕ) (d : Data) (ns : Nodes) → get_member k (close ns) ≡ None → put ([], k) d ns ≡ Some (insert k (value d) ns)
unfolding along_dots at_key
put_new k d ns none =
    let missing = no_node (get_node k ns) (sym (closed_at k ns) ∙ none) in
    rw missing refl

empty : (s : Tray) → IsOpen s → Stands s None
empty (tables kind ts) unread = absurd unread
empty s unread = ap Ok (sym unread)

-- no member yet, and no tray filled
pub none_yet : (trays : Trays) → AreOpen trays → Tells (close no_nodes) trays
none_yet [] unread = tt
none_yet (s ∷ trays) unread = (empty s.1 unread.0, none_yet trays unread.1)
