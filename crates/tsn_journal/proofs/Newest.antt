-- The newest nodes of groups: with a node more, set back, and with marks off.
use Rattle.std.proofs.Common.{◌≡◌, ℕ, zero, suc, ◌+◌, ◌-◌, ◌<◌, ◌≤◌, ◌⊎◌, inl, inr, Bool, true, cond, ◌||◌, List, [], ◌∷◌, ◌++◌, refl, sym, ◌∙◌, ap, subst, Option, Some, None, append-nil, arith, get_or, length, map, max, take}
use Rattle.std.proofs.lemmas.Grind.{common_steps, flat_map-append}
use Rattle.std.specs.Prelude.{◌==◌, option_map}
use Rattle.std.specs.List.{find, slice_get}
use Rattle.std.proofs.lemmas.List.{length-append, length-map}
use Rattle.std.proofs.lemmas.Option.{get_or_from_slice_get, slice_get-map, slice_get_within, same_Some}
use Rattle.std.proofs.lemmas.Bool.{eqb-true, or_left, or_right, both_ways, leb-true}
use Rattle.tsn_types.specs.declared.keys.Key.{Key}
use Rattle.tsn_types.specs.declared.records.Refs.{Refs}
use Rattle.tsn_types.specs.Keys.{has, keys_of_refs, refs_of, same_key}
use Rattle.tsn_edit.specs.Changes.{keys_of, refs_after}
use Rattle.tsn_edit.specs.Parts.{Change, Part, parts}
use Rattle.tsn_edit.proofs.KeyFacts.{by_option, has-append, same_itself}
use Rattle.tsn_entries.specs.declared.entries.MarkedEntry.{MarkedEntry}
use Rattle.tsn_entries.specs.declared.entries.Entry.{Entry}
use Rattle.tsn_entries.specs.declared.entries.What.{What}
use Rattle.tsn_journal.specs.declared.groups.Group.{Group}
use Rattle.tsn_journal.specs.declared.groups.Group.TheVariants.{On, RefersTo, Of, EndsRedo}
use Rattle.tsn_journal.specs.declared.index.Index.{Index}
use Rattle.tsn_journal.specs.declared.index.Node.{Node}
use Rattle.tsn_entries.specs.Entries.{IsNumbered, adds, closes, names, settles_to}
use Rattle.tsn_entries.specs.Marks.{AreOff, entries_of, mark_off, standing_change}
use Rattle.tsn_journal.specs.Index.{Adds, AreNodes, IsIndexed, IsNewest, belongs, groups_of_parts, is_among, is_on, part_groups, node_at, refers, set_at}
use Rattle.tsn_journal.specs.Latest.{latest_of}
use Rattle.tsn_journal.specs.Newest.{AreNewest, HasNewest, IsIn, KeepsNewest, MendsNewest, groups_of}
use Rattle.tsn_journal.proofs.Grouping.{covers, first_true, is_among-append, one_group}
use Rattle.tsn_journal.proofs.Links.{front_at, none_some, node_end, node_front, node_of, where_at}
use Rattle.tsn_journal.proofs.Marking.{entry_stays, found_number}
use Rattle.tsn_journal.proofs.Off.{off_at}
use Rattle.tsn_journal.proofs.Sought.{take_next}

-- ---- numbers

max_above : (n k : ℕ) → k ≤ max n k
max_above n k = omega arith

pub number_at' : (n : ℕ) (ms : List MarkedEntry) (i : ℕ) (m : MarkedEntry) → IsNumbered n (entries_of ms) → slice_get ms i ≡ Some m
    → m.entry.number ≡ i + n
number_at' n [] i m h at = none_some m at
number_at' n (y ∷ ms) zero m h at =
    ap (λ (z : MarkedEntry). z.entry.number) (sym (same_Some y m at)) ∙ h.0 ∙ (let e : n ≡ zero + n = omega arith in e)
number_at' n (y ∷ ms) (suc i) m h at = number_at' (n + 1) ms i m h.1 at ∙ (let e : i + (n + 1) ≡ suc i + n = omega arith in e)

found_at : (ms : List MarkedEntry) (i : ℕ) (m : MarkedEntry) (k : ℕ) → IsNumbered 1 (entries_of ms) → slice_get ms i ≡ Some m → k ≡ i + 1
    → find (λ (y : MarkedEntry). y.entry.number == k) ms ≡ Some m
found_at ms i m k h at is =
    found_number 1 i k ms m h (omega (arith, is)) (slice_get_within ms i m at) (sym (get_or_from_slice_get ms i m m at))

-- ---- nodes

pub in_node : (g : Group) (ms : List MarkedEntry) (ps : List Node) (j : ℕ) (p : Node) (m : MarkedEntry) → node_at ps j ≡ Some p
    → slice_get ms (p.number - 1) ≡ Some m → belongs g m ≡ true → IsIn g ms ps j
in_node g ms ps j p m there at is = grind arith

in_longer : (g : Group) (ms : List MarkedEntry) (ps qs : List Node) (j : ℕ) → j ≤ length ps → IsIn g ms ps j → IsIn g ms (ps ++ qs) j
in_longer g ms ps qs j within is = record { belongs = λ p m there at. is.belongs p m (sym (node_front ps qs j within) ∙ there) at }

-- ---- a node more

module _ (ms : List MarkedEntry) (wanted : Bool) (g : Group) (n s before : ℕ) (ps qs : List Node) (j : ℕ) (count : n ≡ length ms)
    (some : 1 ≤ n) (are : AreNodes ms ps) (adds' : Adds ms wanted g n s before ps qs j) (in' : wanted ≡ true → (m : MarkedEntry)
    → slice_get ms (n - 1) ≡ Some m → belongs g m ≡ true) where
  -- the node that the group has then is of the newest entry, or the one that it had
  pub added_in : before ≤ length ps → IsIn g ms ps before → IsIn g ms qs j
  added_in within old = grind (arith, where_at, same_Some, node_end)

  pub added_other : (q : Group) (k : ℕ) → k ≤ length ps → IsIn q ms ps k → IsIn q ms qs k
  added_other q k within old = grind (arith, where_at, in_longer)

  -- with the group's newest node set there, all others have theirs
  pub added_kept : (l k : Group → ℕ) → before ≡ l g → ((q : Group) → l q ≤ length ps) → ((q : Group) → k q ≡ set_at g j l q) → (q : Group)
      → IsIn q ms ps (l q) → IsIn q ms qs (k q)
  added_kept l k here within is q old = grind (arith, common_steps, one_group, added_in, added_other)

  pub added_within : (l : Group → ℕ) → before ≡ l g → ((q : Group) → l q ≤ length ps) → (q : Group) → set_at g j l q ≤ length qs
  added_within l here within q = grind (arith, where_at, length-append)

-- ---- a newest node set back

-- both groups of a session
pub mends_ref : (ms : List MarkedEntry) (k : Key) (j : ℕ) (a b : Index) → b.nodes.items ≡ a.nodes.items
    → ((q : Group) → latest_of b.latest q ≡ set_at (RefersTo k) j (latest_of a.latest) q)
    → IsIn (RefersTo k) ms a.nodes.items j → MendsNewest ms (Some (RefersTo k) ∷ []) a b
mends_ref ms k j a b nodes is of = grind arith

pub mends_two : (ms : List MarkedEntry) (s j k : ℕ) (a b : Index) → b.nodes.items ≡ a.nodes.items
    → ((q : Group) → latest_of b.latest q ≡ set_at (EndsRedo s) k (set_at (Of s) j (latest_of a.latest)) q)
    → IsIn (Of s) ms a.nodes.items j → IsIn (EndsRedo s) ms a.nodes.items k → MendsNewest ms (Some (Of s) ∷ Some (EndsRedo s) ∷ []) a b
mends_two ms s j k a b nodes is of ends = grind arith

pub mends_then : (ms : List MarkedEntry) (gs hs : List (Option Group)) (a b d : Index) → MendsNewest ms gs a b → MendsNewest ms hs b d
    → MendsNewest ms (gs ++ hs) a d
mends_then ms gs hs a b d first second = grind (arith, is_among-append)

pub mends_after : (ms : List MarkedEntry) (gs : List (Option Group)) (a b d : Index) → MendsNewest ms gs a b → KeepsNewest ms b d
    → MendsNewest ms gs a d
mends_after ms gs a b d first then = record { kept = λ q had. then q (first.kept q had); mended = λ q among. then q (first.mended q among) }

pub mends_before : (ms : List MarkedEntry) (gs : List (Option Group)) (a b d : Index) → KeepsNewest ms a b → MendsNewest ms gs b d
    → MendsNewest ms gs a d
mends_before ms gs a b d first then = record { kept = λ q had. then.kept q (first q had); mended = λ q among. then.mended q among }

-- ---- the groups of an entry are all to which it may belong

-- one that adds nothing belongs to none but those of its session
of_none : (m : MarkedEntry) (g : Group) → adds m.entry.what ≡ None → belongs g m ≡ true
    → is_among (Some (Of m.entry.session) ∷ Some (EndsRedo m.entry.session) ∷ []) g ≡ true
of_none m g none h = grind arith

pub may_belong : (m : MarkedEntry) (g : Group) → belongs g m ≡ true → is_among (groups_of m.entry) g ≡ true
may_belong m g h = grind (arith, of_none, covers, or_left, first_true)

-- ---- the newest entry belongs to the groups in which it gets a node

pub has_key : (ps : List Part) (i : ℕ) (p : Part) → i < length ps → p ≡ get_or ps i p → has (keys_of ps) p.key ≡ true
has_key [] i p short is = absurd (omega arith)
has_key (x ∷ ps) zero p short is =
    or_left (same_key p.key x.key) (has (keys_of ps) p.key) (ap (λ (y : Part). same_key p.key y.key) (sym is) ∙ same_itself p.key)
has_key (x ∷ ps) (suc i) p short is = or_right (same_key p.key x.key) (has (keys_of ps) p.key) (has_key ps i p (omega arith) is)

has_ref : (ps : List Part) (i : ℕ) (p : Part) (k : Key) → i < length ps → p ≡ get_or ps i p → has (refs_of p.after) k ≡ true
    → has (refs_after ps) k ≡ true
has_ref [] i p k short is h = absurd (omega arith)
has_ref (x ∷ ps) zero p k short is h =
    has-append (refs_of x.after) (refs_after ps) k
    ∙ or_left (has (refs_of x.after) k) (has (refs_after ps) k) (ap (λ (y : Part). has (refs_of y.after) k) (sym is) ∙ h)
has_ref (x ∷ ps) (suc i) p k short is h =
    has-append (refs_of x.after) (refs_after ps) k
    ∙ or_right (has (refs_of x.after) k) (has (refs_after ps) k) (has_ref ps i p k (omega arith) is h)

first_of : (a b : Option Key) (k : Key) → a ≡ Some k → has (keys_of_refs (record { first = a; second = b })) k ≡ true
first_of a b k h = grind arith

second_of : (a b : Option Key) (k : Key) → b ≡ Some k → has (keys_of_refs (record { first = a; second = b })) k ≡ true
second_of a b k h = grind (arith, none_some, or_left, same_Some, same_itself, or_right)

module _ (ms : List MarkedEntry) (n s : ℕ) (c : Change) (ends : Bool) (newest : IsNewest ms n s c ends) (m : MarkedEntry)
    (at : slice_get ms (n - 1) ≡ Some m) where
  stands' : standing_change m ≡ Some c
  stands' = ap (λ b. cond b (adds m.entry.what) None) (newest.is_open m at) ∙ newest.change m at

  pub in_key : (i : ℕ) (p : Part) → i < length (parts c) → p ≡ get_or (parts c) i p → belongs (On p.key) m ≡ true
  in_key i p short is = ap (is_on p.key) stands' ∙ has_key (parts c) i p short is

  pub in_ref : (i : ℕ) (p : Part) (refs : Refs) (k : Key) → i < length (parts c) → p ≡ get_or (parts c) i p
      → keys_of_refs refs ≡ refs_of p.after → ((refs.first ≡ Some k) ⊎ (refs.second ≡ Some k)) → belongs (RefersTo k) m ≡ true
  in_ref i p refs k short is same which =
      ap (refers k) stands' ∙ has_ref (parts c) i p k short is
      (ap (λ ks. has ks k) (sym same)
      ∙ elim which [ inl one ↦ first_of refs.first refs.second k one | inr two ↦ second_of refs.first refs.second k two ])

-- ---- the groups of parts, one after another

pub mends_part : (ms : List MarkedEntry) (ps : List Part) (i : ℕ) (p : Part) (refs : Refs) (a b d e f : Index) → i < length ps
    → p ≡ get_or ps i p → keys_of_refs refs ≡ refs_of p.after
    → MendsNewest ms (groups_of_parts (take i ps)) a b → MendsNewest ms (Some (On p.key) ∷ []) b d
    → MendsNewest ms (option_map RefersTo refs.first ∷ []) d e → MendsNewest ms (option_map RefersTo refs.second ∷ []) e f
    → MendsNewest ms (groups_of_parts (take (i + 1) ps)) a f
mends_part ms ps i p refs a b d e f short is same before on first second =
    let all = mends_then ms _ _ a b f before (mends_then ms _ _ b d f on (mends_then ms _ _ d e f first second)) in
    record {
      kept = all.kept;
      mended = λ q among. all.mended q
          (is_among-append (groups_of_parts (take i ps)) _ q
          ∙ more q (sym (is_among-append (groups_of_parts (take i ps)) (part_groups p) q)
          ∙ sym (ap (λ gs. is_among gs q)
          (ap groups_of_parts (take_next ps i p short is) ∙ flat_map-append part_groups (take i ps) (p ∷ [])
          ∙ ap (λ gs. groups_of_parts (take i ps) ++ gs) (append-nil (part_groups p)))) ∙ among));
    }
  where
    two : (k : Key) (x y : Option Key) (q : Group)
        → is_among (Some (On k) ∷ map (λ r. Some (RefersTo r)) (keys_of_refs (record { first = x; second = y }))) q
        ≡ is_among (Some (On k) ∷ option_map RefersTo x ∷ option_map RefersTo y ∷ []) q
    two k None None q = refl
    two k None (Some y) q = refl
    two k (Some x) None q = refl
    two k (Some x) (Some y) q = refl

    more : (q : Group) → (is_among (groups_of_parts (take i ps)) q || is_among (part_groups p) q) ≡ true
        → (is_among (groups_of_parts (take i ps)) q
        || is_among (Some (On p.key) ∷ option_map RefersTo refs.first ∷ option_map RefersTo refs.second ∷ []) q) ≡ true
    more q h = ap (λ o. is_among (groups_of_parts (take i ps)) q || o)
        (sym (ap (λ ks. is_among (Some (On p.key) ∷ map (λ r. Some (RefersTo r)) ks) q) (sym same) ∙ two p.key refs.first refs.second q))
        ∙ h

-- ---- an entry more, and the marks that it puts off

module _ (w : What) (ms : List MarkedEntry) (x : MarkedEntry) (a : Index) (is : IsIndexed ms a) (numbered : IsNumbered 1 (entries_of ms))
  where
    abbrev pub then' : List MarkedEntry
    then' = map (mark_off w) ms ++ x ∷ []

    -- what a group may have lost: an entry that stood open, that w closes, and that may belong to it
    pub record IsLost (g : Group) : Type 0 where
      pub place : ℕ
      pub entry : MarkedEntry
      pub at : slice_get ms place ≡ Some entry
      pub on : entry.is_open ≡ true
      pub closed : closes w entry.entry ≡ true
      pub among : is_among (groups_of entry.entry) g ≡ true

    pub newest_or_lost : (g : Group) → HasNewest ms a g → HasNewest then' a g ⊎ IsLost g
    newest_or_lost g had = by_option (node_at a.nodes.items (latest_of a.latest g))
        (λ none. inl (record { belongs = λ p m there at. none_some p (sym none ∙ there) }))
        (λ p there.
        let node = node_of ms a.nodes.items (latest_of a.latest g) p there is.nodes in
        let low : 1 ≤ p.number = node.some in
        let high : p.number ≤ length ms = node.within in
        by_option (slice_get ms (p.number - 1))
        (λ none. absurd (omega (arith, past_none ms (p.number - 1) none)))
        (λ m at.
        let now : slice_get then' (p.number - 1) ≡ Some (mark_off w m) = front_at (map (mark_off w) ms) (x ∷ []) (p.number - 1)
        (omega (arith, length-map ms (mark_off w))) ∙ slice_get-map (mark_off w) ms (p.number - 1) ∙ ap (option_map (mark_off w)) at in
        let in' : belongs g m ≡ true = had.belongs p m there at in
        grind (arith, may_belong, in_node)))
      where
        past_none : {A : Type 0} (xs : List A) (i : ℕ) → slice_get xs i ≡ None → length xs ≤ i
        past_none [] i h = omega arith
        past_none (y ∷ xs) zero h = none_some y (sym h)
        past_none (y ∷ xs) (suc i) h = let rest = past_none xs i h in omega arith

    -- it is the one that w names, or one of those that w settles
    pub lost_named : (g : Group) (lost : IsLost g) (old now : ℕ) → AreOff old ms → now ≡ max old (settles_to w)
        → (names w ≡ Some lost.entry.entry.number) ⊎ ((old ≤ lost.place) × (lost.place < now))
    lost_named g lost old now off is-now = grind (arith, number_at', where_at, both_ways, off_at, eqb-true, first_true, leb-true, max_above)

    -- the groups that were right are right again, once what w names and what it settles has left
    pub newest_again : (old now : ℕ) (b d : Index) (ns : List MarkedEntry) → ns ≡ then' → AreOff old ms → now ≡ max old (settles_to w)
        → AreNewest ms a → KeepsNewest ns a b → KeepsNewest ns b d
        → ((n : ℕ) (m : MarkedEntry) → names w ≡ Some n → find (λ y. y.entry.number == n) ns ≡ Some m
        → MendsNewest ns (groups_of m.entry) b d)
        → ((i : ℕ) (m : MarkedEntry) → old ≤ i → i < now → slice_get ns i ≡ Some m → MendsNewest ns (groups_of m.entry) b d)
        → IsNumbered 1 (entries_of ns) → AreNewest ns d
    newest_again old now b d ns pushed off is-now are entered left named settled numbers g = elim (newest_or_lost g (are g)) [
      | inl had ↦ left g (entered g (subst (λ xs. HasNewest xs a g) (sym pushed) had))
      | inr lost ↦
          let m = mark_off w lost.entry in
          let within : lost.place < length ms = slice_get_within ms lost.place lost.entry lost.at in
          let there : slice_get ns lost.place ≡ Some m = ap (λ xs. slice_get xs lost.place) pushed
          ∙ front_at (map (mark_off w) ms) (x ∷ []) lost.place (omega (arith, length-map ms (mark_off w), within))
          ∙ slice_get-map (mark_off w) ms lost.place ∙ ap (option_map (mark_off w)) lost.at in
          let among : is_among (groups_of m.entry) g ≡ true = ap (λ (f : Entry). is_among (groups_of f) g) (entry_stays w lost.entry)
          ∙ lost.among in
          elim (lost_named g lost old now off is-now) [
            | inl named' ↦ (named lost.entry.entry.number m named'
                (found_at ns lost.place m lost.entry.entry.number numbers there
                (number_at' 1 ms lost.place lost.entry numbered lost.at))).mended g among
            | inr range ↦ (settled lost.place m range.0 range.1 there).mended g among
          ]
    ]
