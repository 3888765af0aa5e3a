-- Groups as they are told apart, and what stays in one when a mark is put off.
use Rattle.std.proofs.Common.{◌≡◌, ℕ, Bool, true, false, cond, ◌||◌, ◌&&◌, List, [], ◌∷◌, ◌++◌, Option, Some, None, refl, sym, ◌∙◌, ap, arith, map}
use Rattle.std.specs.Prelude.{option_map}
use Rattle.std.proofs.Math.Bool.{or_assoc}
use Rattle.std.proofs.lemmas.Bool.{or_left, or_right}
use Rattle.tsn_types.specs.declared.keys.Key.{Key}
use Rattle.tsn_types.specs.Keys.{has, refs_of, same_key}
use Rattle.tsn_edit.specs.Changes.{keys_of, refs_after}
use Rattle.tsn_edit.specs.Parts.{Change, Part, parts}
use Rattle.tsn_edit.proofs.KeyFacts.{has-append, one_key}
use Rattle.tsn_entries.specs.declared.entries.What.{What}
use Rattle.tsn_entries.specs.declared.entries.MarkedEntry.{MarkedEntry}
use Rattle.tsn_journal.specs.declared.groups.Group.{Group}
use Rattle.tsn_journal.specs.declared.groups.Group.TheVariants.{On, RefersTo, Of, EndsRedo}
use Rattle.tsn_entries.specs.Entries.{adds, is_made}
use Rattle.tsn_entries.specs.Marks.{mark_off, standing_change}
use Rattle.tsn_journal.specs.Index.{belongs, belongs_to_others, group_if, groups_of_parts, is_among, is_by}
use Rattle.tsn_journal.specs.Latest.{same_group}

pub one_group : (a b : Group) → same_group a b ≡ true → a ≡ b
one_group a b h = grind arith

pub group_itself : (a : Group) → same_group a a ≡ true
group_itself a = grind arith

-- ---- a mark that is put off brings an entry into no group

pub belongs-mark_off : (w : What) (g : Group) (m : MarkedEntry) → belongs g m ≡ false → belongs g (mark_off w m) ≡ false
belongs-mark_off w g m h = grind arith

pub others-mark_off : (w : What) (g : Group) (s : ℕ) (m : MarkedEntry) → belongs_to_others g s m ≡ false
    → belongs_to_others g s (mark_off w m) ≡ false
others-mark_off w g s m h = grind arith

-- an entry stays its session's
pub by-mark_off : (w : What) (s : ℕ) (o : Option MarkedEntry) → is_by s (option_map (mark_off w) o) ≡ is_by s o
by-mark_off w s o = grind arith

-- ---- the groups of an entry are all that it may belong to

pub either : {G : Type 0} (a b : Bool) → (a || b) ≡ true → (a ≡ true → G) → (b ≡ true → G) → G
either a b h f g = grind arith

pub second_true : (a b : Bool) → (a && b) ≡ true → b ≡ true
second_true a b h = grind arith

pub none_true : {G : Type 0} (b : Bool) → b ≡ false → b ≡ true → G
none_true b fails passes = (cc)

same_one : (k y : Key) → same_key k y ≡ true → same_group (RefersTo y) (RefersTo k) ≡ true
same_one k y h = ap (λ x. same_group (RefersTo y) (RefersTo x)) (one_key k y h) ∙ group_itself (RefersTo y)

pub is_among-append : (gs hs : List (Option Group)) (g : Group) → is_among (gs ++ hs) g ≡ (is_among gs g || is_among hs g)
is_among-append [] hs g = refl
is_among-append (None ∷ gs) hs g = is_among-append gs hs g
is_among-append (Some x ∷ gs) hs g =
    ap (λ b. same_group x g || b) (is_among-append gs hs g) ∙ sym (or_assoc (same_group x g) (is_among gs g) (is_among hs g))

among_first : (gs hs : List (Option Group)) (g : Group) → is_among gs g ≡ true → is_among (gs ++ hs) g ≡ true
among_first gs hs g h = is_among-append gs hs g ∙ or_left _ _ h

pub among_second : (gs hs : List (Option Group)) (g : Group) → is_among hs g ≡ true → is_among (gs ++ hs) g ≡ true
among_second gs hs g h = is_among-append gs hs g ∙ or_right _ _ h

refs_among : (rs : List Key) (k : Key) → has rs k ≡ true → is_among (map (λ r. Some (RefersTo r)) rs) (RefersTo k) ≡ true
refs_among [] k h = (cc)
refs_among (r ∷ rs) k h = either (same_key k r) (has rs k) h
    (λ first. or_left _ _ (same_one k r first))
    (λ later. or_right _ _ (refs_among rs k later))

pub on_among : (ps : List Part) (k : Key) → has (keys_of ps) k ≡ true → is_among (groups_of_parts ps) (On k) ≡ true
on_among [] k h = (cc)
on_among (p ∷ ps) k h = either (same_key k p.key) (has (keys_of ps) k) h
    (λ same. or_left _ _ (ap (λ (x : Key). same_group (On p.key) (On x)) (one_key k p.key same) ∙ group_itself (On p.key)))
    (λ later. or_right _ _ (among_second (map (λ r. Some (RefersTo r)) (refs_of p.after)) (groups_of_parts ps) (On k)
    (on_among ps k later)))

pub refers_among : (ps : List Part) (k : Key) → has (refs_after ps) k ≡ true → is_among (groups_of_parts ps) (RefersTo k) ≡ true
refers_among [] k h = (cc)
refers_among (p ∷ ps) k h =
    let refs = map (λ r. Some (RefersTo r)) (refs_of p.after) in
    either (has (refs_of p.after) k) (has (refs_after ps) k) (sym (has-append (refs_of p.after) (refs_after ps) k) ∙ h)
    (λ first. among_first refs (groups_of_parts ps) (RefersTo k) (refs_among (refs_of p.after) k first))
    (λ later. among_second refs (groups_of_parts ps) (RefersTo k) (refers_among ps k later))

module _ (s : ℕ) (redo : Option Group) (m : MarkedEntry) (c : Change) (session : m.entry.session ≡ s) (adds' : adds m.entry.what ≡ Some c)
  where
    abbrev pub the_groups : List (Option Group)
    the_groups = groups_of_parts (parts c) ++ Some (Of s) ∷ redo ∷ []

    while_open : (t : Option Change → Bool) → t None ≡ false → t (standing_change m) ≡ true → t (Some c) ≡ true
    while_open t none h = grind arith

    pub covers : ((q : ℕ) → belongs (EndsRedo q) m ≡ true → is_among (redo ∷ []) (EndsRedo q) ≡ true) → (g : Group) → belongs g m ≡ true
        → is_among the_groups g ≡ true
    covers ends g h = grind (arith, among_first, on_among, while_open, refers_among, among_second, or_left, second_true)

pub first_true : (a b : Bool) → (a && b) ≡ true → a ≡ true
first_true a b h = grind arith

-- a made or redone entry ends a search for a redo where it was made
pub ends_or_not : (m : MarkedEntry) (s : ℕ) (c : Change) (ends : Bool) → m.entry.session ≡ s → adds m.entry.what ≡ Some c
    → is_made m.entry.what ≡ ends
    → (q : ℕ) → belongs (EndsRedo q) m ≡ true → is_among (group_if ends (EndsRedo s) ∷ []) (EndsRedo q) ≡ true
ends_or_not m s c ends same adds' made q h = grind arith

pub no_change : (m : MarkedEntry) → adds m.entry.what ≡ None → standing_change m ≡ None
no_change m none = elim m.is_open as (λ b. cond b (adds m.entry.what) None ≡ None) [ true ↦ none | false ↦ refl ]
