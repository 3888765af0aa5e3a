-- The index of a journal: with a mark off, with an entry more, and with a node more.
use Rattle.std.proofs.Common.{◌≡◌, ℕ, zero, suc, ◌+◌, ◌-◌, ◌<◌, ◌≤◌, inl, inr, Bool, true, false, cond, ◌||◌, List, [], ◌∷◌, ◌++◌, refl, sym, ◌∙◌, ap, subst, Option, Some, None, arith, length, map}
use Rattle.std.specs.List.{slice_get}
use Rattle.std.proofs.lemmas.List.{length-map, length-append}
use Rattle.std.proofs.lemmas.Option.{slice_get-map, slice_get_past, slice_get_within, same_Some}
use Rattle.tsn_edit.proofs.KeyFacts.{by_bool, by_option}
use Rattle.tsn_entries.specs.declared.entries.What.{What}
use Rattle.tsn_entries.specs.declared.entries.MarkedEntry.{MarkedEntry}
use Rattle.tsn_journal.specs.declared.groups.Group.{Group}
use Rattle.tsn_journal.specs.declared.index.Index.{Index}
use Rattle.tsn_journal.specs.declared.index.Node.{Node}
use Rattle.tsn_journal.specs.Index.{Adds, AreNodes, IsIndexed, IsIndexedBut, IsIndexedButNewest, IsLast, IsNode, NoneBetween, TakesRoom, belongs, belongs_to_others, group_if, is_among, is_by, is_of, number_at, number_of, other_from, other_of, node_at, set_at}
use Rattle.tsn_journal.specs.Latest.{TakesRows, latest_of, same_group}
use Rattle.tsn_entries.specs.Marks.{mark_off}
use Rattle.tsn_journal.proofs.Grouping.{belongs-mark_off, by-mark_off, group_itself, one_group, others-mark_off}
use Rattle.tsn_journal.proofs.Links.{end_at, front_at, hop, none_some, not_of_others, node_end, node_front, where_at}

-- ---- a mark off

module _ (w : What) (ms : List MarkedEntry) where
  none_off : (t : MarkedEntry → Bool) → ((m : MarkedEntry) → t m ≡ false → t (mark_off w m) ≡ false) → (n limit : ℕ)
      → NoneBetween t ms n limit → NoneBetween t (map (mark_off w) ms) n limit
  none_off t falls n limit none i m low high at = grind (arith, slice_get-map, none_some, same_Some)

  last_off : (g : Group) (t : MarkedEntry → Bool) → ((m : MarkedEntry) → t m ≡ false → t (mark_off w m) ≡ false)
      → (ps : List Node) (j limit : ℕ) → IsLast g t ms ps j limit → IsLast g t (map (mark_off w) ms) ps j limit
  last_off g t falls ps j limit is =
      record { within = is.within; group = is.group; none_later = none_off t falls (number_at ps j) limit is.none_later }

  pub indexed_off : (a : Index) → IsIndexed ms a → IsIndexed (map (mark_off w) ms) a
  indexed_off a is = record {
    nodes = λ i p at.
        let old = is.nodes i p at in record {
          some = old.some;
          within = subst (λ k. p.number ≤ k) (sym (length-map ms (mark_off w))) old.within;
          earlier = old.earlier;
          less = old.less;
          last = last_off p.group (belongs p.group) (belongs-mark_off w p.group) a.nodes.items p.before p.number old.last;
          other_earlier = old.other_earlier;
          other = λ s by.
              last_off p.group (belongs_to_others p.group s) (others-mark_off w p.group s) a.nodes.items p.other p.number
              (old.other s (sym (ap (is_by s) (slice_get-map (mark_off w) ms (p.number - 1))
              ∙ by-mark_off w s (slice_get ms (p.number - 1))) ∙ by));
        };
    latest_is = λ g.
        last_off g (belongs g) (belongs-mark_off w g) a.nodes.items (latest_of a.latest g) (length (map (mark_off w) ms) + 1)
        (subst (λ k. IsLast g (belongs g) ms a.nodes.items (latest_of a.latest g) (k + 1)) (sym (length-map ms (mark_off w)))
        (is.latest_is g));
  }

-- ---- an entry more

module _ (ms : List MarkedEntry) (x : MarkedEntry) where
  abbrev more : List MarkedEntry
  more = ms ++ x ∷ []

  longer : length more ≡ length ms + 1
  longer = length-append ms (x ∷ [])

  none_more : (t : MarkedEntry → Bool) (n limit : ℕ) → limit ≤ length ms + 1 → NoneBetween t ms n limit → NoneBetween t more n limit
  none_more t n limit few none i m low high at = none i m low high (sym (front_at ms (x ∷ []) i (omega arith)) ∙ at)

  last_more : (g : Group) (t : MarkedEntry → Bool) (ps : List Node) (j limit : ℕ) → limit ≤ length ms + 1 → IsLast g t ms ps j limit
      → IsLast g t more ps j limit
  last_more g t ps j limit few is =
      record { within = is.within; group = is.group; none_later = none_more t (number_at ps j) limit few is.none_later }

  -- an entry more, which has no node yet
  pub indexed_more : (a : Index) → IsIndexed ms a → IsIndexedButNewest more a
  indexed_more a is =
      let ps = a.nodes.items in
      record {
        nodes = λ i p at.
            let old = is.nodes i p at in
            grind (arith, longer, last_more, front_at);
        latest_is = λ g.
            subst (λ k. IsLast g (belongs g) more ps (latest_of a.latest g) k) (sym longer)
            (last_more g (belongs g) ps (latest_of a.latest g) (length ms + 1) (omega arith) (is.latest_is g));
      }

-- ---- a node more

module _ (ms : List MarkedEntry) where
  pub indexed_skip : (rest : List (Option Group)) (ps : List Node) (l : Group → ℕ) → IsIndexedBut (None ∷ rest) ms ps l
      → IsIndexedBut rest ms ps l
  indexed_skip rest ps l is = record { nodes = is.nodes; latest_is = is.latest_is }

  -- the newest nodes may be said otherwise
  pub reindexed : (pending : List (Option Group)) (ps : List Node) (l k : Group → ℕ) → ((g : Group) → k g ≡ l g)
      → IsIndexedBut pending ms ps l → IsIndexedBut pending ms ps k
  reindexed pending ps l k same is = grind arith

  -- the newest entry is in no group but the pending ones
  pub pending_newest : (pending : List (Option Group)) (a : Index)
      → ((m : MarkedEntry) → slice_get ms (length ms - 1) ≡ Some m → (g : Group) → belongs g m ≡ true → is_among pending g ≡ true)
      → IsIndexedButNewest ms a → IsIndexedBut pending ms a.nodes.items (latest_of a.latest)
  pending_newest pending a covers is = grind arith

  -- no entry comes after the newest one
  past_end : (t : MarkedEntry → Bool) (n limit : ℕ) → length ms ≤ n → NoneBetween t ms n limit
  past_end t n limit h i m low high at = let in' : i < length ms = slice_get_within ms i m at in absurd (omega arith)

  pub last_front : (g : Group) (t : MarkedEntry → Bool) (ps : List Node) (p : Node) (j limit : ℕ) → IsLast g t ms ps j limit
      → IsLast g t ms (ps ++ p ∷ []) j limit
  last_front g t ps p j limit is = grind (arith, node_front, length-append)

  node_more : (ps : List Node) (q : Node) (i : ℕ) (p : Node) → i ≤ length ps → IsNode ms ps i p → IsNode ms (ps ++ q ∷ []) i p
  node_more ps q i p few is =
      record {
        some = is.some;
        within = is.within;
        earlier = is.earlier;
        less = subst (λ o. number_of o < p.number) (sym (node_front ps (q ∷ []) p.before is.last.within)) is.less;
        last = last_front p.group (belongs p.group) ps q p.before p.number is.last;
        other_earlier = is.other_earlier;
        other = λ s by. last_front p.group (belongs_to_others p.group s) ps q p.other p.number (is.other s by);
      }

  -- the last node of another session, looked up from the last one of any
  others_of : (g : Group) (s : ℕ) (ps : List Node) (j limit : ℕ) → IsLast g (belongs g) ms ps j limit
      → IsLast g (belongs_to_others g s) ms ps j limit
  others_of g s ps j limit is =
      record { within = is.within; group = is.group; none_later = λ i m low high at. not_of_others g s m (is.none_later i m low high at) }

  other_last : (g : Group) (s : ℕ) (ps : List Node) (j limit : ℕ) → AreNodes ms ps → IsLast g (belongs g) ms ps j limit
      → IsLast g (belongs_to_others g s) ms ps (other_of ms ps s j) limit
  other_last g s ps j limit are is = by_option (node_at ps j)
      (λ none. subst (λ o. IsLast g (belongs_to_others g s) ms ps (other_from ms s j o) limit) (sym none)
      (record {
        within = omega arith;
        group = refl;
        none_later = subst (λ o. NoneBetween (belongs_to_others g s) ms (number_of o) limit) none
            (others_of g s ps j limit is).none_later;
      }))
      (λ p there. subst (λ o. IsLast g (belongs_to_others g s) ms ps (other_from ms s j o) limit) (sym there)
      (by_bool (is_by s (slice_get ms (p.number - 1)))
      (λ yes. subst (λ b. IsLast g (belongs_to_others g s) ms ps (cond b p.other j) limit) (sym yes)
      (hop ms ps g j p is.group there are s limit (others_of g s ps j limit is) yes))
      (λ no. subst (λ b. IsLast g (belongs_to_others g s) ms ps (cond b p.other j) limit) (sym no) (others_of g s ps j limit is))))

  other_in : (s : ℕ) (ps : List Node) (j : ℕ) → j ≤ length ps → AreNodes ms ps → other_of ms ps s j ≤ length ps
  other_in s ps zero h are = omega arith
  other_in s ps (suc i) h are = by_option (slice_get ps i)
      (λ none. subst (λ o. other_from ms s (suc i) o ≤ length ps) (sym none) (omega arith))
      (λ p there. subst (λ o. other_from ms s (suc i) o ≤ length ps) (sym there)
      (elim (is_by s (slice_get ms (p.number - 1))) as (λ b. cond b p.other (suc i) ≤ length ps)
      [ true ↦ omega (arith, (are i p there).other_earlier) | false ↦ h ]))

  by_one : (s q : ℕ) (o : Option MarkedEntry) → is_by s o ≡ true → is_by q o ≡ true → s ≡ q
  by_one s q o h k = grind arith

  module _ (g : Group) (n s before : ℕ) (ps : List Node) (newest : n ≡ length ms) (some : 1 ≤ n)
      (by : is_by s (slice_get ms (n - 1)) ≡ true) (are : AreNodes ms ps) (here : IsLast g (belongs g) ms ps before (length ms)) where
    abbrev pub new_node : Node
    new_node = record { group = g; number = n; before = before; other = other_of ms ps s before }

    the_node : number_at ps before < n → IsNode ms ps (length ps) new_node
    the_node less = record {
      some = some;
      within = omega arith;
      earlier = here.within;
      less = less;
      last = subst (λ k. IsLast g (belongs g) ms ps before k) (sym newest) here;
      other_earlier = other_in s ps before here.within are;
      other = λ q by'.
          subst (λ r. IsLast g (belongs_to_others g r) ms ps (other_of ms ps s before) n) (by_one s q _ by by')
          (subst (λ k. IsLast g (belongs_to_others g s) ms ps (other_of ms ps s before) k) (sym newest)
          (other_last g s ps before (length ms) are here));
    }

    pub new_last : (q : Group) (limit : ℕ) → g ≡ q → IsLast q (belongs q) ms (ps ++ new_node ∷ []) (length ps + 1) limit
    new_last q limit same = record {
      within = omega (arith, length-append ps (new_node ∷ []));
      group = ap (is_of q) (node_end ps new_node) ∙ ap (same_group g) (sym same) ∙ group_itself g;
      none_later = past_end (belongs q) _ limit (subst (λ o. length ms ≤ number_of o) (sym (node_end ps new_node)) (omega arith));
    }

    pub nodes_with : number_at ps before < n → AreNodes ms (ps ++ new_node ∷ [])
    nodes_with less i p at =
        elim (where_at (length ps) i) [
          | inl front ↦ node_more ps new_node i p (omega arith) (are i p (sym (front_at ps (new_node ∷ []) i front) ∙ at))
          | inr more ↦ elim more [
            | inl at_end ↦ subst (λ r. IsNode ms (ps ++ new_node ∷ []) i r)
                (same_Some new_node p (sym (end_at ps new_node i at_end) ∙ at))
                (node_more ps new_node i new_node (omega arith) (subst (λ k. IsNode ms ps k new_node) (sym at_end) (the_node less)))
            | inr after ↦ none_some p (sym (slice_get_past (ps ++ new_node ∷ []) i (omega (arith, length-append ps (new_node ∷ []))))
                ∙ at)
          ]
        ]

  module _ (g : Group) (rest : List (Option Group)) (n s : ℕ) (ps : List Node) (l : Group → ℕ) (newest : n ≡ length ms) (some : 1 ≤ n)
      (by : is_by s (slice_get ms (n - 1)) ≡ true) (is : IsIndexedBut (Some g ∷ rest) ms ps l) where
    here' : IsLast g (belongs g) ms ps (l g) (length ms)
    here' = subst (λ b. IsLast g (belongs g) ms ps (l g) (cond (b || is_among rest g) (length ms) (length ms + 1))) (group_itself g)
        (is.latest_is g)

    abbrev node' : Node
    node' = record { group = g; number = n; before = l g; other = other_of ms ps s (l g) }

    others : (q : Group) → same_group g q ≡ false → IsLast q (belongs q) ms ps (l q) (cond (is_among rest q) (length ms) (length ms + 1))
    others q other =
        subst (λ b. IsLast q (belongs q) ms ps (l q) (cond (b || is_among rest q) (length ms) (length ms + 1))) other (is.latest_is q)

    with_node : number_at ps (l g) < n → IsIndexedBut rest ms (ps ++ node' ∷ []) (set_at g (length ps + 1) l)
    with_node less = record {
      nodes = nodes_with g n s (l g) ps newest some by is.nodes here' less;
      latest_is = λ q.
          by_bool (same_group g q)
          (λ same. subst (λ b. IsLast q (belongs q) ms (ps ++ node' ∷ []) (cond b (length ps + 1) (l q))
          (cond (is_among rest q) (length ms) (length ms + 1))) (sym same)
          (new_last g n s (l g) ps newest some by is.nodes here' q _ (one_group g q same)))
          (λ other. subst (λ b. IsLast q (belongs q) ms (ps ++ node' ∷ []) (cond b (length ps + 1) (l q))
          (cond (is_among rest q) (length ms) (length ms + 1))) (sym other) (last_front q (belongs q) ps node' _ _ (others q other)));
    }

    -- the newest node of the group stays
    same_latest : (q : Group) → set_at g (l g) l q ≡ l q
    same_latest q = by_bool (same_group g q)
        (λ same. ap (λ b. cond b (l g) (l q)) same ∙ ap l (one_group g q same))
        (λ other. ap (λ b. cond b (l g) (l q)) other)

    without_node : n ≤ number_at ps (l g) → IsIndexedBut rest ms ps l
    without_node least = record {
      nodes = is.nodes;
      latest_is = λ q.
          by_bool (same_group g q)
          (λ same.
          let one : g ≡ q = one_group g q same in
          subst (λ r. IsLast r (belongs r) ms ps (l r) (cond (is_among rest r) (length ms) (length ms + 1))) one
          (record { within = here'.within; group = here'.group; none_later = past_end (belongs g) _ _ (omega arith) }))
          (λ other. others q other);
    }

    pub indexed_node : (qs : List Node) (j : ℕ) → Adds ms true g n s (l g) ps qs j → IsIndexedBut rest ms qs (set_at g j l)
    indexed_node qs j adds =
        elim (where_at n (number_at ps (l g))) [
          | inl less ↦ subst (λ k. IsIndexedBut rest ms qs (set_at g k l)) (sym (adds.node refl less))
              (subst (λ xs. IsIndexedBut rest ms xs (set_at g (length ps + 1) l)) (sym (adds.nodes refl less)) (with_node less))
          | inr least ↦
              let at_least : n ≤ number_at ps (l g) = elim least [ inl e ↦ omega arith | inr m ↦ omega arith ] in
              subst (λ k. IsIndexedBut rest ms qs (set_at g k l)) (sym (adds.there_node at_least))
              (subst (λ xs. IsIndexedBut rest ms xs (set_at g (l g) l)) (sym (adds.there at_least))
              (reindexed rest ps l (set_at g (l g) l) same_latest (without_node at_least)))
        ]

  unchanged : (g : Group) (l : Group → ℕ) (q : Group) → set_at g (l g) l q ≡ l q
  unchanged g l q = grind arith

  -- the same where the node may be unwanted
  pub indexed_if : (wanted : Bool) (g : Group) (rest : List (Option Group)) (n s before : ℕ) (ps : List Node) (l : Group → ℕ)
      → n ≡ length ms → 1 ≤ n → is_by s (slice_get ms (n - 1)) ≡ true → before ≡ l g
      → (qs : List Node) (j : ℕ) → Adds ms wanted g n s before ps qs j → IsIndexedBut (group_if wanted g ∷ rest) ms ps l
      → IsIndexedBut rest ms qs (set_at g j l)
  indexed_if true g rest n s before ps l newest some by same qs j adds is =
      indexed_node g rest n s ps l newest some by is qs j (subst (λ b. Adds ms true g n s b ps qs j) same adds)
  indexed_if false g rest n s before ps l newest some by same qs j adds is =
      subst (λ k. IsIndexedBut rest ms qs (set_at g k l)) (sym (adds.unwanted_node refl ∙ same))
      (subst (λ xs. IsIndexedBut rest ms xs (set_at g (l g) l)) (sym (adds.unwanted refl))
      (reindexed rest ps l (set_at g (l g) l) (unchanged g l) (indexed_skip rest ps l is)))

  -- what is known with pending groups is known but for the newest entry
  pub but_newest : (pending : List (Option Group)) (a : Index) → IsIndexedBut pending ms a.nodes.items (latest_of a.latest)
      → IsIndexedButNewest ms a
  but_newest pending a is = grind arith

-- ---- room

pub rows_then : (n k : ℕ) (a b d : Index) → TakesRows n a.latest b.latest → TakesRows k b.latest d.latest
    → TakesRows (n + k) a.latest d.latest
rows_then n k a b d h m = grind arith

pub takes_more : (n k : ℕ) (a b d : Index) → TakesRoom n a b → TakesRoom k b d → TakesRoom (n + k) a d
takes_more n k a b d h m = grind arith
