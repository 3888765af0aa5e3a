-- Nodes in their list, and what the links back from one say.
use Rattle.std.proofs.Common.{◌≡◌, ℕ, zero, suc, ◌+◌, ◌-◌, ◌<◌, ◌≤◌, ◌⊎◌, Bool, true, false, List, [], ◌∷◌, ◌++◌, refl, sym, ◌∙◌, ap, subst, Some, None, arith, length, get_or, add-one}
use Rattle.std.specs.List.{slice_get}
use Rattle.std.proofs.lemmas.Option.{slice_get_read}
use Rattle.std.proofs.lemmas.Bool.{and_left}
use Rattle.tsn_entries.specs.declared.entries.MarkedEntry.{MarkedEntry}
use Rattle.tsn_journal.specs.declared.groups.Group.{Group}
use Rattle.tsn_journal.specs.declared.index.Node.{Node}
use Rattle.tsn_journal.specs.Index.{AreNodes, IsLast, IsNode, NoneBetween, NoneFrom, belongs, belongs_to_others, is_by, is_of, number_at, node_at}
use Rattle.tsn_journal.proofs.Grouping.{one_group}

-- ---- lists with one element more

pub none_some : {A G : Type 0} (a : A) → None ≡ Some a → G
none_some a h = (cc)

pub front_at : {A : Type 0} (xs ys : List A) (i : ℕ) → i < length xs → slice_get (xs ++ ys) i ≡ slice_get xs i
front_at [] ys i h = absurd (omega arith)
front_at (x ∷ xs) ys zero h = refl
front_at (x ∷ xs) ys (suc i) h = front_at xs ys i (omega arith)

pub end_at : {A : Type 0} (xs : List A) (x : A) (i : ℕ) → i ≡ length xs → slice_get (xs ++ x ∷ []) i ≡ Some x
end_at [] x zero h = refl
end_at [] x (suc i) h = absurd (omega arith)
end_at (y ∷ xs) x zero h = absurd (omega arith)
end_at (y ∷ xs) x (suc i) h = end_at xs x i (omega arith)

pub where_at : (n i : ℕ) → (i < n) ⊎ ((i ≡ n) ⊎ (n < i))
where_at n i = grind arith

-- ---- nodes

pub node_front : (ps qs : List Node) (j : ℕ) → j ≤ length ps → node_at (ps ++ qs) j ≡ node_at ps j
node_front ps qs j h = grind (arith, front_at)

pub node_end : (ps : List Node) (p : Node) → node_at (ps ++ p ∷ []) (length ps + 1) ≡ Some p
node_end ps p = ap (node_at (ps ++ p ∷ [])) (add-one (length ps)) ∙ end_at ps p (length ps) refl

pub node_there : (ps : List Node) (j : ℕ) (p : Node) → (j ≡ 0 → ⊥) → j ≤ length ps → p ≡ get_or ps (j - 1) p → node_at ps j ≡ Some p
node_there ps j p some h at = grind (arith, slice_get_read)

pub node_of : (ms : List MarkedEntry) (ps : List Node) (j : ℕ) (p : Node) → node_at ps j ≡ Some p → AreNodes ms ps
    → IsNode ms ps (j - 1) p
node_of ms ps zero p there are = none_some p there
node_of ms ps (suc i) p there are = let e : i ≡ suc i - 1 = omega arith in subst (λ k. IsNode ms ps k p) e (are i p there)

-- the same of a node to which a walk came
pub came_to : {ms : List MarkedEntry} {ps : List Node} {j : ℕ} {p : Node} → (j ≡ 0 → ⊥) → j ≤ length ps → p ≡ get_or ps (j - 1) p
    → AreNodes ms ps → IsNode ms ps (j - 1) p
came_to {ms} {ps} {j} {p} some within at are = node_of ms ps j p (node_there ps j p some within at) are

-- what does not belong to a group is not of another session in it
pub not_of_others : (g : Group) (s : ℕ) (m : MarkedEntry) → belongs g m ≡ false → belongs_to_others g s m ≡ false
not_of_others g s m h = and_left (belongs g m) _ h

module _ (ms : List MarkedEntry) (ps : List Node) (g : Group) (j : ℕ) (p : Node) (group : is_of g (node_at ps j) ≡ true)
    (there : node_at ps j ≡ Some p) (are : AreNodes ms ps) where
  pub one : p.group ≡ g
  one = one_group p.group g (ap (is_of g) (sym there) ∙ group)

  pub the_node : IsNode ms ps (j - 1) p
  the_node = node_of ms ps j p there are

  pub next_group : is_of g (node_at ps p.before) ≡ true
  next_group = subst (λ h. is_of h (node_at ps p.before) ≡ true) one the_node.last.group

  -- a link back to the node before
  pub step_none : (t : MarkedEntry → Bool) (limit : ℕ) → ((m : MarkedEntry) → belongs g m ≡ false → t m ≡ false)
      → NoneBetween t ms (number_at ps j) limit
      → (m : MarkedEntry) → slice_get ms (p.number - 1) ≡ Some m → t m ≡ false → NoneBetween t ms (number_at ps p.before) limit
  step_none t limit out none m here fails i x low high at' = grind arith

  -- the same where nothing from a number below the node's on passes
  pub step_beyond : (t : MarkedEntry → Bool) (limit : ℕ) → ((m : MarkedEntry) → belongs g m ≡ false → t m ≡ false) → (n : ℕ) → n < p.number
      → NoneFrom t ms n → NoneBetween t ms (number_at ps p.before) limit
  step_beyond t limit out n below none i x low high at' = grind arith

  pub step : (t : MarkedEntry → Bool) (limit : ℕ) → ((m : MarkedEntry) → belongs g m ≡ false → t m ≡ false) → IsLast g t ms ps j limit
      → (m : MarkedEntry) → slice_get ms (p.number - 1) ≡ Some m → t m ≡ false → IsLast g t ms ps p.before limit
  step t limit out at m here fails =
      record { within = the_node.last.within; group = next_group; none_later = step_none t limit out at.none_later m here fails }

  -- a link back to the last node of another session, where this one is of the session itself
  pub hop : (s limit : ℕ) → IsLast g (belongs_to_others g s) ms ps j limit → is_by s (slice_get ms (p.number - 1)) ≡ true
      → IsLast g (belongs_to_others g s) ms ps p.other limit
  hop s limit at by =
      let other : IsLast g (belongs_to_others g s) ms ps p.other p.number = subst
      (λ h. IsLast h (belongs_to_others h s) ms ps p.other p.number) one (the_node.other s by) in
      grind arith
