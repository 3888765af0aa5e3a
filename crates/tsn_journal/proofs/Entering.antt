-- The groups in which the newest entry still has no node.
use Rattle.std.proofs.Common.{◌≡◌, ℕ, ◌+◌, ◌*◌, ◌<◌, ◌≤◌, Bool, true, List, [], ◌∷◌, ◌++◌, sym, subst, ◌∙◌, Option, Some, append_assoc, add-one, arith, drop, get_or, length}
use Rattle.std.specs.Prelude.{option_map}
use Rattle.std.proofs.Math.Seq.{drop-cons}
use Rattle.std.proofs.lemmas.List.{drop_all}
use Rattle.std.proofs.lemmas.Bool.{eqb-true}
use Rattle.tsn_types.specs.declared.records.Refs.{Refs}
use Rattle.tsn_types.specs.Keys.{keys_of_refs, refs_of}
use Rattle.tsn_edit.specs.Parts.{Change, Part, parts}
use Rattle.tsn_entries.specs.declared.entries.MarkedEntry.{MarkedEntry}
use Rattle.tsn_journal.specs.declared.groups.Group.{Group}
use Rattle.tsn_journal.specs.declared.groups.Group.TheVariants.{On, RefersTo, Of, EndsRedo}
use Rattle.tsn_journal.specs.declared.index.Index.{Index}
use Rattle.tsn_journal.specs.declared.index.Node.{Node}
use Rattle.tsn_journal.specs.Index.{IsIndexedBut, IsIndexedButNewest, IsNewest, TakesRoom, group_if, groups_of_parts, part_groups}
use Rattle.tsn_journal.specs.Latest.{latest_of}
use Rattle.tsn_journal.proofs.Grouping.{covers, ends_or_not}
use Rattle.tsn_journal.proofs.Indexing.{pending_newest}

abbrev pub of_session : ℕ → Bool → List (Option Group)
of_session s ends = group_if true (Of s) ∷ group_if ends (EndsRedo s) ∷ []

-- an entry that was made or redone has none in the groups of its parts and of its session
pub pending_change : (ms : List MarkedEntry) (n s : ℕ) (c : Change) (ends : Bool) → IsNewest ms n s c ends → (a : Index)
    → IsIndexedButNewest ms a
    → IsIndexedBut (groups_of_parts (parts c) ++ of_session s ends) ms a.nodes.items (latest_of a.latest)
pending_change ms n s c ends newest a is =
    pending_newest ms (groups_of_parts (parts c) ++ of_session s ends) a
    (λ m at g belong. grind (arith, eqb-true, covers, ends_or_not))
    is

module _ (ms : List MarkedEntry) (ps : List Node) (l : Group → ℕ) where
  pub part_pending : (p : Part) (refs : Refs) (rest : List (Option Group)) → keys_of_refs refs ≡ refs_of p.after
      → IsIndexedBut (part_groups p ++ rest) ms ps l
      → IsIndexedBut (Some (On p.key) ∷ option_map RefersTo refs.first ∷ option_map RefersTo refs.second ∷ rest) ms ps l
  part_pending p refs rest same is = grind arith

  -- the first of the parts that are left
  pub first_pending : (p : Part) (qs : List Part) (rest : List (Option Group)) → IsIndexedBut (groups_of_parts (p ∷ qs) ++ rest) ms ps l
      → IsIndexedBut (part_groups p ++ (groups_of_parts qs ++ rest)) ms ps l
  first_pending p qs rest is =
      subst (λ (gs : List (Option Group)). IsIndexedBut gs ms ps l) (append_assoc (part_groups p) (groups_of_parts qs) rest) is

-- the parts that are left begin with the next one
pub next_left : (ps : List Part) (i : ℕ) (p : Part) → i < length ps → p ≡ get_or ps i p → drop i ps ≡ p ∷ drop (i + 1) ps
next_left ps i p short is = drop-cons ps i p short ∙ (λ j. sym is j ∷ drop (sym (add-one i) j) ps)

module _ (ms : List MarkedEntry) (a : Index) where
  -- the groups of the next part are pending
  pub next_pending : (ps : List Part) (i s : ℕ) (ends : Bool) (p : Part) (refs : Refs) → i < length ps → p ≡ get_or ps i p
      → keys_of_refs refs ≡ refs_of p.after
      → IsIndexedBut (groups_of_parts (drop i ps) ++ of_session s ends) ms a.nodes.items (latest_of a.latest)
      → IsIndexedBut (Some (On p.key) ∷ option_map RefersTo refs.first ∷ option_map RefersTo refs.second
      ∷ (groups_of_parts (drop (i + 1) ps) ++ of_session s ends)) ms a.nodes.items (latest_of a.latest)
  next_pending ps i s ends p refs short is same pending = grind (arith, part_pending, first_pending, next_left)

  -- no part is left
  pub none_pending : (ps : List Part) (i s : ℕ) (ends : Bool) → length ps ≤ i
      → IsIndexedBut (groups_of_parts (drop i ps) ++ of_session s ends) ms a.nodes.items (latest_of a.latest)
      → IsIndexedBut (of_session s ends) ms a.nodes.items (latest_of a.latest)
  none_pending ps i s ends past pending =
      subst (λ (qs : List Part). IsIndexedBut (groups_of_parts qs ++ of_session s ends) ms a.nodes.items (latest_of a.latest))
      (drop_all i ps past) pending

pub takes_none : (a : Index) → TakesRoom 0 a a
takes_none a = grind arith

-- three nodes more for a part
pub three_taken : (i : ℕ) (a b c d e : Index) → TakesRoom (3 * i) a b → TakesRoom 1 b c → TakesRoom 1 c d → TakesRoom 1 d e
    → TakesRoom (3 * (i + 1)) a e
three_taken i a b c d e h h1 h2 h3 = grind arith
