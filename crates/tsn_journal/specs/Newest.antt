-- The newest node of a group is of an entry that belongs to it, so that none that has left it stands in the way of who looks.
use Rattle.std.specs.Prelude.{◌≡◌, ℕ, ◌-◌, ◌++◌, true, List, [], ◌∷◌, Option, Some, None}
use Rattle.std.specs.List.{slice_get}
use Rattle.tsn_edit.specs.Parts.{Change, parts}
use Rattle.tsn_entries.specs.declared.entries.Entry.{Entry}
use Rattle.tsn_entries.specs.declared.entries.MarkedEntry.{MarkedEntry}
use Rattle.tsn_journal.specs.declared.groups.Group.{Group}
use Rattle.tsn_journal.specs.declared.groups.Group.TheVariants.{Of, EndsRedo}
use Rattle.tsn_journal.specs.declared.index.Index.{Index}
use Rattle.tsn_journal.specs.declared.index.Node.{Node}
use Rattle.tsn_entries.specs.Entries.{adds}
use Rattle.tsn_journal.specs.Index.{belongs, groups_of_parts, is_among, node_at}
use Rattle.tsn_journal.specs.Latest.{latest_of}

-- the node j is of an entry that belongs to the group, or is none
pub record IsIn (g : Group) (ms : List MarkedEntry) (ps : List Node) (j : ℕ) : Type 0 where
  pub belongs : (p : Node) (m : MarkedEntry) → node_at ps j ≡ Some p → slice_get ms (p.number - 1) ≡ Some m → belongs g m ≡ true

-- the newest node of the group is of an entry that belongs to it, or there is none
abbrev pub HasNewest : List MarkedEntry → Index → Group → Type 0
HasNewest ms a g = IsIn g ms a.nodes.items (latest_of a.latest g)

-- so it is of every group
abbrev pub AreNewest : List MarkedEntry → Index → Type 0
AreNewest ms a = (g : Group) → HasNewest ms a g

-- of every group of which it is so in a, it is so in b
abbrev pub KeepsNewest : List MarkedEntry → Index → Index → Type 0
KeepsNewest ms a b = (g : Group) → HasNewest ms a g → HasNewest ms b g

-- and so it is in b of these groups
pub record MendsNewest (ms : List MarkedEntry) (gs : List (Option Group)) (a b : Index) : Type 0 where
  pub kept : KeepsNewest ms a b
  pub mended : (g : Group) → is_among gs g ≡ true → HasNewest ms b g

-- the groups of the parts of a change, if there is one
abbrev pub groups_added : Option Change → List (Option Group)
groups_added None = []
groups_added (Some c) = groups_of_parts (parts c)

-- all groups to which an entry may belong
abbrev pub groups_of : Entry → List (Option Group)
groups_of e = groups_added (adds e.what) ++ Some (Of e.session) ∷ Some (EndsRedo e.session) ∷ []
