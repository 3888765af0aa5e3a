-- How a journal keeps its entries.
use Rattle.std.specs.Prelude.{◌≡◌, ℕ, ◌+◌, ◌*◌, ◌≤◌, List, length}
use Rattle.tsn_entries.specs.declared.entries.MarkedEntry.{MarkedEntry}
use Rattle.tsn_journal.specs.declared.index.Index.{Index}
use Rattle.tsn_journal.specs.Crossed.{IsFreeAbove, IsNeeded, NoneReferred}
use Rattle.tsn_entries.specs.Entries.{most_entries, settled}
use Rattle.tsn_journal.specs.Index.{HasRoom, IsIndexed, nodes_for}
use Rattle.tsn_entries.specs.Marks.{AreOff, IsJournal, entries_of}
use Rattle.tsn_journal.specs.Newest.{AreNewest}
use Rattle.tsn_journal.specs.Touched.{Tells}

-- with all in the index and told by its rows, the newest node of each group of an entry that belongs to it, with room for as many entries
-- and parts more as it says, settled up to the number that it says, and with none blocked, and none on a gate or a meter, above the other
-- number that it says, which is no greater than it has to be
pub record IsKept (ms : List MarkedEntry) (len capacity : ℕ) (index : Index) (room parts upto crossed : ℕ) : Type 0 where
  pub journal : IsJournal ms
  pub indexed : IsIndexed ms index
  pub newest : AreNewest ms index
  pub tells : Tells (entries_of ms) index
  pub entries : len + room ≤ capacity
  pub few : len + room ≤ most_entries
  pub few_parts : parts ≤ 16 * most_entries
  pub few_nodes : length index.nodes.items ≤ 50 * len
  pub nodes : HasRoom (nodes_for room parts) index
  pub settled : upto ≡ settled (entries_of ms)
  pub settled_there : upto ≤ len
  pub off : AreOff upto ms
  pub free : IsFreeAbove crossed ms
  pub referred : NoneReferred crossed ms
  pub needed : IsNeeded crossed (entries_of ms)
