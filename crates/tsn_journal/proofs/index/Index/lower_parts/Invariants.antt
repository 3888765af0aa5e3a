use Rattle.std.proofs.Common.{take}
use Rattle.tsn_journal.specs.Index.{IsIndexed, TakesRoom, groups_of_parts}
use Rattle.tsn_journal.specs.Newest.{MendsNewest}
use Rattle.tsn_journal.specs.Touched.{TellsSame}
use Rattle.tsn_journal.proofs.index.Index.lower_parts.Given as goal

-- the index keeps all entries, what it tells, and its room; the groups of the parts so far are mended
abbrev pub invariant-loop-part : goal.invariant-loop-part
invariant-loop-part l = record {
  indexed : IsIndexed l.marked l.self;
  newest : MendsNewest l.marked (groups_of_parts (take l.part-index l.parts)) l.initial.self l.self;
  tells : TellsSame l.initial.self l.self;
  room : TakesRoom 0 l.initial.self l.self;
}
