use Rattle.std.proofs.Common.{◌≡◌, Bool, map}
use Rattle.std.specs.Map.Iter.{deref_pair}
use Rattle.tsn_table.specs.Firsts.{AnswersAs, least_id}
use Rattle.tsn_table.proofs.least_of.Given as goal

-- the least number of the rows so far that pass
abbrev pub invariant-loop-id : goal.invariant-loop-id
invariant-loop-id g l = (p : g.row.R.Denot → Bool) → AnswersAs g.F.Fn p l.test → l.least ≡ least_id p (map deref_pair l.yielded)
