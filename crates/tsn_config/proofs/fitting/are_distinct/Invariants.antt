use Rattle.std.proofs.Common.{drop}
use Rattle.std.specs.List.{IsDistinct}
use Rattle.tsn_types.specs.Keys.{same_key}
use Rattle.tsn_edit.specs.Changes.{keys_of}
use Rattle.tsn_config.proofs.fitting.are_distinct.Given as goal

-- the keys are distinct if those that are left are
abbrev pub invariant-loop-index : goal.invariant-loop-index
invariant-loop-index l = IsDistinct same_key (keys_of (drop l.index l.parts)) → IsDistinct same_key (keys_of l.parts)
