use Rattle.std.proofs.Common.{[], refl, inl, inr}
use Rattle.tsn_recorded.proofs.Collisions.{is_unchanged, same_records, stands_once}
use Rattle.tsn_recorded.proofs.laws.chain.Goals as goal

pub returns-clause-place : goal.returns-clause-place
returns-clause-place c = stands_once

pub returns-clause-recorded : goal.returns-clause-recorded
returns-clause-recorded c = is_unchanged

pub returns-clause-all : goal.returns-clause-all
returns-clause-all c rs qs isr isq count e = elim (same_records [] [] rs qs refl count isr isq e) [
  | inl same ↦ inl same.1
  | inr c ↦ inr c
]
