-- No runner's last act comes after the bridge time.
use Rattle.std.proofs.Common.{◌≤◌, ℕ, arith, Option}
use Rattle.std.specs.FinMap.{FinMap, insert, empty}
use Rattle.std.specs.Ordering.{nat_cmp}
use Rattle.tsn_types.specs.declared.records.Record.{Record}
use Rattle.tsn_schedule.specs.Kept.{Kept, fresh}
use Rattle.tsn_chain.specs.Instances.{AreBy}
use Rattle.tsn_chain.specs.Following.{row_after}
use Rattle.tsn_chain.proofs.Each.{each_empty, each_insert, each_row}

pub by_empty : {E : Type 0} (now : ℕ) → AreBy {E = E} now empty
by_empty now = each_empty (λ m kept. kept.last ≤ now)

pub by_insert : {E : Type 0} (now n : ℕ) (t : FinMap nat_cmp (Kept E)) (k : Kept E) → AreBy now t → k.last ≤ now → AreBy now (insert t n k)
by_insert {E = E} now n t k h le =
    let by : ℕ → Kept E → Type 0 = λ m kept. kept.last ≤ now in each_insert by by n t k h (λ m yes. le) (λ m x no held. held)

pub by_row : {E : Type 0} (now n : ℕ) (before after : Option Record) (t : FinMap nat_cmp (Kept E)) → AreBy now t
    → AreBy now (row_after fresh before after t n)
by_row now n before after t h = each_row (λ m kept. kept.last ≤ now) fresh before after t n h (λ m. omega arith)
