use Rattle.std.proofs.Common.{◌≡◌, ℕ, ◌<◌, ◌≤◌, ◌-◌, List, true}
use Rattle.std.specs.FinMap.{get}
use Rattle.tsn_table.specs.Firsts.{AnswersAs}
use Rattle.tsn_types.specs.declared.keys.Key.{Key}
use Rattle.tsn_types.specs.declared.keys.Key.TheVariants.{Filter}
use Rattle.tsn_types.specs.Keys.{has}
use Rattle.tsn_config.specs.Keeping.{refers}
use Rattle.tsn_config.proofs.Config.referrer_but.Given as goal

-- each lesser filter that refers to the key is left out
abbrev pub invariant-loop-number : goal.invariant-loop-number
invariant-loop-number g l = record {
  below : (ks : List Key) → AnswersAs g.F.Fn (has ks) l.is_left_out → (n : ℕ) → n < l.from
      → refers (get l.self-inside.rows.map (Filter n)) l.key ≡ true → has ks (Filter n) ≡ true;
  small : l.from ≤ 65536;
}

abbrev pub decreases-loop-number : goal.decreases-loop-number
decreases-loop-number g l = 65536 - l.from
