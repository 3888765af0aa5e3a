use Rattle.std.proofs.Common.{subst, arith}
use Rattle.std.specs.List.{IsDistinct}
use Rattle.tsn_types.specs.Keys.{same_key}
use Rattle.tsn_config.proofs.Among.{fits_together}
use Rattle.tsn_config.proofs.Suffixes.{keys_turned}
use Rattle.tsn_config.proofs.Config.fit_together.Goals as goal

pub returns-then-not-are_distinct : goal.returns-then-not-are_distinct
returns-then-not-are_distinct c = (
  λ never. (cc),
  λ fits. c.if-not-are_distinct.ensures.1
      (subst (IsDistinct same_key) (keys_turned c.args.way c.args.parts.now) fits.distinct),
)

pub returns-then-stand : goal.returns-then-stand
returns-then-stand c = grind (arith, fits_together, keys_turned)
