use Rattle.std.proofs.Common.{refl}
use Rattle.tsn_serve.proofs.Cutting.{short_line_short, short_line_long}
use Rattle.tsn_serve.proofs.laws.example_cuts.Goals as goal

pub returns-clause-nothing : goal.returns-clause-nothing
returns-clause-nothing c = record { whole = refl; each = tt; last = tt }

pub returns-clause-open_line : goal.returns-clause-open_line
returns-clause-open_line c = (record { whole = refl; each = ((λ e. cc, tt), tt); last = (λ e. cc, tt) }, refl)

pub returns-clause-empty_line : goal.returns-clause-empty_line
returns-clause-empty_line c = (record { whole = refl; each = ((λ e. cc, tt), (tt, ((λ e. cc, tt), tt))); last = tt }, refl)

pub returns-clause-longest : goal.returns-clause-longest
returns-clause-longest c = short_line_short

pub returns-clause-too_long : goal.returns-clause-too_long
returns-clause-too_long c = short_line_long
