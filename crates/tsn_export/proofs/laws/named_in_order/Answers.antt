use Rattle.tsn_export.proofs.Named.{named_by_kinds}
use Rattle.tsn_export.proofs.Opens.{in_ranges, keyed_in_range, right_kinds}
use Rattle.tsn_export.proofs.laws.named_in_order.Goals as goal

pub returns : goal.returns
returns c = record { kinds = right_kinds; ranges = in_ranges; keyed = keyed_in_range; order = named_by_kinds }
