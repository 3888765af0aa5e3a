use Rattle.std.proofs.Common.{subst}
use Rattle.tsn_encoding.specs.Writing.{Writes}
use Rattle.tsn_encoding.proofs.Telling.{entries_line}
use Rattle.tsn_encoding.proofs.told.write_entries.Goals as goal

pub returns : goal.returns
returns g c = subst (Writes _ _ _ _ _) (entries_line c.args.entries.now) c.write_told.ensures
