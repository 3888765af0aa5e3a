-- The remarks on the worked example.
use Rattle.std.proofs.Common.{◌≡◌, refl, ap}
use Rattle.std.specs.Fmt.{digits}
use Rattle.tsn_config.proofs.Listed.{from_sorted_list}
use Rattle.tsn_remarks.specs.Examples.{configuration, entries, lines}
use Rattle.tsn_remarks.specs.Remarks.{all_remarks, remarks}

pub whole_written : remarks configuration ≡ lines
unfolding digits
whole_written = ap all_remarks (from_sorted_list entries refl)
