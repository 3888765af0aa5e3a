use Rattle.tsn_wire.proofs.Listing.{gate_entry_read}
use Rattle.tsn_wire.proofs.lexemes.scanned_gate_entry.Goals as goal

pub returns : goal.returns
returns c =
    gate_entry_read _ _ _ _ _ _ _ _ _ _ _ _ _ _ c.in_ok-passed.ensures c.in_ok-is_open.ensures c.in_ok-passed-2.ensures c.in_ok-ipv.ensures
    c.in_ok-passed-3.ensures c.in_ok-interval.ensures c.in_ok-passed-4.ensures c.in_ok-octets.ensures c.in_ok-passed-5.ensures
