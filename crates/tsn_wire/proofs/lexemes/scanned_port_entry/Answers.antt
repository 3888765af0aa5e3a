use Rattle.tsn_wire.proofs.Listing.{port_entry_read}
use Rattle.tsn_wire.proofs.lexemes.scanned_port_entry.Goals as goal

pub returns : goal.returns
returns c = port_entry_read _ _ _ _ _ _ _ _ c.in_ok-passed.ensures c.in_ok-gates.ensures c.in_ok-passed-2.ensures c.in_ok-interval.ensures
    c.in_ok-passed-3.ensures
