use Rattle.std.proofs.Common.{◌≡◌, Some, arith}
use Rattle.std.proofs.lemmas.Grind.{common_steps}
use Rattle.tsn_setup.proofs.Told.{port_entry_told}
use Rattle.tsn_setup.proofs.plain_entries.PortEntryDraftPlainEntry.entry.Goals as goal

pub returns-clause-value : goal.returns-clause-value
returns-clause-value c =
    let found = c.in_ok-found.found in
    let gates : found.gates ≡ Some c.in_ok-gates.gates = grind (arith, common_steps) in
    let interval : found.interval ≡ Some c.in_ok-interval.interval = grind (arith, common_steps) in
    port_entry_told c.args.text.now c.in_ok-found.rest.now found _ _ c.in_ok-found.ensures.table gates interval
