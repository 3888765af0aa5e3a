use Rattle.std.proofs.Common.{drop, arith}
use Rattle.std.proofs.lemmas.List.{length-drop, take_rest}
use Rattle.tsn_recorded.specs.Text.{line_feed}
use Rattle.tsn_recorded.proofs.Lines.{found, free_front, missing}
use Rattle.tsn_recorded.proofs.Seeking.{sought_all, sought_on}
use Rattle.tsn_recorded.proofs.held.line_end.Goals as goal

pub returns-in-Some-clause-sought : goal.returns-in-Some-clause-sought
returns-in-Some-clause-sought c =
    let bytes = c.args.bytes.now in
    let sought = c.args.sought in
    let count = c.in-Some.count in
    let first = found line_feed (drop sought bytes) _ (take_rest bytes sought) _ c.memchr.ensures count c.in-Some.is in
    let inside = first.inside in
    let size = length-drop sought bytes in
    sought_on bytes c.args.from sought c.requires count (omega (arith, inside, size))
    (free_front line_feed (drop sought bytes) count first.before)

pub returns-in-None-clause-sought : goal.returns-in-None-clause-sought
returns-in-None-clause-sought c =
    let bytes = c.args.bytes.now in
    let sought = c.args.sought in
    sought_all bytes c.args.from sought c.requires
    (missing line_feed (drop sought bytes) _ (take_rest bytes sought) _ c.memchr.ensures c.in-None.is)
