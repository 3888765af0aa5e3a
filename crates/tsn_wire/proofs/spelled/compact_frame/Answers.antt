use Rattle.std.proofs.Common.{sym, ◌∙◌}
use Rattle.tsn_wire.proofs.CompactFrames.{frame_says}
use Rattle.tsn_wire.proofs.spelled.compact_frame.Goals as goal

pub returns : goal.returns
returns c =
    frame_says c.args.line.now _ _ _ _ _ _ c.in_ok-handle.handle c.in_ok-now.now c.in_ok-octets.octets c.in_ok-priority.priority
    c.in_ok-session.session c.in_ok-yellow.yellow
    c.in_ok-handle.ensures.0 c.in_ok-now.ensures.0 c.in_ok-octets.ensures.0 c.in_ok-priority.ensures.0 c.in_ok-session.ensures.0
    (sym c.new-text.ensures ∙ c.in_ok-handle.ensures.1) c.in_ok-now.ensures.1 c.in_ok-octets.ensures.1 c.in_ok-priority.ensures.1
    c.in_ok-session.ensures.1
    c.in_ok-yellow.ensures c.in_ok-close.ensures
