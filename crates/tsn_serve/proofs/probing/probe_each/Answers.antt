use denote.Param.Send.{IsSend, IsSync, param_send, param_sync, sendable}
use Rattle.std.proofs.Crossing.{crosses}
use Rattle.tsn_bridge.proofs.Crossing.{bridge_send}
use Rattle.tsn_port.proofs.Crossing.{desk_sync, seat_send}
use Rattle.tsn_desk.proofs.desk.Seat.TheSendSync as of_seat
use Rattle.tsn_serve.specs.contracts.probing.probe_each.{R-row, H-row}
use Rattle.tsn_serve.proofs.probing.probe_each.Given.{Over}
use Rattle.tsn_serve.proofs.probing.probe_each.Goals as goal
use Rattle.tsn_serve.proofs.probing.probe_each.Lts.{arg-0-1, arg-0-2, arg-0-4}

-- a probe as it goes into its thread
pub map_vec-requires-send-J : goal.map_vec-requires-send-J
map_vec-requires-send-J g c κs within =
    let sent : IsSend (arg-0-1 g.row.R g.row.H g.R.laws g.H.laws g.R.Wait-dict g.R.Threads-dict g.H.Host-dict κs) = search
    (of_seat.the_field_send, bridge_send, seat_send, crosses, sendable) depth 60 fits 20000 in param_send 1 _ sent

-- and what becomes of it
pub map_vec-requires-send-X : goal.map_vec-requires-send-X
map_vec-requires-send-X g c κs within =
    let sent : IsSend (arg-0-2 g.row.R g.row.H g.R.laws g.H.laws g.R.Wait-dict g.R.Threads-dict g.H.Host-dict κs) = search
    (seat_send, crosses, sendable) depth 60 fits 20000 in param_send 2 _ sent

-- what the threads share, with the desk in it
shared : (g : Over) (κs : _) → IsSync (R-row g.row.R g.row.H) × IsSync (H-row g.row.R g.row.H)
    → IsSync (arg-0-4 g.row.R g.row.H g.R.laws g.H.laws g.R.Wait-dict g.R.Threads-dict g.H.Host-dict κs)
shared g κs bounds = search (bounds, desk_sync, crosses, sendable) depth 60 fits 20000

pub map_vec-requires-sync-F : goal.map_vec-requires-sync-F
map_vec-requires-sync-F g c κs within = param_sync 4 _ (shared g κs (c.type_bounds.sync-R, c.type_bounds.sync-H))
