use denote.Param.Send.{IsSync, param_send, param_sync, sendable}
use Rattle.std.proofs.Crossing.{crosses}
use Rattle.tsn_port.proofs.Crossing.{desk_sync, seat_send}
use Rattle.tsn_bridge_tests.proofs.bridge.desks.edit_together.Goals as goal
use Rattle.tsn_bridge_tests.proofs.bridge.desks.edit_together.Lts.{arg-0-1, arg-0-2, arg-0-4}

-- a seat as it goes into its thread
pub map_vec-requires-send-J : goal.map_vec-requires-send-J
map_vec-requires-send-J g c κs within =
    param_send 1 (arg-0-1 g.row.R g.R.laws g.R.Threads-dict g.R.Wait-dict g.R.Abort-dict κs)
    (record { owned = seat_send.owned; leaving = seat_send.leaving })

-- and as it comes back
pub map_vec-requires-send-X : goal.map_vec-requires-send-X
map_vec-requires-send-X g c κs within =
    param_send 2 (arg-0-2 g.row.R g.R.laws g.R.Threads-dict g.R.Wait-dict g.R.Abort-dict κs)
    (record { owned = seat_send.owned; leaving = seat_send.leaving })

-- what the threads share, with the desk in it
pub map_vec-requires-sync-F : goal.map_vec-requires-sync-F
map_vec-requires-sync-F g c κs within =
    let shared : IsSync (arg-0-4 g.row.R g.R.laws g.R.Threads-dict g.R.Wait-dict g.R.Abort-dict κs) = search
    (desk_sync, c.type_bounds, crosses, sendable) depth 60 fits 20000 in param_sync 4 _ shared
