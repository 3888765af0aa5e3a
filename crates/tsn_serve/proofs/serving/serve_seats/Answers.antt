use denote.Param.Send.{IsSync, param_send, param_sync, sendable}
use Rattle.std.proofs.Crossing.{crosses}
use Rattle.tsn_port.proofs.Crossing.{desk_sync, seat_send}
use Rattle.tsn_serve.specs.contracts.serving.serve_seats.{R-row, S-row, H-row}
use Rattle.tsn_serve.proofs.serving.serve_seats.Given.{Over}
use Rattle.tsn_serve.proofs.serving.serve_seats.Goals as goal
use Rattle.tsn_serve.proofs.serving.serve_seats.Lts.{arg-0-1, arg-0-2, arg-0-4}

-- a seat as it goes into its thread
pub map_vec-requires-send-J : goal.map_vec-requires-send-J
map_vec-requires-send-J g c κs within =
    param_send 1 (arg-0-1 g.row.R g.row.S g.row.H g.row.S-Reader g.row.S-Writer g.R.laws g.S.laws g.H.laws g.S.Reader.laws g.S.Writer.laws
    g.R.Wait-dict g.R.Threads-dict g.S.Source-dict g.S.Reader.ByteIn-dict g.S.Writer.ByteOut-dict g.H.Host-dict g.S.Reader.Destruct-dict
    g.S.Writer.Destruct-dict κs) (record { owned = seat_send.owned; leaving = seat_send.leaving })

-- and as it comes back
pub map_vec-requires-send-X : goal.map_vec-requires-send-X
map_vec-requires-send-X g c κs within =
    param_send 2 (arg-0-2 g.row.R g.row.S g.row.H g.row.S-Reader g.row.S-Writer g.R.laws g.S.laws g.H.laws g.S.Reader.laws g.S.Writer.laws
    g.R.Wait-dict g.R.Threads-dict g.S.Source-dict g.S.Reader.ByteIn-dict g.S.Writer.ByteOut-dict g.H.Host-dict g.S.Reader.Destruct-dict
    g.S.Writer.Destruct-dict κs) (record { owned = seat_send.owned; leaving = seat_send.leaving })

-- what the threads share, with the desk in it
shared : (g : Over) (κs : _) → IsSync (R-row g.row.R g.row.S g.row.H g.row.S-Reader g.row.S-Writer)
    × (IsSync (S-row g.row.R g.row.S g.row.H g.row.S-Reader g.row.S-Writer)
    × IsSync (H-row g.row.R g.row.S g.row.H g.row.S-Reader g.row.S-Writer))
    → IsSync (arg-0-4 g.row.R g.row.S g.row.H g.row.S-Reader g.row.S-Writer g.R.laws g.S.laws g.H.laws g.S.Reader.laws g.S.Writer.laws
    g.R.Wait-dict g.R.Threads-dict g.S.Source-dict g.S.Reader.ByteIn-dict g.S.Writer.ByteOut-dict g.H.Host-dict g.S.Reader.Destruct-dict
    g.S.Writer.Destruct-dict κs)
shared g κs bounds = search (bounds, desk_sync, crosses, sendable) depth 60 fits 20000

pub map_vec-requires-sync-F : goal.map_vec-requires-sync-F
map_vec-requires-sync-F g c κs within = param_sync 4 _ (shared g κs (c.type_bounds.sync-R, (c.type_bounds.sync-S, c.type_bounds.sync-H)))
