use denote.Param.Send.{IsSend, IsSync, param_send, sendable}
use Rattle.std.proofs.Crossing.{crosses}
use Rattle.tsn_port.proofs.Crossing.{desk_sync, seat_send}
use Rattle.tsn_serve.specs.contracts.serving.serve_beside.{R-row, S-row, H-row}
use Rattle.tsn_serve.proofs.serving.serve_beside.Given.{Over}
use Rattle.tsn_serve.proofs.serving.serve_beside.Goals as goal
use Rattle.tsn_serve.proofs.serving.serve_beside.Lts.{arg-3-1, arg-3-3}

-- what goes to the thread that serves connections: their seats, and what it shares
goes : (g : Over) (κs : _) → IsSync (R-row g.row.R g.row.S g.row.H g.row.S-Reader g.row.S-Writer)
    × (IsSync (S-row g.row.R g.row.S g.row.H g.row.S-Reader g.row.S-Writer)
    × IsSync (H-row g.row.R g.row.S g.row.H g.row.S-Reader g.row.S-Writer))
    → IsSend (arg-3-1 g.row.R g.row.S g.row.H g.row.S-Reader g.row.S-Writer g.R.laws g.S.laws g.H.laws g.S.Reader.laws g.S.Writer.laws
    g.R.Wait-dict g.R.Threads-dict g.S.Source-dict g.S.Reader.ByteIn-dict g.S.Writer.ByteOut-dict g.H.Host-dict g.S.Reader.Destruct-dict
    g.S.Writer.Destruct-dict κs)
goes g κs bounds = search (bounds, desk_sync, seat_send, crosses, sendable) depth 60 fits 20000

pub join-served-requires-send-F : goal.join-served-requires-send-F
join-served-requires-send-F g c κs within = param_send 1 _ (goes g κs (c.type_bounds.sync-R, (c.type_bounds.sync-S, c.type_bounds.sync-H)))

-- the seats that come back
comes_back : (g : Over) (κs : _)
    → IsSend (arg-3-3 g.row.R g.row.S g.row.H g.row.S-Reader g.row.S-Writer g.R.laws g.S.laws g.H.laws g.S.Reader.laws g.S.Writer.laws
    g.R.Wait-dict g.R.Threads-dict g.S.Source-dict g.S.Reader.ByteIn-dict g.S.Writer.ByteOut-dict g.H.Host-dict g.S.Reader.Destruct-dict
    g.S.Writer.Destruct-dict κs)
comes_back g κs = search (seat_send, crosses, sendable) depth 60 fits 20000

pub join-served-requires-send-A : goal.join-served-requires-send-A
join-served-requires-send-A g c κs within = param_send 3 _ (comes_back g κs)
