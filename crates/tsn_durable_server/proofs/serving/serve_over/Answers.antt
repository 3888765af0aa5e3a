use denote.Param.Send.{IsSend, param_send, sendable}
use Rattle.std.proofs.Crossing.{crosses}
use Rattle.tsn_device.specs.contracts.file.UnsyncedDevice as UnsyncedDevice
use Rattle.tsn_device.proofs.Crossing.{file_send}
use Rattle.tsn_durable_server.proofs.serving.serve_over.Goals as goal

-- a device that makes no sync is one over a file
unsynced_send : IsSend UnsyncedDevice.the_row
unsynced_send = search (file_send, crosses, sendable) depth 60 fits 20000

pub serve_on-ended-requires-send-D : goal.serve_on-ended-requires-send-D
serve_on-ended-requires-send-D g c κs within = search (file_send, param_send, crosses, sendable) depth 60 fits 20000

pub serve_on-ended-requires-in-None-send-D : goal.serve_on-ended-requires-in-None-send-D
serve_on-ended-requires-in-None-send-D g c κs within = search (unsynced_send, param_send, crosses, sendable) depth 60 fits 20000
