use Rattle.std.proofs.Common.{arith}
use Rattle.tsn_config.proofs.Opened.{port_added}
use Rattle.tsn_config.proofs.opening.add_ports.Goals as goal

pub loop-index-preserved : goal.loop-index-preserved
loop-index-preserved c = λ es is. grind (arith, port_added)
