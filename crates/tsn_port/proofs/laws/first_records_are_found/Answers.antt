use Rattle.tsn_port.proofs.Openings.{first_is}
use Rattle.tsn_port.proofs.laws.first_records_are_found.Goals as goal

pub returns : goal.returns
returns c limits opening front more n shown sound low high at =
    first_is limits n low high front more opening shown sound.kept sound.replays at
