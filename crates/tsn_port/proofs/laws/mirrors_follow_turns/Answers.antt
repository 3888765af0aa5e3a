use Rattle.tsn_port.proofs.Following.{tells_on, whole_on}
use Rattle.tsn_port.proofs.laws.mirrors_follow_turns.Goals as goal

pub returns-clause-tells : goal.returns-clause-tells
returns-clause-tells c first history now old new entries opened low high tells asks took =
    tells_on first opened history asks.before now asks.number asks.session old new entries low high took.port tells asks.begins asks.whole
    took.more took.most took.taken

pub returns-clause-whole : goal.returns-clause-whole
returns-clause-whole c first history now old new entries opened low high tells asks took all =
    whole_on first opened history asks.before now asks.number asks.session old new entries low high took.port tells asks.begins asks.whole
    took.more took.most took.taken all
