use Rattle.tsn_bridge.proofs.Headline.{at_once_undone, others_alone_left, others_left, restored_list}
use Rattle.tsn_bridge.proofs.Interleaving.{follow}
use Rattle.tsn_bridge.proofs.laws.over_every_interleaving.Goals as goal

pub returns-clause-sound : goal.returns-clause-sound
returns-clause-sound c start now turns sound ranges leads =
    let f = follow turns start now sound ranges leads in (f.sound, f.later.limits, f.later.opening)

pub returns-clause-at_once_undone : goal.returns-clause-at_once_undone
returns-clause-at_once_undone c start now turns sound ranges leads = at_once_undone now (follow turns start now sound ranges leads).sound

pub returns-clause-others_alone : goal.returns-clause-others_alone
returns-clause-others_alone c start now turns sound ranges leads = others_alone_left now (follow turns start now sound ranges leads).sound

pub returns-clause-others_left : goal.returns-clause-others_left
returns-clause-others_left c start now turns sound ranges leads = others_left now (follow turns start now sound ranges leads).sound

pub returns-clause-restored_list : goal.returns-clause-restored_list
returns-clause-restored_list c start now turns sound ranges leads = restored_list now (follow turns start now sound ranges leads).sound
