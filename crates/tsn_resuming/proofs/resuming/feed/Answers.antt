use Rattle.tsn_resuming.proofs.Going.{fed_on}
use Rattle.tsn_resuming.proofs.resuming.feed.Goals as goal

pub returns-in-Ok-feed-clause-fed : goal.returns-in-Ok-feed-clause-fed
returns-in-Ok-feed-clause-fed g c = λ before rs fed. fed_on before _ _ _ rs _ _ c.in-Ok.ensures.bytes c.in-Ok-feed.ensures.fed fed
