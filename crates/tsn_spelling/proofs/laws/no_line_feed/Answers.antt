use Rattle.tsn_spelling.proofs.Holding.{has_no_line_feed}
use Rattle.tsn_spelling.proofs.laws.no_line_feed.Goals as goal

pub returns : goal.returns
returns c = has_no_line_feed
