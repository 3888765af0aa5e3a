use Rattle.tsn_serve.proofs.Exchanging as outright
use Rattle.tsn_serve.proofs.laws.served.Goals as goal

pub returns : goal.returns
returns c old new lines text h = outright.served old lines text new h
