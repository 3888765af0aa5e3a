use Rattle.tsn_meter.proofs.Rates.{green_rate, passed_rate, yellow_rate}
use Rattle.tsn_meter.proofs.laws.rates.Goals as goal

pub returns : goal.returns
returns c = record { green = green_rate; passed = passed_rate; yellow = yellow_rate }
