use Rattle.tsn_recorded.proofs.Readings.{not_damaged, reading_of_cut, reads_torn, reads_within, recorded_within-front}
use Rattle.tsn_recorded.proofs.laws.reads_cut.Goals as goal

pub returns : goal.returns
returns c = record {
  reads = reads_within;
  only = reading_of_cut;
  front = recorded_within-front;
  end = λ count line rest. not_damaged count rest line;
  torn = reads_torn;
}
