use Rattle.tsn_read_back.proofs.Exports.{begun_again, exported_back, text_back}
use Rattle.tsn_read_back.proofs.laws.exports_are_read_back.Goals as goal

pub returns : goal.returns
returns c = record { law = text_back; exported = exported_back; same = begun_again }
