use Rattle.tsn_config.proofs.Batches.{batch_fits}
use Rattle.tsn_config.proofs.laws.admitted_batch_fits.Goals as goal

pub returns : goal.returns
returns c l m batch kept is ranges none = batch_fits l m kept batch is ranges none
