use Rattle.tsn_replay.proofs.LeadingBack.{alike}
use Rattle.tsn_replay.proofs.laws.answers_alike.Goals as goal

pub returns : goal.returns
returns c moment again resumes = alike moment again resumes
