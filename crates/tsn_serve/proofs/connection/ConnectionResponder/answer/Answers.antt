use Rattle.std.proofs.lemmas.Result.{on_ok_weaker, IfErr-weaker}
use Rattle.tsn_serve.proofs.connection.ConnectionResponder.answer.Goals as goal

-- what holds of whatever line is read so holds of this one
pub returns-clause-ok : goal.returns-clause-ok
returns-clause-ok g c =
    on_ok_weaker c.answer_read.result (λ ok. (ok.0, ok.1 _ c.read_line.ensures, ok.2)) c.answer_read.ensures.ok

pub returns-clause-broken : goal.returns-clause-broken
returns-clause-broken g c =
    IfErr-weaker c.answer_read.result _ _ (λ _ broken. (broken.0, broken.1 _ c.read_line.ensures, broken.2)) c.answer_read.ensures.broken
