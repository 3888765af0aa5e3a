use Rattle.std.proofs.Common.{refl, ◌∙◌, ap}
use Rattle.std.proofs.lemmas.Result.{err_from_is_err_and}
use Rattle.tsn_replay.specs.Recorder.{Recording}
use Rattle.tsn_lasting.specs.Exchanges.{recorded_of}
use Rattle.tsn_lasting.proofs.Answering.{begins_same, cut_off_from, exchanged, steps_from, turn_leaves}
use Rattle.tsn_lasting.proofs.lasting.Lasting.exchange.Goals as goal

pub enter-requires : goal.enter-requires
enter-requires g c =
    let left = turn_leaves c.clear.new.self c.args.read c.step-reply.result c.step-reply.new.recorder
    (ap (λ (r : Recording). r.text) c.clear.ensures) c.step-reply.ensures in
    (recorded_of c.args.read c.step-reply.result, c.text.ensures ∙ left.text, left.has_line)

pub returns-in_err-enter-clause-err : goal.returns-in_err-enter-clause-err
returns-in_err-enter-clause-err g c =
    let gone = err_from_is_err_and c.from_residual.result c.from_residual.ensures.1 in
    rw gone.1
    (cut_off_from g.W.ByteOut.taken _ c.args.self.now c.self.view_is _
    (record { taken = refl; kept = begins_same _ _ c.in_err-enter.ensures.err }))

pub returns-clause-ok : goal.returns-clause-ok
returns-clause-ok g c =
    steps_from g.W.ByteOut.taken _ c.args.self.now c.self.view_is _ c.args.read c.step-reply.result
    (exchanged g.W.ByteOut.taken _ (record {
      bridge = c.step-reply.new.recorder.bridge;
      keeper = c.enter.new.keeper;
      replies = c.self.inside.replies;
      writer = c.self.inside.writer;
    }) c.clear.new.self c.step-reply.new.recorder c.args.read c.step-reply.result
    (ap (λ (r : Recording). r.bridge) c.clear.ensures) (ap (λ (r : Recording). r.text) c.clear.ensures) c.step-reply.ensures refl
    (λ t is line. c.in_ok-enter.ensures.ok t (c.text.ensures ∙ is) line) refl refl)
