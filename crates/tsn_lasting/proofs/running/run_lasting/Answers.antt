use Rattle.std.proofs.Common.{[], Some, refl, sym, subst, take, arith}
use Rattle.std.proofs.KnownBytes.{Keeps-refl}
use Rattle.std.proofs.lemmas.Result.{err_from_is_err_and, on_err_weaker}
use Rattle.tsn_lasting.specs.Parts.{standing}
use Rattle.tsn_lasting.specs.Running.{IsUnderWay}
use Rattle.tsn_lasting.proofs.Answering.{ok_both}
use Rattle.tsn_lasting.proofs.Reading.{all_ended, end_breaks, first_under_way, under_way_breaks, window_breaks, window_more}
use Rattle.tsn_lasting.proofs.running.run_lasting.Goals as goal

pub returns-in_default-clause-broken : goal.returns-in_default-clause-broken
returns-in_default-clause-broken g c =
    let left = g.R.ByteIn.remaining c.args.reader.now in
    under_way_breaks g.W.ByteOut.taken (standing g.W.ByteOut.taken c.args.lasting.now) left left left (Some []) c.args.lasting.now
    (first_under_way (standing g.W.ByteOut.taken c.args.lasting.now) left c.requires.rest) (Keeps-refl left)

pub reads-init : goal.reads-init
reads-init g c =
    let left = g.R.ByteIn.remaining c.args.reader.now in
    let s0 = standing g.W.ByteOut.taken c.args.lasting.now in
    subst (λ h. IsUnderWay s0 left left h s0) (sym c.in-Ok.ensures) (first_under_way s0 left c.requires.rest)

pub returns-in_default-pull-clause-broken : goal.returns-in_default-pull-clause-broken
returns-in_default-pull-clause-broken g c =
    under_way_breaks g.W.ByteOut.taken (standing g.W.ByteOut.taken c.args.lasting.now) (g.R.ByteIn.remaining c.args.reader.now)
    (g.R.ByteIn.remaining c.reads.reader) (g.R.ByteIn.remaining c.pull.new.self) c.reads.line c.reads.lasting c.reads.invariant
    c.in_default-pull.ensures.err

pub returns-then-count-eq0-clause-ok : goal.returns-then-count-eq0-clause-ok
returns-then-count-eq0-clause-ok g c =
    ok_both c.end.result
    (λ h r. all_ended g.W.ByteOut.taken (standing g.W.ByteOut.taken c.args.lasting.now) (g.R.ByteIn.remaining c.args.reader.now)
    (g.R.ByteIn.remaining c.reads.reader) (g.R.ByteIn.remaining c.pull.new.self) c.reads.line c.reads.lasting c.end.new.lasting
    c.in-Ok-pull.count c.pull.new.buffer c.reads.invariant c.in-Ok-pull.ensures.bytes c.if-count-eq0.true
    (c.in-Ok-pull.ensures.end c.if-count-eq0.true (omega (arith, c.pull.auto.buffer))) h r)
    c.end.ensures.whole c.end.ensures.rests

pub returns-then-count-eq0-clause-broken : goal.returns-then-count-eq0-clause-broken
returns-then-count-eq0-clause-broken g c =
    on_err_weaker c.end.result
    (λ h. end_breaks g.W.ByteOut.taken (standing g.W.ByteOut.taken c.args.lasting.now) (g.R.ByteIn.remaining c.args.reader.now)
    (g.R.ByteIn.remaining c.reads.reader) (g.R.ByteIn.remaining c.pull.new.self) c.reads.line c.reads.lasting c.end.new.lasting
    c.in-Ok-pull.count c.pull.new.buffer c.reads.invariant c.in-Ok-pull.ensures.bytes c.if-count-eq0.true h)
    c.end.ensures.broken

pub returns-in_err-answer_window-clause-broken : goal.returns-in_err-answer_window-clause-broken
returns-in_err-answer_window-clause-broken g c =
    let gone = err_from_is_err_and c.from_residual.result c.from_residual.ensures.1 in
    rw gone.1
    (window_breaks g.W.ByteOut.taken (standing g.W.ByteOut.taken c.args.lasting.now) (g.R.ByteIn.remaining c.args.reader.now)
    (g.R.ByteIn.remaining c.reads.reader) (g.R.ByteIn.remaining c.pull.new.self) c.reads.line c.reads.lasting
    c.answer_window.new.lasting c.in-Ok-pull.count c.pull.new.buffer c.reads.invariant c.in-Ok-pull.ensures.bytes
    (take c.in-Ok-pull.count c.pull.new.buffer) refl c.in_err-answer_window.ensures.broken)

pub reads-preserved : goal.reads-preserved
reads-preserved g c =
    window_more g.W.ByteOut.taken (standing g.W.ByteOut.taken c.args.lasting.now) (g.R.ByteIn.remaining c.args.reader.now)
    (g.R.ByteIn.remaining c.reads.reader) (g.R.ByteIn.remaining c.pull.new.self) c.reads.line c.reads.lasting
    c.answer_window.new.lasting c.in-Ok-pull.count c.pull.new.buffer c.reads.invariant c.in-Ok-pull.ensures.bytes
    (take c.in-Ok-pull.count c.pull.new.buffer) c.answer_window.new.line refl c.in_ok-answer_window.ensures.goes
    c.in_ok-answer_window.ensures.rests

pub returns-clause-broken : goal.returns-clause-broken
returns-clause-broken g c =
    let now = g.R.ByteIn.remaining c.reads.reader in
    under_way_breaks g.W.ByteOut.taken _ _ now now _ c.reads.lasting c.reads.invariant (Keeps-refl now)
