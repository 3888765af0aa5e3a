use Rattle.std.proofs.Common.{◌≡◌, ◌<◌, ◌∙◌, length, take, refl, arith}
use Rattle.std.proofs.lemmas.List.{length-take-le}
use Rattle.tsn_bytes.specs.declared.bytes.Fault.TheVariants.{Write}
use Rattle.tsn_serve.proofs.Ending.{begun, flush_failed, read_failed, fed, feed_broke, finish_broke, last_flush_failed, completed, broken_by, bound_reached}
use Rattle.tsn_serve.proofs.responder.answer_lines.Goals as goal

pub reads-init : goal.reads-init
reads-init g c = begun _ _ _ c.in-Ok.ensures

pub returns-in_default-flush-clause-outcome : goal.returns-in_default-flush-clause-outcome
returns-in_default-flush-clause-outcome g c =
    flush_failed _ _ _ _ _ _ _ c.reads.counter c.reads.invariant c.reads.auto.counter-end refl refl refl refl
    c.in_default-flush.ensures.bytes c.in_default-flush.ensures.failed

pub returns-in_default-pull-clause-outcome : goal.returns-in_default-pull-clause-outcome
returns-in_default-pull-clause-outcome g c =
    read_failed _ _ _ _ _ _ c.reads.counter c.reads.invariant c.reads-test.true refl c.in_default-pull.ensures.err c.pull.ensures.calls
    c.in_default-pull.ensures.failed c.in-Ok-flush.ensures.bytes c.in-Ok-flush.ensures.ok c.in-Ok-flush.ensures.worked

pub returns-in-Err-clause-outcome : goal.returns-in-Err-clause-outcome
returns-in-Err-clause-outcome g c =
    let broken = c.in-Err.ensures.broken in
    broken_by _ _ _ c.in-Err.fault _ _ c.in-Err.ensures.fault
    (finish_broke _ _ _ c.in-Err.fault _ _ _ _ c.reads.counter broken.0 _ c.reads.invariant c.reads-test.true
    (rw c.if-count-eq0.true at c.in-Ok-pull.ensures.bytes) (c.in-Ok-pull.ensures.end c.if-count-eq0.true (omega (arith, c.pull.auto.piece)))
    c.pull.ensures.calls c.in-Ok-pull.ensures.worked
    c.in-Ok-flush.ensures.bytes broken.2 (λ e. c.in-Err.ensures.failed (cc))
    (λ other. c.in-Err.ensures.worked (λ e. other (let f : c.in-Err.fault ≡ Write = cc in f)) ∙ c.in-Ok-flush.ensures.worked) broken.1)

pub returns-in_default-flush-2-clause-outcome : goal.returns-in_default-flush-2-clause-outcome
returns-in_default-flush-2-clause-outcome g c =
    let ok = c.in_default-finish.ensures.ok in
    last_flush_failed _ _ _ _ _ _ _ c.reads.counter ok.0 _ _ c.reads.invariant c.reads-test.true
    (rw c.if-count-eq0.true at c.in-Ok-pull.ensures.bytes) (c.in-Ok-pull.ensures.end c.if-count-eq0.true (omega (arith, c.pull.auto.piece)))
    c.pull.ensures.calls c.in-Ok-pull.ensures.worked
    c.in-Ok-flush.ensures.bytes ok.2 c.in_default-flush-2.ensures.bytes c.in_default-flush-2.ensures.failed ok.1

pub returns-then-count-eq0-clause-outcome : goal.returns-then-count-eq0-clause-outcome
returns-then-count-eq0-clause-outcome g c =
    let ok = c.in_default-finish.ensures.ok in
    completed _ _ _ _ _ _ c.reads.counter ok.0 _ _ c.reads.invariant c.reads-test.true
    (rw c.if-count-eq0.true at c.in-Ok-pull.ensures.bytes) (c.in-Ok-pull.ensures.end c.if-count-eq0.true (omega (arith, c.pull.auto.piece)))
    c.pull.ensures.calls c.in-Ok-pull.ensures.worked
    c.in-Ok-flush.ensures.bytes ok.2 c.in-Ok-flush-2.ensures.bytes c.in-Ok-flush-2.ensures.ok
    (c.in-Ok-flush-2.ensures.worked ∙ (c.in_default-finish.ensures.worked (λ e. cc) ∙ c.in-Ok-flush.ensures.worked)) ok.1

pub returns-in-Err-feed-clause-outcome : goal.returns-in-Err-feed-clause-outcome
returns-in-Err-feed-clause-outcome g c =
    let broken = c.in-Err-feed.ensures.broken in
    broken_by _ _ _ c.in-Err-feed.fault _ _ c.in-Err-feed.ensures.fault
    (feed_broke _ _ _ c.in-Err-feed.fault _ _ _ _ c.reads.counter _ broken.0 _ c.reads.invariant c.reads-test.true
    c.in-Ok-pull.ensures.bytes c.pull.ensures.calls c.in-Ok-pull.ensures.worked
    c.in-Ok-flush.ensures.bytes broken.2 (λ e. c.in-Err-feed.ensures.failed (cc))
    (λ other. c.in-Err-feed.ensures.worked (λ e. other (let f : c.in-Err-feed.fault ≡ Write = cc in f)) ∙ c.in-Ok-flush.ensures.worked)
    broken.1)

pub reads-preserved : goal.reads-preserved
reads-preserved g c =
    let ok = c.in_default-feed.ensures.ok in
    let count = c.in-Ok-pull.count in
    let piece = take count c.pull.new.piece in
    let size : length piece ≡ count = length-take-le count c.pull.new.piece c.in-Ok-pull.ensures.count in
    let some : 0 < length piece = omega (arith, size, c.if-count-eq0.false) in
    fed _ _ _ _ _ _ c.reads.counter piece ok.0 _ c.reads.invariant some
    c.in-Ok-pull.ensures.bytes c.pull.ensures.calls c.in-Ok-pull.ensures.worked
    c.in-Ok-flush.ensures.bytes ok.2 (c.in_default-feed.ensures.worked (λ e. cc) ∙ c.in-Ok-flush.ensures.worked) ok.1

pub returns-in_default-flush-3-clause-outcome : goal.returns-in_default-flush-3-clause-outcome
returns-in_default-flush-3-clause-outcome g c =
    flush_failed _ _ _ _ _ _ _ c.reads.counter c.reads.invariant c.reads.auto.counter-end refl refl refl refl
    c.in_default-flush-3.ensures.bytes c.in_default-flush-3.ensures.failed

pub returns-clause-outcome : goal.returns-clause-outcome
returns-clause-outcome g c =
    bound_reached _ _ _ _ _ _ c.reads.counter c.reads.invariant (omega (arith, c.reads.auto.counter-end, c.reads-test.false)) refl refl refl
    c.in-Ok-flush-3.ensures.bytes c.in-Ok-flush-3.ensures.ok c.in-Ok-flush-3.ensures.worked
