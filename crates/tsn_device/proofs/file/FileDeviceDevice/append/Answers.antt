use Rattle.std.proofs.Common.{◌≤◌, ◌-◌, ◌++◌, take, drop, length, length-drop, sym, ap, ◌∙◌, append_assoc, arith}
use Rattle.std.proofs.Math.Seq.{take-add}
use Rattle.std.proofs.lemmas.List.{take_rest}
use Rattle.tsn_device.specs.Noted.{taken}
use Rattle.tsn_device.proofs.file.FileDeviceDevice.append.Goals as goal

pub writes-preserved : goal.writes-preserved
writes-preserved c =
    let bytes = c.args.bytes.now in
    let done = c.writes.done in
    let count = c.in-Ok.count in
    let before = c.writes.invariant in
    let log = c.args.self.now.log in
    let ok = rw (take_rest bytes done) at c.in-Ok.ensures.ok in
    let part = take count (drop done bytes) in
    let fits : count ≤ length bytes - done =
    simp length-drop at (rw (take_rest bytes done) at c.in-Ok.ensures.count.1) in
    record {
      log = ap (λ d. d.log) ok
          ∙ (ap (λ l. taken part l) before.log
          ∙ ap (λ t. record { kept = log.kept; loose = t })
          (append_assoc log.loose (take done bytes) part
          ∙ ap (λ t. log.loose ++ t) (sym (take-add done count bytes))));
      works = ap (λ d. d.works) ok ∙ before.works;
      within = omega (arith, fits, before.within);
    }
