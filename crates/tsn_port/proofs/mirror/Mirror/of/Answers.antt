use Rattle.std.proofs.Common.{◌≡◌, ◌∙◌, ◌+◌, ◌-◌, [], ap, arith, length, rules, subst, sym, take}
use Rattle.std.proofs.Math.Seq.{take-length}
use Rattle.tsn_port.specs.Mirrors.{AreOfPort, Mirrors, first_record, mirrored}
use Rattle.tsn_port.proofs.mirror.Mirror.of.Goals as goal

pub returns-clause-mirrors : goal.returns-clause-mirrors
returns-clause-mirrors c of_port =
    let es = c.args.entries.now in
    let opening = first_record c.args.port es c.args.shown.now in
    let first = c.in_ok-first.ensures ∙ c.first_record.ensures
    ∙ ap (λ xs. first_record c.args.port xs c.args.shown.now) c.as_slice.ensures in
    let begun = subst (λ q. Mirrors c.new-mirror.result q []) first c.new-mirror.ensures.mirrors in
    let of_mirror = subst (λ n. AreOfPort n (mirrored n opening []) es) (sym c.new-mirror.ensures.port) of_port in
    let taken = c.take.ensures.taken opening [] begun of_mirror in
    let all : c.take.new.self.front ≡ c.new-mirror.result.front + length es = search rules in
    let size : c.take.new.self.front - c.new-mirror.result.front ≡ length es = omega (arith, all) in
    subst (λ xs. Mirrors c.take.new.self opening xs) (ap (λ k. take k es) size ∙ take-length es) taken
