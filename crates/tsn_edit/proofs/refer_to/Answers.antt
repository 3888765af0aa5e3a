use Rattle.std.proofs.Common.{◌≡◌, true, false, arith, sym, ◌∙◌}
use Rattle.std.specs.List.{list_any}
use Rattle.std.proofs.lemmas.Grind.{common_steps}
use Rattle.tsn_types.specs.Keys.{has}
use Rattle.tsn_edit.specs.Changes.{refs_after}
use Rattle.tsn_edit.proofs.Conflicting.{refer_is}
use Rattle.tsn_edit.proofs.refer_to.Goals as goal

pub returns-then-is_referred_after : goal.returns-then-is_referred_after
returns-then-is_referred_after c =
    let any : true ≡ list_any (λ p. has (refs_after c.args.later.now) p.key) c.args.earlier.now = grind (arith, common_steps) in
    any ∙ sym (refer_is (refs_after c.args.later.now) c.args.earlier.now)

pub returns : goal.returns
returns c =
    let none : false ≡ list_any (λ p. has (refs_after c.args.later.now) p.key) c.args.earlier.now = grind (arith, common_steps) in
    none ∙ sym (refer_is (refs_after c.args.later.now) c.args.earlier.now)
