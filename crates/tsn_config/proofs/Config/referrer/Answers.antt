use Rattle.std.proofs.Common.{ap, sym, ◌∙◌}
use Rattle.std.specs.Prelude.{option_map}
use Rattle.tsn_types.specs.declared.keys.Key.TheVariants.{Filter}
use Rattle.tsn_types.specs.declared.refusals.Refusal.TheVariants.{Referred}
use Rattle.tsn_config.proofs.Deciding.{referrer_there, filter_small}
use Rattle.tsn_config.proofs.Config.referrer.Goals as goal

pub unwrap-requires : goal.unwrap-requires
unwrap-requires c =
    let i = c.self.inside in
    let n = c.in_ok-number.number in
    let there = referrer_there i.rows.map c.args.key.now n
    (ap (option_map (λ n. Referred (Filter n))) (sym (c.in_ok-number.was)) ∙ c.referrer.ensures) in
    c.new.ensures.in_range.1 (filter_small i.limits i.rows.map n c.self.invariant there)
