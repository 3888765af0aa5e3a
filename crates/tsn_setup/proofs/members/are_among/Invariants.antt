use Rattle.std.proofs.Common.{◌≡◌, map}
use Rattle.toml.specs.View.{members_view}
use Rattle.tsn_setup.specs.Toml.{are_among}
use Rattle.tsn_setup.proofs.members.are_among.Given as goal

abbrev pub invariant-rows : goal.invariant-rows
invariant-rows l =
    (goal.iterator-rows).can_next l.name-iterator ×
    (goal.iterator-rows).is_finite l.name-iterator ×
    (are_among (map (λ member. member.0.now) l.members) (members_view l.name-iterator) ≡ are_among (map (λ member. member.0.now) l.members)
    (members_view l.table.entries))
