use Rattle.std.proofs.Common.{◌≡◌, ◌++◌}
use Rattle.std.specs.List.{AllByRecursion}
use Rattle.tsn_wire.proofs.Spelling.{so_far}
use Rattle.tsn_wire.proofs.lists.spelled_list.Given as goal

abbrev pub invariant-items : goal.invariant-items
invariant-items g l =
    AllByRecursion g.L.One.Item.IsFit (g.L.Items.items l.list)
    × (l.initial.text ≡ so_far g.L.One.Item.value (g.L.Items.items l.list) ++ l.text)
