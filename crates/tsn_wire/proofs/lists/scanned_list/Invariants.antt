use Rattle.tsn_wire.specs.Lexed.{lexed}
use Rattle.tsn_wire.proofs.Listing.{Lists}
use Rattle.tsn_wire.proofs.lists.scanned_list.Given as goal

abbrev pub invariant-items : goal.invariant-items
invariant-items g l = Lists g.L.One.Item.nesting g.L.One.Item.value (lexed l.initial.text) (g.L.Items.items l.list) (lexed l.text)
