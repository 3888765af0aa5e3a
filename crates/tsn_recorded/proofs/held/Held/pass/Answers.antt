use Rattle.tsn_recorded.proofs.Seeking.{sought_behind}
use Rattle.tsn_recorded.proofs.held.Held.pass.Goals as goal

pub invariant_of-self-else-self : goal.invariant_of-self-else-self
invariant_of-self-else-self c =
    sought_behind c.self.inside.bytes.items c.self.inside.from c.self.inside.sought c.self.invariant c.args.count c.if-self.false
