use Rattle.std.proofs.Common.{ap, sym, ◌∙◌, arith}
use Rattle.std.specs.Option.{option_copied}
use Rattle.tsn_table.proofs.Blocks.{ends}
use Rattle.tsn_table.proofs.block.Block.ends_below.Goals as goal

pub returns-in-Some : goal.returns-in-Some
returns-in-Some c =
    let last = sym (rw c.as_slice.ensures.value at c.last.ensures.value) ∙ ap option_copied c.in-Some.is in
    ends c.args.id c.args.self.now.least c.args.self.now.more.items _ c.in-Some.last.now c.requires.rising (omega arith) last
