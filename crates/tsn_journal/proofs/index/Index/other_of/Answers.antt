use Rattle.std.proofs.Common.{arith}
use Rattle.tsn_journal.proofs.Links.{node_of, node_there}
use Rattle.tsn_journal.proofs.index.Index.other_of.Goals as goal

pub numbered-requires-clause-some : goal.numbered-requires-clause-some
numbered-requires-clause-some c =
    (node_of c.args.marked.now c.args.self.now.nodes.items c.args.node c.index-found.result.now
    (node_there c.args.self.now.nodes.items c.args.node c.index-found.result.now c.if-node-eq0.false c.requires.within
    c.index-found.ensures) c.requires.nodes).some

pub numbered-requires-clause-within : goal.numbered-requires-clause-within
numbered-requires-clause-within c =
    (node_of c.args.marked.now c.args.self.now.nodes.items c.args.node c.index-found.result.now
    (node_there c.args.self.now.nodes.items c.args.node c.index-found.result.now c.if-node-eq0.false c.requires.within
    c.index-found.ensures) c.requires.nodes).within

pub returns-then-is_of : goal.returns-then-is_of
returns-then-is_of c = grind (arith, node_there)

pub returns-else-is_of : goal.returns-else-is_of
returns-else-is_of c = grind (arith, node_there)
