use Rattle.std.proofs.Common.{◌<◌, ◌∷◌, [], ◌++◌, sym, ◌∙◌, ap, length, subst, arith}
use Rattle.tsn_journal.specs.Index.{AreNodes, IsLast, belongs, number_at}
use Rattle.tsn_journal.specs.Latest.{latest_of}
use Rattle.tsn_journal.proofs.Indexing.{last_front, new_node, nodes_with}
use Rattle.tsn_journal.proofs.index.Index.add.Goals as goal

pub returns-clause-kept : goal.returns-clause-kept
returns-clause-kept c =
    let ms = c.args.marked.now in
    let ps = c.args.self.now.nodes.items in
    let g = c.args.group in
    let l = c.args.self.now.latest in
    let here : IsLast g (belongs g) ms ps c.args.before (length ms) = subst (λ j. IsLast g (belongs g) ms ps j (length ms))
    (sym c.requires.newest_node) (c.requires.index.latest_is g) in
    let node = new_node ms g c.args.number c.args.session c.args.before ps c.requires.count c.requires.some c.requires.by
    c.requires.index.nodes here in
    let less : number_at ps c.args.before < c.args.number = omega (arith, c.if-number-number_at.false, c.number_at.ensures) in
    let pushed = c.push_reserved.ensures.items
    ∙ ap (λ o. ps ++ record { group = g; number = c.args.number; before = c.args.before; other = o } ∷ []) c.other_of-other.ensures in
    record {
      nodes = subst (AreNodes ms) (sym pushed)
          (nodes_with ms g c.args.number c.args.session c.args.before ps c.requires.count c.requires.some c.requires.by
          c.requires.index.nodes here less);
      latest_is = λ q. subst (λ xs. IsLast q (belongs q) ms xs (latest_of l q) (length ms)) (sym pushed)
          (last_front ms q (belongs q) ps node (latest_of l q) (length ms) (c.requires.index.latest_is q));
    }
