use Rattle.std.proofs.Common.{◌≡◌, ◌++◌, ◌∷◌, [], ap, sym, subst, ◌∙◌, arith, length}
use Rattle.tsn_commit.specs.Lines.{AreLines, lines_in, lines_text}
use Rattle.tsn_recorded.specs.Text.{line_feed}
use Rattle.tsn_commit.proofs.Gathering.{lines_in-more, more_are}
use Rattle.tsn_commit.proofs.lines.Lines.push.Goals as goal

pub invariant_of-self : goal.invariant_of-self
invariant_of-self c =
    let text = c.self.inside.text.items in
    let line = c.args.line.now in
    let are = c.self.invariant.2 in
    let is : c.append-2.new.bytes.items ≡ (text ++ line) ++ line_feed ∷ [] = c.append-2.ensures.items
    ∙ ap (λ t. t ++ line_feed ∷ []) c.append.ensures.items in
    let size : length (lines_text c.args.self.now) ≡ length text = ap (λ ls. length (lines_text ls)) (sym c.self.view_is)
    ∙ ap length are.ended in (
      omega (arith, size, c.requires.room, c.append-2.ensures.len, c.append.ensures.len),
      omega (arith, c.append-2.ensures.capacity, c.append.ensures.capacity, c.self.invariant.1),
      subst AreLines (sym is) (more_are text line are c.requires.line),
    )

pub returns : goal.returns
returns c =
    let text = c.self.inside.text.items in
    let line = c.args.line.now in
    let is : c.append-2.new.bytes.items ≡ (text ++ line) ++ line_feed ∷ [] = c.append-2.ensures.items
    ∙ ap (λ t. t ++ line_feed ∷ []) c.append.ensures.items in
    rw (← c.self.view_is) (ap lines_in is ∙ lines_in-more text line c.self.invariant.2 c.requires.line)
