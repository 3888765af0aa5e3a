use Rattle.tsn_spelling.proofs.Shapes.{frame_line}
use Rattle.tsn_spelling.proofs.bare.push_frame.Goals as goal

pub returns : goal.returns
returns c = frame_line c.args.session c.args.frame.now c.args.now _ _ _ _ _ _ _ _ c.requires
    (rw c.get.ensures.same at c.push_number.ensures.text) (rw c.get-2.ensures.same at c.push_number-2.ensures.text)
    (rw c.get-3.ensures.same at c.push_number-3.ensures.text)
    (rw c.get-4.ensures.same at c.push_number-4.ensures.text) (rw c.from.ensures at c.push_number-5.ensures.text) c.push_flag.ensures.text
    c.push.ensures.text
