use Rattle.std.proofs.Common.{◌≡◌, ◌+◌, ◌*◌, ◌≤◌, ◌++◌, length, take}
use Rattle.tsn_encoding.proofs.Telling.{others_text}
use Rattle.tsn_encoding.proofs.told.push_several.Given as goal

-- so far each key with a comma before it
abbrev pub invariant-others : goal.invariant-others
invariant-others l =
    (l.text ≡ l.initial.text ++ others_text (take l.part-index l.others))
    × (length l.text ≤ length l.initial.text + 15 * l.part-index)
