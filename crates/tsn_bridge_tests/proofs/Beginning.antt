-- A history begins itself.
use Rattle.std.proofs.Common.{List, [], ◌≡◌, ◌∙◌, append-nil}
use Rattle.tsn_machine.specs.History.{Begins}

pub begins_alike : {X : Type 0} (xs ys : List X) → xs ≡ ys → Begins xs ys
begins_alike xs ys e = ([], append-nil xs ∙ e)
