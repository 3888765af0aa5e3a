-- What an answer unfolds to compute the line of a literal reply.
use Rattle.std.specs.Prelude.{⊤}
use Rattle.std.specs.Fmt.{digits}
use Rattle.serde_json.proofs.OnLiterals.{serde_json_on_literals}

unfoldable pub replies_on_literals : ⊤
unfolding serde_json_on_literals digits
replies_on_literals = tt
