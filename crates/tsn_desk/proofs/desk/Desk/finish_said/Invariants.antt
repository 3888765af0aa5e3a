use Rattle.std.specs.Prelude.{Some}
use Rattle.tsn_desk.proofs.desk.Desk.finish_said.Given as goal

abbrev pub ghosts-finish : goal.ghosts-finish
ghosts-finish g a = record { said = Some (a.asked.now.value, a.reply.now) }
