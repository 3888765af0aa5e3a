use Rattle.std.proofs.Common.{◌+◌, ◌-◌, take, arith}
use Rattle.std.proofs.lemmas.List.{drop-drop, take_rest}
use Rattle.tsn_recorded.proofs.reader.Reader.command.Goals as goal

pub returns : goal.returns
returns c =
    let given = c.self.inside.given in
    let stamp = c.self.inside.stamp in
    let line = take (given - 1) c.bytes.result.now in grind (arith, take_rest line (34 + stamp), drop-drop (stamp + 1) 33 line)
