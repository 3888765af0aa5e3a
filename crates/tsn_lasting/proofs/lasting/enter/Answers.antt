use Rattle.std.proofs.Common.{◌≡◌, sym, subst, ◌∙◌}
use Rattle.std.proofs.lemmas.Result.{on_ok_weaker}
use Rattle.tsn_keeping.specs.Stamps.{IsStamp}
use Rattle.tsn_lasting.proofs.Entering.{enter_one, enter_well, no_length}
use Rattle.tsn_lasting.proofs.lasting.enter.Goals as goal

pub enter-requires-clause-recorded : goal.enter-requires-clause-recorded
enter-requires-clause-recorded g c =
    let word : IsStamp c.bytes.result.now = subst IsStamp (sym c.bytes.ensures.bytes) c.bytes.ensures.stamp in
    let (t, is, line) = c.requires in
    enter_well c.args.keeper.now.last c.bytes.result.now c.args.text.now t (no_length c.args.text.now c.if-is_empty.ensures) is word line

pub returns-clause-ok : goal.returns-clause-ok
returns-clause-ok g c =
    let word : IsStamp c.bytes.result.now = subst IsStamp (sym c.bytes.ensures.bytes) c.bytes.ensures.stamp in
    on_ok_weaker c.enter.result (λ entered t is line. enter_one c.args.keeper.now c.enter.new.self c.bytes.result.now c.args.text.now t
    (no_length c.args.text.now c.if-is_empty.ensures) is word line entered) c.enter.ensures.ok
