use Rattle.std.proofs.Common.{◌∙◌, [], ◌∷◌, ◌++◌, ap, max, refl, subst, sym}
use Rattle.std.specs.Prelude.{Err, is_some}
use Rattle.std.specs.FinMap.{get}
use Rattle.tsn_types.specs.Limits.{first_cause}
use Rattle.tsn_types.specs.Refusals.{IsLeastOrMemory}
use Rattle.tsn_edit.specs.Configuration.{Configuration}
use Rattle.tsn_entries.specs.declared.entries.What.TheVariants.{Acted}
use Rattle.tsn_entries.specs.Entries.{no_room}
use Rattle.tsn_undo.specs.Ledger.{Ledger, enter, present}
use Rattle.tsn_chain.specs.Acts.{HasList, KeyRefuses}
use Rattle.tsn_bridge.specs.Acts.{act_causes}
use Rattle.tsn_bridge.specs.Doing.{Does}
use Rattle.tsn_bridge.specs.Pair.{PairState}
use Rattle.tsn_bridge.proofs.Telling.{act_memory, list_of, refused_told, runner_of}
use Rattle.tsn_bridge.proofs.TiedActs.{tied_done}
use Rattle.tsn_bridge.proofs.pair.Pair.act.Goals as goal

pub run_act-requires-clause-list : goal.run_act-requires-clause-list
run_act-requires-clause-list c =
    let key = c.args.key.now in
    let view = c.reserve.ensures.ledger ∙ ap (λ (p : PairState). p.ledger) c.self.view_is in
    let there = ap (λ (b : Ledger). is_some (get (present b) key)) view ∙ c.requires.there in
    subst (λ (m : Configuration). HasList key (get m key)) (sym c.config.ensures.map)
    (list_of c.reserve.new.self.ledger key c.config.ensures.kept c.requires.list there)

pub returns-in-Err-clause-refused : goal.returns-in-Err-clause-refused
returns-in-Err-clause-refused c =
    let i = c.self.inside in
    let b = i.book.ledger in
    let key = c.args.key.now in
    let act = c.args.act in
    let why = c.in-Err.why in
    let there = ap (λ (p : PairState). is_some (get (present p.ledger) key)) c.self.view_is ∙ c.requires.there in
    let none = ap (λ (p : PairState). first_cause (act_causes p.ledger act key)) c.self.view_is ∙ sym c.in_default.ensures in
    let told = subst (λ (m : Configuration). KeyRefuses i.runtime.runners key (get m key) (Err why))
    (c.config.ensures.map ∙ ap present c.reserve.ensures.ledger) c.in-Err.ensures.refused.1 in
    let memory = refused_told b i.runtime c.self.invariant act key why (runner_of b i.runtime c.self.invariant key c.requires.list there)
    c.in-Err.ensures.refused.0 told none in
    subst (λ (p : PairState). IsLeastOrMemory (first_cause (act_causes p.ledger act key ++ no_room p.ledger.entries 1 ∷ [])) why)
    c.self.view_is (act_memory b act key none why c.in_ok-reserve.ensures.free memory)

pub invariant_of-self-2 : goal.invariant_of-self-2
invariant_of-self-2 c =
    let i = c.self.inside in
    let b = i.book.ledger in
    let key = c.args.key.now in
    let act = c.args.act in
    let a = max i.runtime.time c.args.now in
    let time = c.now-now.ensures ∙ c.in-Ok.ensures.time in
    let after = c.in_ok-entry.ensures.after ∙ (λ j. enter (c.reserve.ensures.ledger j) c.args.session (Acted act key (time j))) in
    let does = subst (λ (m : Configuration). Does i.runtime.runners act key (get m key) a c.run_act.new.runtime.runners)
    (c.config.ensures.map ∙ ap present c.reserve.ensures.ledger) c.in-Ok.ensures.does in
    tied_done b c.acted.new.self.ledger i.runtime.runners c.run_act.new.runtime.runners i.runtime.frames c.run_act.new.runtime.frames
    c.args.session act key (get (present b) key) a after c.run_act.ensures.frames refl does c.self.invariant
