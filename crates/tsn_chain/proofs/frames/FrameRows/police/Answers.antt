use Rattle.std.proofs.Common.{◌≡◌, ◌∙◌, ap, sym, subst, Some}
use Rattle.tsn_chain.specs.Chosen.{IsLeast, chosen, filters_of}
use Rattle.tsn_chain.specs.Frames.{framed_at}
use Rattle.tsn_chain.specs.Rows.{frames_in}
use Rattle.tsn_chain.proofs.Framing.{ready}
use Rattle.tsn_chain.proofs.Least.{filters_are}
use Rattle.tsn_chain.proofs.frames.FrameRows.police.Goals.{After-choose_in}
use Rattle.tsn_chain.proofs.frames.FrameRows.police.Goals as goal

pub police_at-requires-clause-ready : goal.police_at-requires-clause-ready
police_at-requires-clause-ready c =
    let least : IsLeast c.args.frame.handle c.args.frame.priority c.filters-filters.result.now.map (Some c.in-Some.id) =
    subst (λ o. IsLeast c.args.frame.handle c.args.frame.priority c.filters-filters.result.now.map o) c.in-Some.is
    (c.choose_in.ensures.least c.filters-filters.result.now.map c.filters-filters.ensures.rows) in
    ready c.args.config.now.limits c.args.config.now.map c.filters-filters.result.now.map c.filters-filters.ensures.rows
    c.filters-filters.ensures.kept c.args.runners.now.map (frames_in c.args.self.now) c.in-Some.id
    least.0.0 least.0.1 c.requires.runners c.requires.keys

-- the filter that is chosen, by the configuration
chosen_is : (c : After-choose_in)
    → c.choose_in.result ≡ chosen c.args.frame.handle c.args.frame.priority (filters_of c.args.config.now.map)
chosen_is c =
    c.choose_in.ensures.chosen c.filters-filters.result.now.map c.filters-filters.ensures.rows
    ∙ ap (chosen c.args.frame.handle c.args.frame.priority)
    (filters_are c.args.config.now.map c.filters-filters.result.now.map c.filters-filters.ensures.rows)

pub returns-in-None-clause-framed : goal.returns-in-None-clause-framed
returns-in-None-clause-framed c acts stand =
    ap (framed_at c.args.config.now.map (frames_in c.args.self.now) acts c.args.frame c.args.time)
    (sym (chosen_is (goal.at.returns-in-None-clause-framed c).After-choose_in) ∙ c.in-None.is)
    ∙ ap (λ v. Some (v, frames_in c.args.self.now)) (sym c.pass_unmatched.ensures)

pub returns-in-Some-clause-framed : goal.returns-in-Some-clause-framed
returns-in-Some-clause-framed c acts stand =
    ap (framed_at c.args.config.now.map (frames_in c.args.self.now) acts c.args.frame c.args.time)
    (sym (chosen_is (goal.at.returns-in-Some-clause-framed c).After-choose_in) ∙ c.in-Some.is) ∙ c.police_at.ensures.framed acts stand
