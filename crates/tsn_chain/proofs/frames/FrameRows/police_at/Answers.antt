use Rattle.std.proofs.Common.{◌≡◌, rules, subst, sym}
use Rattle.tsn_types.specs.declared.records.StreamFilter.{StreamFilter}
use Rattle.tsn_chain.specs.Rows.{frames_in}
use Rattle.tsn_chain.specs.Instances.{FrameData, HasFrameKeys}
use Rattle.tsn_chain.proofs.Keys.{met_keys}
use Rattle.tsn_chain.proofs.frames.FrameRows.police_at.Goals as goal

pub returns-clause-keys : goal.returns-clause-keys
returns-clause-keys c =
    let q : StreamFilter = c.in-Some.filter.now in
    let same : c.requires.ready.filter ≡ q = search rules in
    subst (λ (f : FrameData). HasFrameKeys f c.args.config.now.map) (sym c.put_back.ensures)
    (met_keys (frames_in c.args.self.now) c.args.id q c.pass_through-verdict.new.met c.args.config.now.map c.requires.ready.keeps_filter
    (search rules) (search rules) c.requires.keys)
