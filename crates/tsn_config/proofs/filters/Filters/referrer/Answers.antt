use Rattle.std.proofs.Common.{◌∙◌, ap, sym}
use Rattle.std.specs.FinMap.{entries}
use Rattle.tsn_types.specs.declared.records.Record.TheVariants.{Filter as FilterRecord}
use Rattle.tsn_types.specs.declared.records.StreamFilter.{StreamFilter}
use Rattle.tsn_types.specs.Keys.{has, refs}
use Rattle.tsn_table.specs.Firsts.{first_id}
use Rattle.tsn_table.specs.View.{TableView}
use Rattle.tsn_config.specs.Indexes.{gate_about, is_the, meter_about}
use Rattle.tsn_config.proofs.Indexed.{never_referred, no_first, refers_to_gate, refers_to_meter}
use Rattle.tsn_config.proofs.filters.Filters.referrer.Goals as goal

pub returns-in-Gate : goal.returns-in-Gate
returns-in-Gate c =
    let i = c.self.inside in
    c.least_about.ensures.least gate_about i.rows.map (λ r. has (refs (FilterRecord r)) c.args.key.now) c.self.invariant.gates
    c.self.invariant.small
    (λ n r is. ap (λ k. has (refs (FilterRecord r)) k) c.in-Gate.is ∙ refers_to_gate c.in-Gate.id r
    ∙ ap (λ q. is_the q (gate_about r)) (sym c.get.ensures.same))
    ∙ ap (λ (t : TableView StreamFilter). first_id (λ (r : StreamFilter). has (refs (FilterRecord r)) c.args.key.now) (entries t.map))
    c.self.view_is

pub returns-in-Meter : goal.returns-in-Meter
returns-in-Meter c =
    let i = c.self.inside in
    c.least_about-in-Meter.ensures.least meter_about i.rows.map (λ r. has (refs (FilterRecord r)) c.args.key.now) c.self.invariant.meters
    c.self.invariant.small
    (λ n r is. ap (λ k. has (refs (FilterRecord r)) k) c.in-Meter.is ∙ refers_to_meter c.in-Meter.id r
    ∙ ap (λ q. is_the q (meter_about r)) (sym c.get-in-Meter.ensures.same))
    ∙ ap (λ (t : TableView StreamFilter). first_id (λ (r : StreamFilter). has (refs (FilterRecord r)) c.args.key.now) (entries t.map))
    c.self.view_is

pub returns-in_default : goal.returns-in_default
returns-in_default c =
    no_first (λ r. has (refs (FilterRecord r)) c.args.key.now) (entries c.args.self.now.map)
    (never_referred c.args.key.now c.in_default.not-Gate c.in_default.not-Meter)
