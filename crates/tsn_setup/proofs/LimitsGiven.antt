-- The limits that a document gives or leaves out are read exactly where they are in range.
use Rattle.std.proofs.Common.{◌≡◌, ℕ, pos, Option, Some, None, unwrap_or, Ok, codes, refl, ap, subst, ◌∙◌, List, arith}
use Rattle.toml.specs.Data.{Data, integer, get}
use Rattle.tsn_types.specs.Bounds.{AreInRange, longest_list, most_instances}
use Rattle.tsn_types.specs.Numbers.{Within, most_ports}
use Rattle.tsn_types.specs.declared.limits.Limits.{Limits}
use Rattle.tsn_types.specs.declared.refusals.Field.{Field}
use Rattle.tsn_types.specs.declared.refusals.Field.TheVariants as fields
use Rattle.tsn_config.specs.Opening.{standard_limits}
use Rattle.tsn_setup.specs.Ranges.{limit, limits}
use Rattle.tsn_setup.specs.Tables.{limits_shape}
use Rattle.tsn_setup.specs.Toml.{whole, if_given, number_or_none_at}
use Rattle.tsn_setup.specs.Values.{number_or_none, HasLimit, HasLimits}
use Rattle.tsn_setup.specs.declared.drafts.LimitsDraft.{LimitsDraft}
use Rattle.tsn_records.proofs.RecordRanges.{passed, within_ok}
use Rattle.tsn_records.proofs.Steps.{steps, only}
use Rattle.tsn_setup.proofs.Shapes.{number_or_none_there}

limit_at : (field : Field) (most standard n : ℕ) (name : List ℕ) (d : Data) (o : Option ℕ) → get name d ≡ number_or_none o
    → limit field most standard o ≡ Ok n → Within 1 most standard → HasLimit name standard n d × Within 1 most n
limit_at field most standard n name d None there range fits =
    let same = only (Ok standard) standard n refl range in
    (ap (λ (p : Option Data). unwrap_or p (integer (pos standard))) there ∙ ap (λ k. integer (pos k)) same, subst (Within 1 most) same fits)
limit_at field most standard n name d (Some m) there range fits =
    let known = passed field 1 most m n range in
    (ap (λ (p : Option Data). unwrap_or p (integer (pos standard))) there ∙ ap (λ k. integer (pos k)) known.0, known.1)

limit_known : (field : Field) (most standard n : ℕ) (name : List ℕ) (d : Data) (o : Option ℕ) → number_or_none_at name d ≡ Ok o
    → limit field most standard o ≡ Ok n → Within 1 most standard → HasLimit name standard n d × Within 1 most n
limit_known field most standard n name d o given range fits =
    limit_at field most standard n name d o (number_or_none_there (get name d) o given) range fits

-- the limits of a document
pub record LimitsThere (d : Data) (l : Limits) : Type 0 where
  pub held : HasLimits l d
  pub in_range : AreInRange l

-- the limits that were given, where they are
record LimitsGiven (d : Data) (x : LimitsDraft) : Type 0 where
  ports : number_or_none_at (codes "ports") d ≡ Ok x.ports
  max_filters : number_or_none_at (codes "max_filters") d ≡ Ok x.max_filters
  max_gates : number_or_none_at (codes "max_gates") d ≡ Ok x.max_gates
  max_meters : number_or_none_at (codes "max_meters") d ≡ Ok x.max_meters
  list_max : number_or_none_at (codes "list_max") d ≡ Ok x.list_max

limits_given : (d : Data) (x : LimitsDraft) → limits_shape d ≡ Ok x → LimitsGiven d x
unfolding limits_shape
limits_given d x h =
    steps _ _ x h (λ ports ports_is ports_next. steps _ _ x ports_next (λ filters filters_is filters_next.
    steps _ _ x filters_next (λ gates gates_is gates_next. steps _ _ x gates_next (λ meters meters_is meters_next.
    steps _ _ x meters_next (λ list list_is list_next.
    let draft : LimitsDraft = record { ports = ports; max_filters = filters; max_gates = gates; max_meters = meters; list_max = list } in
    let known : LimitsGiven d draft = record
    { ports = ports_is; max_filters = filters_is; max_gates = gates_is; max_meters = meters_is; list_max = list_is } in
    subst (LimitsGiven d) (only (Ok draft) draft x refl list_next) known)))))

instances_fit : Within 1 most_instances 16
instances_fit = (omega arith, omega arith)

pub limits_there : (d : Data) (x : LimitsDraft) (l : Limits) → limits_shape d ≡ Ok x → limits x ≡ Ok l → LimitsThere d l
unfolding limits
limits_there d x l shape range =
    let given = limits_given d x shape in
    steps (limit fields.Ports most_ports standard_limits.ports x.ports) _ l range (λ ports ports_is ports_next.
    steps (limit fields.MaxFilters most_instances standard_limits.filters x.max_filters) _ l ports_next (λ filters filters_is filters_next.
    steps (limit fields.MaxGates most_instances standard_limits.gates x.max_gates) _ l filters_next (λ gates gates_is gates_next.
    steps (limit fields.MaxMeters most_instances standard_limits.meters x.max_meters) _ l gates_next (λ meters meters_is meters_next.
    steps (limit fields.ListMax longest_list standard_limits.list x.list_max) _ l meters_next (λ list list_is list_next.
    let a = limit_known fields.Ports most_ports standard_limits.ports ports (codes "ports") d x.ports given.ports ports_is
    (omega arith, omega arith) in
    let b = limit_known fields.MaxFilters most_instances standard_limits.filters filters (codes "max_filters") d x.max_filters
    given.max_filters filters_is instances_fit in
    let c = limit_known fields.MaxGates most_instances standard_limits.gates gates (codes "max_gates") d x.max_gates given.max_gates
    gates_is instances_fit in
    let e = limit_known fields.MaxMeters most_instances standard_limits.meters meters (codes "max_meters") d x.max_meters given.max_meters
    meters_is instances_fit in
    let f = limit_known fields.ListMax longest_list standard_limits.list list (codes "list_max") d x.list_max given.list_max list_is
    (omega arith, omega arith) in
    let found : Limits = record { ports = ports; filters = filters; gates = gates; meters = meters; list = list } in
    let known : LimitsThere d found = record {
      held = record { ports = a.0; max_filters = b.0; max_gates = c.0; max_meters = e.0; list_max = f.0 };
      in_range = (a.1, (b.1, (c.1, (e.1, f.1))));
    } in
    subst (LimitsThere d) (only (Ok found) found l refl list_next) known)))))

-- ---- limits in range are read

-- what is given, and read
record IsLimit (field : Field) (most standard n : ℕ) (name : List ℕ) (d : Data) : Type 0 where
  draft : Option ℕ
  given : number_or_none_at name d ≡ Ok draft
  range : limit field most standard draft ≡ Ok n

limit_read_at : (field : Field) (most standard n : ℕ) (name : List ℕ) (d : Data) (o : Option Data) → get name d ≡ o
    → unwrap_or o (integer (pos standard)) ≡ integer (pos n) → Within 1 most n → IsLimit field most standard n name d
limit_read_at field most standard n name d None is value fits =
    let same : standard ≡ n = cc in
    record { draft = None; given = ap (if_given whole) is; range = ap (λ k. Ok k) same }
limit_read_at field most standard n name d (Some x) is value fits =
    record { draft = Some n; given = ap (if_given whole) (is ∙ ap Some value); range = within_ok field 1 most n fits }

limit_read : (field : Field) (most standard n : ℕ) (name : List ℕ) (d : Data) → HasLimit name standard n d → Within 1 most n
    → IsLimit field most standard n name d
limit_read field most standard n name d value fits = limit_read_at field most standard n name d (get name d) refl value fits

-- limits that are read
pub record AreLimits (d : Data) (l : Limits) : Type 0 where
  pub draft : LimitsDraft
  pub shape : limits_shape d ≡ Ok draft
  pub range : limits draft ≡ Ok l

limits_shaped : (d : Data) (x : LimitsDraft) → LimitsGiven d x → limits_shape d ≡ Ok x
unfolding limits_shape
limits_shaped d x given = rw (given.ports, given.max_filters, given.max_gates, given.max_meters, given.list_max)

limits_pass : (x : LimitsDraft) (l : Limits) → limit fields.Ports most_ports standard_limits.ports x.ports ≡ Ok l.ports
    → limit fields.MaxFilters most_instances standard_limits.filters x.max_filters ≡ Ok l.filters
    → limit fields.MaxGates most_instances standard_limits.gates x.max_gates ≡ Ok l.gates
    → limit fields.MaxMeters most_instances standard_limits.meters x.max_meters ≡ Ok l.meters
    → limit fields.ListMax longest_list standard_limits.list x.list_max ≡ Ok l.list → limits x ≡ Ok l
unfolding limits
limits_pass x l ports filters gates meters list = rw (ports, filters, gates, meters, list)

pub limits_read : (d : Data) (l : Limits) → LimitsThere d l → AreLimits d l
limits_read d l h =
    let a = limit_read fields.Ports most_ports standard_limits.ports l.ports (codes "ports") d h.held.ports h.in_range.0 in
    let b = limit_read fields.MaxFilters most_instances standard_limits.filters l.filters (codes "max_filters") d h.held.max_filters
    h.in_range.1.0 in
    let c = limit_read fields.MaxGates most_instances standard_limits.gates l.gates (codes "max_gates") d h.held.max_gates
    h.in_range.1.1.0 in
    let e = limit_read fields.MaxMeters most_instances standard_limits.meters l.meters (codes "max_meters") d h.held.max_meters
    h.in_range.1.1.1.0 in
    let f = limit_read fields.ListMax longest_list standard_limits.list l.list (codes "list_max") d h.held.list_max h.in_range.1.1.1.1 in
    let draft : LimitsDraft = record
    { ports = a.draft; max_filters = b.draft; max_gates = c.draft; max_meters = e.draft; list_max = f.draft } in
    record {
      draft = draft;
      shape = limits_shaped d draft (record
          { ports = a.given; max_filters = b.given; max_gates = c.given; max_meters = e.given; list_max = f.given });
      range = limits_pass draft l a.range b.range c.range e.range f.range;
    }
