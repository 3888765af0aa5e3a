-- The standard setup is accepted.
use Rattle.std.proofs.Common.{◌≡◌, List, [], ◌∷◌, None, refl, ap, ◌∙◌}
use Rattle.std.specs.Prelude.{map}
use Rattle.tsn_types.specs.declared.keys.Key.{Key}
use Rattle.tsn_types.specs.declared.records.Record.{Record}
use Rattle.tsn_types.specs.declared.limits.Limits.{Limits}
use Rattle.tsn_types.specs.Limits.{first_cause}
use Rattle.tsn_edit.specs.Edits.{dangling}
use Rattle.tsn_config.specs.Opening.{default_ports, opening, opening_refusal, standard_limits}
use Rattle.tsn_config.proofs.Listed.{from_sorted_list}

-- its entries are the ports, which refer to nothing
standard_accepted : opening_refusal standard_limits [] ≡ None
standard_accepted =
    ap (λ (es : List (Key × Record)). first_cause
    (None ∷ None ∷ first_cause (map (λ e. dangling (opening standard_limits []) e.1) es) ∷ []))
    (from_sorted_list (default_ports 2) refl)

pub accepted : (limits : Limits) (records : List (Key × Record)) → limits ≡ standard_limits → records ≡ []
    → opening_refusal limits records ≡ None
accepted limits records of none =
    ap (λ (l : Limits). opening_refusal l records) of ∙ ap (opening_refusal standard_limits) none ∙ standard_accepted
