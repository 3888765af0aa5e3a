-- The text of a setup that may be given is read back as the setup.
use Rattle.std.proofs.Common.{◌≡◌, ℕ, ◌≤◌, List, ◌++◌, length, map, Ok, refl, sym, subst}
use Rattle.std.proofs.lemmas.Bool.{le-leb}
use Rattle.tsn_types.specs.Bounds.{AreInRange, most_instances, longest_list}
use Rattle.tsn_types.specs.Numbers.{most_ports}
use Rattle.tsn_types.specs.declared.keys.Key.{Key}
use Rattle.tsn_types.specs.declared.keys.Kind.{Kind}
use Rattle.tsn_types.specs.declared.keys.Kind.TheVariants as kinds
use Rattle.tsn_types.specs.declared.limits.Limits.{Limits}
use Rattle.tsn_types.specs.declared.records.Record.{Record}
use Rattle.tsn_types.specs.declared.refusals.Field.TheVariants as fields
use Rattle.tsn_records.proofs.RecordRanges.{within_ok}
use Rattle.tsn_setup.specs.Ranges.{limits}
use Rattle.tsn_setup.specs.Setups.{longest_setup, reading, setup_of, setup_of_draft}
use Rattle.tsn_setup.specs.Values.{of_kind}
use Rattle.tsn_setup.proofs.Keyed.{keyed_draft, records_back}
use Rattle.tsn_setup.proofs.OfKind.{InRange, AllOf, of_kind_in_range, of_kind_of}
use Rattle.tsn_export.specs.Text.{limits_text}
use Rattle.tsn_read_back.proofs.Documents.{FourKinds, ShapedAs, document_back, limits_given, rows}

limits_read : (l : Limits) → AreInRange l → limits (limits_given l) ≡ Ok l
unfolding limits
limits_read l fits = rw (
  within_ok fields.Ports 1 most_ports l.ports fits.0,
  within_ok fields.MaxFilters 1 most_instances l.filters fits.1.0,
  within_ok fields.MaxGates 1 most_instances l.gates fits.1.1.0,
  within_ok fields.MaxMeters 1 most_instances l.meters fits.1.1.1.0,
  within_ok fields.ListMax 1 longest_list l.list fits.1.1.1.1,
) refl

-- drafts of what is in range are read as it
draft_read : (l : Limits) (es : List (Key × Record)) → AreInRange l → InRange es
    → setup_of_draft (limits_given l, map keyed_draft es) ≡ Ok (record { limits = l; records = es })
unfolding setup_of_draft
draft_read l es fits in_range = rw (limits_read l fits, records_back es in_range) refl

setup_read : (text : List ℕ) (l : Limits) (es : List (Key × Record)) → length text ≤ longest_setup → ShapedAs text l es
    → AreInRange l → InRange es → setup_of text ≡ Ok (record { limits = l; records = es })
setup_read text l es short found fits in_range =
    let read : reading text ≡ Ok (record { limits = l; records = es }) = rw (found.1.0, found.1.1) (draft_read l es fits in_range) in
    rw (le-leb (length text) longest_setup short, read) refl

-- the records in the order of their kinds
abbrev pub by_kinds : List (Key × Record) → List (Key × Record)
by_kinds es = of_kind kinds.Port es ++ of_kind kinds.Filter es ++ of_kind kinds.Gate es ++ of_kind kinds.Meter es

-- what may be given is read back
pub setup_back : (l : Limits) (es : List (Key × Record)) → AreInRange l → InRange es → es ≡ by_kinds es
    → length (limits_text l ++ rows es) ≤ longest_setup → setup_of (limits_text l ++ rows es) ≡ Ok (record { limits = l; records = es })
setup_back l es fits in_range order short =
    let of : (which : Kind) → AllOf which (of_kind which es) × InRange (of_kind which es) =
    λ which. (of_kind_of which es, of_kind_in_range which es in_range) in
    let four : FourKinds (of_kind kinds.Port es) (of_kind kinds.Filter es) (of_kind kinds.Gate es) (of_kind kinds.Meter es) = record {
      ports = of kinds.Port;
      filters = of kinds.Filter;
      gates = of kinds.Gate;
      meters = of kinds.Meter;
    } in
    let whole =
    document_back l (of_kind kinds.Port es) (of_kind kinds.Filter es) (of_kind kinds.Gate es) (of_kind kinds.Meter es) fits four in
    let found = subst (λ rs. ShapedAs (limits_text l ++ rows rs) l rs) (sym order) whole in
    setup_read (limits_text l ++ rows es) l es short found fits in_range
