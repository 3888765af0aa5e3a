use Rattle.std.proofs.Common.{◌≡◌, ◌++◌, ◌∙◌, ap, get_or, inr, refl, rules}
use Rattle.std.specs.List.{flat_map}
use Rattle.tsn_types.specs.declared.keys.Kind.TheVariants as kinds
use Rattle.tsn_export.specs.Text.{limits_text}
use Rattle.tsn_export.proofs.Lists.{left_end, left_more, left_within}
use Rattle.tsn_export.proofs.Whole.{IsRefused, all_kinds, rows, stopped, whole, whole_exported}
use Rattle.tsn_export.proofs.exporting.export_setup.Goals as goal

pub loop-kind-init : goal.loop-kind-init
loop-kind-init c =
    let m = c.args.config.now.map in
    let start : c.push_limits.new.self ≡ limits_text c.args.config.now.limits = search rules in
    ap (λ t. t ++ flat_map (rows m) all_kinds) start ∙ whole c.args.config.now.limits m

pub loop-kind-preserved : goal.loop-kind-preserved
loop-kind-preserved c =
    left_more (rows c.args.config.now.map) all_kinds c.loop-kind.kind-index c.loop-kind.text _ c.loop-kind.invariant _ kinds.Port
    c.push_kind.new.self c.loop-kind-test.true refl c.in_ok-push_kind.ensures.ok

pub returns-in_err-push_kind-clause-refused : goal.returns-in_err-push_kind-clause-refused
returns-in_err-push_kind-clause-refused c =
    let l = c.args.config.now.limits in
    let m = c.args.config.now.map in
    let kind = get_or all_kinds c.loop-kind.kind-index kinds.Port in
    let new = c.loop-kind.text ++ rows m kind in
    let left = left_more (rows m) all_kinds c.loop-kind.kind-index c.loop-kind.text _ c.loop-kind.invariant kind kinds.Port new
    c.loop-kind-test.true refl refl in
    let refused : IsRefused l m c.in_err-push_kind.field-0.0 = stopped l m new c.in_err-push_kind.field-0.0
    (left_within (rows m) all_kinds _ new _ left) c.in_err-push_kind.ensures.refused in
    search rules

pub returns-in_err-refuse_long-clause-refused : goal.returns-in_err-refuse_long-clause-refused
returns-in_err-refuse_long-clause-refused c =
    let l = c.args.config.now.limits in
    let m = c.args.config.now.map in
    let part = left_within (rows m) all_kinds _ c.loop-kind.text _ c.loop-kind.invariant in
    let refused : IsRefused l m c.in_err-refuse_long.field-0.0 = stopped l m c.loop-kind.text c.in_err-refuse_long.field-0.0 part
    (inr (c.in_err-refuse_long.ensures.why, c.in_err-refuse_long.ensures.long)) in
    search rules

pub returns-clause-ok : goal.returns-clause-ok
returns-clause-ok c =
    let m = c.args.config.now.map in
    whole_exported c.args.config.now.limits m c.loop-kind.text
    (left_end (rows m) all_kinds c.loop-kind.kind-index c.loop-kind.text _ c.loop-kind.invariant c.loop-kind-test.false)
    c.in_ok-refuse_long.ensures.ok
