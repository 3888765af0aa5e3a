use Rattle.std.proofs.Common.{◌≡◌, ◌<◌, ◌++◌, length, arith, ap, refl, rules, ◌∙◌}
use Rattle.std.specs.List.{flat_map}
use Rattle.tsn_config.proofs.Keyed.{number_at}
use Rattle.tsn_export.specs.Going.{entry_text}
use Rattle.tsn_export.specs.Text.{longest_setup, named_of, table_text}
use Rattle.tsn_export.proofs.Along.{tables_of_kind, text_at}
use Rattle.tsn_export.proofs.Lists.{left_end, left_more, left_within}
use Rattle.tsn_export.proofs.text.PlainText.push_kind.Goals as goal

pub key_of-requires : goal.key_of-requires
key_of-requires c =
    number_at _ _ c.requires c.args.kind _ c.loop-id.id-index (c.as_slice-id-items.ensures ∙ c.in_ok-ids.ensures.ids) c.loop-id-test.true

pub loop-id-preserved : goal.loop-id-preserved
loop-id-preserved c =
    left_more (text_at entry_text c.args.config.now.map c.args.kind) c.as_slice-id-items.result.now c.loop-id.id-index c.loop-id.self _
    c.loop-id.invariant _ 0 c.push_entry.new.self c.loop-id-test.true refl (rw c.key_of.ensures at c.in_ok-push_entry.ensures)

pub returns-clause-ok : goal.returns-clause-ok
returns-clause-ok c =
    let text = text_at entry_text c.args.config.now.map c.args.kind in
    left_end text c.as_slice-id-items.result.now c.loop-id.id-index c.loop-id.self _ c.loop-id.invariant c.loop-id-test.false
    ∙ ap (λ ns. c.args.self.now ++ flat_map text ns) (c.as_slice-id-items.ensures ∙ c.in_ok-ids.ensures.ids)
    ∙ ap (λ t. c.args.self.now ++ t) (tables_of_kind c.args.kind c.args.config.now.map)

pub returns-in_err-refuse_long-clause-refused : goal.returns-in_err-refuse_long-clause-refused
returns-in_err-refuse_long-clause-refused c =
    let text = text_at entry_text c.args.config.now.map c.args.kind in
    let ns = c.as_slice-id-items.result.now in
    let written = c.push_entry.new.self in
    let left = left_more text ns c.loop-id.id-index c.loop-id.self _ c.loop-id.invariant _ 0 written c.loop-id-test.true refl
    (rw c.key_of.ensures at c.in_ok-push_entry.ensures) in
    let is : c.args.self.now ++ flat_map text ns ≡ c.args.self.now ++ flat_map table_text (named_of c.args.kind c.args.config.now.map) =
    ap (λ ns. c.args.self.now ++ flat_map text ns) (c.as_slice-id-items.ensures ∙ c.in_ok-ids.ensures.ids)
    ∙ ap (λ t. c.args.self.now ++ t) (tables_of_kind c.args.kind c.args.config.now.map) in
    let long : longest_setup < length (c.args.self.now ++ flat_map table_text (named_of c.args.kind c.args.config.now.map)) =
    omega (arith, c.in_err-refuse_long.ensures.long, left_within text ns _ written _ left, ap length is) in
    search rules
