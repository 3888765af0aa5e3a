use Rattle.std.proofs.Common.{◌≡◌, ◌++◌, sym, subst, ◌∙◌}
use Rattle.std.specs.List.{AllByRecursion}
use Rattle.serde_json.specs.Written.{compact_text}
use Rattle.tsn_records.specs.Shown.{list_array}
use Rattle.tsn_wire.proofs.Spelling.{so_far, so_far_more, entries_close, all_more, none_yet}
use Rattle.tsn_wire.proofs.lists.spelled_list.Goals as goal

pub items-init : goal.items-init
items-init g c = none_yet g.L.One.Item.IsFit g.L.One.Item.value _ _ c.none-list.ensures

pub returns-then-take-2-clause-small : goal.returns-then-take-2-clause-small
returns-then-take-2-clause-small g c =
    subst (λ l. AllByRecursion g.L.One.Item.IsFit l) (sym c.in_ok-add.ensures)
    (all_more g.L.One.Item.IsFit (g.L.Items.items c.items.list) c.in_ok-item.item c.items.invariant.0 c.in_ok-item.ensures.0)

pub returns-then-take-2-clause-text : goal.returns-then-take-2-clause-text
returns-then-take-2-clause-text g c =
    let f = g.L.One.Item.value in
    subst (λ l. c.args.text.now ≡ compact_text (list_array f l) ++ c.take-in-items.new.self) (sym c.in_ok-add.ensures)
    (entries_close f (g.L.Items.items c.items.list) c.in_ok-item.item c.args.text.now c.expect.new.self c.items.text c.spelled.new.text
    c.take-in-items.new.self
    c.in_ok-expect.ensures (sym (c.take.ensures.kept c.if-take.false) ∙ c.items.invariant.1) c.in_ok-item.ensures.1
    (c.take-in-items.ensures.took c.if-take-2.true))

pub items-preserved : goal.items-preserved
items-preserved g c =
    let f = g.L.One.Item.value in
    subst (λ l. AllByRecursion g.L.One.Item.IsFit l × (c.take.new.self ≡ so_far f l ++ c.expect-in-items.new.self))
    (sym c.in_ok-add.ensures) (
      all_more g.L.One.Item.IsFit (g.L.Items.items c.items.list) c.in_ok-item.item c.items.invariant.0 c.in_ok-item.ensures.0,
      so_far_more f (g.L.Items.items c.items.list) c.in_ok-item.item c.take.new.self c.items.text c.spelled.new.text
          c.expect-in-items.new.self
          c.items.invariant.1 c.in_ok-item.ensures.1 (sym (c.take-in-items.ensures.kept c.if-take-2.false) ∙ c.in_ok-expect-2.ensures),
    )
