use Rattle.std.proofs.Common.{refl, sym, subst, ap, ◌+◌, ◌∙◌, ◌∷◌}
use Rattle.json.specs.Lex
use Rattle.json.specs.Token.{Token}
use Rattle.tsn_records.specs.Shown.{list_array}
use Rattle.tsn_wire.specs.Lexed.{lexed, ReadsValue}
use Rattle.tsn_wire.proofs.Listing.{Lists, no_entry, one_more, all_listed, none_listed}
use Rattle.tsn_wire.proofs.lists.scanned_list.Goals as goal

pub returns-then-mark : goal.returns-then-mark
returns-then-mark g c =
    none_listed g.L.One.Item.nesting g.L.One.Item.value _ _ _ _ c.none-list.ensures c.in_ok-passed.ensures (c.if-mark.ensures.took refl)

pub items-init : goal.items-init
items-init g c = no_entry g.L.One.Item.nesting g.L.One.Item.value _ _ _ c.none-list.ensures refl

pub returns-then-mark-2 : goal.returns-then-mark-2
returns-then-mark-2 g c =
    let n = g.L.One.Item.nesting in
    let f = g.L.One.Item.value in
    let begin = c.in_ok-passed.ensures ∙ ap (λ l. Lex.token Token.begin_array ∷ l) (sym (c.mark.ensures.kept c.if-mark.false)) in
    subst (λ l. ReadsValue (n + 1) (lexed c.args.text.now) (list_array f l) (lexed c.mark-in-items.new.self)) (sym c.in_ok-add.ensures)
    (all_listed n f _ _ _ _ _ (g.L.Items.items c.items.list) c.in_ok-item.item begin c.items.invariant c.in_ok-item.ensures
    (c.if-mark-2.ensures.took refl))

pub items-preserved : goal.items-preserved
items-preserved g c =
    let n = g.L.One.Item.nesting in
    let f = g.L.One.Item.value in
    subst (λ l. Lists n f (lexed c.mark.new.self) l (lexed c.passed-in-items.new.text)) (sym c.in_ok-add.ensures)
    (one_more n f _ _ _ _ (g.L.Items.items c.items.list) c.in_ok-item.item c.items.invariant c.in_ok-item.ensures
    (sym (c.mark-in-items.ensures.kept c.if-mark-2.false) ∙ c.in_ok-passed-2.ensures))
