use Rattle.std.proofs.Common.{◌≡◌, List, [], ◌∷◌, ◌++◌, Option, Some, ap, sym, ◌∙◌, subst}
use Rattle.atomic_table.specs.Table.{opening}
use Rattle.tsn_desk.specs.Seats.{first_of}
use Rattle.tsn_desk.specs.Rule.{Kept, opening_view}
use Rattle.tsn_desk.proofs.Everywhere.{all_of}
use Rattle.tsn_desk.proofs.Parts.{opens}
use Rattle.tsn_desk.proofs.desk.Desk.new.Goals as goal

pub new-requires : goal.new-requires
new-requires g c =
    let x = c.of.result.value in
    let n = c.args.seats in
    let items = c.push_reserved.ensures.items
    ∙ (ap (λ l. l ++ Some c.args.machine ∷ []) c.in-Ok-with_capacity.ensures.items ∙ ap (λ m. Some m ∷ []) (sym c.of.ensures)) in
    let F : List (Option g.row.M.Denot) → Type 0 = λ l. Kept g.M.Machine.steps x n (opening (0 ∷ 0 ∷ []) l (opening_view x n)) in
    subst F (sym items) (opens g.M.Machine.steps x n c.requires.1)

pub returns-in-Ok-new-clause-own : goal.returns-in-Ok-new-clause-own
returns-in-Ok-new-clause-own g c =
    all_of (λ s. (s.inner.table_id ≡ c.in-Ok-new.table.shared.table_id) × (s.inner.me.0.first ≡ Some (first_of c.in-Ok-new.table)))
    c.deal-row.result.items (λ k s e. (c.deal-row.ensures.fresh k s e).own)
