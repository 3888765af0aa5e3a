use Rattle.std.proofs.Common.{◌≡◌, ◌+◌, ◌∙◌, [], ◌∷◌, ◌++◌, append_assoc, ap, arith, drop, map, sym}
use Rattle.std.specs.Prelude.{is_some}
use Rattle.tsn_entries.specs.Entries.{Applied}
use Rattle.tsn_entries.specs.Finding.{own_standing}
use Rattle.tsn_undo.specs.UndoAll.{taking_back}
use Rattle.tsn_undo.proofs.UndoAll.{own_at}
use Rattle.tsn_undo.proofs.book.Book.takings_back.Goals as goal

pub taking_back-requires : goal.taking_back-requires
taking_back-requires c =
    let es = c.args.self.now.ledger.entries in
    let s = c.args.session in
    let numbers = c.deref-number-items.ensures.value ∙ c.in_ok-numbers.ensures
    ∙ ap (λ es. map (λ (x : Applied). x.number) (own_standing es s)) c.journal.ensures.entries in
    let at = own_at es s c.deref-number-items.result.now c.loop-number.number-index c.journal.ensures.sound.numbered numbers
    c.loop-number-test.true in
    ap is_some at.change

pub loop-number-preserved : goal.loop-number-preserved
loop-number-preserved c =
    let es = c.args.self.now.ledger.entries in
    let s = c.args.session in
    let own = own_standing es s in
    let i = c.loop-number.number-index in
    let items = c.loop-number.backs.items in
    let numbers = c.deref-number-items.ensures.value ∙ c.in_ok-numbers.ensures
    ∙ ap (λ es. map (λ (x : Applied). x.number) (own_standing es s)) c.journal.ensures.entries in
    let at = own_at es s c.deref-number-items.result.now i c.journal.ensures.sound.numbered numbers c.loop-number-test.true in
    let back : c.in_ok-taking_back.field-0 ≡ taking_back at.entry = c.in_ok-taking_back.ensures at.entry.change at.change
    ∙ ap (λ n. record (taking_back at.entry) { of = n }) (sym at.is_number) in (
      ap (λ xs. xs ++ map taking_back (drop (i + 1) own)) c.push_reserved.ensures.items
          ∙ append_assoc items (c.in_ok-taking_back.field-0 ∷ []) (map taking_back (drop (i + 1) own))
          ∙ ap (λ k. items ++ k ∷ map taking_back (drop (i + 1) own)) back
          ∙ ap (λ xs. items ++ map taking_back xs) (sym at.rest)
          ∙ c.loop-number.invariant.0,
      (
        omega (arith, c.push_reserved.ensures.len, c.loop-number.invariant.1.0),
        omega (arith, c.push_reserved.ensures.capacity, c.loop-number.invariant.1.1),
      ),
    )
