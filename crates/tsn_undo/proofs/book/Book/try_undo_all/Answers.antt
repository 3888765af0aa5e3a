use Rattle.std.proofs.Common.{◌≡◌, ◌∙◌, ap, arith, length, sym, subst}
use Rattle.std.proofs.lemmas.List.{length-map}
use Rattle.std.specs.Prelude.{◌==◌}
use Rattle.tsn_entries.specs.Entries.{Applied, standing}
use Rattle.tsn_entries.specs.Finding.{own_standing}
use Rattle.tsn_undo.specs.Commuting.{IsClosed}
use Rattle.tsn_undo.specs.Ledger.{Ledger}
use Rattle.tsn_undo.specs.UndoAll.{taking_back, with_undone}
use Rattle.tsn_undo.proofs.Room.{few_own}
use Rattle.tsn_undo.proofs.UndoAll.{free_of_all, makes_all, own_closed}
use Rattle.tsn_undo.proofs.book.Book.try_undo_all.Goals as goal

pub parts_of-requires : goal.parts_of-requires
parts_of-requires c =
    let b = c.args.self.now.ledger in
    let own = own_standing b.entries c.args.session in
    omega (
      arith,
      ap length c.deref.ensures.value,
      ap length c.in_ok-backs.ensures,
      length-map own taking_back,
      few_own b c.args.session c.requires,
    )

pub enter_all_undone-requires-clause-closed : goal.enter_all_undone-requires-clause-closed
enter_all_undone-requires-clause-closed c =
    let b = c.args.self.now.ledger in
    let s = c.args.session in
    subst (λ (l : Ledger). IsClosed (λ (x : Applied). x.session == s) (standing l.entries)) (sym c.reserve_parts.ensures.ledger)
    (own_closed b.entries s c.journal.ensures.sound.numbered (free_of_all b s c.requires).none)

pub returns-clause-ok : goal.returns-clause-ok
returns-clause-ok c =
    let b = c.args.self.now.ledger in
    let s = c.args.session in
    let own = own_standing b.entries s in
    let after = c.enter_all_undone.ensures ∙ ap (λ (l : Ledger). record l { entries = with_undone l.entries s (own_standing l.entries s) })
    c.reserve_parts.ensures.ledger in
    let counted : c.len-count.result ≡ length own = omega (
      arith,
      ap length (c.deref.ensures.value ∙ c.in_ok-backs.ensures),
      length-map own taking_back,
      c.deref.ensures.len,
      c.len-count.ensures,
    ) in
    makes_all b s c.journal.ensures.sound c.requires c.len-count.result c.len.result c.enter_all_undone.new.self.ledger counted
    (c.len.ensures.number ∙ ap length (c.journal-2.ensures.entries ∙ ap (λ (l : Ledger). l.entries) after)) after
