use Rattle.std.proofs.Common.{refl, ◌∙◌, ap}
use Rattle.tsn_edit.specs.Runs.{run}
use Rattle.tsn_entries.specs.declared.entries.What.TheVariants.{Acted}
use Rattle.tsn_undo.specs.Ledger.{present}
use Rattle.tsn_undo.proofs.Adding.{nothing_push, sound_quiet}
use Rattle.tsn_undo.proofs.book.Book.enter_act.Goals as goal

pub append-requires-clause-sound : goal.append-requires-clause-sound
append-requires-clause-sound c =
    let b = c.args.self.now.ledger in
    sound_quiet b.limits b.opening b.entries c.args.session (Acted c.args.act c.args.key c.args.now) c.journal.ensures.sound tt
    (λ n. refl) refl refl

pub returns-clause-map : goal.returns-clause-map
returns-clause-map c =
    let b = c.args.self.now.ledger in
    ap present c.append.ensures.after
    ∙ ap (run b.opening) (nothing_push b.entries c.args.session (Acted c.args.act c.args.key c.args.now) refl)
