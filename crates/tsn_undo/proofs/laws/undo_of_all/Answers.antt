use Rattle.std.proofs.Common.{sym, subst}
use Rattle.tsn_undo.specs.Ledger.{Ledger}
use Rattle.tsn_undo.specs.Soundness.{IsSound}
use Rattle.tsn_undo.proofs.UndoAll.{all_taken}
use Rattle.tsn_undo.proofs.laws.undo_of_all.Goals as goal

pub returns : goal.returns
returns c before after session count last sound t = (
  subst (λ (l : Ledger). IsSound l.limits l.opening l.entries) (sym t.after) (all_taken before session sound t.free).sound,
  t.stands,
  t.map,
  t.good,
)
