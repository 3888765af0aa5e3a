-- The turns of a desk are steps of the machine, so its history leads where they do.
use Rattle.std.proofs.Common.{List, [], ◌∷◌, sym}
use Rattle.tsn_machine.specs.declared.history.Entry.{Entry}
use Rattle.tsn_machine.specs.History.{Runs}
use Rattle.tsn_undo.specs.Commuting.{Commutes, IsClosed}
use Rattle.tsn_undo.specs.Ledger.{base_of}
use Rattle.tsn_undo.proofs.Adding.{kept_base}
use Rattle.tsn_undo.proofs.Commutation.{commutation}
use Rattle.tsn_entries.specs.Entries.{Applied, standing}
use Rattle.tsn_types.specs.declared.keys.Key.{Key}
use Rattle.tsn_types.specs.declared.limits.Limits.{Limits}
use Rattle.tsn_types.specs.declared.records.Record.{Record}
use Rattle.std.specs.Prelude.{Bool}
use Rattle.tsn_commands.specs.declared.command.Ask.{Ask}
use Rattle.tsn_commands.specs.declared.reply.Reply.{Reply}
use Rattle.tsn_bridge.specs.Beginning.{Opens, begun}
use Rattle.tsn_bridge.specs.Histories.{AreInRange, Leads, StateIsSound}
use Rattle.tsn_bridge.specs.Later.{IsWhole}
use Rattle.tsn_bridge.specs.State.{State}
use Rattle.tsn_bridge.specs.Turns.{Turns, answered}
use Rattle.tsn_bridge.proofs.Later.{all_go_on, whole_begun}

-- where a history leads, there what was asked in it leads
pub leads : (history : List (Entry Ask Reply)) (start now : State) → Runs Turns start history now
    → AreInRange (answered history) × Leads start (answered history) now
leads [] start now same = (tt, sym same)
leads (e ∷ es) start now r = let rest = leads es r.0 now r.2 in ((r.1.0, rest.0), (r.0, r.1.1, rest.1))

-- the state to which the history of a desk leads is whole, if the bridge began with limits and records that open one
pub whole_now : (limits : Limits) (records : List (Key × Record)) (history : List (Entry Ask Reply)) (now : State) → Opens limits records
    → Runs Turns (begun limits records) history now → IsWhole now
whole_now limits records history now opens runs =
    let asked = leads history (begun limits records) now runs in
    (all_go_on (answered history) (begun limits records) now (whole_begun limits records opens) asked.0 asked.1).0

-- in a sound state, any standing entries may be taken out with those in conflict with them
pub commutes : (s : State) → StateIsSound s → (out : Applied → Bool) → IsClosed out (standing s.book.entries)
    → Commutes s.book.limits (base_of s.book) out (standing s.book.entries)
commutes s sound out closed = commutation s.book.limits (base_of s.book) (standing s.book.entries) out
    (kept_base s.book.limits s.book.opening s.book.entries sound) sound.good closed
