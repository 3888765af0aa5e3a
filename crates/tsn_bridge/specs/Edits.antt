-- The rules of edits and of what takes them back: each makes an entry, and what the filter chain keeps follows its change.
-- Of the book's causes the least stands for all.
use Rattle.std.specs.Prelude.{ℕ, ◌+◌, true, List, [], ◌∷◌, Option, Some, length, option_map}
use Rattle.tsn_types.specs.declared.refusals.Refusal.{Refusal}
use Rattle.tsn_edit.specs.declared.Edit.{Edit}
use Rattle.tsn_edit.specs.Batches.{change_of}
use Rattle.tsn_edit.specs.Parts.{Change, inverse}
use Rattle.tsn_chain.specs.Following.{frames_after}
use Rattle.tsn_entries.specs.declared.entries.What.{What}
use Rattle.tsn_entries.specs.declared.entries.What.TheVariants.{Made}
use Rattle.tsn_entries.specs.Entries.{Applied, redone, undone}
use Rattle.tsn_entries.specs.Finding.{last_of, own_standing, redo_of}
use Rattle.tsn_undo.specs.Ledger.{enter, present}
use Rattle.tsn_undo.specs.Redo.{WhyNoRedo}
use Rattle.tsn_undo.specs.Steps.{edit_refusal, undo_refusal}
use Rattle.tsn_undo.specs.UndoAll.{undo_all_refusal, with_undone}
use Rattle.tsn_commands.specs.declared.reply.Reply.{Reply}
use Rattle.tsn_commands.specs.declared.reply.Reply.TheVariants.{Entry, EntryOf, TakenBack}
use Rattle.tsn_bridge.specs.State.{State}
use Rattle.tsn_bridge.specs.Together.{undone_by}
use Rattle.tsn_bridge.specs.Rule.{Allows, Rule, no_session}

-- the number of the entry that comes next
abbrev pub next : State → ℕ
next s = length s.book.entries + 1

-- the state after an entry that applied a change
abbrev pub changed_state : State → ℕ → What → Change → State
changed_state s n w e = record s { book = enter s.book n w; frames = frames_after s.time s.frames e }

-- a batch of edits, or of one, makes one entry, with the batch's change
abbrev pub edit_rule : State → ℕ → List Edit → Rule
edit_rule s n batch =
    let e = change_of (present s.book) batch in
    record {
      causes = no_session s n ∷ edit_refusal s.book batch ∷ [];
      done = Some (Entry (next s), changed_state s n (Made e) e);
      takes_memory = true;
    }

-- an undo makes one entry, which takes back the session's newest standing entry
abbrev pub undo_rule : State → ℕ → Rule
undo_rule s n = record {
  causes = no_session s n ∷ undo_refusal s.book n ∷ [];
  done =
      option_map (λ (x : Applied). (EntryOf (next s) x.number, changed_state s n (undone x) (inverse x.change))) (last_of s.book.entries n);
  takes_memory = true;
}

-- the state after an Undone entry for each of xs, the last of them first
abbrev pub undone_state : State → ℕ → List Applied → State
undone_state s n xs =
    record s { book = record s.book { entries = with_undone s.book.entries n xs }; frames = undone_by (frames_after s.time) s.frames xs }

-- an undo of all makes an entry for each of the session's standing entries, which takes it back, newest first
abbrev pub undo_all_rule : State → ℕ → Rule
undo_all_rule s n =
    let own = own_standing s.book.entries n in
    record {
      causes = no_session s n ∷ undo_all_refusal s.book n ∷ [];
      done = Some (TakenBack (length own) (length s.book.entries + length own), undone_state s n own);
      takes_memory = true;
    }

-- a redo makes one entry, which takes back the Undone entry that the session may redo; the cause is the book's one
abbrev pub redo_rule : State → ℕ → Option Refusal → Rule
redo_rule s n cause = record {
  causes = no_session s n ∷ cause ∷ [];
  done =
      option_map (λ (u : Applied). (EntryOf (next s) u.number, changed_state s n (redone u) (inverse u.change))) (redo_of s.book.entries n);
  takes_memory = true;
}

-- whether what would be redone fits is no computation, so the rule is asked with the cause that the book says
abbrev pub AllowsRedo : State → ℕ → Reply → State → Type 0
AllowsRedo s n reply new = WhyNoRedo s.book n (λ cause. Allows (redo_rule s n cause) s reply new)
