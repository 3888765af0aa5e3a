-- The families of commands, by the rule that a command goes by.
use Rattle.std.specs.Prelude.{ℕ, List, [], ◌∷◌, Option}
use Rattle.tsn_chain.specs.Begun.{no_frames}
use Rattle.tsn_chain.specs.declared.frame.Frame.{Frame}
use Rattle.tsn_edit.specs.declared.Edit.{Edit}
use Rattle.tsn_edit.specs.declared.Edit.TheVariants as edits
use Rattle.tsn_entries.specs.declared.entries.Act.{Act as Asked}
use Rattle.tsn_entries.specs.declared.entries.Act.TheVariants as asked
use Rattle.tsn_types.specs.declared.keys.Key.{Key}
use Rattle.tsn_undo.specs.Redo.{WhyNoRedo}
use Rattle.tsn_commands.specs.declared.command.Command.{Command}
use Rattle.tsn_commands.specs.declared.command.Command.TheVariants as commands
use Rattle.tsn_bridge.specs.Acts.{act_rule}
use Rattle.tsn_bridge.specs.Edits.{edit_rule, redo_rule, undo_all_rule, undo_rule}
use Rattle.tsn_bridge.specs.Frames.{frame_rule}
use Rattle.tsn_bridge.specs.Looking.{counters_look, states_look}
use Rattle.tsn_bridge.specs.Reads.{list_look, setup_look, show_look, since_look}
use Rattle.tsn_bridge.specs.Rule.{Look, Rule, look_rule}
use Rattle.tsn_bridge.specs.Sessions.{hello_rule, resume_look, sessions_look}
use Rattle.tsn_bridge.specs.Settling.{settle_rule}
use Rattle.tsn_bridge.specs.State.{State}

-- What a command asks for: a session number, by a name or none; a batch of edits; an undo, an undo of all, a redo; a settle up to a number;
-- an act on a key at an instant; what becomes of a frame; a look at what a journal keeps; or one at what it doesn't.
pub data Family : Type 0 where
  Greeting : Option (List ℕ) → Family
  Editing : List Edit → Family
  Undoing : Family
  UndoingAll : Family
  Redoing : Family
  Settling : ℕ → Family
  Acting : Asked → Key → ℕ → Family
  Framing : Frame → ℕ → Family
  Looking : (State → ℕ → Look) → Family
  Counting : (State → ℕ → Look) → Family

-- the family of a command, whole: a command of one edit asks for a batch of one
abbrev pub family : Command → Family
family (commands.Hello name) = Greeting name
family (commands.Create k r) = Editing (edits.Create k r ∷ [])
family (commands.Replace k r) = Editing (edits.Replace k r ∷ [])
family (commands.Remove k) = Editing (edits.Remove k ∷ [])
family (commands.Batch batch) = Editing batch
family commands.Undo = Undoing
family commands.UndoAll = UndoingAll
family commands.Redo = Redoing
family (commands.Settle upto) = Settling upto
family (commands.Enable k now) = Acting asked.Enable k now
family (commands.Disable k now) = Acting asked.Disable k now
family (commands.Apply k now) = Acting asked.Apply k now
family (commands.Frame frame now) = Framing frame now
family (commands.States k at) = Looking (λ s n. states_look s n k at)
family (commands.Counters k) = Counting (λ s n. counters_look s n k)
family (commands.Show k) = Looking (λ s n. show_look s n k)
family (commands.List kind) = Looking (λ s n. list_look s n kind)
family (commands.Since after) = Looking (λ s n. since_look s n after)
family commands.Resume = Looking resume_look
family commands.Sessions = Looking sessions_look
family commands.Setup = Looking setup_look

-- a state as a look at what a journal keeps sees it: neither the bridge time nor what the filter chain keeps
abbrev pub seen_by_looks : State → State
seen_by_looks s = record s { time = 0; frames = no_frames }

-- what holds of the rule of a family; that of a redo is asked with the cause that the book says
abbrev pub OfRule : State → ℕ → Family → (Rule → Type 0) → Type 0
OfRule s n (Greeting name) P = P (hello_rule s name)
OfRule s n (Editing batch) P = P (edit_rule s n batch)
OfRule s n Undoing P = P (undo_rule s n)
OfRule s n UndoingAll P = P (undo_all_rule s n)
OfRule s n Redoing P = WhyNoRedo s.book n (λ cause. P (redo_rule s n cause))
OfRule s n (Settling upto) P = P (settle_rule s n upto)
OfRule s n (Acting act k now) P = P (act_rule s n act k now)
OfRule s n (Framing frame now) P = P (frame_rule s n frame now)
OfRule s n (Looking look) P = P (look_rule s (look (seen_by_looks s) n))
OfRule s n (Counting look) P = P (look_rule s (look s n))
