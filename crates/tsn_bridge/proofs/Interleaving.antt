-- Over every list of commands the journal stays sound; and what an undo of all leaves.
use Rattle.std.proofs.Common.{◌≡◌, ℕ, ◌+◌, ◌≤◌, List, [], ◌∷◌, ◌++◌, refl, sym, ◌∙◌, ap, subst, Some, None, arith, length, append_assoc, append-nil}
use Rattle.tsn_edit.specs.declared.Edit.{Edit}
use Rattle.tsn_chain.specs.Following.{frames_after}
use Rattle.tsn_chain.specs.Instances.{FrameData}
use Rattle.tsn_entries.specs.declared.entries.Entry.{Entry}
use Rattle.tsn_entries.specs.declared.entries.What.{What}
use Rattle.tsn_entries.specs.declared.entries.What.TheVariants.{Acted, Settled}
use Rattle.tsn_entries.specs.Entries.{Applied, undone}
use Rattle.tsn_entries.specs.Finding.{own_standing}
use Rattle.tsn_undo.specs.Ledger.{enter}
use Rattle.tsn_undo.specs.UndoAll.{TakesAllBack, undo_all_refusal, with_undone}
use Rattle.tsn_undo.proofs.Adding.{sound_quiet, sound_settled}
use Rattle.tsn_undo.proofs.UndoAll.{begin_taken, free_of_all, makes_all, taken_to}
use Rattle.tsn_commands.specs.declared.command.Command.{Command}
use Rattle.tsn_commands.specs.declared.command.Command.TheVariants as commands
use Rattle.tsn_commands.specs.declared.reply.Reply.{Reply}
use Rattle.tsn_commands.specs.declared.reply.Reply.TheVariants.{Entry as EntryReply, TakenBack}
use Rattle.tsn_bridge.specs.Acts.{instant}
use Rattle.tsn_bridge.specs.Edits.{edit_rule, undo_all_rule}
use Rattle.tsn_bridge.specs.Families.{Editing, Family, family}
use Rattle.tsn_bridge.specs.Histories.{AreInRange, Answered, Leads, StateIsSound, batch_of, edits_of}
use Rattle.tsn_commands.specs.Commands.{CommandInRange}
use Rattle.tsn_bridge.specs.declared.sessions.Named.{Named}
use Rattle.tsn_bridge.specs.Later.{IsLater}
use Rattle.tsn_bridge.specs.Machine.{Goes, Step}
use Rattle.tsn_bridge.specs.Rule.{Allows, is_given}
use Rattle.tsn_bridge.specs.State.{State}
use Rattle.tsn_bridge.proofs.AtOnce.{done_of}
use Rattle.tsn_bridge.proofs.Families.{ActDone, AllUndone, Changed, FamilyInRange, FrameTaken, Greeted, Left, Same, SettledTo, in_range, leaves, state_of}
use Rattle.tsn_bridge.proofs.Stepping.{accepted, was_given}

-- ---- a later state

-- no entry more
no_entry : (s : State) (sessions time : ℕ) (frames : FrameData) (named : List Named) → s.sessions ≤ sessions → s.time ≤ time
    → IsLater s (record { book = s.book; sessions = sessions; names = s.names ++ named; time = time; frames = frames })
no_entry s sessions time frames named more late =
    record {
      limits = refl;
      opening = refl;
      more = [];
      entries = sym (append-nil s.book.entries);
      sessions = more;
      named = named;
      names = refl;
      time = late;
    }

-- no entry and no name more
no_name : (s : State) (sessions time : ℕ) (frames : FrameData) → s.sessions ≤ sessions → s.time ≤ time
    → IsLater s (record s { sessions = sessions; time = time; frames = frames })
no_name s sessions time frames more late =
    subst (λ names. IsLater s (record s { sessions = sessions; names = names; time = time; frames = frames })) (append-nil s.names)
    (no_entry s sessions time frames [] more late)

pub itself : (s : State) → IsLater s s
itself s = no_name s s.sessions s.time s.frames (omega arith) (omega arith)

pub after_both : (s between new : State) → IsLater s between → IsLater between new → IsLater s new
after_both s between new one two = record {
  limits = two.limits ∙ one.limits;
  opening = two.opening ∙ one.opening;
  more = one.more ++ two.more;
  entries = two.entries ∙ ap (λ es. es ++ two.more) one.entries ∙ append_assoc s.book.entries one.more two.more;
  sessions = omega (arith, one.sessions, two.sessions);
  named = one.named ++ two.named;
  names = two.names ∙ ap (λ ns. ns ++ two.named) one.names ∙ append_assoc s.names one.named two.named;
  time = omega (arith, one.time, two.time);
}

-- one entry more, at a time that is no less
entered : (s : State) (n : ℕ) (w : What) (time : ℕ) (frames : FrameData) → s.time ≤ time
    → IsLater s (record s { book = enter s.book n w; time = time; frames = frames })
entered s n w time frames late =
    record {
      limits = refl;
      opening = refl;
      more = record { number = length s.book.entries + 1; session = n; what = w } ∷ [];
      entries = refl;
      sessions = omega arith;
      named = [];
      names = sym (append-nil s.names);
      time = late;
    }

-- and one for each that was taken back
all_entered : (es : List Entry) (n : ℕ) (xs : List Applied) → (more : List Entry) × (with_undone es n xs ≡ es ++ more)
all_entered es n [] = ([], sym (append-nil es))
all_entered es n (x ∷ xs) =
    let rest = all_entered es n xs in
    let last : List Entry = record { number = length (with_undone es n xs) + 1; session = n; what = undone x } ∷ [] in
    (rest.0 ++ last, ap (λ ys. ys ++ last) rest.1 ∙ append_assoc es rest.0 last)

later : (s : State) (n : ℕ) (f : Family) (new : State) → Left s n f new → IsLater s new
later s n f new Same = itself s
later s n f new (Greeted None) = no_name s (s.sessions + 1) s.time s.frames (omega arith) (omega arith)
later s n f new (Greeted (Some name)) =
    no_entry s (s.sessions + 1) s.time s.frames (record { session = s.sessions + 1; name = name } ∷ []) (omega arith) (omega arith)
later s n f new (Changed w e apply good) = entered s n w s.time (frames_after s.time s.frames e) (omega arith)
later s n f new (AllUndone free) =
    let more = all_entered s.book.entries n (own_standing s.book.entries n) in
    record {
      limits = refl;
      opening = refl;
      more = more.0;
      entries = more.1;
      sessions = omega arith;
      named = [];
      names = sym (append-nil s.names);
      time = omega arith;
    }
later s n f new (SettledTo upto) = entered s n (Settled upto) s.time s.frames (omega arith)
later s n f new (ActDone act k now none) = entered s n (Acted act k (instant s now)) (instant s now) s.frames (omega arith)
later s n f new (FrameTaken frame now x of is) = no_name s s.sessions (instant s now) x.1 (omega arith) (omega arith)

-- ---- a sound journal stays so

sound_left : (s : State) (n : ℕ) (f : Family) (new : State) → StateIsSound s → FamilyInRange f → Left s n f new → StateIsSound new
sound_left s n f new sound ranges Same = sound
sound_left s n f new sound ranges (Greeted name) = sound
sound_left s n f new sound ranges (Changed w e apply good) = (good sound ranges).1
sound_left s n f new sound ranges (AllUndone free) =
    (taken_to s.book.limits s.book.opening s.book.entries n [] (own_standing s.book.entries n)
    (begin_taken s.book.limits s.book.opening s.book.entries n sound (free_of_all s.book n free).none)).sound
sound_left s n f new sound ranges (SettledTo upto) = sound_settled s.book.limits s.book.opening s.book.entries n upto sound
sound_left s n f new sound ranges (ActDone act k now none) =
    sound_quiet s.book.limits s.book.opening s.book.entries n (Acted act k (instant s now)) sound tt (λ m. refl) refl refl
sound_left s n f new sound ranges (FrameTaken frame now x of is) = sound

-- ---- each step, and each list of them

pub record Follows (s new : State) : Type 0 where
  pub sound : StateIsSound new
  pub later : IsLater s new

pub follows : (s : State) (n : ℕ) (command : Command) (reply : Reply) (new : State) → StateIsSound s → CommandInRange command
    → Step s n command reply new → Follows s new
follows s n command reply new sound ranges step =
    let l = (leaves s n (family command) reply new step).how in
    record { sound = sound_left s n (family command) new sound (in_range command ranges) l; later = later s n (family command) new l }

pub follow : (ts : List Answered) (s new : State) → StateIsSound s → AreInRange ts → Leads s ts new → Follows s new
follow [] s new sound ranges same = subst (Follows s) (sym same) (record { sound = sound; later = itself s })
follow (t ∷ ts) s new sound ranges (between, step, rest) =
    let one = follows s t.ask.session t.ask.command t.reply between sound ranges.0 step in
    let more = follow ts between new one.sound ranges.1 rest in
    record { sound = more.sound; later = after_both s between new one.later more.later }

-- ---- an undo of all

-- that was answered with how many it took back
pub all_taken_back : (s : State) (n count entry : ℕ) (new : State) → StateIsSound s → Step s n commands.UndoAll (TakenBack count entry) new
    → TakesAllBack s.book n (length (own_standing s.book.entries n)) (length (with_undone s.book.entries n (own_standing s.book.entries n)))
    new.book
all_taken_back s n count entry new sound step =
    let is = accepted (undo_all_rule s n) s (TakenBack count entry) new (λ why h. (cc)) step in
    let admitted = (was_given (is_given s n) (undo_all_refusal s.book n) is.0).1 in
    makes_all s.book n sound admitted _ _ new.book refl refl
    (sym (ap (λ (t : State). t.book) (state_of _ (TakenBack count entry) _ new is.1)))

-- ---- an edit that was answered with an entry

pub same_edits : {a b : List Edit} → Some a ≡ Some b → a ≡ b
same_edits {a} {b} h = done_of a b h

made_in : (f : Family) (before edited : State) (session : ℕ) (batch : List Edit) (entry : ℕ) → batch_of f ≡ Some batch
    → Goes before session f (EntryReply entry) edited → Allows (edit_rule before session batch) before (EntryReply entry) edited
made_in (Editing edits) before edited session batch entry is step =
    subst (λ b. Allows (edit_rule before session b) before (EntryReply entry) edited) (same_edits is) step
made_in f before edited session batch entry is step = (cc)

pub made_by : (before edited : State) (session : ℕ) (command : Command) (batch : List Edit) (entry : ℕ) → edits_of command ≡ Some batch
    → Step before session command (EntryReply entry) edited → Allows (edit_rule before session batch) before (EntryReply entry) edited
made_by before edited session command batch entry is step = made_in (family command) before edited session batch entry is step
