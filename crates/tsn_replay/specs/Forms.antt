-- In which form what is asked of a bridge is recorded, and what a recorder does with what is kept of it.
use Rattle.std.specs.Prelude.{◌≡◌, ◌⊎◌, ◌<◌, ◌≤◌, ◌++◌, ◌∷◌, [], ℕ, List, None, Some, length, if◌then◌else◌}
use Rattle.tsn_types.specs.declared.refusals.Refusal.{Refusal}
use Rattle.tsn_types.specs.declared.refusals.Refusal.TheVariants.{TooLong}
use Rattle.tsn_commands.specs.declared.command.Ask.{Ask}
use Rattle.tsn_commands.specs.declared.reply.Reply.{Reply}
use Rattle.tsn_commands.specs.declared.reply.Reply.TheVariants.{Refused}
use Rattle.tsn_bridge.specs.Histories.{Answers}
use Rattle.tsn_bridge.specs.Rule.{may_change}
use Rattle.tsn_bridge.specs.State.{State}
use Rattle.tsn_replay.specs.declared.recorder.Form.{Form}
use Rattle.tsn_replay.specs.declared.recorder.Form.TheVariants.{Kept, Passing}
use Rattle.tsn_replay.specs.Handling.{IsHelloWithoutMemory}
use Rattle.tsn_replay.specs.Recorder.{IsOneLine, Recording, line_feed}
use Rattle.tsn_replay.specs.Recording.{kept_of}

-- what is kept of it at the instant that counts; or the ask itself, of which nothing is kept
abbrev pub FormOf : State → Ask → Form → Type 0
FormOf s ask (Kept a) = kept_of s ask ≡ Some a
FormOf s ask (Passing a) = (a ≡ ask) × (kept_of s ask ≡ None)

-- memory was wanting for the line of what is kept: the machine refuses it so, or it is a hello that has no cause
abbrev pub IsWithoutMemory : State → Ask → Refusal → Type 0
IsWithoutMemory s a why = Answers s a (Refused why) s ⊎ IsHelloWithoutMemory s a (Refused why) s

-- what is told of a line that could not be put for this reason
abbrev pub IsUnwritten : State → Ask → Refusal → Refusal → Type 0
IsUnwritten s a reason why = ((reason ≡ TooLong) × (why ≡ TooLong)) ⊎ IsWithoutMemory s a why

-- the bridge steps at what is kept, and its line stands behind the text if this may have changed the state
pub record IsMade (line : Ask → List ℕ) (most : ℕ) (old : Recording) (a : Ask) (reply : Reply) (new : Recording) : Type 0 where
  pub step : Answers old.bridge a reply new.bridge
  pub grows : new.text ≡ (if may_change reply then old.text ++ line a ++ line_feed ∷ [] else old.text)
  pub one_line : IsOneLine (line a)
  pub within : length (line a) ≤ most

-- its line is longer than a line may be
pub record IsOver (line : Ask → List ℕ) (most : ℕ) (old : Recording) (a : Ask) (reply : Reply) (new : Recording) : Type 0 where
  pub over : most < length (line a)
  pub refused : reply ≡ Refused TooLong
  pub same : new ≡ old

-- there was no memory for its line
pub record IsWanting (old : Recording) (a : Ask) (reply : Reply) (new : Recording) : Type 0 where
  pub why : Refusal
  pub refused : reply ≡ Refused why
  pub wanting : IsWithoutMemory old.bridge a why
  pub same : new ≡ old

-- a recorder's turn at what is kept of a command
abbrev pub Keeps : (Ask → List ℕ) → ℕ → Recording → Ask → Reply → Recording → Type 0
Keeps line most old a reply new = IsMade line most old a reply new ⊎ IsOver line most old a reply new ⊎ IsWanting old a reply new
