-- The ranges of a command's numbers: those of its key before those of its record, and an instant last; those of a batch
-- edit by edit.
use Rattle.std.specs.Prelude.{ℕ, Result, Ok}
use Rattle.tsn_commands.specs.declared.command.Command.{Command}
use Rattle.tsn_commands.specs.declared.command.Command.TheVariants as commands
use Rattle.tsn_chain.specs.declared.frame.Frame.{Frame}
use Rattle.tsn_edit.specs.declared.Edit.{Edit}
use Rattle.tsn_edit.specs.declared.Edit.TheVariants as edits
use Rattle.tsn_types.specs.declared.refusals.Field.TheVariants as fields
use Rattle.tsn_types.specs.Numbers.{greatest_handle, greatest_instant, greatest_priority}
use Rattle.tsn_records.specs.Answers.{◌>>=◌, each}
use Rattle.tsn_records.specs.Ranges.{within, key, record_of}
use Rattle.tsn_records.specs.declared.unread.Unread.{Unread}
use Rattle.tsn_wire.specs.Words.{bare_command, edit_command, look_command, put_edit}
use Rattle.tsn_wire.specs.declared.drafts.CommandDraft.{CommandDraft}
use Rattle.tsn_wire.specs.declared.drafts.CommandDraft.TheVariants as wanted
use Rattle.tsn_wire.specs.declared.drafts.EditDraft.{EditDraft}
use Rattle.tsn_wire.specs.declared.drafts.EditDraft.TheVariants as drafts
use Rattle.tsn_wire.specs.declared.drafts.FrameDraft.{FrameDraft}
use Rattle.tsn_commands.specs.Commands.{act_command}

-- the number after which entries are asked for, and the one up to which they are settled, have 32 bits
abbrev pub greatest_after : ℕ
greatest_after = 4294967295

-- the length of a frame has 16 bits
abbrev pub longest_frame : ℕ
longest_frame = 65535

unfoldable pub frame_of_draft : FrameDraft → Result Frame Unread
frame_of_draft f = do
  handle ← within fields.Handle 0 greatest_handle f.handle
  priority ← within fields.Priority 0 greatest_priority f.priority
  octets ← within fields.Octets 0 longest_frame f.octets
  Ok (record { handle = handle; priority = priority; octets = octets; yellow = f.yellow })

-- the key before the record, as where an edit comes alone
abbrev pub edit_of_draft : EditDraft → Result Edit Unread
edit_of_draft (drafts.Put put k r) = key k >>= λ named. record_of r >>= λ value. Ok (put_edit put named value)
edit_of_draft (drafts.Remove k) = key k >>= λ named. Ok (edits.Remove named)

-- the key or the frame, and then the record or the instant; the edits of a batch in their order
abbrev pub command_of_draft : CommandDraft → Result Command Unread
command_of_draft (wanted.Edit e) = edit_of_draft e >>= λ edit. Ok (edit_command edit)
command_of_draft (wanted.Batch b) = each edit_of_draft b >>= λ batch. Ok (commands.Batch batch)
command_of_draft (wanted.Settle n) = within fields.Upto 0 greatest_after n >>= λ upto. Ok (commands.Settle upto)
command_of_draft (wanted.Act act k n) = key k >>= λ named. within fields.Now 0 greatest_instant n >>= λ now. Ok (act_command act named now)
command_of_draft (wanted.Frame f n) =
    frame_of_draft f >>= λ frame. within fields.Now 0 greatest_instant n >>= λ now. Ok (commands.Frame frame now)
command_of_draft (wanted.States k n) = key k >>= λ named. within fields.At 0 greatest_instant n >>= λ at. Ok (commands.States named at)
command_of_draft (wanted.Look look k) = key k >>= λ named. Ok (look_command look named)
command_of_draft (wanted.List kind) = Ok (commands.List kind)
command_of_draft (wanted.Since n) = within fields.After 0 greatest_after n >>= λ after. Ok (commands.Since after)
command_of_draft (wanted.Bare bare) = Ok (bare_command bare)
