-- The words of commands, and what each asks for.
use Rattle.std.specs.List.{find}
use Rattle.std.specs.Prelude.{ℕ, List, [], ◌∷◌, Option, codes}
use Rattle.std.specs.Str.{bytes_eq}
use Rattle.tsn_commands.specs.declared.command.Command.{Command}
use Rattle.tsn_commands.specs.declared.command.Command.TheVariants as commands
use Rattle.tsn_edit.specs.declared.Edit.{Edit}
use Rattle.tsn_edit.specs.declared.Edit.TheVariants as edits
use Rattle.tsn_types.specs.declared.keys.Key.{Key}
use Rattle.tsn_types.specs.declared.records.Record.{Record}
use Rattle.tsn_entries.specs.declared.entries.Act.{Act}
use Rattle.tsn_entries.specs.declared.entries.Act.TheVariants as acts
use Rattle.tsn_wire.specs.declared.words.Bare.{Bare}
use Rattle.tsn_wire.specs.declared.words.Bare.TheVariants as bares
use Rattle.tsn_wire.specs.declared.words.Look.{Look}
use Rattle.tsn_wire.specs.declared.words.Look.TheVariants as looks
use Rattle.tsn_wire.specs.declared.words.Put.{Put}
use Rattle.tsn_wire.specs.declared.words.Put.TheVariants as puts
use Rattle.tsn_wire.specs.declared.words.Word.{Word}
use Rattle.tsn_wire.specs.declared.words.Word.TheVariants as words

abbrev pub word_text : Word → List ℕ
word_text words.Hello = codes "hello"
word_text (words.Put puts.Create) = codes "create"
word_text (words.Put puts.Replace) = codes "replace"
word_text words.Remove = codes "remove"
word_text words.Batch = codes "batch"
word_text (words.Act acts.Enable) = codes "enable"
word_text (words.Act acts.Disable) = codes "disable"
word_text (words.Act acts.Apply) = codes "apply"
word_text words.Frame = codes "frame"
word_text words.States = codes "states"
word_text (words.Look looks.Counters) = codes "counters"
word_text (words.Look looks.Show) = codes "show"
word_text words.List = codes "list"
word_text words.Since = codes "since"
word_text words.Settle = codes "settle"
word_text (words.Bare bares.Undo) = codes "undo"
word_text (words.Bare bares.UndoAll) = codes "undo_all"
word_text (words.Bare bares.Redo) = codes "redo"
word_text (words.Bare bares.Resume) = codes "resume"
word_text (words.Bare bares.Sessions) = codes "sessions"
word_text (words.Bare bares.Setup) = codes "setup"

abbrev pub put_word : Put → List ℕ
put_word put = word_text (words.Put put)

abbrev pub act_word : Act → List ℕ
act_word act = word_text (words.Act act)

abbrev pub look_word : Look → List ℕ
look_word look = word_text (words.Look look)

abbrev pub bare_word : Bare → List ℕ
bare_word bare = word_text (words.Bare bare)

-- all of them
abbrev pub all_words : List Word
all_words =
    words.Hello ∷ words.Put puts.Create ∷ words.Put puts.Replace ∷ words.Remove ∷ words.Batch
    ∷ words.Act acts.Enable ∷ words.Act acts.Disable ∷ words.Act acts.Apply ∷ words.Frame ∷ words.States
    ∷ words.Look looks.Counters ∷ words.Look looks.Show ∷ words.List ∷ words.Since ∷ words.Settle
    ∷ words.Bare bares.Undo ∷ words.Bare bares.UndoAll ∷ words.Bare bares.Redo
    ∷ words.Bare bares.Resume ∷ words.Bare bares.Sessions ∷ words.Bare bares.Setup ∷ []

-- the word that the text is
unfoldable pub word_of : List ℕ → Option Word
word_of text = find (λ word. bytes_eq text (word_text word)) all_words

-- the edit that a word puts a record by
abbrev pub put_edit : Put → Key → Record → Edit
put_edit puts.Create = edits.Create
put_edit puts.Replace = edits.Replace

-- what is asked by an edit, by a word with a key and an instant, with a key, with nothing
abbrev pub edit_command : Edit → Command
edit_command (edits.Create k r) = commands.Create k r
edit_command (edits.Replace k r) = commands.Replace k r
edit_command (edits.Remove k) = commands.Remove k

abbrev pub look_command : Look → Key → Command
look_command looks.Counters = commands.Counters
look_command looks.Show = commands.Show

abbrev pub bare_command : Bare → Command
bare_command bares.Undo = commands.Undo
bare_command bares.UndoAll = commands.UndoAll
bare_command bares.Redo = commands.Redo
bare_command bares.Resume = commands.Resume
bare_command bares.Sessions = commands.Sessions
bare_command bares.Setup = commands.Setup
