-- The first command of a journal file: `{"journal":2,"setup":TEXT}`.
use Rattle.std.specs.Prelude.{◌≡◌, ◌⊎◌, ℕ, Bool, ◌&&◌, nat_le, List, codes, if◌then◌else◌, Option, Some, None, Result, Ok, Err}
use Rattle.std.specs.Str.{is_utf8}
use Rattle.serde_json.specs.Data.{Data, string, object, member, no_members}
use Rattle.serde_json.specs.Written.{compact_text}
use Rattle.tsn_types.specs.declared.refusals.Refusal.{Refusal}
use Rattle.tsn_types.specs.declared.refusals.Refusal.TheVariants.{Syntax}
use Rattle.tsn_records.specs.Answers.{◌>>=◌}
use Rattle.tsn_records.specs.Json.{has_members, number_at, text_at}
use Rattle.tsn_records.specs.Shown.{whole_data}
use Rattle.tsn_records.specs.declared.unread.Unread.{Unread}
use Rattle.tsn_wire.specs.Reading.{data_of}
use Rattle.tsn_resuming.specs.declared.first.NoSetup.{NoSetup}
use Rattle.tsn_resuming.specs.declared.first.NoSetup.TheVariants.{NoJournal, OtherVersion, Memory}

-- the version of a journal file that is written
abbrev pub version : ℕ
version = 2

-- a file of this version or of 1 is read, whose hellos said no names
abbrev pub is_read : ℕ → Bool
is_read n = nat_le 1 n && nat_le n version

-- the first command as a value
abbrev pub first_data : List ℕ → Data
first_data setup = object (member (codes "journal") (whole_data version) (member (codes "setup") (string setup) no_members))

-- its text
abbrev pub first_text : List ℕ → List ℕ
first_text setup = compact_text (first_data setup)

-- the text of the first command, unless that of the setup is not UTF-8, which is refused as a setup is
abbrev pub first_of : List ℕ → Result (List ℕ) Refusal
first_of setup = if is_utf8 setup then Ok (first_text setup) else Err Syntax

-- where there is no such member, it is no journal
abbrev pub or_no_journal : {A : Type 0} → Result A Unread → Result A NoSetup
or_no_journal (Ok x) = Ok x
or_no_journal (Err e) = Err NoJournal

-- a value whose `journal` is such a version has `setup`, a text, and no other member
abbrev pub setup_of_version : Result ℕ NoSetup → Data → Result (List ℕ) NoSetup
setup_of_version (Err why) d = Err why
setup_of_version (Ok n) d =
    if is_read n
    then or_no_journal (has_members 2 d >>= λ _. text_at (codes "setup") d)
    else Err OtherVersion

-- the setup in a value; one whose `journal` is no whole number is no first command
abbrev pub setup_of_data : Data → Result (List ℕ) NoSetup
setup_of_data d = setup_of_version (or_no_journal (number_at (codes "journal") d)) d

-- bytes that are no JSON value are no first command
abbrev pub setup_of_read : Option Data → Result (List ℕ) NoSetup
setup_of_read None = Err NoJournal
setup_of_read (Some d) = setup_of_data d

-- the text of the setup in a first command, or why it has none
unfoldable pub setup_in : List ℕ → Result (List ℕ) NoSetup
setup_in command = setup_of_read (data_of command)

-- an answer, with what was given seen as data
abbrev pub seen : {A B E : Type 0} → (A → B) → Result A E → Result B E
seen view (Ok x) = Ok (view x)
seen view (Err e) = Err e

-- the answer, in whose place want of memory may stand
abbrev pub Finds : {A : Type 0} → Result A NoSetup → Result A NoSetup → Type 0
Finds r answer = (r ≡ answer) ⊎ (r ≡ Err Memory)
