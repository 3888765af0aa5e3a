-- What the words of a command line ask for.
use Rattle.std.specs.Prelude.{◌≡◌, ◌≢◌, ◌⊎◌, ◌↔◌, IsTrue, ℕ, ◌+◌, ◌^◌, ◌-◌, ◌<◌, List, [], Bool, Option, Some, None, Result, Ok, Err, codes, true, false, is_some, option_and_then, option_map, string_bytes, unwrap_or, ⊤}
use Rattle.std.specs.Str.{bytes_eq}
use Rattle.std.specs.Str.Parse.{IsNumeral, digits_value, without_leading_plus}
use Rattle.clap.specs.Simple.{App, new_app, new_rule, on_top, subcommand_of, with_rule, with_subcommand}
use Rattle.clap.specs.Values.{IsUnsignedIn}
use Rattle.clap.specs.Walk.{Row, Rule, first_of}
use Rattle.clap.specs.Kinds.{IsAmong}
use Rattle.clap.specs.Faults.{fault_of}
use Rattle.clap.specs.declared.builder.action.ArgAction.TheVariants.{SetTrue}
use Rattle.clap.specs.declared.builder.value_parser.ValueParser.TheVariants.{Unsigned}
use Rattle.clap.specs.declared.error.kind.ErrorKind.{ErrorKind}
use Rattle.clap.specs.declared.error.kind.ErrorKind.TheVariants.{DisplayHelp, DisplayVersion}
use Rattle.tsn_words.specs.declared.arguments.Asked.{Asked}
use Rattle.tsn_words.specs.declared.arguments.Asked.TheVariants.{Script, States, Serve, Check, Lines, Journal, Shown, Refused}
use Rattle.tsn_words.specs.declared.arguments.Listing.{Listing}
use Rattle.tsn_words.specs.declared.kept.Kept.{Kept}
use Rattle.tsn_words.specs.declared.kept.Keeping.{Keeping}
use Rattle.tsn_words.specs.declared.kept.Keeping.TheVariants.{Given as IsGiven, OtherSyncs, NoJournal}
use Rattle.tsn_words.specs.declared.kept.Syncs.{Syncs}
use Rattle.tsn_words.specs.declared.kept.Syncs.TheVariants.{Each, None as NoSyncs}
use Rattle.tsn_words.specs.declared.look.Look.{Look}
use Rattle.tsn_words.specs.declared.look.Look.TheVariants.{Whole, Since, Diff, Mend, Setup, Begin}
use Rattle.tsn_words.specs.declared.serving.Serving.{Serving}

-- The longest time from one instant of `states` to the next, and the most instants.
abbrev pub longest_step : ℕ
longest_step = 10 ^ 12

abbrev pub most_instants : ℕ
most_instants = 1000000

-- The most connections that `serve` serves at a time, the most in all, and the last instant.
abbrev pub most_workers : ℕ
most_workers = 1000

abbrev pub most_connections : ℕ
most_connections = 65535

abbrev pub last_probe : ℕ
last_probe = 2 ^ 62

-- The longest time that a connection may be idle, in seconds: a day.
abbrev pub longest_idle : ℕ
longest_idle = 86400

-- Where `serve` listens where no endpoint is given, and how many connections it then serves at a time where no number is.
abbrev pub standard_endpoint : List ℕ
standard_endpoint = codes "127.0.0.1:7000"

abbrev pub standard_workers : ℕ
standard_workers = 64

-- The greatest number of an entry that `journal` takes.
abbrev pub last_entry : ℕ
last_entry = 2 ^ 32 - 1

-- The file of a setup, which may be wanted.
abbrev pub setup_file : Bool → Rule
setup_file is_wanted = record (new_rule (codes "FILE")) { required = is_wanted }

-- An option of this name, which wants a text, whatever it is.
abbrev pub any_text : List ℕ → Rule
any_text name = record (new_rule name) { long = Some name; required = true }

-- An argument that may be left out.
abbrev pub optional : Rule → Rule
optional argument = record argument { required = false }

-- `script`, which may be given a setup's file, a journal's, and which syncs of that are made.
abbrev pub script : App
script = with_rule (with_rule (with_rule (new_app (codes "script")) (setup_file false)) (optional (any_text (codes "journal"))))
    (optional (any_text (codes "sync")))

-- An option of this name, which wants a number in its range.
abbrev pub number : List ℕ → ℕ → ℕ → Rule
number name least most = record (new_rule name) { long = Some name; required = true; parser = Some (Unsigned least most) }

-- An option of this name, which takes no value.
abbrev pub flag : List ℕ → Rule
flag name = record (new_rule name) { long = Some name; action = Some SetTrue }

-- `states`, which wants a setup's file, a port, the first instant, the time to the next, and how many.
abbrev pub states : App
states =
    with_rule (with_rule (with_rule (with_rule (with_rule (new_app (codes "states"))
    (setup_file true))
    (number (codes "port") 0 (2 ^ 64 - 1)))
    (number (codes "from") 0 (2 ^ 64 - 1)))
    (number (codes "step") 0 longest_step))
    (number (codes "count") 1 most_instants)

-- `serve`, which may be given a setup's file, where to listen, how many connections at a time and in all, the instant that it
-- tells of at the end, how long a connection may be idle, a journal's file, which syncs of that are made, and whether it tells of
-- connections.
abbrev pub serve : App
serve =
    with_rule (with_rule (with_rule (with_rule (with_rule (with_rule (with_rule (with_rule (with_rule (new_app (codes "serve"))
    (setup_file false))
    (optional (any_text (codes "listen"))))
    (optional (number (codes "workers") 1 most_workers)))
    (optional (number (codes "connections") 1 most_connections)))
    (optional (number (codes "probe") 0 last_probe)))
    (optional (number (codes "idle") 1 longest_idle)))
    (optional (any_text (codes "journal"))))
    (optional (any_text (codes "sync"))))
    (flag (codes "log"))

-- `check`, which may be given a setup's file, and whether it looks at command lines.
abbrev pub check : App
check = with_rule (with_rule (new_app (codes "check")) (setup_file false)) (flag (codes "lines"))

-- The file of a journal, which is wanted.
abbrev pub journal_file : Rule
journal_file = record (new_rule (codes "JOURNAL")) { required = true }

-- `journal`, which wants a journal's file, and may be given what of it is asked for.
abbrev pub journal : App
journal =
    with_rule (with_rule (with_rule (with_rule (with_rule (with_rule (new_app (codes "journal"))
    journal_file)
    (optional (number (codes "since") 0 last_entry)))
    (optional (number (codes "diff") 1 last_entry)))
    (flag (codes "setup")))
    (optional (any_text (codes "begin"))))
    (flag (codes "mend"))

-- `tsnd`, which has a version and wants a subcommand.
abbrev pub bare : App
bare = on_top (λ s. record s { subcommand_required = true; has_version = true }) (new_app (codes "tsnd"))

-- It has these five.
abbrev pub program : App
program =
    with_subcommand (with_subcommand (with_subcommand (with_subcommand (with_subcommand bare
    script.top)
    states.top)
    serve.top)
    check.top)
    journal.top

-- Help or the version was asked for, which is no mistake.
abbrev pub IsShown : ErrorKind → Type 0
IsShown kind = (kind ≡ DisplayHelp) ⊎ (kind ≡ DisplayVersion)

-- Something is to be done, and not only a text to be told.
abbrev pub IsWork : Asked → Type 0
IsWork (Shown text) = ⊥
IsWork (Refused text) = ⊥
IsWork asked = ⊤

-- The words are refused by a text.
abbrev pub IsRefusal : Asked → Type 0
IsRefusal (Refused text) = ⊤
IsRefusal asked = ⊥

-- A text to show, or to refuse by, is not empty.
abbrev pub TellsSomething : Asked → Type 0
TellsSomething (Shown text) = string_bytes text ≢ []
TellsSomething (Refused text) = string_bytes text ≢ []
TellsSomething asked = ⊤

-- The file of the setup that is asked for, if one is.
abbrev pub file_of : Asked → Option (List ℕ)
file_of (Script file kept) = option_map string_bytes file
file_of (States file listing) = Some (string_bytes file)
file_of (Serve file listen serving kept) = option_map string_bytes file
file_of (Check file) = Some (string_bytes file)
file_of asked = None

-- The subcommand that words name, with what they give to it, as `clap` reads them.
abbrev pub Given : Type 0
Given = Option (List ℕ × List Row)

-- This subcommand is named.
abbrev pub Names : Given → List ℕ → Type 0
Names given name = option_map (λ p. p.0) given ≡ Some name

-- The text that is given for a name, if one is.
abbrev pub text_given : Given → List ℕ → Option (List ℕ)
text_given given name = option_and_then (λ p. first_of name p.1) given

-- the number that the text has in decimal digits, where a plus may stand before them
abbrev pub number_of : List ℕ → ℕ
number_of text = digits_value 10 (without_leading_plus text)

-- The text has a number that `u64` holds.
abbrev pub IsNumber : List ℕ → Type 0
IsNumber text = IsNumeral 10 (without_leading_plus text) × (number_of text < 2 ^ 64)

-- A text is given for a name.
abbrev pub HasText : Given → List ℕ → Type 0
HasText given name = (text : List ℕ) × (text_given given name ≡ Some text)

-- A number from the least to the most is given for a name.
abbrev pub HasNumber : Given → List ℕ → ℕ → ℕ → Type 0
HasNumber given name least most = (text : List ℕ) × (text_given given name ≡ Some text) × IsUnsignedIn least most text

-- Where a text is given for a name, it is a number from the least to the most.
abbrev pub MayHaveNumber : Given → List ℕ → ℕ → ℕ → Type 0
MayHaveNumber given name least most = (text : List ℕ) → text_given given name ≡ Some text → IsUnsignedIn least most text

-- This number is given for a name, from the least to the most.
abbrev pub GivesNumber : Given → List ℕ → ℕ → ℕ → ℕ → Type 0
GivesNumber given name least most n =
    (text : List ℕ) × (text_given given name ≡ Some text) × IsUnsignedIn least most text × (n ≡ number_of text)

-- This number is given for a name, or this one stands for it where none is.
abbrev pub GivesNumberOr : Given → List ℕ → ℕ → ℕ → ℕ → ℕ → Type 0
GivesNumberOr given name least most standard n =
    GivesNumber given name least most n ⊎ ((text_given given name ≡ None) × (n ≡ standard))

-- This number is given for a name, or none.
abbrev pub MayGiveNumber : Given → List ℕ → ℕ → ℕ → Option ℕ → Type 0
MayGiveNumber given name least most None = text_given given name ≡ None
MayGiveNumber given name least most (Some n) = GivesNumber given name least most n

-- The option of this name is given, which takes no value.
abbrev pub IsFlagged : Given → List ℕ → Type 0
IsFlagged given name = text_given given name ≡ Some (codes "true")

-- `states` is named, and all that it wants is given.
pub record HasStates (given : Given) : Type 0 where
  pub named : Names given (codes "states")
  pub file : HasText given (codes "FILE")
  pub port : HasNumber given (codes "port") 0 (2 ^ 64 - 1)
  pub from : HasNumber given (codes "from") 0 (2 ^ 64 - 1)
  pub step : HasNumber given (codes "step") 0 longest_step
  pub count : HasNumber given (codes "count") 1 most_instants

-- `serve` is named, and the numbers that may be given to it are in range.
pub record HasServe (given : Given) : Type 0 where
  pub named : Names given (codes "serve")
  pub workers : MayHaveNumber given (codes "workers") 1 most_workers
  pub connections : MayHaveNumber given (codes "connections") 1 most_connections
  pub probe : MayHaveNumber given (codes "probe") 0 last_probe
  pub idle : MayHaveNumber given (codes "idle") 1 longest_idle

-- `journal` is named, the file that it wants is given, and the entries that may be asked for are in range.
pub record HasJournal (given : Given) : Type 0 where
  pub named : Names given (codes "journal")
  pub file : HasText given (codes "JOURNAL")
  pub since : MayHaveNumber given (codes "since") 0 last_entry
  pub diff : MayHaveNumber given (codes "diff") 1 last_entry

-- A subcommand of the program is named, and what it wants is given.
abbrev pub IsComplete : Given → Type 0
IsComplete given = Names given (codes "script") ⊎ (HasStates given ⊎ (HasServe given ⊎ (Names given (codes "check") ⊎ HasJournal given)))

-- No word on syncs is given, and each is made; or `none`.
abbrev pub GivesSyncs : Option (List ℕ) → Syncs → Type 0
GivesSyncs text Each = text ≡ None
GivesSyncs text NoSyncs = text ≡ Some (codes "none")

-- Another word than that is given.
abbrev pub IsOther : Option (List ℕ) → Type 0
IsOther text = (word : List ℕ) × (text ≡ Some word) × (word ≢ codes "none")

-- This journal is given, with these syncs; or no journal, and no word on syncs.
abbrev pub GivesKept : Option (List ℕ) → Option (List ℕ) → Option Kept → Type 0
GivesKept journal syncs None = (journal ≡ None) × (syncs ≡ None)
GivesKept journal syncs (Some kept) = (journal ≡ Some (string_bytes kept.file)) × GivesSyncs syncs kept.syncs

-- A word on syncs is given that is another than `none`, or goes with no journal.
abbrev pub Misgives : Option (List ℕ) → Option (List ℕ) → Type 0
Misgives journal syncs = IsOther syncs ⊎ ((journal ≡ None) × (syncs ≡ Some (codes "none")))

-- What is given of a journal is right, or wrong in one of two ways.
abbrev pub GivesKeeping : Option (List ℕ) → Option (List ℕ) → Keeping → Type 0
GivesKeeping journal syncs (IsGiven kept) = GivesKept journal syncs kept
GivesKeeping _ syncs OtherSyncs = IsOther syncs
GivesKeeping journal syncs NoJournal = (journal ≡ None) × (syncs ≡ Some (codes "none"))

-- What is given of a journal is right, or is wrong, and the words are refused.
abbrev pub KeepsOrRefuses : Option (List ℕ) → Option (List ℕ) → Result (Option Kept) Asked → Type 0
KeepsOrRefuses journal syncs (Ok kept) = GivesKept journal syncs kept
KeepsOrRefuses journal syncs (Err asked) = Misgives journal syncs × IsRefusal asked × TellsSomething asked

-- `script` is named, and this setup's file is given to it, or none, and this journal, or none.
pub record GivesScript (given : Given) (file : Option (List ℕ)) (kept : Option Kept) : Type 0 where
  pub named : Names given (codes "script")
  pub setup : text_given given (codes "FILE") ≡ file
  pub journal : GivesKept (text_given given (codes "journal")) (text_given given (codes "sync")) kept

-- These numbers are given.
pub record GivesListing (given : Given) (x : Listing) : Type 0 where
  pub port : GivesNumber given (codes "port") 0 (2 ^ 64 - 1) x.port
  pub from : GivesNumber given (codes "from") 0 (2 ^ 64 - 1) x.from
  pub step : GivesNumber given (codes "step") 0 longest_step x.step
  pub count : GivesNumber given (codes "count") 1 most_instants x.count

-- `states` is named, and this file and these numbers are given to it.
pub record GivesStates (given : Given) (file : List ℕ) (x : Listing) : Type 0 where
  pub named : Names given (codes "states")
  pub setup : text_given given (codes "FILE") ≡ Some file
  pub listing : GivesListing given x

-- So many connections at a time are given, or the standard number stands for them; so many in all, or no end; an instant, or
-- none; an idle time, or none; and whether connections are told of.
pub record GivesServing (given : Given) (x : Serving) : Type 0 where
  pub workers : GivesNumberOr given (codes "workers") 1 most_workers standard_workers x.workers
  pub connections : MayGiveNumber given (codes "connections") 1 most_connections x.connections
  pub probe : MayGiveNumber given (codes "probe") 0 last_probe x.probe
  pub idle : MayGiveNumber given (codes "idle") 1 longest_idle x.idle
  pub logged : IsTrue x.is_logged ↔ IsFlagged given (codes "log")

-- the endpoint that is given to listen at, or the standard one
abbrev pub endpoint_of : Option (List ℕ) → List ℕ
endpoint_of None = standard_endpoint
endpoint_of (Some endpoint) = endpoint

-- `serve` is named, and this setup's file is given to it, or none, where to listen, what to serve, and this journal, or none.
pub record GivesServe (given : Given) (file : Option (List ℕ)) (listen : List ℕ) (x : Serving) (kept : Option Kept) : Type 0 where
  pub named : Names given (codes "serve")
  pub setup : text_given given (codes "FILE") ≡ file
  pub endpoint : endpoint_of (text_given given (codes "listen")) ≡ listen
  pub serving : GivesServing given x
  pub journal : GivesKept (text_given given (codes "journal")) (text_given given (codes "sync")) kept

-- `check` is named, and this file is given to it, or none, and whether it looks at command lines.
pub record GivesCheck (given : Given) (file : Option (List ℕ)) (is_lines : Bool) : Type 0 where
  pub named : Names given (codes "check")
  pub setup : text_given given (codes "FILE") ≡ file
  pub lines : IsTrue is_lines ↔ IsFlagged given (codes "lines")

-- A setup's file and command lines are given to `check`, or neither.
abbrev pub GivesNoCheck : Given → Type 0
GivesNoCheck given = GivesCheck given None false ⊎ ((file : List ℕ) × GivesCheck given (Some file) true)

-- 1 where it holds
abbrev pub bit : Bool → ℕ
bit true = 1
bit false = 0

-- an option of this name is given, which takes a value; or one that takes none
abbrev pub has_text : Given → List ℕ → Bool
has_text given name = is_some (text_given given name)

abbrev pub is_flagged : Given → List ℕ → Bool
is_flagged given name = unwrap_or (option_map (λ text. bytes_eq text (codes "true")) (text_given given name)) false

-- How many looks at a journal are given.
abbrev pub looks : Given → ℕ
looks given =
    bit (has_text given (codes "since")) + bit (has_text given (codes "diff")) + bit (has_text given (codes "begin"))
    + bit (is_flagged given (codes "setup")) + bit (is_flagged given (codes "mend"))

-- This look at a journal is given, and it alone: `--since` with this number, `--diff` with this number, `--setup`, `--begin` with
-- this file, `--mend`, or none of them.
abbrev pub GivesLook : Given → Look → Type 0
GivesLook given Whole = looks given ≡ 0
GivesLook given (Since n) = GivesNumber given (codes "since") 0 last_entry n × (looks given ≡ 1)
GivesLook given (Diff n) = GivesNumber given (codes "diff") 1 last_entry n × (looks given ≡ 1)
GivesLook given Setup = (is_flagged given (codes "setup") ≡ true) × (looks given ≡ 1)
GivesLook given (Begin new) = (text_given given (codes "begin") ≡ Some (string_bytes new)) × (looks given ≡ 1)
GivesLook given Mend = (is_flagged given (codes "mend") ≡ true) × (looks given ≡ 1)

-- `journal` is named, and this file and this look at it are given.
pub record GivesJournal (given : Given) (file : List ℕ) (x : Look) : Type 0 where
  pub named : Names given (codes "journal")
  pub journal : text_given given (codes "JOURNAL") ≡ Some file
  pub look : GivesLook given x

-- `journal` is named, and more than one look at its file is given.
pub record GivesTooMuch (given : Given) : Type 0 where
  pub named : Names given (codes "journal")
  pub several : 1 < looks given

-- `script` or `serve` is named, and what is given of a journal is wrong.
pub record GivesWrongSyncs (given : Given) : Type 0 where
  pub named : Names given (codes "script") ⊎ Names given (codes "serve")
  pub wrong : Misgives (text_given given (codes "journal")) (text_given given (codes "sync"))

-- What is given is what is asked for, or may not be given so.
abbrev pub AsksFor : Given → Asked → Type 0
AsksFor given (Script file kept) = GivesScript given (option_map string_bytes file) kept
AsksFor given (States file x) = GivesStates given (string_bytes file) x
AsksFor given (Serve file listen x kept) = GivesServe given (option_map string_bytes file) (string_bytes listen) x kept
AsksFor given (Check file) = GivesCheck given (Some (string_bytes file)) false
AsksFor given Lines = GivesCheck given None true
AsksFor given (Journal file look) = GivesJournal given (string_bytes file) look
AsksFor given (Shown text) = ⊥
AsksFor given (Refused text) = GivesTooMuch given ⊎ (GivesWrongSyncs given ⊎ GivesNoCheck given)

-- The words have a fault that is no mistake, or one that is.
abbrev pub AreShown : List (List ℕ) → Type 0
AreShown words = (kind : ErrorKind) × IsAmong kind (fault_of program words) × IsShown kind

abbrev pub AreMistaken : List (List ℕ) → Type 0
AreMistaken words = (kind : ErrorKind) × IsAmong kind (fault_of program words) × (¬ IsShown kind)

-- The words have no fault, and ask for this.
abbrev pub AskRightly : List (List ℕ) → Asked → Type 0
AskRightly words asked = (fault_of program words ≡ []) × AsksFor (subcommand_of program words) asked

-- Where the words have no fault, a script, a port's states, a server, a look at a setup, at command lines or at a journal are
-- asked for as the words say; more than one look at a journal is refused, and so are syncs that there are none of, and a check of
-- nothing or of a setup and of lines at once. Else there is a text to show, or to refuse the words by, as the fault is. Words that
-- are no text are refused.
abbrev pub Asks : Option (List (List ℕ)) → Asked → Type 0
Asks (Some words) (Shown text) = AreShown words
Asks (Some words) (Refused text) = AreMistaken words ⊎ AskRightly words (Refused text)
Asks (Some words) asked = AskRightly words asked
Asks None (Refused text) = ⊤
Asks None asked = ⊥
