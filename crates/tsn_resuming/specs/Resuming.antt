-- What a start from a journal file promises.
use Rattle.std.specs.Prelude.{◌≡◌, ◌≢◌, ◌⊎◌, ℕ, ◌+◌, List, [], ◌∷◌, ◌++◌, length, Bool, true, Option, Some, IfSome, Ok, Err, ⊤}
use Rattle.std.specs.Io.KnownBytes.{Consumes, IsAtEnd}
use Rattle.tsn_types.specs.declared.refusals.Refusal.{Refusal}
use Rattle.tsn_types.specs.declared.refusals.Refusal.TheVariants as refusals
use Rattle.tsn_bridge.specs.State.{State}
use Rattle.tsn_recorded.specs.Text.{Recorded, AreRecordedAfter, file_of, last_digest}
use Rattle.tsn_recorded.specs.Reading.{IsEnd, Reads}
use Rattle.tsn_recorded.specs.Reader.{Standing}
use Rattle.tsn_resuming.specs.First.{setup_in}
use Rattle.tsn_initial.specs.Opening.{opened}
use Rattle.tsn_resuming.specs.Standing.{IsRefused, IsUnderWay, LeadTo}
use Rattle.tsn_resuming.specs.declared.first.NoSetup.TheVariants as none
use Rattle.tsn_resuming.specs.declared.resuming.Resumed.{Resumed}
use Rattle.tsn_resuming.specs.declared.resuming.StartFault.{StartFault}
use Rattle.tsn_resuming.specs.declared.resuming.StartFault.TheVariants.{Read, Memory, NoJournal, OtherVersion, OtherSetup, Setup, Refused}

-- where a setup is given, it is this one, byte for byte
abbrev pub IsGiven : Option (List ℕ) → List ℕ → Type 0
IsGiven given setup = IfSome given (λ own. own ≡ setup)

-- A bridge goes on from a journal file. All bytes of the file were read. They are the text of recorded commands and a rest,
-- at which no further line verifies, and the end that is told is that of this rest. The first recorded command has the setup,
-- which is the one that was given, if one was; it opens a bridge. Each other one is read as an ask, and the replay of all
-- these leads to the bridge. The lines and the bytes of what verifies are counted, and the chain goes on behind it.
pub record GoesOn (before after given : Option (List ℕ)) (r : Resumed) : Type 0 where
  pub bytes : List ℕ
  pub read : Consumes before after bytes
  pub all : IsAtEnd after
  pub commands : List Recorded
  pub rest : List ℕ
  pub reads : Reads [] bytes commands rest
  pub end : IsEnd (length commands) rest r.end
  pub setup : List ℕ
  pub own : IsGiven given setup
  pub leads : LeadTo setup commands r.bridge
  pub lines : r.lines ≡ length commands
  pub good : r.good ≡ length (file_of commands)
  pub chain : r.chain ≡ last_digest [] commands

-- a first command's setup is the one that was given, if one was, and opens this state
pub record Begins (given : Option (List ℕ)) (command : List ℕ) (now : State) : Type 0 where
  pub setup : List ℕ
  pub has_setup : setup_in command ≡ Ok setup
  pub own : IsGiven given setup
  pub opens : opened setup ≡ Ok now

-- What was read of the file begins with these recorded commands.
pub record BeginsWith (before after : Option (List ℕ)) (rs : List Recorded) : Type 0 where
  pub bytes : List ℕ
  pub read : Consumes before after bytes
  pub rest : List ℕ
  pub front : bytes ≡ file_of rs ++ rest
  pub recorded : AreRecordedAfter [] rs

-- All of the file was read, and no line verifies at its beginning.
pub record HasNoLine (before after : Option (List ℕ)) : Type 0 where
  pub bytes : List ℕ
  pub read : Consumes before after bytes
  pub all : IsAtEnd after
  pub reads : Reads [] bytes [] bytes

-- a setup was given, and the first command has another one
pub record HasOther (given : Option (List ℕ)) (command : List ℕ) : Type 0 where
  pub own : List ℕ
  pub is : given ≡ Some own
  pub setup : List ℕ
  pub has_setup : setup_in command ≡ Ok setup
  pub differs : own ≢ setup

-- the setup in the first command is refused
pub record IsRefusedSetup (command : List ℕ) (why : Refusal) : Type 0 where
  pub setup : List ℕ
  pub has_setup : setup_in command ≡ Ok setup
  pub refused : opened setup ≡ Err why

-- Why a first command opens no bridge. Want of memory may stand in place of any other fault.
abbrev pub OpensNone : Option (List ℕ) → List ℕ → StartFault → Type 0
OpensNone given command Read = ⊥
OpensNone given command Memory = ⊤
OpensNone given command NoJournal = setup_in command ≡ Err none.NoJournal
OpensNone given command OtherVersion = setup_in command ≡ Err none.OtherVersion
OpensNone given command OtherSetup = HasOther given command
OpensNone given command (Setup why) = IsRefusedSetup command why
OpensNone given command (Refused line why) = ⊥

-- The first command of the file opens no bridge.
pub record HasBadFirst (before after given : Option (List ℕ)) (why : StartFault) : Type 0 where
  pub first : Recorded
  pub begins : BeginsWith before after (first ∷ [])
  pub opens_none : OpensNone given first.command why

-- The line of this number verifies, and its command is refused where those ahead of it led.
pub record IsRefusedAt (before after : Option (List ℕ)) (line : ℕ) (why : Refusal) : Type 0 where
  pub done : List Recorded
  pub last : Recorded
  pub begins : BeginsWith before after (done ++ last ∷ [])
  pub setup : List ℕ
  pub s : State
  pub leads : LeadTo setup done s
  pub number : line ≡ length done + 1
  pub refused : IsRefused s last.command why
  pub not_memory : why ≢ refusals.Memory

-- Why no bridge goes on from a file: a read failed; memory was wanting, which may stand in place of any other fault; no line
-- verifies; the first line is no beginning; or a further line is refused.
abbrev pub Fails : Option (List ℕ) → Option (List ℕ) → Bool → Option (List ℕ) → StartFault → Type 0
Fails before after has_failed given Read = has_failed ≡ true
Fails before after has_failed given Memory = ⊤
Fails before after has_failed given NoJournal = HasNoLine before after ⊎ HasBadFirst before after given NoJournal
Fails before after has_failed given OtherVersion = HasBadFirst before after given OtherVersion
Fails before after has_failed given OtherSetup = HasBadFirst before after given OtherSetup
Fails before after has_failed given (Setup why) = HasBadFirst before after given (Setup why)
Fails before after has_failed given (Refused line why) = IsRefusedAt before after line why

-- why no further line was stepped
abbrev pub StopsAt : Option (List ℕ) → Option (List ℕ) → StartFault → Type 0
StopsAt before after Read = ⊥
StopsAt before after Memory = ⊤
StopsAt before after NoJournal = ⊥
StopsAt before after OtherVersion = ⊥
StopsAt before after OtherSetup = ⊥
StopsAt before after (Setup why) = ⊥
StopsAt before after (Refused line why) = IsRefusedAt before after line why

-- why the reading behind the first line ended before the file did
abbrev pub StopsReading : Option (List ℕ) → Option (List ℕ) → Bool → StartFault → Type 0
StopsReading before after has_failed why = ((why ≡ Read) × (has_failed ≡ true)) ⊎ StopsAt before after why

-- The first line was given and opened the bridge, with the setup that was given, if one was.
pub record HasBegun (before now given : Option (List ℕ)) (s : Standing) (bridge : State) : Type 0 where
  pub setup : List ℕ
  pub own : IsGiven given setup
  pub way : IsUnderWay before now setup s bridge
