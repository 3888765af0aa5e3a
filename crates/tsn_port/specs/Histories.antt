-- What a mirror tells of a port in a history at a desk.
use Rattle.std.specs.Prelude.{◌≡◌, ℕ, ◌+◌, ◌-◌, ◌≤◌, ◌++◌, List, [], ◌∷◌, length, take, Some}
use Rattle.std.specs.FinMap.{get}
use Rattle.tsn_types.specs.declared.keys.Key.TheVariants.{Port}
use Rattle.tsn_types.specs.declared.records.PortGates.{PortGates}
use Rattle.tsn_types.specs.declared.records.Record.TheVariants as records
use Rattle.tsn_machine.specs.declared.history.Entry.{Entry as Call}
use Rattle.tsn_machine.specs.History.{Begins, Runs, call}
use Rattle.tsn_entries.specs.declared.entries.Entry.{Entry}
use Rattle.tsn_commands.specs.declared.command.Ask.{Ask}
use Rattle.tsn_commands.specs.declared.command.Command.TheVariants as commands
use Rattle.tsn_commands.specs.declared.reply.Reply.{Reply}
use Rattle.tsn_commands.specs.declared.reply.Reply.TheVariants as replies
use Rattle.tsn_bridge.specs.State.{State}
use Rattle.tsn_bridge.specs.Turns.{Turns}
use Rattle.tsn_port.specs.Mirrors.{AreOfPort, MirrorState, Mirrors, mirrored}

-- The mirror is the port's after its first entries of every state to which the history leads, and there are so many.
pub record Tells (first : State) (history : List (Call Ask Reply)) (m : MirrorState) : Type 0 where
  pub stands : (z : State) (opening : PortGates) → Runs Turns first history z
      → get z.book.opening (Port m.port) ≡ Some (records.Port opening) → Mirrors m opening (take m.front z.book.entries)
  pub within : (z : State) → Runs Turns first history z → m.front ≤ length z.book.entries

-- all entries of every such state are in
abbrev pub IsWhole : State → List (Call Ask Reply) → MirrorState → Type 0
IsWhole first history m = (z : State) → Runs Turns first history z → m.front ≡ length z.book.entries

-- A mirror took some of the first of these entries, and is the port's after as many more as its front tells, where the
-- entries are such as a bridge makes. This is what taking entries promises.
pub record TookSome (m : MirrorState) (entries : List Entry) (m' : MirrorState) : Type 0 where
  pub port : m'.port ≡ m.port
  pub more : m.front ≤ m'.front
  pub most : m'.front ≤ m.front + length entries
  pub taken : (opening : PortGates) (before : List Entry) → Mirrors m opening before
      → AreOfPort m.port (mirrored m.port opening before) entries → Mirrors m' opening (before ++ take (m'.front - m.front) entries)

-- the history that ends with a turn in which the entries behind a mirror's front were asked for and told
pub record AsksBehind (history : List (Call Ask Reply)) (m : MirrorState) (entries : List Entry) (now : List (Call Ask Reply)) : Type 0
  where
    pub before : List (Call Ask Reply)
    pub begins : Begins history before
    pub number : ℕ
    pub session : ℕ
    pub whole : now ≡ before ++ call number (record { session = session; command = commands.Since m.front }) (replies.Entries entries) ∷ []
