-- What every state of the machine keeps, and what a later state of the same bridge keeps of an earlier one.
use Rattle.std.specs.Prelude.{◌≡◌, ◌≤◌, ℕ, List, ◌++◌, MatchOption, ⊤}
use Rattle.std.specs.List.{AllByRecursion}
use Rattle.tsn_chain.specs.Instances.{HasFrameKeys}
use Rattle.tsn_entries.specs.declared.entries.Entry.{Entry}
use Rattle.tsn_entries.specs.declared.entries.What.{What}
use Rattle.tsn_entries.specs.Entries.{act_of}
use Rattle.tsn_undo.specs.Ledger.{present}
use Rattle.tsn_bridge.specs.declared.sessions.Named.{Named}
use Rattle.tsn_bridge.specs.Histories.{StateIsSound}
use Rattle.tsn_bridge.specs.Names.{AreWithin}
use Rattle.tsn_bridge.specs.State.{State}

-- an entry whose act, if it is one, was done by this time
abbrev pub IsBy : ℕ → What → Type 0
IsBy time w = MatchOption (act_of w) ⊤ (λ a. a.now ≤ time)

-- the journal is sound, what the filter chain keeps is there for just the filters, gates and meters of the
-- configuration, and the names are of sessions that were given out, in their order
pub record IsWhole (s : State) : Type 0 where
  pub journal : StateIsSound s
  pub frames : HasFrameKeys s.frames (present s.book)
  pub names : AreWithin 0 s.names s.sessions

-- every act was done by the bridge time
abbrev pub ActsAreBy : State → Type 0
ActsAreBy s = AllByRecursion (λ e. IsBy s.time e.what) s.book.entries

-- limits and opening are the same, no entry is gone or changed, no session and no name is taken back, and the bridge time is no less
pub record IsLater (s new : State) : Type 0 where
  pub limits : new.book.limits ≡ s.book.limits
  pub opening : new.book.opening ≡ s.book.opening
  pub more : List Entry
  pub entries : new.book.entries ≡ s.book.entries ++ more
  pub sessions : s.sessions ≤ new.sessions
  pub named : List Named
  pub names : new.names ≡ s.names ++ named
  pub time : s.time ≤ new.time
