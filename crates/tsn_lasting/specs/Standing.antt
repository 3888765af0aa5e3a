-- Where a script stands whose work lasts, and what is so from its beginning on.
use Rattle.std.specs.Prelude.{◌≡◌, ℕ, List, [], ◌++◌, Option, Bool, map}
use Rattle.std.specs.Io.KnownBytes.{Appends}
use Rattle.tsn_bridge.specs.State.{State}
use Rattle.tsn_recorded.specs.Text.{AreRecordedAfter, Recorded, last_digest, text_after}
use Rattle.tsn_lasting.specs.Exchanges.{Exchange, Exchanges, Runs, command_of, commands_of, lines_of, recorded_of, replies_of}

-- Replies that wait, and whether there was no room for one.
pub record Replies : Type 0 where
  pub bytes : List ℕ
  pub has_failed : Bool

-- The bridge; the digest of the last line of the journal, all that was entered into it, and what of that is surely kept; the bytes
-- that the writer took, and the replies that wait.
pub record Standing : Type 0 where
  pub bridge : State
  pub last : List ℕ
  pub entered : List ℕ
  pub kept : List ℕ
  pub taken : Option (List ℕ)
  pub waiting : List ℕ

-- This text begins with that one.
abbrev pub BeginsWith : List ℕ → List ℕ → Type 0
BeginsWith text front = (rest : List ℕ) × (text ≡ front ++ rest)

-- Nothing waits, and all that was entered is kept.
pub record IsAtRest (s : Standing) : Type 0 where
  pub kept : s.kept ≡ s.entered
  pub none : s.waiting ≡ []

-- The lines of a journal, behind what stood in it, that these exchanges leave: each with a stamp.
pub record Leaves (s0 : Standing) (xs : List Exchange) (rs : List Recorded) : Type 0 where
  pub commands : map (λ (r : Recorded). r.command) rs ≡ commands_of xs
  pub well : AreRecordedAfter s0.last rs

-- Lasting: from a standing on, what the writer took is a front of the replies to first exchanges of these lines, and all that
-- these exchanges leave is kept.
pub record Lasts (s0 : Standing) (ls : List (Option (List ℕ))) (s : Standing) : Type 0 where
  pub exchanges : List Exchange
  pub others : List (Option (List ℕ))
  pub lines : ls ≡ lines_of exchanges ++ others
  pub state : State
  pub runs : Runs s0.bridge exchanges state
  pub recorded : List Recorded
  pub leaves : Leaves s0 exchanges recorded
  pub kept : BeginsWith s.kept (s0.entered ++ text_after s0.last recorded)
  pub handed : List ℕ
  pub took : Appends s0.taken s.taken handed
  pub covers : BeginsWith (replies_of exchanges) handed

-- These lines were answered, each once, in order: what they leave was entered and nothing else; their replies were handed on or wait;
-- and what was handed on lasts.
pub record HasAnswered (s0 : Standing) (ls : List (Option (List ℕ))) (s : Standing) : Type 0 where
  pub exchanges : List Exchange
  pub lines : lines_of exchanges ≡ ls
  pub runs : Runs s0.bridge exchanges s.bridge
  pub recorded : List Recorded
  pub leaves : Leaves s0 exchanges recorded
  pub last : s.last ≡ last_digest s0.last recorded
  pub entered : s.entered ≡ s0.entered ++ text_after s0.last recorded
  pub handed : List ℕ
  pub took : Appends s0.taken s.taken handed
  pub told : replies_of exchanges ≡ handed ++ s.waiting
  pub lasts : Lasts s0 ls s

-- What an exchange leaves behind this digest, if anything: a line with a stamp.
pub record LeavesOne (last : List ℕ) (x : Exchange) (rs : List Recorded) : Type 0 where
  pub commands : map (λ (r : Recorded). r.command) rs ≡ command_of (recorded_of x.read x.reply)
  pub well : AreRecordedAfter last rs

-- A line is answered, and what that leaves is entered; its reply is not told yet.
pub record Steps (s : Standing) (x : Exchange) (rs : List Recorded) (new : Standing) : Type 0 where
  pub exchanges : Exchanges s.bridge x new.bridge
  pub leaves : LeavesOne s.last x rs
  pub last : new.last ≡ last_digest s.last rs
  pub entered : new.entered ≡ s.entered ++ text_after s.last rs

-- What is known of a standing stays but for what is kept and told.
pub record Stays (s new : Standing) : Type 0 where
  pub bridge : new.bridge ≡ s.bridge
  pub last : new.last ≡ s.last
  pub entered : new.entered ≡ s.entered
