-- What a reader or writer of std is seen as, and how a call stands that a signal may interrupt.
use Rattle.std.specs.Prelude.{◌≡◌, ◌≢◌, ℕ, ◌-◌, ◌^◌, List, Option, Bool, true, false}
use Rattle.std.specs.Io.KnownBytes.{Keeps}
use Rattle.std.specs.declared.io.ErrorKind.{ErrorKind}
use Rattle.std.specs.declared.io.ErrorKind.TheVariants.{Interrupted}

-- How often a call is tried at most.
abbrev pub most_tries : ℕ
most_tries = 2 ^ 64 - 1

-- The reader or writer, how often the call that is being made may still be tried, and whether it worked.
pub record Attempt (T : Type 0) : Type 0 where
  pub inner : T
  pub tries_left : ℕ
  pub is_done : Bool

-- The call worked.
abbrev pub IsDone : {T : Type 0} → Attempt T → Type 0
IsDone a = a.is_done ≡ true

-- A try failed by an error of this kind: it is made again where a signal interrupted it, and nowhere else.
abbrev pub HasFailedBy : {T : Type 0} → ErrorKind → Attempt T → Attempt T → Type 0
HasFailedBy kind before after =
    (after.is_done ≡ before.is_done)
    × (kind ≡ Interrupted → after.tries_left ≡ before.tries_left - 1)
    × (kind ≢ Interrupted → after.tries_left ≡ 0)

-- Since this no try has worked, and none moved a byte, as far as these are known.
abbrev pub IsTried : {T : Type 0} → (T → Option (List ℕ)) → Attempt T → Attempt T → Type 0
IsTried known before now = (now.is_done ≡ false) × Keeps (known before.inner) (known now.inner)

-- No try is left, and the call did not work.
abbrev pub HasGivenUp : {T : Type 0} → Attempt T → Type 0
HasGivenUp a = (a.is_done ≡ false) × (a.tries_left ≡ 0)

-- The reader or writer with the call that was made last, how often it was read, and whether a call has failed.
pub record Standard (T : Type 0) : Type 0 where
  pub last : Attempt T
  pub calls : ℕ
  pub has_failed : Bool
