-- What a run writes to an output or to standard error, and how it tells of a failure.
use Rattle.std.specs.Prelude.{◌≡◌, ◌⊎◌, ℕ, ◌≤◌, List, [], Bool, true, length, take, Option, Result, Ok, Err}
use Rattle.std.specs.Io.KnownBytes.{Appends}
use Rattle.tsn_bytes.specs.declared.bytes.Fault.TheVariants.{Write}
use Rattle.tsn_failures.specs.Failures.{failure_line}
use Rattle.tsn_failures.specs.declared.failures.Failure.{Failure}
use Rattle.tsn_failures.specs.declared.failures.Failure.TheVariants as failures

-- A front of the text was written, and nothing else.
abbrev pub IsFront : Option (List ℕ) → Option (List ℕ) → List ℕ → Type 0
IsFront old new text = (n : ℕ) × (n ≤ length text) × Appends old new (take n text)

-- An output before and after, or standard error: the bytes that it took, those of them that it holds back, and whether a call
-- failed.
pub record Output : Type 0 where
  pub old : Option (List ℕ)
  pub new : Option (List ℕ)
  pub held_back : List ℕ
  pub failed : Bool

-- The output of a writer between two moments, by what the writer tells of itself.
abbrev pub written : {W : Type 0} → (W → Option (List ℕ)) → (W → List ℕ) → (W → Bool) → W → W → Output
written taken pending has_failed old new = record {
  old = taken old;
  new = taken new;
  held_back = pending new;
  failed = has_failed new;
}

-- Nothing was written there.
abbrev pub IsSilent : Output → Type 0
IsSilent errors = errors.new ≡ errors.old

-- The text was written and handed on, and nothing else; where the writer failed, a front of it.
abbrev pub Tells : Output → List ℕ → Type 0
Tells errors text =
    (Appends errors.old errors.new text × (errors.held_back ≡ []))
    ⊎ ((errors.failed ≡ true) × IsFront errors.old errors.new text)

-- A run that went well has status 0 and says nothing; a failure has status 1 and its line.
abbrev pub Reports : Result (Unit {0}) Failure → ℕ → Output → Type 0
Reports (Ok u) status errors = (status ≡ 0) × IsSilent errors
Reports (Err failure) status errors = (status ≡ 1) × Tells errors (failure_line failure)

-- A text was shown on the output, whole and handed on, or the writer failed and took a front of it.
abbrev pub Shows : Output → List ℕ → Result (Unit {0}) Failure → Type 0
Shows output text (Ok u) = Appends output.old output.new text × (output.held_back ≡ [])
Shows output text (Err failure) = (failure ≡ failures.Fault Write) × (output.failed ≡ true) × IsFront output.old output.new text
