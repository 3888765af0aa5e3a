-- A command with a stamp fits a line behind any digest, where it has no line feed and is no longer than a command may be.
use Rattle.std.proofs.Common.{◌≢◌, ℕ, ◌≤◌, List, [], ◌∷◌, length, arith}
use Rattle.std.specs.Prelude.{All}
use Rattle.std.proofs.lemmas.List.Elements.{All-cons, All-nil, All-weaker}
use Rattle.tsn_recorded.specs.Text.{Recorded, IsRecorded, IsRecordedAfter, IsShort, longest_command}
use Rattle.tsn_recorded.proofs.Lengths.{are_recorded_after}
use Rattle.tsn_keeping.specs.Stamps.{IsStamp}

pub stamped_fits : (last stamp command : List ℕ) → IsStamp stamp → All (λ b. b ≢ 10) command → length command ≤ longest_command
    → let r : Recorded = record { stamp = stamp; command = command } in IsRecordedAfter last r
stamped_fits last stamp command word line short =
    let r : Recorded = record { stamp = stamp; command = command } in
    (are_recorded_after last (r ∷ [])
    (All-cons IsRecorded r [] (record {
      stamp_line = All-weaker (λ b. (b ≢ 32) × (b ≢ 10)) (λ b. b ≢ 10) (λ b h. h.1) stamp word.word;
      stamp_word = All-weaker (λ b. (b ≢ 32) × (b ≢ 10)) (λ b. b ≢ 32) (λ b h. h.0) stamp word.word;
      command_line = line;
    }) (All-nil IsRecorded))
    (All-cons IsShort r [] (record { stamp = omega (arith, word.count); command = short }) (All-nil IsShort))).0
