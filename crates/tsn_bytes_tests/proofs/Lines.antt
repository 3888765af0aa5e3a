-- What has no line feed, and no space in its stamp, and is no longer than it may be, fits a line.
use Rattle.std.proofs.Common.{◌≢◌, ℕ, ◌≤◌, List, [], ◌∷◌, length, arith}
use Rattle.std.specs.Prelude.{All}
use Rattle.tsn_recorded.specs.Text.{Recorded, IsRecordedAfter, longest_command, longest_command_after, longest_stamp}
use Rattle.tsn_recorded.proofs.Lengths.{is_recorded_after}

any_command : (last : List ℕ) → longest_command ≤ longest_command_after last
any_command [] = omega arith
any_command (b ∷ last) = omega arith

pub fits : (last stamp command : List ℕ) → All (λ b. b ≢ 10) stamp → All (λ b. b ≢ 32) stamp → All (λ b. b ≢ 10) command
    → length stamp ≤ longest_stamp → length command ≤ longest_command
    → let r : Recorded = record { stamp = stamp; command = command } in IsRecordedAfter last r
fits last stamp command line word lines short room =
    let r : Recorded = record { stamp = stamp; command = command } in
    let most = any_command last in
    is_recorded_after last r (record { stamp_line = line; stamp_word = word; command_line = lines }) short (omega (arith, most, room))
