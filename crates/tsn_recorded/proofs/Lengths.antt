-- How long lines are.
use Rattle.std.proofs.Common.{◌≡◌, ℕ, ◌+◌, ◌≤◌, List, [], ◌∷◌, length, arith}
use Rattle.std.specs.Prelude.{All}
use Rattle.std.proofs.lemmas.List.{length-append}
use Rattle.std.proofs.lemmas.List.Elements.{All-cons, All-head, All-nil, All-tail}
use Rattle.tsn_recorded.specs.Text.{Recorded, IsRecorded, IsRecordedAfter, AreRecordedAfter, IsShort, body_of, digest_after, line_of, longest_command, longest_command_after, longest_stamp}
use Rattle.tsn_recorded.proofs.Digests.{length-digest_after}

pub length-line_of : (last : List ℕ) (r : Recorded) → length (line_of last r) ≡ 34 + length r.stamp + length r.command
length-line_of last r = grind (arith, length-digest_after, length-append)

pub is_recorded_after : (last : List ℕ) (r : Recorded) → IsRecorded r → length r.stamp ≤ longest_stamp
    → length r.command ≤ longest_command_after last → IsRecordedAfter last r
is_recorded_after last r is stamp command = grind (arith, length-line_of)

any_command : (last : List ℕ) → longest_command ≤ longest_command_after last
any_command last = grind arith

pub are_recorded_after : (last : List ℕ) (rs : List Recorded) → All IsRecorded rs → All IsShort rs → AreRecordedAfter last rs
are_recorded_after last [] all short = tt
are_recorded_after last (r ∷ rs) all short =
    let one = All-head IsShort r rs short in
    let stamp = one.stamp in
    let command = one.command in
    let room = any_command last in (
      is_recorded_after last r (All-head IsRecorded r rs all) stamp (omega (arith, command, room)),
      are_recorded_after (digest_after last (body_of r)) rs (All-tail IsRecorded r rs all) (All-tail IsShort r rs short),
    )

pub all_recorded : (last : List ℕ) (rs : List Recorded) → AreRecordedAfter last rs → All IsRecorded rs
all_recorded last [] all = All-nil IsRecorded
all_recorded last (r ∷ rs) all = All-cons IsRecorded r rs all.0.recorded (all_recorded (digest_after last (body_of r)) rs all.1)
