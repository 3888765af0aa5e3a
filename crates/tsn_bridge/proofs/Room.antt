-- The room that following entries takes.
use Rattle.std.proofs.Common.{◌≡◌, ◌+◌, ◌-◌, ◌≤◌, ℕ, zero, suc, List, [], ◌∷◌, Option, Some, None, ap, arith, length, refl, subst, sym, ◌∙◌, zero-add}
use Rattle.std.proofs.lemmas.List.{length-map}
use Rattle.std.proofs.Math.Nat.{le_refl, sub-add_cancel, suc-add}
use Rattle.std.specs.Option.{option_map_or}
use Rattle.tsn_edit.specs.Changes.{room_of}
use Rattle.tsn_edit.specs.Parts.{Change, inverse_part}
use Rattle.tsn_entries.specs.declared.entries.Entry.{Entry}
use Rattle.tsn_entries.specs.Entries.{Applied, IsNumbered}
use Rattle.tsn_entries.specs.Finding.{change_at, parts_of_all}
use Rattle.tsn_undo.specs.UndoAll.{with_undone}
use Rattle.tsn_bridge.specs.Together.{followed, followed_by, room_at, room_behind, undone_by}
use Rattle.tsn_bridge.proofs.Pushed.{followed_undone}

-- what was taken before, and what a change takes
abbrev taken_by : ℕ → Change → ℕ
taken_by n e = n + room_of e

by_each : (n : ℕ) (q : Option Change) → n + option_map_or room_of q 0 ≡ followed_by taken_by n q
by_each n None = omega arith
by_each n (Some e) = refl

behind_is : (es : List Entry) (n k : ℕ) → room_behind es n k ≡ followed taken_by es 0 n k
behind_is es n zero = refl
behind_is es n (suc k) =
    ap (λ m. m + room_at es (n + k + 1)) (behind_is es n k) ∙ by_each (followed taken_by es 0 n k) (change_at es (n + k + 1))

undone_parts : (xs : List Applied) → undone_by taken_by 0 xs ≡ parts_of_all xs
undone_parts [] = refl
undone_parts (x ∷ xs) = omega (arith, undone_parts xs, length-map x.change inverse_part)

-- the entries that take back xs take the room of all their parts
pub behind_undone : (es : List Entry) (s : ℕ) (xs : List Applied) → IsNumbered 1 es
    → room_behind (with_undone es s xs) (length es) (length xs) ≡ parts_of_all xs
behind_undone es s xs numbered =
    behind_is (with_undone es s xs) (length es) (length xs) ∙ followed_undone taken_by 0 es s xs numbered ∙ undone_parts xs

-- what further entries take comes on top
behind_more : (es : List Entry) (n k more : ℕ) → room_behind es n k ≤ room_behind es n (more + k)
behind_more es n k zero =
    let P : ℕ → Type 0 = λ x. room_behind es n k ≤ room_behind es n x in subst P (sym (zero-add k)) (le_refl (room_behind es n k))
behind_more es n k (suc more) =
    let P : ℕ → Type 0 = λ x. room_behind es n k ≤ room_behind es n x in
    subst P (sym (suc-add more k)) (omega (arith, behind_more es n k more))

pub behind_to : (es : List Entry) (n k m : ℕ) → k ≤ m → room_behind es n k ≤ room_behind es n m
behind_to es n k m low =
    let P : ℕ → Type 0 = λ x. room_behind es n k ≤ room_behind es n x in subst P (sub-add_cancel low) (behind_more es n k (m - k))
