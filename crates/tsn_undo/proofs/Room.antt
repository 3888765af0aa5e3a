-- The room that taking back several entries takes.
use Rattle.std.proofs.Common.{◌≡◌, ℕ, ◌+◌, ◌++◌, ◌<◌, ◌≤◌, List, [], ◌∷◌, ◌∙◌, None, ap, refl, sym, add_assoc, arith, get_or, length, take}
use Rattle.std.proofs.lemmas.List.{take_more}
use Rattle.tsn_edit.specs.Changes.{room_of}
use Rattle.tsn_entries.specs.Entries.{most_entries}
use Rattle.tsn_entries.specs.Finding.{own_standing}
use Rattle.tsn_undo.specs.Ledger.{Ledger}
use Rattle.tsn_undo.specs.declared.book.TakingBack.{TakingBack}
use Rattle.tsn_undo.specs.UndoAll.{room_left, undo_all_refusal}

pub room_left-last : (xs : List TakingBack) (x : TakingBack) → room_left (xs ++ x ∷ []) ≡ room_left xs + room_of x.applied
room_left-last [] x = omega arith
room_left-last (y ∷ xs) x =
    ap (λ n. room_of y.applied + n) (room_left-last xs x) ∙ sym (add_assoc (room_of y.applied) (room_left xs) (room_of x.applied))

-- the same, with the list first
pub room_split : (xs : List TakingBack) (x : TakingBack)
    → (xs ++ x ∷ [] ≡ xs ++ x ∷ []) × (room_left (xs ++ x ∷ []) ≡ room_left xs + room_of x.applied)
room_split xs x = (refl, room_left-last xs x)

-- what a change and more take, an element at a time
pub room_left-more : (xs : List TakingBack) (i : ℕ) (x : TakingBack) → i < length xs → x ≡ get_or xs i x
    → room_left (take (i + 1) xs) ≡ room_left (take i xs) + room_of x.applied
room_left-more xs i x short is = ap room_left (take_more xs i x short) ∙ room_left-last (take i xs) (get_or xs i x)
    ∙ ap (λ (y : TakingBack). room_left (take i xs) + room_of y.applied) (sym is)

-- ---- the room that a journal has where an undo of all is not refused

pub few_own : (b : Ledger) (s : ℕ) → undo_all_refusal b s ≡ None → length b.entries + length (own_standing b.entries s) ≤ most_entries
few_own b s free = grind arith
