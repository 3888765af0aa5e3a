-- Bytes that are held go on to the writer behind.
use Rattle.std.proofs.Common.{◌≡◌, ℕ, ◌+◌, List, Option, ◌++◌, take, drop, sym, ap, ◌∙◌, subst, take-append-drop}
use Rattle.std.proofs.KnownBytes.{Keeps-trans, append_known-moved}
use Rattle.std.proofs.lemmas.List.{drop-drop}
use Rattle.std.specs.Io.KnownBytes.{Keeps, Appends, append_known}

-- the writer behind took the first n of those from s on
pub handed_on : (a b c : Option (List ℕ)) (xs held whole : List ℕ) (s n : ℕ) → whole ≡ xs
    → Keeps (append_known a held) (append_known b (drop s xs)) → Appends b c (take n (drop s whole))
    → Keeps (append_known a held) (append_known c (drop (s + n) xs))
handed_on a b c xs held whole s n same kept took =
    Keeps-trans _ _ _ kept
    (append_known-moved b c (take n (drop s xs)) (drop (s + n) xs) (drop s xs) (subst (λ l. Appends b c (take n (drop s l))) same took)
    (sym (take-append-drop n (drop s xs)) ∙ ap (λ l. take n (drop s xs) ++ l) (drop-drop n s xs)))
