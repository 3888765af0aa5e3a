-- A text that grew by pieces, each put behind the one before.
use Rattle.std.proofs.Common.{◌≡◌, ℕ, ◌++◌, List, [], ◌∷◌, refl, sym, ap, ◌∙◌, append_assoc}

-- pieces, and what stands behind them
abbrev pub joined : List (List ℕ) → List ℕ → List ℕ
joined [] rest = rest
joined (piece ∷ more) rest = piece ++ joined more rest

-- pushing them made another text of a text
abbrev pub Grew : List (List ℕ) → List ℕ → List ℕ → Type 0
Grew [] old new = new ≡ old
Grew (piece ∷ more) old new = (next : List ℕ) × (next ≡ old ++ piece) × Grew more next new

pub grown : (pieces : List (List ℕ)) (old new last rest : List ℕ) → Grew pieces old new → last ≡ new ++ rest
    → last ≡ old ++ joined pieces rest
grown [] old new last rest same now = now ∙ ap (λ t. t ++ rest) same
grown (piece ∷ more) old new last rest (next, is, others) now =
    grown more next new last rest others now ∙ ap (λ t. t ++ joined more rest) is ∙ append_assoc old piece (joined more rest)

joined_behind : (pieces : List (List ℕ)) (brace feed : List ℕ) → joined pieces (brace ++ feed) ≡ joined pieces brace ++ feed
joined_behind [] brace feed = refl
joined_behind (piece ∷ more) brace feed =
    ap (λ l. piece ++ l) (joined_behind more brace feed) ∙ sym (append_assoc piece (joined more brace) feed)

-- a line of them: a brace and a line feed stand behind
pub line_of : (pieces : List (List ℕ)) (old new last brace feed : List ℕ) → old ≡ [] → Grew pieces old new
    → last ≡ new ++ (brace ++ feed) → last ≡ joined pieces brace ++ feed
line_of pieces old new last brace feed none grew is =
    grown pieces old new last (brace ++ feed) grew is ∙ ap (λ l. l ++ joined pieces (brace ++ feed)) none
    ∙ joined_behind pieces brace feed
