-- A line that grows: what its pieces come to.
use Rattle.std.proofs.Common.{◌≡◌, ℕ, ◌++◌, List, [], length, take, sym, ap, ◌∙◌, subst, append_assoc, append-nil, take_at}
use Rattle.tsn_spelling.specs.Growing.{Grows, GoesOn}

pub none_more : (line : List ℕ) → Grows line line
none_more line = record { more = []; is = sym (append-nil line) }

pub grows_on : (a b c : List ℕ) → Grows a b → Grows b c → Grows a c
grows_on a b c h k = record { more = h.more ++ k.more; is = k.is ∙ ap (λ l. l ++ k.more) h.is ∙ append_assoc a h.more k.more }

-- what came behind is cut off again
pub cut_off : (old new : List ℕ) (n : ℕ) → n ≡ length old → Grows old new → take n new ≡ old
cut_off old new n e h = ap (take n) h.is ∙ take_at old h.more n (sym e)

-- a piece goes behind the text
pub pushed : (line t0 t1 piece : List ℕ) → t1 ≡ t0 ++ piece → GoesOn line t0 line t1 piece
pushed line t0 t1 piece e = record { is = ap (λ l. line ++ l) e ∙ sym (append_assoc line t0 piece) }

pub goes_on : (l0 t0 l1 t1 l2 t2 a b : List ℕ) → GoesOn l0 t0 l1 t1 a → GoesOn l1 t1 l2 t2 b → GoesOn l0 t0 l2 t2 (a ++ b)
goes_on l0 t0 l1 t1 l2 t2 a b h k = record { is = k.is ∙ ap (λ l. l ++ b) h.is ∙ append_assoc (l0 ++ t0) a b }

-- the same bytes, some of them handed on before
pub moved : (l0 t0 l1 t1 l2 t2 a : List ℕ) → l1 ++ t1 ≡ l0 ++ t0 → GoesOn l1 t1 l2 t2 a → GoesOn l0 t0 l2 t2 a
moved l0 t0 l1 t1 l2 t2 a e h = record { is = h.is ∙ ap (λ l. l ++ a) e }

-- a line that ends in an empty text has grown by the piece
pub ended : (l0 t0 l1 t1 l2 a : List ℕ) → t0 ≡ [] → GoesOn l0 t0 l1 t1 a → l2 ≡ l1 ++ t1 → l2 ≡ l0 ++ a
ended l0 t0 l1 t1 l2 a e h k = k ∙ h.is ∙ ap (λ l. l ++ a) (ap (λ l. l0 ++ l) e ∙ append-nil l0)

pub as_piece : (l0 t0 l1 t1 a b : List ℕ) → a ≡ b → GoesOn l0 t0 l1 t1 a → GoesOn l0 t0 l1 t1 b
as_piece l0 t0 l1 t1 a b e h = subst (λ p. GoesOn l0 t0 l1 t1 p) e h

-- a line that grew whole, with nothing held; and one that is held whole
pub in_line : (old new text piece : List ℕ) → new ≡ old ++ piece → text ≡ [] → new ++ text ≡ old ++ piece
in_line old new text piece e h = ap (λ l. new ++ l) h ∙ append-nil new ∙ e

pub in_text : (line text piece : List ℕ) → text ≡ piece → line ++ text ≡ line ++ piece
in_text line text piece e = ap (λ l. line ++ l) e
