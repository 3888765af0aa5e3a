-- A text that grows byte by byte.
use Rattle.std.proofs.Common.{◌≡◌, ℕ, ◌+◌, ◌<◌, ◌≤◌, List, ◌++◌, get_or, set, take, length, ap, sym, ◌∙◌, arith, append_assoc, append-nil}
use Rattle.std.proofs.Math.Seq.{take-length}
use Rattle.std.proofs.lemmas.List.{take_more, take_more_set, length-take-le}

-- how many bytes a text holds
pub held : (text bytes : List ℕ) (len : ℕ) → len ≤ length bytes → take len bytes ≡ text → length text ≡ len
held text bytes len within is = sym (ap length is) ∙ length-take-le len bytes within

pub no_byte : (bytes piece : List ℕ) (at : ℕ) → take (at + 0) bytes ≡ take at bytes ++ take 0 piece
no_byte bytes piece at =
    let e : at + 0 ≡ at = omega arith in
    ap (λ n. take n bytes) e ∙ sym (append-nil (take at bytes))

pub byte_more : (bytes now piece : List ℕ) (at place : ℕ) → at + place < length now → place < length piece
    → take (at + place) now ≡ take at bytes ++ take place piece
    → take (at + (place + 1)) (set now (at + place) (get_or piece place 0)) ≡ take at bytes ++ take (place + 1) piece
byte_more bytes now piece at place room more so_far =
    let next : at + (place + 1) ≡ at + place + 1 = omega arith in
    rw (next, take_more_set now (at + place) (get_or piece place 0) room, so_far, take_more piece place 0 more, append_assoc)

pub every_byte : (text bytes now piece given : List ℕ) (at place : ℕ) → take at bytes ≡ text → piece ≡ given → length piece ≤ place
    → place ≤ length piece
    → take (at + place) now ≡ take at bytes ++ take place piece
    → take (at + length piece) now ≡ text ++ given
every_byte text bytes now piece given at place is same down up so_far =
    let whole : place ≡ length piece = omega arith in
    let all : take (at + length piece) now ≡ take at bytes ++ take (length piece) piece = rw whole at so_far in
    all ∙ rw (is, take-length piece, same)
