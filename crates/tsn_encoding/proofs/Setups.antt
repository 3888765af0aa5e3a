-- The line of a setup, byte by byte.
use Rattle.std.proofs.Common.{◌≡◌, ℕ, ◌+◌, ◌<◌, ◌≤◌, ◌++◌, List, [], ◌∷◌, length, take, drop, get_or, Option, codes, sym, ap, subst, ◌∙◌, append_assoc, append-nil, take-append-drop}
use Rattle.std.proofs.lemmas.List.{take_more, drop_all}
use Rattle.json.specs.Print.{escape, escape_byte}
use Rattle.serde_json.specs.Written.{compact_text}
use Rattle.tsn_bytes.specs.Bytes.{IsCut}
use Rattle.tsn_encoding.specs.Pieces.{TakesFront}
use Rattle.tsn_encoding.specs.Shown.{setup_data}
use Rattle.tsn_encoding.proofs.Escapes.{escape_joined}
use Rattle.tsn_encoding.proofs.Pieces.{none_gone, held_more, goes_on, cut_out}

line_of : (text : List ℕ) → (codes "{\"setup\":\"" ++ text)
    ++ codes "\"}\n" ≡ (codes "{\"setup\":" ++ ((34 ∷ (text ++ 34 ∷ [])) ++ codes "}")) ++ codes "\n"
line_of text = simp append_assoc

-- the line is what stands for the text between the front and the end
setup_line : (setup : List ℕ) → (codes "{\"setup\":\"" ++ escape setup) ++ codes "\"}\n" ≡ compact_text (setup_data setup) ++ codes "\n"
unfolding escape_byte
setup_line setup = line_of (escape setup)

-- before the first byte
pub setup_begun : (a : Option (List ℕ)) (front : List ℕ) → TakesFront a a (front ++ escape []) front
setup_begun a front = subst (λ l. TakesFront a a l front) (sym (append-nil front)) (none_gone a front)

-- one byte more
pub byte_more : (a b c : Option (List ℕ)) (front held later h setup : List ℕ) (byte d i : ℕ) → i < length setup → byte ≡ get_or setup i d
    → TakesFront a b (front ++ escape (take i setup)) held → TakesFront b c held later → h ≡ later ++ escape_byte byte
    → TakesFront a c (front ++ escape (take (i + 1) setup)) h
byte_more a b c front held later h setup byte d i within is taken went end =
    let more : escape (take (i + 1) setup) ≡ escape (take i setup) ++ escape_byte byte =
    ap escape (take_more setup i d within ∙ ap (λ x. take i setup ++ x ∷ []) (sym is)) ∙ escape_joined (take i setup) (byte ∷ [])
    ∙ ap (λ l. escape (take i setup) ++ l) (append-nil (escape_byte byte)) in
    let whole : front ++ escape (take (i + 1) setup) ≡ (front ++ escape (take i setup)) ++ escape_byte byte =
    ap (λ l. front ++ l) more ∙ sym (append_assoc front (escape (take i setup)) (escape_byte byte)) in
    subst (λ l. TakesFront a c l h) (sym whole)
    (subst (λ l. TakesFront a c ((front ++ escape (take i setup)) ++ escape_byte byte) l) (sym end)
    (held_more a c (front ++ escape (take i setup)) later (escape_byte byte)
    (goes_on a b c (front ++ escape (take i setup)) held later taken went)))

parted : (front done left end : List ℕ) → (front ++ (done ++ left)) ++ end ≡ (front ++ done) ++ (left ++ end)
parted front done left end = simp append_assoc

-- the line in what is done and what is left
line_at : (setup front : List ℕ) (i : ℕ) → front ≡ codes "{\"setup\":\""
    → compact_text (setup_data setup) ++ codes "\n" ≡ (front ++ escape (take i setup)) ++ (escape (drop i setup) ++ codes "\"}\n")
line_at setup front i is =
    let split : escape setup ≡ escape (take i setup) ++ escape (drop i setup) = ap escape (sym (take-append-drop i setup))
    ∙ escape_joined (take i setup) (drop i setup) in
    sym (setup_line setup) ∙ ap (λ l. (l ++ escape setup) ++ codes "\"}\n") (sym is) ∙ ap (λ l. (front ++ l) ++ codes "\"}\n") split
    ∙ parted front (escape (take i setup)) (escape (drop i setup)) (codes "\"}\n")

-- the writer failed before a byte
pub setup_cut : (a b c : Option (List ℕ)) (setup front held : List ℕ) (i : ℕ) → front ≡ codes "{\"setup\":\""
    → TakesFront a b (front ++ escape (take i setup)) held → IsCut b c held
    → IsCut a c (compact_text (setup_data setup) ++ codes "\n")
setup_cut a b c setup front held i is taken cut =
    subst (IsCut a c) (sym (line_at setup front i is))
    (cut_out a b c (front ++ escape (take i setup)) held (escape (drop i setup) ++ codes "\"}\n") taken cut)

-- all bytes and the end
pub setup_ended : (a b : Option (List ℕ)) (setup front held s : List ℕ) (i : ℕ) → front ≡ codes "{\"setup\":\"" → length setup ≤ i
    → TakesFront a b (front ++ escape (take i setup)) held
    → s ≡ held ++ codes "\"}\n" → TakesFront a b (compact_text (setup_data setup) ++ codes "\n") s
setup_ended a b setup front held s i is all taken end =
    let whole : compact_text (setup_data setup) ++ codes "\n" ≡ (front ++ escape (take i setup)) ++ codes "\"}\n" =
    line_at setup front i is ∙ ap (λ l. (front ++ escape (take i setup)) ++ (escape l ++ codes "\"}\n")) (drop_all i setup all) in
    subst (λ l. TakesFront a b l s) (sym whole) (subst (λ l. TakesFront a b ((front ++ escape (take i setup)) ++ codes "\"}\n") l) (sym end)
    (held_more a b (front ++ escape (take i setup)) held (codes "\"}\n") taken))
