-- What stands within quotes for a text, and how long that is.
use Rattle.std.proofs.Common.{◌≡◌, ℕ, ◌+◌, ◌*◌, ◌≤◌, Bool, true, false, cond, not, ◌==◌, ◌||◌, ◌&&◌, nat_lt, nat_le, List, [], ◌∷◌, ◌++◌, length, take, drop, refl, sym, ap, ◌∙◌, arith, append_assoc, length-append, take-append-drop}
use Rattle.std.specs.Str.{is_utf8}
use Rattle.std.proofs.lemmas.Bool.{and_parts, leb-true, not-true, or_parts}
use Rattle.json.specs.Print.{escape, escape_byte}
use Rattle.tsn_types.specs.Names.{ends_control, has_control, is_name, longest_name}

-- what stands for two texts is what stands for each
pub escape_joined : (xs ys : List ℕ) → escape (xs ++ ys) ≡ escape xs ++ escape ys
escape_joined [] ys = refl
escape_joined (x ∷ xs) ys = ap (λ l. escape_byte x ++ l) (escape_joined xs ys) ∙ sym (append_assoc (escape_byte x) (escape xs) (escape ys))

-- what stands for a byte
at_most_six : (a b : Bool) (x y z w : ℕ) → length (cond a (92 ∷ y ∷ []) (cond b (92 ∷ 117 ∷ 48 ∷ 48 ∷ z ∷ w ∷ []) (x ∷ []))) ≤ 6
at_most_six true b x y z w = omega arith
at_most_six false true x y z w = omega arith
at_most_six false false x y z w = omega arith

pub byte_within : (x : ℕ) → length (escape_byte x) ≤ 6
unfolding escape_byte
byte_within x = at_most_six _ _ x _ _ _

at_most_two : (a b : Bool) (x y z w : ℕ) → b ≡ false → length (cond a (92 ∷ y ∷ []) (cond b (92 ∷ 117 ∷ 48 ∷ 48 ∷ z ∷ w ∷ []) (x ∷ []))) ≤ 2
at_most_two true b x y z w e = omega arith
at_most_two false true x y z w e = absurd (cc)
at_most_two false false x y z w e = omega arith

pub byte_short : (x : ℕ) → nat_lt x 32 ≡ false → length (escape_byte x) ≤ 2
unfolding escape_byte
byte_short x e = at_most_two _ _ x _ _ _ e

-- what stands for a text with no control character
no_control_short : (last : ℕ) (s : List ℕ) → has_control last s ≡ false → length (escape s) ≤ 2 * length s
no_control_short last [] h = omega arith
no_control_short last (x ∷ s) h =
    let p = or_parts (ends_control last x) (has_control x s) h in
    let q = or_parts (nat_lt x 32 || x == 127) (last == 194 && nat_le 128 x && nat_le x 159) p.0 in
    let low = or_parts (nat_lt x 32) (x == 127) q.0 in
    omega (arith, length-append (escape_byte x) (escape s), byte_short x low.0, no_control_short x s p.1)

-- what stands for a name
pub name_short : (name : List ℕ) → is_name name ≡ true → length (escape name) ≤ 128
name_short name h =
    let p = and_parts (is_utf8 name && nat_le 1 (length name) && nat_le (length name) longest_name) (not (has_control 0 name)) h in
    let q = and_parts (is_utf8 name && nat_le 1 (length name)) (nat_le (length name) longest_name) p.0 in
    let long : length name ≤ 64 = leb-true (length name) longest_name q.1 in
    omega (arith, long, no_control_short 0 name (not-true (has_control 0 name) p.1))

-- what stands for a front is no longer than what stands for the whole
pub front_short : (i : ℕ) (s : List ℕ) → length (escape (take i s)) ≤ length (escape s)
front_short i s =
    let whole : escape s ≡ escape (take i s) ++ escape (drop i s) = ap escape (sym (take-append-drop i s))
    ∙ escape_joined (take i s) (drop i s) in
    omega (arith, ap length whole, length-append (escape (take i s)) (escape (drop i s)))

-- what is held with a front of a name's bytes behind it
pub held_short : (t0 t name bytes : List ℕ) (i : ℕ) → t ≡ t0 ++ escape (take i bytes) → bytes ≡ name → is_name name ≡ true
    → length t ≤ length t0 + 128
held_short t0 t name bytes i is same fits =
    let named : is_name bytes ≡ true = ap is_name same ∙ fits in
    omega (arith, ap length is, length-append t0 (escape (take i bytes)), front_short i bytes, name_short bytes named)
