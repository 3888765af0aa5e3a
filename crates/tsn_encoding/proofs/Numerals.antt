-- The digits of a number, put behind a text piece by piece.
use Rattle.std.proofs.Common.{◌≡◌, ℕ, ◌+◌, ◌*◌, ◌/◌, ◌%◌, ◌^◌, ◌<◌, ◌≤◌, Bool, true, ◌&&◌, ◌==◌, List, [], ◌∷◌, ◌++◌, get_or, set, length, take, length-set, decimal, refl, ap, subst, ◌∙◌, arith, zero-add, append_assoc}
use Rattle.std.specs.List.{AllPass, range_with_len}
use Rattle.std.proofs.lemmas.Bool.{and_parts, eqb-true}
use Rattle.std.proofs.lemmas.Fmt.{decimal_digit, decimal_step}
use Rattle.std.proofs.lemmas.List.{take_more_set}
use Rattle.std.proofs.lemmas.List.Elements.{All-get_or}
use Rattle.std.proofs.lemmas.List.FromFn.{get_or-range_with_len, length-range_with_len}
use Rattle.std.proofs.lemmas.List.Sums.{AllPass-from_list_all}
use Rattle.tsn_encoding.specs.Digits.{two_digits, four_digits, eight_digits}
use Rattle.tsn_encoding.specs.declared.digits.TheConstants.{PAIRS}

-- ---- the table

abbrev is_pair : ℕ → Bool
is_pair n = (get_or PAIRS (2 * n) 0 == 48 + n / 10) && (get_or PAIRS (2 * n + 1) 0 == 48 + n % 10)

all_are_pairs : AllPass is_pair (range_with_len 0 100)
all_are_pairs = AllPass-from_list_all is_pair (range_with_len 0 100) refl

pub pairs_at : (n : ℕ) → n < 100 → (get_or PAIRS (2 * n) 0 ≡ 48 + n / 10) × (get_or PAIRS (2 * n + 1) 0 ≡ 48 + n % 10)
pairs_at n h =
    let here : get_or (range_with_len 0 100) n 0 ≡ n = get_or-range_with_len 0 100 n 0 h ∙ zero-add n in
    let passes = All-get_or (λ k. is_pair k ≡ true) (range_with_len 0 100) n 0 (omega (arith, length-range_with_len 0 100)) all_are_pairs in
    let both = and_parts (get_or PAIRS (2 * n) 0 == 48 + n / 10) _ (subst (λ k. is_pair k ≡ true) here passes) in
    (eqb-true _ _ both.0, eqb-true _ _ both.1)

-- ---- a number is its front and its last digits

-- where so many last digits have a text, so have twice as many: those of the front, and then its own
twice : (m : ℕ) (text : ℕ → List ℕ) → ((n : ℕ) → m ≤ n → n < 2 ^ 64 → decimal n ≡ decimal (n / m) ++ text (n % m)) → (n q a b : ℕ)
    → m ≤ n → m ≤ n / m → n < 2 ^ 64 → n / m < 2 ^ 64 → n / m / m ≡ q → n / m % m ≡ a → n % m ≡ b
    → decimal n ≡ decimal q ++ (text a ++ text b)
twice m text last n q a b low front_low high front_high front middle back =
    last n low high ∙ ap (λ l. l ++ text (n % m)) (last (n / m) front_low front_high)
    ∙ append_assoc (decimal (n / m / m)) (text (n / m % m)) (text (n % m))
    ∙ (λ i. decimal (front i) ++ (text (middle i) ++ text (back i)))

last_two : (n : ℕ) → 100 ≤ n → n < 2 ^ 64 → decimal n ≡ decimal (n / 100) ++ two_digits (n % 100)
last_two n low high = twice 10 (λ d. (48 + d) ∷ []) decimal_step n (n / 100) (n % 100 / 10) (n % 100 % 10)
    (omega arith) (omega arith) high (omega arith) (omega arith) (omega arith) (omega arith)

last_four : (n : ℕ) → 10000 ≤ n → n < 2 ^ 64 → decimal n ≡ decimal (n / 10000) ++ four_digits (n % 10000)
last_four n low high = twice 100 two_digits last_two n (n / 10000) (n % 10000 / 100) (n % 10000 % 100)
    (omega arith) (omega arith) high (omega arith) (omega arith) (omega arith) (omega arith)

last_eight : (n : ℕ) → 100000000 ≤ n → n < 2 ^ 64 → decimal n ≡ decimal (n / 100000000) ++ eight_digits (n % 100000000)
last_eight n low high = twice 10000 four_digits last_four n (n / 100000000) (n % 100000000 / 10000) (n % 100000000 % 10000)
    (omega arith) (omega arith) high (omega arith) (omega arith) (omega arith) (omega arith)

-- ---- pieces

pub two_pieces : (t0 t1 t2 a b : List ℕ) → t1 ≡ t0 ++ a → t2 ≡ t1 ++ b → t2 ≡ t0 ++ (a ++ b)
two_pieces t0 t1 t2 a b e1 e2 = e2 ∙ ap (λ l. l ++ b) e1 ∙ append_assoc t0 a b

pub two_bytes : (xs : List ℕ) (at n : ℕ) → n < 100 → at + 2 ≤ length xs
    → take (at + 2) (set (set xs at (get_or PAIRS (2 * n) 0)) (at + 1) (get_or PAIRS (2 * n + 1) 0)) ≡ take at xs ++ two_digits n
two_bytes xs at n h room =
    let p = pairs_at n h in
    let first = set xs at (48 + n / 10) in
    let size : length first ≡ length xs = length-set xs at (48 + n / 10) in
    let next : at + 2 ≡ at + 1 + 1 = omega arith in
    rw (p.0, p.1, next) (two_pieces (take at xs) (take (at + 1) first) _ _ _ (take_more_set xs at _ (omega arith))
    (take_more_set first (at + 1) _ (omega arith)))

pub one_digit : (xs : List ℕ) (at n : ℕ) → n < 10 → at + 1 ≤ length xs → take (at + 1) (set xs at (48 + n)) ≡ take at xs ++ decimal n
one_digit xs at n h room = rw (decimal_digit n h) (take_more_set xs at (48 + n) (omega arith))

pub below_hundred : (t0 t1 : List ℕ) (n : ℕ) → 10 ≤ n → n < 100 → t1 ≡ t0 ++ two_digits n → t1 ≡ t0 ++ decimal n
below_hundred t0 t1 n low high e = rw (decimal_step n low (omega arith), decimal_digit (n / 10) (omega arith)) e

pub up_to_four : (t0 t1 t2 : List ℕ) (n : ℕ) → 100 ≤ n → n < 2 ^ 64 → t1 ≡ t0 ++ decimal (n / 100) → t2 ≡ t1 ++ two_digits (n % 100)
    → t2 ≡ t0 ++ decimal n
up_to_four t0 t1 t2 n low high e1 e2 = rw (last_two n low high) (two_pieces t0 t1 t2 _ _ e1 e2)

pub up_to_eight : (t0 t1 t2 : List ℕ) (n : ℕ) → 10000 ≤ n → n < 2 ^ 64 → t1 ≡ t0 ++ decimal (n / 10000) → t2 ≡ t1 ++ four_digits (n % 10000)
    → t2 ≡ t0 ++ decimal n
up_to_eight t0 t1 t2 n low high e1 e2 = rw (last_four n low high) (two_pieces t0 t1 t2 _ _ e1 e2)

pub beyond_eight : (t0 t1 t2 : List ℕ) (n : ℕ) → 100000000 ≤ n → n < 2 ^ 64 → t1 ≡ t0 ++ decimal (n / 100000000)
    → t2 ≡ t1 ++ eight_digits (n % 100000000) → t2 ≡ t0 ++ decimal n
beyond_eight t0 t1 t2 n low high e1 e2 = rw (last_eight n low high) (two_pieces t0 t1 t2 _ _ e1 e2)
