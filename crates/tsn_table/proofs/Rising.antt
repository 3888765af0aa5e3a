-- Lists of numbers that rise: around a number k in their midst, and as maps.
use Rattle.std.proofs.Common.{◌≡◌, ◌⊎◌, inl, inr, ℕ, ◌<◌, ◌≤◌, Bool, true, false, cond, eqb, ltb, List, [], ◌∷◌, ◌++◌, length, refl, sym, ap, ◌∙◌, subst, Option, Some, None, IsSome, append-nil, arith}
use Rattle.std.specs.Prelude.{IfSome, MatchOption}
use Rattle.std.specs.Option.{option_or}
use Rattle.std.specs.Ordering.{nat_cmp, eq_by_cmp}
use Rattle.std.specs.FinMap.{FinMap, find, get, insert, remove, get-insert, get-remove, get-from_entries, same_map, nat_cmp-IsAntisymmetric}
use Rattle.std.proofs.lemmas.Cmp.{nat_cmp_total}
use Rattle.std.proofs.lemmas.Bool.{lt-ltb, le-ltb, ltb-true, eq-eqb, ne_eqb}
use Rattle.std.proofs.lemmas.Bool.Decides.{nat_tests}
use Rattle.std.proofs.lemmas.List.{append_assoc}
use Rattle.tsn_table.specs.Rising.{AllNumbers, IsRising, put_number, without_number, first_from, units, map_of}

pub all_weaker : (P Q : ℕ → Type 0) → ((y : ℕ) → P y → Q y) → (xs : List ℕ) → AllNumbers P xs → AllNumbers Q xs
all_weaker P Q f [] a = tt
all_weaker P Q f (y ∷ ys) a = (f y a.0, all_weaker P Q f ys a.1)

all_front : (P : ℕ → Type 0) (l m : List ℕ) → AllNumbers P (l ++ m) → AllNumbers P l
all_front P [] m a = tt
all_front P (x ∷ l) m a = (a.0, all_front P l m a.1)

pub all_middle : (P : ℕ → Type 0) (l : List ℕ) (k : ℕ) (r : List ℕ) → AllNumbers P (l ++ k ∷ r) → P k
all_middle P [] k r a = a.0
all_middle P (y ∷ ys) k r a = all_middle P ys k r a.1

pub rising_front : (l m : List ℕ) → IsRising (l ++ m) → IsRising l
rising_front [] m s = tt
rising_front (x ∷ l) m s = (all_front (λ z. x < z) l m s.0, rising_front l m s.1)

pub rising_back : (l m : List ℕ) → IsRising (l ++ m) → IsRising m
rising_back [] m s = s
rising_back (x ∷ l) m s = rising_back l m s.1

-- a number that is put in
all_put : (P : ℕ → Type 0) (x : ℕ) (ys : List ℕ) → P x → AllNumbers P ys → AllNumbers P (put_number x ys)
all_put P x [] p a = (p, tt)
all_put P x (y ∷ ys) p a = grind (arith, (all_put P x ys p a.1))

rising_put_by : (x y : ℕ) (ys : List ℕ) (a b : Bool) → ltb x y ≡ a → ltb y x ≡ b → IsRising (y ∷ ys) → IsRising (put_number x ys)
    → IsRising (cond a (x ∷ y ∷ ys) (y ∷ cond b (put_number x ys) ys))
rising_put_by x y ys a b p q s u = grind (arith, ltb-true, all_weaker, all_put)

pub rising_put : (x : ℕ) (ys : List ℕ) → IsRising ys → IsRising (put_number x ys)
rising_put x [] s = (tt, tt)
rising_put x (y ∷ ys) s = rising_put_by x y ys (ltb x y) (ltb y x) refl refl s (rising_put x ys s.1)

pub put_by : (a b : Bool) (x y : ℕ) (ys us m vs : List ℕ) → vs ≡ us ++ m
    → cond a (x ∷ y ∷ (ys ++ m)) (y ∷ cond b vs (ys ++ m)) ≡ cond a (x ∷ y ∷ ys) (y ∷ cond b us ys) ++ m
put_by a b x y ys us m vs e = grind arith

pub put_left : (x k : ℕ) (l r : List ℕ) → x < k → put_number x (l ++ k ∷ r) ≡ put_number x l ++ k ∷ r
put_left x k [] r p = rw (lt-ltb x k p)
put_left x k (y ∷ ys) r p = put_by (ltb x y) (ltb y x) x y ys (put_number x ys) (k ∷ r) _ (put_left x k ys r p)

pub put_later : (x y : ℕ) (ys : List ℕ) → y < x → put_number x (y ∷ ys) ≡ y ∷ put_number x ys
put_later x y ys p = rw (le-ltb x y (omega arith), lt-ltb y x p)

pub put_middle : (x k : ℕ) (l r : List ℕ) → x ≡ k → IsRising (l ++ k ∷ r) → put_number x (l ++ k ∷ r) ≡ l ++ k ∷ r
put_middle x k [] r e s = rw (le-ltb x k (omega arith), le-ltb k x (omega arith))
put_middle x k (y ∷ ys) r e s =
    let q : y < k = all_middle (λ z. y < z) ys k r s.0 in
    put_later x y (ys ++ k ∷ r) (omega arith) ∙ ap (λ z. y ∷ z) (put_middle x k ys r e s.1)

-- a number that is taken out
all_without : (P : ℕ → Type 0) (x : ℕ) (ys : List ℕ) → AllNumbers P ys → AllNumbers P (without_number x ys)
all_without P x [] a = tt
all_without P x (y ∷ ys) a = grind (arith, (all_without P x ys a.1))

pub rising_without : (x : ℕ) (ys : List ℕ) → IsRising ys → IsRising (without_number x ys)
rising_without x [] s = tt
rising_without x (y ∷ ys) s = grind (arith, all_without, (rising_without x ys s.1))

pub without_above : (x : ℕ) (ys : List ℕ) → AllNumbers (λ z. x < z) ys → without_number x ys ≡ ys
without_above x [] a = refl
without_above x (y ∷ ys) a = let p : x < y = a.0 in rw (ne_eqb x y (omega arith)) (ap (λ z. y ∷ z) (without_above x ys a.1))

pub without_by : (b : Bool) (y : ℕ) (us m vs : List ℕ) → vs ≡ us ++ m → cond b vs (y ∷ vs) ≡ cond b us (y ∷ us) ++ m
without_by b y us m vs e = grind arith

pub without_left : (x k : ℕ) (l r : List ℕ) → x < k → IsRising (l ++ k ∷ r) → without_number x (l ++ k ∷ r) ≡ without_number x l ++ k ∷ r
without_left x k [] r p s = without_above x (k ∷ r) (p, all_weaker (λ z. k < z) (λ z. x < z) (λ z q. omega arith) r s.0)
without_left x k (y ∷ ys) r p s = without_by (eqb x y) y (without_number x ys) (k ∷ r) _ (without_left x k ys r p s.1)

pub without_later : (x y : ℕ) (ys : List ℕ) → y < x → without_number x (y ∷ ys) ≡ y ∷ without_number x ys
without_later x y ys p = rw (ne_eqb x y (omega arith))

pub without_middle : (x k : ℕ) (l r : List ℕ) → x ≡ k → IsRising (l ++ k ∷ r) → without_number x (l ++ k ∷ r) ≡ l ++ r
without_middle x k [] r e s = rw (eq-eqb x k e) (without_above x r (subst (λ n. AllNumbers (λ z. n < z) r) (sym e) s.0))
without_middle x k (y ∷ ys) r e s =
    let q : y < k = all_middle (λ z. y < z) ys k r s.0 in
    without_later x y (ys ++ k ∷ r) (omega arith) ∙ ap (λ z. y ∷ z) (without_middle x k ys r e s.1)

-- the first number from one on
first_by : (b : Bool) (y k : ℕ) (o p : Option ℕ) → p ≡ option_or o (Some k) → cond b p (Some y) ≡ option_or (cond b o (Some y)) (Some k)
first_by b y k o p e = grind arith

first_left : (x k : ℕ) (l r : List ℕ) → x ≤ k → first_from x (l ++ k ∷ r) ≡ option_or (first_from x l) (Some k)
first_left x k [] r p = rw (le-ltb k x p)
first_left x k (y ∷ ys) r p = first_by (ltb y x) y k _ _ (first_left x k ys r p)

or_none : (o : Option ℕ) → option_or o None ≡ o
or_none o = grind arith

or_taken : (o : Option ℕ) (k : ℕ) (above : Option ℕ) → option_or o (Some k) ≡ option_or (option_or o (Some k)) above
or_taken o k above = grind arith

first_right : (x k : ℕ) (l r : List ℕ) → k < x → IsRising (l ++ k ∷ r) → first_from x (l ++ k ∷ r) ≡ first_from x r
first_right x k [] r p s = rw (lt-ltb k x p)
first_right x k (y ∷ ys) r p s =
    let q : y < k = all_middle (λ z. y < z) ys k r s.0 in
    rw (lt-ltb y x (omega arith)) (first_right x k ys r p s.1)

-- a search that goes on in one side finds what it would find in the whole
pub finds_right : (x k : ℕ) (all l r : List ℕ) (above found : Option ℕ) → all ≡ l ++ k ∷ r → k < x → IsRising all
    → option_or (first_from x all) above ≡ found → option_or (first_from x r) above ≡ found
finds_right x k all l r above found is p s same = grind (arith, first_right)

pub finds_left : (x k : ℕ) (all l r : List ℕ) (above found : Option ℕ) → all ≡ l ++ k ∷ r → x ≤ k
    → option_or (first_from x all) above ≡ found → option_or (first_from x l) (Some k) ≡ found
finds_left x k all l r above found is p same = grind (arith, or_taken, first_left)

-- what stands before k, where other numbers stand before all
pub around : (b all l : List ℕ) (k : ℕ) (m r : List ℕ) → all ≡ l ++ ((k ∷ m) ++ r) → b ++ all ≡ (b ++ l) ++ k ∷ (m ++ r)
around b all l k m r is = ap (λ z. b ++ z) is ∙ sym (append_assoc b l (k ∷ (m ++ r)))

pub no_next : (ys : List ℕ) → option_or (first_from 0 ys) None ≡ None → ys ≡ []
no_next [] e = refl
no_next (y ∷ ys) e = grind arith

rest_of : (next : ℕ) (ys : List ℕ) → IsRising ys → option_or (first_from 0 ys) None ≡ Some next → ys ≡ next ∷ without_number next ys
rest_of next [] s e = absurd (cc)
rest_of next (y ∷ ys) s e = grind (arith, le-ltb, eq-eqb, without_above)

pub after_only : (x : ℕ) (l b r : List ℕ) (next : Option ℕ) → b ≡ x ∷ [] → IsRising (l ++ (b ++ r)) → next ≡ option_or (first_from 0 r) None
    → MatchOption next (without_number x (l ++ (b ++ r)) ≡ l) (λ n. without_number x (l ++ (b ++ r)) ≡ l ++ n ∷ without_number n r)
after_only x l b r next only s is = grind (arith, without_middle, no_next, append-nil, rest_of, rising_back)

-- what the map answers
abbrev there : ℕ → List ℕ → Option (Unit {0})
there q xs = find nat_cmp q (units xs)

there_put : (x q : ℕ) (xs : List ℕ) → there q (put_number x xs) ≡ cond (eq_by_cmp nat_cmp q x) (Some tt) (there q xs)
there_put x q [] = refl
there_put x q (y ∷ ys) = grind (arith, (there_put x q ys))

there_without : (x q : ℕ) (xs : List ℕ) → there q (without_number x xs) ≡ cond (eq_by_cmp nat_cmp q x) None (there q xs)
there_without x q [] = grind (arith, nat_tests)
there_without x q (y ∷ ys) = grind (arith, (there_without x q ys))

get_map : (xs : List ℕ) (q : ℕ) → get (map_of xs) q ≡ there q xs
get_map xs q = get-from_entries nat_cmp_total (units xs) q

map_put : (x : ℕ) (xs : List ℕ) → map_of (put_number x xs) ≡ insert (map_of xs) x tt
map_put x xs = same_map nat_cmp_total nat_cmp-IsAntisymmetric _ _ (λ q.
    get_map (put_number x xs) q ∙ there_put x q xs
    ∙ ap (cond (eq_by_cmp nat_cmp q x) (Some tt)) (sym (get_map xs q)) ∙ sym (get-insert nat_cmp_total (map_of xs) x tt q))

map_without : (x : ℕ) (xs : List ℕ) → map_of (without_number x xs) ≡ remove (map_of xs) x
map_without x xs = same_map nat_cmp_total nat_cmp-IsAntisymmetric _ _ (λ q.
    get_map (without_number x xs) q ∙ there_without x q xs
    ∙ ap (cond (eq_by_cmp nat_cmp q x) None) (sym (get_map xs q)) ∙ sym (get-remove nat_cmp_total (map_of xs) x q))

unit_some : (o : Option (Unit {0})) → IsSome o → o ≡ Some tt
unit_some o h = grind arith

same_or : (b : Bool) (o : Option (Unit {0})) → (b ≡ true → o ≡ Some tt) → o ≡ cond b (Some tt) o
same_or b o h = grind arith

tied : (q x : ℕ) → eq_by_cmp nat_cmp q x ≡ true → q ≡ x
tied q x e = grind (arith, nat_tests)

-- to put in what is there changes nothing
map_there : (m : FinMap nat_cmp (Unit {0})) (x : ℕ) → IsSome (get m x) → m ≡ insert m x tt
map_there m x h = same_map nat_cmp_total nat_cmp-IsAntisymmetric _ _ (λ q.
    same_or (eq_by_cmp nat_cmp q x) (get m q) (λ e. ap (get m) (tied q x e) ∙ unit_some (get m x) h)
    ∙ sym (get-insert nat_cmp_total m x tt q))

-- where there is no room the number is there, so a put of it changes nothing
pub put_nothing : (m : FinMap nat_cmp (Unit {0})) (x spare : ℕ) → spare ≡ 0 → IsSome (get m x) ⊎ (1 ≤ spare) → m ≡ insert m x tt
put_nothing m x spare none h = grind (arith, map_there)

some_there : (q y : ℕ) (ys : List ℕ) → IsSome (there q (y ∷ ys)) → (q ≡ y) ⊎ IsSome (there q ys)
some_there q y ys h = grind arith

-- the first number from one on is there
first_there : (from : ℕ) (xs : List ℕ) → IfSome (first_from from xs) (λ id. (from ≤ id) × IsSome (there id xs))
first_there from [] = tt
first_there from (y ∷ ys) = grind (arith, (first_there from ys))

-- and no lesser one is
first_least : (from id : ℕ) (xs : List ℕ) → IsRising xs → from ≤ id → IsSome (there id xs)
    → MatchOption (first_from from xs) ⊥ (λ least. least ≤ id)
first_least from id [] s by h = absurd (cc)
first_least from id (y ∷ ys) s by h =
    elim (ltb y from) as (λ b. ltb y from ≡ b → MatchOption (cond b (first_from from ys) (Some y)) ⊥ (λ least. least ≤ id)) [
      | true ↦ λ e. elim (some_there id y ys h) [
        | inl same ↦ let less : y < from = ltb-true y from e in absurd (omega arith)
        | inr i ↦ first_least from id ys s.1 by i
      ]
      | false ↦ λ e. elim (some_there id y ys h) [
        | inl same ↦ omega arith
        | inr i ↦ let less : y < id = there_above y id ys s.0 i in omega arith
      ]
    ] refl
  where
    there_above : (y id : ℕ) (ys : List ℕ) → AllNumbers (λ z. y < z) ys → IsSome (there id ys) → y < id
    there_above y id [] a i = absurd (cc)
    there_above y id (z ∷ zs) a i = elim (some_there id z zs i) [
      | inl same ↦ let less : y < z = a.0 in omega arith
      | inr j ↦ there_above y id zs a.1 j
    ]

-- the same of a map and of an answer that are known by equations
pub there_in : (from : ℕ) (xs : List ℕ) (m : FinMap nat_cmp (Unit {0})) (o : Option ℕ) → map_of xs ≡ m
    → o ≡ option_or (first_from from xs) None
    → IfSome o (λ id. (from ≤ id) × IsSome (get m id))
there_in from xs m o is answer =
    subst (λ p. IfSome p (λ id. (from ≤ id) × IsSome (get m id))) (sym (answer ∙ or_none (first_from from xs)))
    (by (first_from from xs) (first_there from xs))
  where
    by : (p : Option ℕ) → IfSome p (λ id. (from ≤ id) × IsSome (there id xs)) → IfSome p (λ id. (from ≤ id) × IsSome (get m id))
    by None h = tt
    by (Some id) h = (h.0, subst IsSome (sym (get_map xs id) ∙ ap (λ (n : FinMap nat_cmp (Unit {0})). get n id) is) h.1)

pub least_in : (from id : ℕ) (xs : List ℕ) (m : FinMap nat_cmp (Unit {0})) (o : Option ℕ) → map_of xs ≡ m
    → o ≡ option_or (first_from from xs) None
    → IsRising xs → from ≤ id → IsSome (get m id) → MatchOption o ⊥ (λ least. least ≤ id)
least_in from id xs m o is answer s by h = grind (arith, or_none, first_least, get_map)

-- the map that a put or a removal leaves, where the map before is known by an equation
pub put_is : (x : ℕ) (xs ys : List ℕ) (m : FinMap nat_cmp (Unit {0})) → map_of xs ≡ m → ys ≡ put_number x xs → map_of ys ≡ insert m x tt
put_is x xs ys m before is = ap map_of is ∙ map_put x xs ∙ ap (λ (n : FinMap nat_cmp (Unit {0})). insert n x tt) before

pub without_is : (x : ℕ) (xs ys : List ℕ) (m : FinMap nat_cmp (Unit {0})) → map_of xs ≡ m → ys ≡ without_number x xs
    → map_of ys ≡ remove m x
without_is x xs ys m before is = ap map_of is ∙ map_without x xs ∙ ap (λ (n : FinMap nat_cmp (Unit {0})). remove n x) before

pub rising_put_is : (x : ℕ) (xs ys : List ℕ) → ys ≡ put_number x xs → IsRising xs → IsRising ys
rising_put_is x xs ys is s = subst IsRising (sym is) (rising_put x xs s)

pub rising_without_is : (x : ℕ) (xs ys : List ℕ) → ys ≡ without_number x xs → IsRising xs → IsRising ys
rising_without_is x xs ys is s = subst IsRising (sym is) (rising_without x xs s)

-- where as many numbers are left, the one that was to go was not there
without_few : (x : ℕ) (xs : List ℕ) → length (without_number x xs) ≤ length xs
without_few x [] = omega arith
without_few x (y ∷ ys) = grind (arith, (without_few x ys))

without_there : (x : ℕ) (xs : List ℕ) → IsSome (there x xs) → length (without_number x xs) < length xs
without_there x [] h = absurd (cc)
without_there x (y ∷ ys) h =
    elim (eqb x y) as (λ b. eqb x y ≡ b → length (cond b (without_number x ys) (y ∷ without_number x ys)) < length (y ∷ ys)) [
      | true ↦ λ e. omega (arith, without_few x ys)
      | false ↦ λ e. elim (some_there x y ys h) [
        | inl same ↦ let is : eqb x y ≡ true = eq-eqb x y same in absurd (cc)
        | inr i ↦ omega (arith, without_there x ys i)
      ]
    ] refl

pub was_not_there : (x : ℕ) (xs ys : List ℕ) (m : FinMap nat_cmp (Unit {0})) → map_of xs ≡ m → ys ≡ without_number x xs
    → length xs ≡ length ys → IsSome (get m x) → ⊥
was_not_there x xs ys m is left same h = grind (arith, get_map, without_there)
