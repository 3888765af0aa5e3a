-- How far a line feed was sought among bytes.
use Rattle.std.proofs.Common.{◌≡◌, ◌≢◌, ℕ, zero, suc, ◌+◌, ◌-◌, ◌≤◌, List, [], ◌∷◌, ◌++◌, length, take, drop, refl, sym, subst, ◌∙◌, ap, arith}
use Rattle.std.specs.Prelude.{All}
use Rattle.std.proofs.lemmas.List.{drop-drop, drop-take, length-drop, take_all}
use Rattle.std.proofs.lemmas.List.Elements.{All-append, All-drop, All-same}
use Rattle.tsn_recorded.specs.Text.{line_feed}
use Rattle.tsn_recorded.specs.Reading.{IsSought}

take-nil : (k : ℕ) → take k (drop 0 (let none : List ℕ = [] in none)) ≡ []
take-nil k = grind arith

-- a front of so many and of so many more
take_sum : (n k : ℕ) (xs : List ℕ) → take (n + k) xs ≡ take n xs ++ take k (drop n xs)
take_sum zero k xs = let e : 0 + k ≡ k = omega arith in rw e refl
take_sum (suc n) k [] = let e : suc n + k ≡ suc (n + k) = omega arith in rw e (sym (take-nil k))
take_sum (suc n) k (x ∷ xs) = let e : suc n + k ≡ suc (n + k) = omega arith in rw e (ap (λ t. x ∷ t) (take_sum n k xs))

module _ (bytes : List ℕ) (from sought : ℕ) (so : IsSought bytes from sought) where
  -- it was sought further
  pub sought_on : (count : ℕ) → sought + count ≤ length bytes → All (λ b. b ≢ line_feed) (take count (drop sought bytes))
      → IsSought bytes from (sought + count)
  sought_on count within free =
      let order = so.order in
      let width : sought + count - from ≡ (sought - from) + count = omega (arith, order) in
      let place : from + (sought - from) ≡ sought = omega (arith, order) in
      let behind : drop (sought - from) (drop from bytes) ≡ drop sought bytes = drop-drop (sought - from) from bytes
      ∙ ap (λ n. drop n bytes) place in
      let P : ℕ → Type 0 = λ b. b ≢ line_feed in
      let all : take (sought + count - from) (drop from bytes) ≡ take (sought - from) (drop from bytes) ++ take count (drop sought bytes) =
      ap (λ n. take n (drop from bytes)) width ∙ take_sum (sought - from) count (drop from bytes)
      ∙ ap (λ t. take (sought - from) (drop from bytes) ++ take count t) behind in
      record {
        order = omega (arith, order);
        within = within;
        free = All-same P _ _ all (All-append P _ _ so.free free);
      }

  -- as far as the end
  pub sought_all : All (λ b. b ≢ line_feed) (drop sought bytes) → IsSought bytes from (length bytes)
  sought_all free =
      let within = so.within in
      let size = length-drop sought bytes in
      let rest : take (length bytes - sought) (drop sought bytes) ≡ drop sought bytes = take_all (length bytes - sought) (drop sought bytes)
      (omega (arith, size)) in
      let end : sought + (length bytes - sought) ≡ length bytes = omega (arith, within) in
      let P : ℕ → Type 0 = λ n. IsSought bytes from n in
      subst P end (sought_on (length bytes - sought) (omega (arith, end)) (All-same (λ b. b ≢ line_feed) _ _ rest free))

  -- bytes at the front were let go
  pub sought_behind : (count : ℕ) → from + count ≤ sought → IsSought bytes (from + count) sought
  sought_behind count order =
      let within = so.within in
      let width : sought - from ≡ count + (sought - (from + count)) = omega (arith, order) in
      let P : ℕ → Type 0 = λ b. b ≢ line_feed in
      let here : take (sought - (from + count)) (drop (from + count) bytes) ≡ drop count (take (sought - from) (drop from bytes)) =
      sym (ap (λ n. drop count (take n (drop from bytes))) width ∙ drop-take count (sought - (from + count)) (drop from bytes)
      ∙ ap (take (sought - (from + count))) (drop-drop count from bytes)) in
      record {
        order = order;
        within = within;
        free = All-same P _ _ here (All-drop P count _ so.free);
      }
