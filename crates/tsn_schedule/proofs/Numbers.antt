-- Nominal cycle starts and the one that took place last.
use Rattle.std.proofs.Common.{◌≡◌, ◌<◌, ◌≤◌, ◌+◌, ◌-◌, ◌*◌, ◌/◌, ◌%◌, ℕ, arith}
use Rattle.std.proofs.Math.Nat.{add-mul-mod_self_right, div-add-mod, mul_comm}

-- Going back from m to the grid of cycles through one of its points is the same as from its first.
pub grid : (c j y m : ℕ) → c + j * y ≤ m → m - (m - (c + j * y)) % y ≡ c + (m - c) / y * y
grid c j y m h =
    let split : m - c ≡ (m - (c + j * y)) + j * y = omega arith in
    let same : (m - c) % y ≡ (m - (c + j * y)) % y = rw split (add-mul-mod_self_right (m - (c + j * y)) j y) in
    let parts : y * ((m - c) / y) + (m - c) % y ≡ m - c = div-add-mod (m - c) y in
    let turned : y * ((m - c) / y) ≡ (m - c) / y * y = mul_comm y ((m - c) / y) in
    omega arith

-- k cycles fit up to t exactly where k is at most the quotient.
pub fits : (c k y t : ℕ) → 0 < y → c ≤ t → k ≤ (t - c) / y → c + k * y ≤ t
fits c k y t p h le = grind arith

pub past : (c k y t : ℕ) → 0 < y → c ≤ t → (t - c) / y < k → t < c + k * y
past c k y t p h lt = grind arith

pub quotient_le : (c y a t : ℕ) → 0 < y → c ≤ a → a ≤ t → (a - c) / y ≤ (t - c) / y
quotient_le c y a t p h le = grind arith

-- The points of the grid are in order.
pub nominal_le : (c y i k : ℕ) → i ≤ k → c + i * y ≤ c + k * y
nominal_le c y i k le = grind arith

-- Up to the next point of the grid.
pub round_up : (base y now : ℕ) → 0 < y → base ≤ now → 0 < (now - base) % y
    → now + (y - (now - base) % y) ≡ base + y * ((now - base + (y - 1)) / y)
round_up base y now p h over = grind arith

-- A change comes no earlier than its act.
pub reached : (base y a : ℕ) → 0 < y → a ≤ base + y * ((a - base + (y - 1)) / y)
reached base y a p = grind arith
