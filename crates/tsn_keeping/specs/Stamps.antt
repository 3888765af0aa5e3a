-- What a stamp is.
use Rattle.std.specs.Prelude.{◌≡◌, ◌≢◌, ℕ, List, All, length}

-- 20 bytes, none of which is a space or a line feed
pub record IsStamp (bytes : List ℕ) : Type 0 where
  pub count : length bytes ≡ 20
  pub word : All (λ b. (b ≢ 32) × (b ≢ 10)) bytes
