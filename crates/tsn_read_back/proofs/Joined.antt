-- Texts one behind another.
use Rattle.std.proofs.Common.{◌≡◌, ℕ, List, ◌++◌, refl, append_assoc}

pub in_three : (a b c more : List ℕ) → a ++ b ++ c ++ more ≡ a ++ (b ++ (c ++ more))
in_three a b c more = simp append_assoc refl

pub in_four : (a b c d more : List ℕ) → a ++ b ++ c ++ d ++ more ≡ a ++ (b ++ (c ++ (d ++ more)))
in_four a b c d more = simp append_assoc refl

pub in_five : (a b c d e more : List ℕ) → a ++ b ++ c ++ d ++ e ++ more ≡ a ++ (b ++ (c ++ (d ++ (e ++ more))))
in_five a b c d e more = simp append_assoc refl

pub in_six : (a b c d e f more : List ℕ) → a ++ b ++ c ++ d ++ e ++ f ++ more ≡ a ++ (b ++ (c ++ (d ++ (e ++ (f ++ more)))))
in_six a b c d e f more = simp append_assoc refl

pub in_seven : (a b c d e f g more : List ℕ) → a ++ b ++ c ++ d ++ e ++ f ++ g ++ more ≡ a ++ (b ++ (c ++ (d ++ (e ++ (f ++ (g ++ more))))))
in_seven a b c d e f g more = simp append_assoc refl

pub in_eight : (a b c d e f g h more : List ℕ)
    → a ++ b ++ c ++ d ++ e ++ f ++ g ++ h ++ more ≡ a ++ (b ++ (c ++ (d ++ (e ++ (f ++ (g ++ (h ++ more)))))))
in_eight a b c d e f g h more = simp append_assoc refl

pub in_ten : (a b c d e f g h i j more : List ℕ)
    → a ++ b ++ c ++ d ++ e ++ f ++ g ++ h ++ i ++ j ++ more ≡ a ++ (b ++ (c ++ (d ++ (e ++ (f ++ (g ++ (h ++ (i ++ (j ++ more)))))))))
in_ten a b c d e f g h i j more = simp append_assoc refl
