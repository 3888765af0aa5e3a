-- Answers in steps, each of which may have none.
use Rattle.std.proofs.Common.{◌≡◌, Option, Some, None, option_map, option_and_then, Result, Ok, Err, refl, ap, subst, ◌∙◌}
use Rattle.tsn_records.specs.Answers.{◌>>=◌, or_shape, or_syntax, refused}
use Rattle.tsn_records.specs.declared.unread.Unread.{Unread}

-- one step, and the next
pub then : {A B : Type 0} (x : Result A Unread) (f : A → Result B Unread) (a : A) (y : Result B Unread) → x ≡ Ok a → f a ≡ y → (x >>= f) ≡ y
then x f a y first next = ap (λ r. r >>= f) first ∙ next

-- where two steps have an answer, the first has one
pub steps : {A B P : Type 0} (x : Result A Unread) (f : A → Result B Unread) (b : B) → (x >>= f) ≡ Ok b
    → ((a : A) → x ≡ Ok a → f a ≡ Ok b → P) → P
steps (Ok a) f b h next = next a refl h
steps (Err e) f b h next = cc

-- one answer
pub only : {A : Type 0} (x : Result A Unread) (a b : A) → x ≡ Ok a → x ≡ Ok b → a ≡ b
only x a b p q = cc

-- a last step, whose answer is what is found: what holds of each answer holds of it
pub last_step : {A B : Type 0} (x : Result A Unread) (b : B) (P : B → Type 0) (found : A → B) → (x >>= λ a. Ok (found a)) ≡ Ok b
    → ((a : A) → x ≡ Ok a → P (found a)) → P b
last_step x b P found h holds =
    steps x _ b h (λ a a_is next. subst P (only (Ok (found a)) (found a) b refl next) (holds a a_is))

pub syntax_there : {A : Type 0} (o : Option A) (a : A) → or_syntax o ≡ Ok a → o ≡ Some a
syntax_there None a h = cc
syntax_there (Some b) a h = ap Some (only (Ok b) b a refl h)

pub not_refused : {A : Type 0} (x : Result A Unread) (a : A) → refused x ≡ Ok a → x ≡ Ok a
not_refused (Ok b) a h = cc
not_refused (Err e) a h = cc

-- what is there was seen so
pub mapped_there : {A B : Type 0} (f : A → B) (o : Option A) (b : B) → or_shape (option_map f o) ≡ Ok b → (a : A) × (o ≡ Some a) × (f a ≡ b)
mapped_there f None b h = cc
mapped_there f (Some a) b h = (a, refl, only (Ok (f a)) (f a) b refl h)

-- what there is, and of which value it is
pub there : {D A : Type 0} (f : D → Option A) (value : A → D) → ((d : D) (a : A) → or_shape (f d) ≡ Ok a → d ≡ value a)
    → (o : Option D) (a : A) → or_shape (option_and_then f o) ≡ Ok a → o ≡ Some (value a)
there f value is None a h = cc
there f value is (Some d) a h = ap Some (is d a h)
