-- Names in the order of their bytes, and what holds of an answer where there is one.
use Rattle.std.proofs.Common.{◌≡◌, ℕ, List, Bool, true, false, cond, Option, Some, None, option_map, option_and_then, IfSome, Ordering, Less, Equal, Greater, nat_cmp, is_eq, bytes_eq, refl, sym, ap, ◌∙◌}
use Rattle.std.specs.Prelude.{⊤}
use Rattle.std.specs.Cmp.Lexicographic.{slice_cmp}
use Rattle.std.specs.Ordering.{match_ordering, ordering_reverse}
use Rattle.std.proofs.lemmas.Cmp.{nat_list_cmp_total}
use Rattle.std.proofs.lemmas.Map.Text.{is_eq-slice_cmp}
use Rattle.std.proofs.lemmas.Slice.Eq.{bytes_eq-Decides}

abbrev pub order : List ℕ → List ℕ → Ordering
order = slice_cmp nat_cmp

pub turned : (k l : List ℕ) → order k l ≡ Greater → order l k ≡ Less
turned k l e = nat_list_cmp_total.antisymm l k ∙ ap ordering_reverse e

pub turned_back : (k l : List ℕ) → order k l ≡ Less → order l k ≡ Greater
turned_back k l e = nat_list_cmp_total.antisymm l k ∙ ap ordering_reverse e

pub same_text : (a b : List ℕ) → bytes_eq a b ≡ true → a ≡ b
same_text a b e = (bytes_eq-Decides a b).0 e

pub same_bytes : (a b : List ℕ) → a ≡ b → bytes_eq a b ≡ true
same_bytes a b e = (bytes_eq-Decides a b).1 e

pub same_name : (k l : List ℕ) → order k l ≡ Equal → k ≡ l
same_name k l e = same_text k l (sym (is_eq-slice_cmp k l) ∙ ap is_eq e)

own_reverse : (o : Ordering) → o ≡ ordering_reverse o → o ≡ Equal
own_reverse Less e = absurd (cc)
own_reverse Equal e = refl
own_reverse Greater e = absurd (cc)

pub same_order : (k : List ℕ) → order k k ≡ Equal
same_order k = own_reverse (order k k) (nat_list_cmp_total.antisymm k k)

-- what holds however two names are ordered
pub at_order : {A : Type 0} (P : A → Type 0) (o : Ordering) (a b c : A) → (o ≡ Less → P a) → (o ≡ Equal → P b) → (o ≡ Greater → P c)
    → P (match_ordering o a b c)
at_order P Less a b c less equal greater = less refl
at_order P Equal a b c less equal greater = equal refl
at_order P Greater a b c less equal greater = greater refl

-- ---- answers that may be none

pub if_map : {A B : Type 0} (P : A → Type 0) (Q : B → Type 0) (f : A → B) → ((a : A) → P a → Q (f a)) → (o : Option A) → IfSome o P
    → IfSome (option_map f o) Q
if_map P Q f more None h = tt
if_map P Q f more (Some a) h = more a h

pub if_and_then : {A B : Type 0} (P : A → Type 0) (Q : B → Type 0) (f : A → Option B) → ((a : A) → P a → IfSome (f a) Q) → (o : Option A)
    → IfSome o P → IfSome (option_and_then f o) Q
if_and_then P Q f more None h = tt
if_and_then P Q f more (Some a) h = more a h

pub if_cond : {A : Type 0} (P : A → Type 0) (b : Bool) (x y : Option A) → IfSome x P → IfSome y P → IfSome (cond b x y) P
if_cond P true x y h g = h
if_cond P false x y h g = g

pub any : {A : Type 0} (o : Option A) → IfSome o (λ _. ⊤)
any None = tt
any (Some a) = tt

-- what is looked for by its name is found here or further on
pub if_found : {A : Type 0} (P : A → Type 0) (o : Ordering) (here : A) (later : Option A) → P here → IfSome later P
    → IfSome (match_ordering o later (Some here) later) P
if_found P Less here later h g = g
if_found P Equal here later h g = h
if_found P Greater here later h g = g
