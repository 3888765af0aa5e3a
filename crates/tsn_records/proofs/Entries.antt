-- Reading a list entry by entry.
use Rattle.std.proofs.Common.{◌≡◌, ℕ, ◌+◌, ◌<◌, suc, List, [], ◌∷◌, ◌++◌, map, length, drop, get_or, Result, Ok, Err, refl, ap, sym, ◌∙◌, add-one, append_assoc, append-nil, drop-cons}
use Rattle.serde_json.specs.View.{view, items_view}
use Rattle.serde_json.specs.declared.value.Value.{Value}
use Rattle.tsn_records.specs.Answers.{◌>>=◌, each}
use Rattle.tsn_records.specs.Json.{items_list}
use Rattle.tsn_records.specs.declared.unread.Unread.{Unread}

-- more entries behind these
abbrev pub with_front : {B : Type 0} → List B → Result (List B) Unread → Result (List B) Unread
with_front front rest = rest >>= λ ys. Ok (front ++ ys)

-- the entries of a list of values are those of its data
pub items_of_values : (vs : List Value) → items_list (items_view vs) ≡ map view vs
items_of_values [] = refl
items_of_values (v ∷ vs) = ap (λ ds. view v ∷ ds) (items_of_values vs)

pub first : {A : Type 0} (xs : List A) (i : ℕ) (x : A) → i < length xs → x ≡ get_or xs i x → drop i xs ≡ x ∷ drop (i + 1) xs
first xs i x h e = rw add-one (drop-cons xs i x h ∙ ap (λ y. y ∷ drop (suc i) xs) (sym e))

-- the answers of all, seen in another way ahead of it
pub each_map : {A B C : Type 0} (f : B → Result C Unread) (g : A → B) (xs : List A) → each f (map g xs) ≡ each (λ x. f (g x)) xs
each_map f g [] = refl
each_map f g (x ∷ xs) = ap (λ r. f (g x) >>= λ y. r >>= λ ys. Ok (y ∷ ys)) (each_map f g xs)

front_moves : {B : Type 0} (front : List B) (y : B) (rest : Result (List B) Unread)
    → with_front front (rest >>= λ ys. Ok (y ∷ ys)) ≡ with_front (front ++ y ∷ []) rest
front_moves front y (Ok ys) = ap (λ l. Ok l) (sym (append_assoc front (y ∷ []) ys))
front_moves front y (Err e) = refl

-- one entry more is read
pub reads_on : {A B : Type 0} (f : A → Result B Unread) (front : List B) (x : A) (xs : List A) (y : B) → f x ≡ Ok y
    → with_front (front ++ y ∷ []) (each f xs) ≡ with_front front (each f (x ∷ xs))
reads_on f front x xs y is =
    sym (front_moves front y (each f xs)) ∙ ap (λ r. with_front front (r >>= λ z. each f xs >>= λ zs. Ok (z ∷ zs))) (sym is)

-- an entry is faulty
pub stops : {A B : Type 0} (f : A → Result B Unread) (front : List B) (x : A) (xs : List A) (e : Unread) → f x ≡ Err e
    → with_front front (each f (x ∷ xs)) ≡ Err e
stops f front x xs e is = ap (λ r. with_front front (r >>= λ z. each f xs >>= λ zs. Ok (z ∷ zs))) is

-- nothing is left to read
pub ends : {B : Type 0} (front : List B) → with_front front (Ok []) ≡ Ok front
ends front = ap (λ l. Ok l) (append-nil front)
