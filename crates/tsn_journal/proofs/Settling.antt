-- The settled edits with one entry more: they stay, but where the entry settles; then those that stood up to its number come to them.
use Rattle.std.proofs.Common.{◌≡◌, ℕ, ◌+◌, ◌<◌, ◌≤◌, Bool, true, false, cond, ◌||◌, not, List, [], ◌∷◌, ◌++◌, refl, sym, ◌∙◌, ap, Option, None, arith}
use Rattle.std.specs.Prelude.{filter, nat_le, option_map}
use Rattle.std.specs.List.{cons_option}
use Rattle.std.proofs.lemmas.Bool.{leb-false}
use Rattle.tsn_edit.specs.Parts.{Change}
use Rattle.tsn_edit.proofs.KeyFacts.{by_bool}
use Rattle.tsn_entries.specs.declared.entries.What.{What}
use Rattle.tsn_entries.specs.declared.entries.What.TheVariants.{Settled}
use Rattle.tsn_entries.specs.declared.entries.Entry.{Entry}
use Rattle.tsn_entries.specs.Entries.{Applied, IsNoSettle, IsNumbered, adds, applied, closes, is_closed, is_settled, settled_edits, standing, takes_back}
use Rattle.tsn_journal.proofs.Numbers.{Rises}

-- ---- an entry that settles none

one_more : (w : What) (x : Entry) → IsNoSettle w → cond (closes w x) (not (takes_back w x)) false ≡ false
one_more w x plain = grind arith

is_settled-push : (x : Entry) (es : List Entry) (e : Entry) → IsNoSettle e.what → is_settled x (es ++ e ∷ []) ≡ is_settled x es
is_settled-push x [] e plain = one_more e.what x plain
is_settled-push x (w ∷ es) e plain = ap (λ b. cond (closes w.what x) (not (takes_back w.what x)) b) (is_settled-push x es e plain)

pub settled_kept : (es : List Entry) (e : Entry) → IsNoSettle e.what → settled_edits (es ++ e ∷ []) ≡ settled_edits es
settled_kept [] e plain = refl
settled_kept (x ∷ es) e plain = (λ i. cons_option (cond (is_settled-push x es e plain i) (applied adds x) None) (settled_kept es e plain i))

-- ---- an entry that settles

pub or_first : (a b : Bool) → (a || b) ≡ false → a ≡ false
or_first a b h = grind arith

pub or_second : (a b : Bool) → (a || b) ≡ false → b ≡ false
or_second a b h = grind arith

behind_open : (x e : Entry) (es : List Entry) → x.number ≤ e.number → is_closed x es ≡ false → is_settled e es ≡ false
behind_open x e [] le open' = refl
behind_open x e (w ∷ es) le open' = grind (arith, behind_open x e es le (or_second (closes w.what x) (is_closed x es) open'))

none_settled : (n : ℕ) (x : Entry) (es : List Entry) → x.number < n → IsNumbered n es → is_closed x es ≡ false → settled_edits es ≡ []
none_settled n x [] lt h open' = refl
none_settled n x (e ∷ es) lt h open' =
    let at : e.number ≡ n = h.0 in
    let rest = or_second (closes e.what x) (is_closed x es) open' in
    (λ i. cons_option (cond (behind_open x e es (omega arith) rest i) (applied adds e) None)
    (none_settled (n + 1) x es (omega arith) h.1 rest i))

-- an entry that is closed already stays as it is
closed_stays : (x : Entry) (es : List Entry) (e : Entry) → is_closed x es ≡ true → is_settled x (es ++ e ∷ []) ≡ is_settled x es
closed_stays x [] e h = (cc)
closed_stays x (w ∷ es) e h = by_bool (closes w.what x)
    (λ here. ap (λ b. cond b (not (takes_back w.what x)) (is_settled x (es ++ e ∷ []))) here
    ∙ sym (ap (λ b. cond b (not (takes_back w.what x)) (is_settled x es)) here))
    (λ later.
    let rest : is_closed x es ≡ true = ap (λ b. b || is_closed x es) (sym later) ∙ h in
    ap (λ b. cond (closes w.what x) (not (takes_back w.what x)) b) (closed_stays x es e rest))

-- an entry that is open is settled by the new one, or not
open_settled : (x : Entry) (es : List Entry) (e : Entry) (upto : ℕ) → e.what ≡ Settled upto → is_closed x es ≡ false
    → is_settled x (es ++ e ∷ []) ≡ nat_le x.number upto
open_settled x [] e upto is open' = grind arith
open_settled x (w ∷ es) e upto is open' = grind (arith, open_settled x es e upto is (or_second (closes w.what x) (is_closed x es) open'))

cons_front : (o : Option Applied) (xs ys : List Applied) → cons_option o (xs ++ ys) ≡ cons_option o xs ++ ys
cons_front o xs ys = grind arith

-- the first of the standing, settled or not
first_one : (number session : ℕ) (upto : ℕ) (o : Option Change) (xs : List Applied)
    → cons_option (cond (nat_le number upto) (option_map (λ c. record { number = number; session = session; change = c }) o) None)
    (filter (λ (y : Applied). nat_le y.number upto) xs)
    ≡ filter (λ (y : Applied). nat_le y.number upto)
    (cons_option (option_map (λ c. record { number = number; session = session; change = c }) o) xs)
first_one number session upto o xs = grind arith

-- those that stood up to the number come to the settled ones
pub settled_more : (n : ℕ) (es : List Entry) (e : Entry) (upto : ℕ) → e.what ≡ Settled upto → IsNumbered n es
    → settled_edits (es ++ e ∷ []) ≡ settled_edits es ++ filter (λ x. nat_le x.number upto) (standing es)
settled_more n [] e upto is h = refl
settled_more n (x ∷ es) e upto is h =
    grind (arith, closed_stays, cons_front, none_settled, behind_open, open_settled, first_one, settled_more (n + 1) es e upto is h.1)

-- ---- rising numbers up to one, and above it

all_above : (n k : ℕ) (xs : List Applied) → k < n → Rises n xs
    → (filter (λ (x : Applied). nat_le x.number k) xs ≡ []) × (filter (λ (x : Applied). not (nat_le x.number k)) xs ≡ xs)
all_above n k [] lt h = (refl, refl)
all_above n k (x ∷ xs) lt h = grind (arith, all_above (x.number + 1) k xs (omega arith) h.1)

pub split_at : (n k : ℕ) (xs : List Applied) → Rises n xs
    → xs ≡ filter (λ (x : Applied). nat_le x.number k) xs ++ filter (λ (x : Applied). not (nat_le x.number k)) xs
split_at n k [] h = refl
split_at n k (x ∷ xs) h = grind (arith, all_above, leb-false, split_at (x.number + 1) k xs h.1)
