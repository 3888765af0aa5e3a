-- The text of a record with a list, and of items with commas between them, piece by piece.
use Rattle.std.proofs.Common.{◌≡◌, ℕ, ◌+◌, ◌<◌, ◌≤◌, ◌++◌, List, [], ◌∷◌, length, take, get_or, map, false, codes, sym, ap, ◌∙◌, append-nil}
use Rattle.std.proofs.lemmas.List.{take_more, take_all}
use Rattle.serde_json.specs.Data.{Data}
use Rattle.serde_json.specs.View.{items_of}
use Rattle.serde_json.specs.Written.{compact_text, items_text}
use Rattle.tsn_encoding.proofs.Pieces.{behind, behind_more, behind_none, behind_closed}
use Rattle.tsn_spelling.specs.Growing.{Grows, GoesOn}
use Rattle.tsn_spelling.proofs.Growing.{none_more, grows_on, pushed, goes_on, moved, as_piece}

-- ---- records

-- a record with a list: its front, the items of the list and what stands behind them
pub record_pieces : {I : Type 0} (f : I → Data) (front end text : List ℕ) (es list : List I) (l0 t0 t1 l2 t2 t3 : List ℕ) → es ≡ list
    → front ++ (items_text false (items_of (map f list)) ++ end) ≡ text → t1 ≡ t0 ++ front
    → GoesOn l0 t1 l2 t2 (items_text false (items_of (map f es))) → t3 ≡ t2 ++ end → GoesOn l0 t0 l2 t3 text
record_pieces f front end text es list l0 t0 t1 l2 t2 t3 e is e1 e2 e3 =
    as_piece l0 t0 l2 t3 _ _ (ap (λ x. front ++ (items_text false (items_of (map f x)) ++ end)) e ∙ is)
    (goes_on l0 t0 l0 t1 l2 t3 _ _ (pushed l0 t0 t1 _ e1) (goes_on l0 t1 l2 t2 l2 t3 _ _ e2 (pushed l2 t2 t3 _ e3)))

-- ---- items

-- no item: room was made, and the bracket is closed
pub no_items : {I : Type 0} (f : I → Data) (l0 t0 l1 t1 t2 : List ℕ) (xs : List I) → xs ≡ [] → l1 ++ t1 ≡ l0 ++ t0 → t2 ≡ t1 ++ codes "]"
    → GoesOn l0 t0 l1 t2 (items_text false (items_of (map f xs)))
no_items f l0 t0 l1 t1 t2 xs e e1 e2 =
    as_piece l0 t0 l1 t2 (codes "]") _ (ap (λ x. items_text false (items_of (map f x))) (sym e))
    (moved l0 t0 l1 t1 l1 t2 _ e1 (pushed l1 t1 t2 _ e2))

-- so far so many items with a comma before each, behind the first
pub record SoFar {I : Type 0} (f : I → Data) (others : List I) (n : ℕ) (l0 t0 l t : List ℕ) : Type 0 where
  pub goes : GoesOn l0 t0 l t (behind f (take n others))
  pub grows : Grows l0 l

pub begun : {I : Type 0} (f : I → Data) (others : List I) (l t : List ℕ) → SoFar f others 0 l t l t
begun f others l t = record {
  goes = as_piece l t l t [] _ (sym (behind_none f)) (record { is = sym (append-nil (l ++ t)) });
  grows = none_more l;
}

pub one_more : {I : Type 0} (f : I → Data) (x d : I) (others : List I) (n : ℕ) (l0 t0 l1 t1 l2 t2 t3 l4 t4 : List ℕ) → n < length others
    → x ≡ get_or others n d → SoFar f others n l0 t0 l1 t1 → l2 ++ t2 ≡ l1 ++ t1 → Grows l1 l2 → t3 ≡ t2 ++ codes ","
    → GoesOn l2 t3 l4 t4 (compact_text (f x)) → Grows l2 l4 → SoFar f others (n + 1) l0 t0 l4 t4
one_more f x d others n l0 t0 l1 t1 l2 t2 t3 l4 t4 within is h e2 g2 e3 e4 g4 =
    let piece = 44 ∷ compact_text (f x) in
    let more : behind f (take (n + 1) others) ≡ behind f (take n others) ++ piece =
    ap (behind f) (take_more others n d within ∙ ap (λ y. take n others ++ y ∷ []) (sym is)) ∙ behind_more f (take n others) x in
    record {
      goes = as_piece l0 t0 l4 t4 _ _ (sym more)
          (goes_on l0 t0 l1 t1 l4 t4 (behind f (take n others)) piece h.goes
          (moved l1 t1 l2 t2 l4 t4 piece e2 (goes_on l2 t2 l2 t3 l4 t4 (codes ",") _ (pushed l2 t2 t3 _ e3) e4)));
      grows = grows_on l0 l1 l4 h.grows (grows_on l1 l2 l4 g2 g4);
    }

pub all_items : {I : Type 0} (f : I → Data) (first : I) (items others : List I) (n : ℕ) (l0 t0 l1 t1 l2 t2 l3 t3 l4 t4 t5 : List ℕ)
    → items ≡ first ∷ others → length others ≤ n → l1 ++ t1 ≡ l0 ++ t0 → GoesOn l1 t1 l2 t2 (compact_text (f first))
    → SoFar f others n l2 t2 l3 t3 → l4 ++ t4 ≡ l3 ++ t3 → t5 ≡ t4 ++ codes "]"
    → GoesOn l0 t0 l4 t5 (items_text false (items_of (map f items)))
all_items f first items others n l0 t0 l1 t1 l2 t2 l3 t3 l4 t4 t5 e all e1 e2 h e4 e5 =
    let whole : compact_text (f first) ++ (behind f (take n others) ++ codes "]") ≡ items_text false (items_of (map f items)) =
    ap (λ xs. compact_text (f first) ++ (behind f xs ++ codes "]")) (take_all n others all)
    ∙ ap (λ l. compact_text (f first) ++ l) (sym (behind_closed f others))
    ∙ ap (λ xs. items_text false (items_of (map f xs))) (sym e) in
    as_piece l0 t0 l4 t5 _ _ whole
    (moved l0 t0 l1 t1 l4 t5 _ e1 (goes_on l1 t1 l2 t2 l4 t5 _ _ e2
    (goes_on l2 t2 l3 t3 l4 t5 _ _ h.goes (moved l3 t3 l4 t4 l4 t5 _ e4 (pushed l4 t4 t5 _ e5)))))
