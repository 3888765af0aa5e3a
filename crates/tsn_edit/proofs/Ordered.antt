-- The causes of an edit stand in the order of their numbers, so its least is its first, and a batch is refused by the least of those.
use Rattle.std.proofs.Common.{◌≡◌, ◌≤◌, ℕ, refl, sym, ◌∙◌, ap, subst, arith, List, [], ◌∷◌, Option, map}
use Rattle.std.specs.Prelude.{Bool, ◌&&◌, not, flat_map, is_none, is_some, find, option_map}
use Rattle.std.specs.FinMap.{get, entries}
use Rattle.tsn_types.specs.declared.keys.Key.{Key}
use Rattle.tsn_types.specs.declared.records.Record.{Record}
use Rattle.tsn_types.specs.declared.limits.Limits.{Limits}
use Rattle.tsn_types.specs.declared.refusals.Field.TheVariants.{Key as KeyField}
use Rattle.tsn_types.specs.declared.refusals.Refusal.{Refusal}
use Rattle.tsn_types.specs.declared.refusals.Refusal.TheVariants.{Shape, Range, Missing, Exists, Dangling, Referred}
use Rattle.tsn_types.specs.Keys.{has, refs}
use Rattle.tsn_types.specs.Limits.{first_cause, holds_key, out_of_limits, unless}
use Rattle.tsn_types.specs.Refusals.{least, lesser}
use Rattle.tsn_types.proofs.Ordered.{AreAtMost, AtMost, Is, IsOrdered, causes_of, first-most, is_either, is_unless, least-ordered, least-append, lesser-most}
use Rattle.tsn_edit.specs.declared.Edit.{Edit}
use Rattle.tsn_edit.specs.declared.Edit.TheVariants.{Create, Replace, Remove}
use Rattle.tsn_edit.specs.Configuration.{Configuration}
use Rattle.tsn_edit.specs.Batches.{causes, edited_keys, referrer_beside, refusal, result}
use Rattle.tsn_edit.specs.Edits.{dangling, is_of_kind, is_port}

limited : (l : Limits) (r : Record) → Is 4 (out_of_limits l r)
limited l r = grind arith

absent : (test : Key → Bool) (qs : List Key) → Is 8 (first_cause (map (λ q. unless (test q) (Dangling q)) qs))
absent test [] = tt
absent test (q ∷ qs) = is_either 8 (unless (test q) (Dangling q)) (first_cause (map (λ q. unless (test q) (Dangling q)) qs))
    (is_unless (test q) (Dangling q)) (absent test qs)

named : (o : Option (Key × Record)) → Is 9 (option_map (λ e. Referred e.0) o)
named o = grind arith

named_beside : (test : Key × Record → Bool) (es : List (Key × Record)) → Is 9 (option_map (λ e. Referred e.0) (find test es))
named_beside test es = named (find test es)

-- the causes of an edit that puts a record, with their numbers: of what is at its key the cause is o
abbrev numbered_put : Limits → Configuration → List Edit → Key → Record → ℕ → Option Refusal → List (ℕ × Option Refusal)
numbered_put l c b k r n o = (3, unless (is_of_kind k r) Shape) ∷ (4, unless (holds_key l k) (Range KeyField)) ∷ (4, out_of_limits l r)
    ∷ (n, o) ∷ (8, dangling (result c b) r) ∷ []

-- the causes of one edit of a batch, with their numbers
abbrev numbered_of : Limits → Configuration → List Edit → Edit → List (ℕ × Option Refusal)
numbered_of l c b (Create k r) = numbered_put l c b k r 7 (unless (is_none (get c k)) (Exists k))
numbered_of l c b (Replace k r) = numbered_put l c b k r 6 (unless (is_some (get c k)) (Missing k))
numbered_of l c b (Remove k) = (3, unless (not (is_port k)) Shape) ∷ (4, unless (holds_key l k) (Range KeyField))
    ∷ (6, unless (is_some (get c k)) (Missing k)) ∷ (9, referrer_beside c b k) ∷ []

ordered_put : (l : Limits) (c : Configuration) (b : List Edit) (k : Key) (r : Record) (n : ℕ) (o : Option Refusal) → 4 ≤ n → n ≤ 8 → Is n o
    → IsOrdered 0 (numbered_put l c b k r n o)
ordered_put l c b k r n o low high is = (
  omega arith,
  is_unless _ Shape,
  (
    omega arith,
    is_unless _ (Range KeyField),
    (omega arith, limited l r, (low, is, (high, absent (λ q. is_some (get (result c b) q)) (refs r), tt))),
  ),
)

ordered_of : (l : Limits) (c : Configuration) (b : List Edit) (edit : Edit) → IsOrdered 0 (numbered_of l c b edit)
ordered_of l c b (Create k r) = ordered_put l c b k r 7 _ (omega arith) (omega arith) (is_unless (is_none (get c k)) (Exists k))
ordered_of l c b (Replace k r) = ordered_put l c b k r 6 _ (omega arith) (omega arith) (is_unless (is_some (get c k)) (Missing k))
ordered_of l c b (Remove k) = (
  omega arith,
  is_unless _ Shape,
  (
    omega arith,
    is_unless _ (Range KeyField),
    (
      omega arith,
      is_unless _ (Missing k),
      (omega arith, named_beside (λ e. has (refs e.1) k && not (has (edited_keys b) e.0)) (entries c), tt),
    ),
  ),
)

up_to_9_of : (l : Limits) (c : Configuration) (b : List Edit) (edit : Edit) → AreAtMost 9 (numbered_of l c b edit)
up_to_9_of l c b edit = grind arith

same_causes_of : (l : Limits) (c : Configuration) (b : List Edit) (edit : Edit) → causes_of (numbered_of l c b edit) ≡ causes l c b edit
same_causes_of l c b edit = grind arith

-- the least cause of one edit of the batch is its first
abbrev pub own_cause : Limits → Configuration → List Edit → Edit → Option Refusal
own_cause l c b e = first_cause (causes l c b e)

own_first : (l : Limits) (c : Configuration) (b : List Edit) (edit : Edit) → least (causes l c b edit) ≡ own_cause l c b edit
own_first l c b edit = ap least (sym (same_causes_of l c b edit)) ∙ least-ordered (numbered_of l c b edit) (ordered_of l c b edit)
    ∙ ap first_cause (same_causes_of l c b edit)

own_most : (l : Limits) (c : Configuration) (b : List Edit) (edit : Edit) → AtMost 9 (own_cause l c b edit)
own_most l c b edit = subst (λ cs. AtMost 9 (first_cause cs)) (same_causes_of l c b edit)
    (first-most 9 0 (numbered_of l c b edit) (ordered_of l c b edit) (up_to_9_of l c b edit))

least_each : {A : Type 0} (f : A → List (Option Refusal)) (g : A → Option Refusal) → ((x : A) → least (f x) ≡ g x) → (xs : List A)
    → least (flat_map f xs) ≡ least (map g xs)
least_each f g h [] = refl
least_each f g h (x ∷ xs) =
    least-append (f x) (flat_map f xs) ∙ ap (λ o. lesser o (least (flat_map f xs))) (h x) ∙ ap (lesser (g x)) (least_each f g h xs)

-- a batch is refused by the least of its edits' first causes
pub batch_refusal-first : (l : Limits) (c : Configuration) (b : List Edit) → refusal l c b ≡ least (map (λ e. own_cause l c b e) b)
batch_refusal-first l c b = least_each (λ e. causes l c b e) (λ e. own_cause l c b e) (own_first l c b) b

least_most : (l : Limits) (c : Configuration) (b es : List Edit) → AtMost 9 (least (map (λ e. own_cause l c b e) es))
least_most l c b [] = tt
least_most l c b (e ∷ es) =
    lesser-most 9 (own_cause l c b e) (least (map (λ e. own_cause l c b e) es)) (own_most l c b e) (least_most l c b es)

-- and by no cause of a number over 9
pub batch_refusal-most : (l : Limits) (c : Configuration) (b : List Edit) → AtMost 9 (refusal l c b)
batch_refusal-most l c b = subst (AtMost 9) (sym (batch_refusal-first l c b)) (least_most l c b b)
