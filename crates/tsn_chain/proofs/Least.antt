-- The first row that passes a test is the one of the least number, and the filters of a configuration are its table's.
use Rattle.std.proofs.Common.{◌≡◌, ℕ, Bool, cond, List, [], ◌∷◌, refl, sym, ◌∙◌, ap, Option, Some, None, arith}
use Rattle.std.specs.Prelude.{◌&&◌, ◌||◌}
use Rattle.std.specs.Option.{option_map}
use Rattle.std.specs.Ordering.{nat_cmp, eq_by_cmp}
use Rattle.std.specs.Cmp.{nat_cmp_total}
use Rattle.std.specs.FinMap.{FinMap, get, find, entries, entries_sorted, get-entries, get-from_entries, same_map, nat_cmp-IsAntisymmetric}
use Rattle.tsn_table.specs.Firsts.{first_id, lesser}
use Rattle.tsn_table.proofs.Firsts.{LeastIn, least_in, first_either}
use Rattle.tsn_table.proofs.Orders.{of_T}
use Rattle.tsn_config.specs.Filters.{is_just, specifies}
use Rattle.tsn_types.specs.declared.keys.Key.{Key}
use Rattle.tsn_types.specs.declared.keys.Key.TheVariants.{Port, Filter, Gate, Meter}
use Rattle.tsn_types.specs.declared.records.Record.{Record}
use Rattle.tsn_types.specs.declared.records.Record.TheVariants as records
use Rattle.tsn_types.specs.declared.records.StreamFilter.{StreamFilter}
use Rattle.tsn_types.specs.Keys.{key_cmp}
use Rattle.tsn_config.specs.Kinds.{filter_of}
use Rattle.tsn_edit.specs.Configuration.{Configuration}
use Rattle.tsn_chain.specs.Chosen.{chosen, is_met, is_matching, IsLeast, filter_rows, filters_of}

in_map : (h q : ℕ) (m : FinMap nat_cmp StreamFilter) (o : Option ℕ) → LeastIn (is_matching h q) (entries m) o → IsLeast h q m o
in_map h q m None all = λ n r is. all n r (sym (get-entries m n) ∙ is)
in_map h q m (Some n) l = ((l.0.0, get-entries m n ∙ l.0.1, l.0.2), λ k lt r is. l.1 k lt r (sym (get-entries m k) ∙ is))

pub least : (handle priority : ℕ) (m : FinMap nat_cmp StreamFilter) → IsLeast handle priority m (chosen handle priority m)
least h q m = in_map h q m (chosen h q m) (least_in (is_matching h q) (entries m) (of_T _ (entries_sorted m)))

-- a specification is met by a number where it is that number or the wildcard
met_alike : (o : Option ℕ) (n : ℕ) → is_met o n ≡ (is_just (Some n) o || is_just None o)
met_alike o n = grind arith

four : (a b c d : Bool) → ((a || b) && (c || d)) ≡ (((a && c) || (a && d)) || ((b && c) || (b && d)))
four a b c d = grind arith

-- a filter matches where its specifications are one of four pairs
matching_alike : (h q : ℕ) (r : StreamFilter)
    → is_matching h q r ≡ ((specifies (Some h) (Some q) r || specifies (Some h) None r)
    || (specifies None (Some q) r || specifies None None r))
matching_alike h q r = rw (met_alike r.handle h, met_alike r.priority q)
    (four (is_just (Some h) r.handle) (is_just None r.handle) (is_just (Some q) r.priority) (is_just None r.priority))

first_alike : (p t : StreamFilter → Bool) → ((r : StreamFilter) → p r ≡ t r) → (es : List (ℕ × StreamFilter))
    → first_id p es ≡ first_id t es
first_alike p t same es = grind arith

-- the chosen filter is the least of the first ones with each of the four pairs
pub chosen_of_four : (h q : ℕ) (m : FinMap nat_cmp StreamFilter)
    → chosen h q m ≡ lesser (lesser (first_id (specifies (Some h) (Some q)) (entries m)) (first_id (specifies (Some h) None) (entries m)))
    (lesser (first_id (specifies None (Some q)) (entries m)) (first_id (specifies None None) (entries m)))
chosen_of_four h q m =
    let sorted = of_T _ (entries_sorted m) in
    let handles = λ (r : StreamFilter). specifies (Some h) (Some q) r || specifies (Some h) None r in
    let wildcards = λ (r : StreamFilter). specifies None (Some q) r || specifies None None r in
    first_alike (is_matching h q) (λ r. handles r || wildcards r) (matching_alike h q) (entries m)
    ∙ first_either handles wildcards (entries m) sorted
    ∙ ap (λ o. lesser o (first_id wildcards (entries m)))
    (first_either (specifies (Some h) (Some q)) (specifies (Some h) None) (entries m) sorted)
    ∙ ap (lesser (lesser (first_id (specifies (Some h) (Some q)) (entries m)) (first_id (specifies (Some h) None) (entries m))))
    (first_either (specifies None (Some q)) (specifies None None) (entries m) sorted)

-- a value that is a filter's record, or none
abbrev IsFilter : Option Record → Type 0
IsFilter None = Unit {0}
IsFilter (Some (records.Filter q)) = Unit {0}
IsFilter (Some r) = ⊥

row_skipped : (n m : ℕ) (r : Record) (es : List (Key × Record)) → (IsFilter (Some r) → ⊥)
    → (IsFilter (find key_cmp (Filter n) es) → find nat_cmp n (filter_rows es) ≡ filter_of (find key_cmp (Filter n) es))
    → IsFilter (cond (eq_by_cmp nat_cmp n m) (Some r) (find key_cmp (Filter n) es))
    → find nat_cmp n (filter_rows es) ≡ filter_of (cond (eq_by_cmp nat_cmp n m) (Some r) (find key_cmp (Filter n) es))
row_skipped n m r es not_so rest h = grind arith

row_of : (q : StreamFilter) (b : Bool) (o : Option StreamFilter) (v : Option Record) → (IsFilter v → o ≡ filter_of v)
    → IsFilter (cond b (Some (records.Filter q)) v)
    → cond b (Some q) o ≡ filter_of (cond b (Some (records.Filter q)) v)
row_of q b o v rest h = grind arith

-- the row of a number among the filters is the record of its key
row_at : (n : ℕ) (es : List (Key × Record)) → IsFilter (find key_cmp (Filter n) es)
    → find nat_cmp n (filter_rows es) ≡ filter_of (find key_cmp (Filter n) es)
row_at n [] h = refl
row_at n ((Port m, r) ∷ es) h = row_at n es h
row_at n ((Filter m, records.Port r) ∷ es) h = row_skipped n m (records.Port r) es (λ x. x) (row_at n es) h
row_at n ((Filter m, records.Filter q) ∷ es) h =
    row_of q (eq_by_cmp nat_cmp n m) (find nat_cmp n (filter_rows es)) (find key_cmp (Filter n) es) (row_at n es) h
row_at n ((Filter m, records.Gate r) ∷ es) h = row_skipped n m (records.Gate r) es (λ x. x) (row_at n es) h
row_at n ((Filter m, records.Meter r) ∷ es) h = row_skipped n m (records.Meter r) es (λ x. x) (row_at n es) h
row_at n ((Gate m, r) ∷ es) h = row_at n es h
row_at n ((Meter m, r) ∷ es) h = row_at n es h

is_filter : (o : Option StreamFilter) (v : Option Record) → option_map records.Filter o ≡ v → IsFilter v
is_filter o v e = grind arith

filter_is : (o : Option StreamFilter) (v : Option Record) → option_map records.Filter o ≡ v → filter_of v ≡ o
filter_is o v e = grind arith

-- a table of the filters of a configuration
pub filters_are : (c : Configuration) (t : FinMap nat_cmp StreamFilter) → ((n : ℕ) → option_map records.Filter (get t n) ≡ get c (Filter n))
    → t ≡ filters_of c
filters_are c t same =
    same_map nat_cmp_total nat_cmp-IsAntisymmetric t (filters_of c)
    (λ n.
    let there : IsFilter (find key_cmp (Filter n) (entries c)) = is_filter (get t n) (find key_cmp (Filter n) (entries c))
    (same n ∙ get-entries c (Filter n)) in
    sym (get-from_entries nat_cmp_total (filter_rows (entries c)) n ∙ row_at n (entries c) there
    ∙ filter_is (get t n) (find key_cmp (Filter n) (entries c)) (same n ∙ get-entries c (Filter n))))
