-- The number up to which an entry may be blocked is no greater than it has to be.
use Rattle.std.proofs.Common.{◌≡◌, ℕ, zero, suc, ◌+◌, ◌-◌, ◌<◌, ◌≤◌, ◌⊎◌, inl, inr, Bool, true, cond, List, [], ◌∷◌, ◌++◌, drop, refl, sym, ◌∙◌, ap, subst, Some, None, arith, length, max}
use Rattle.std.proofs.lemmas.Grind.{common_steps}
use Rattle.std.specs.Prelude.{option_map}
use Rattle.std.specs.List.{slice_get}
use Rattle.std.specs.Option.{option_or}
use Rattle.std.proofs.lemmas.List.{length-map}
use Rattle.std.proofs.lemmas.Option.{slice_get-map, slice_get_within, same_Some}
use Rattle.std.proofs.lemmas.Bool.{or_left, or_right}
use Rattle.tsn_types.specs.declared.keys.Key.{Key}
use Rattle.tsn_types.specs.Keys.{has}
use Rattle.tsn_edit.specs.Changes.{keys_of}
use Rattle.tsn_edit.specs.Parts.{Part}
use Rattle.tsn_edit.proofs.KeyFacts.{by_option, has-append, keys_of-append}
use Rattle.tsn_entries.specs.declared.entries.Entry.{Entry}
use Rattle.tsn_entries.specs.declared.entries.What.{What}
use Rattle.tsn_entries.specs.declared.entries.MarkedEntry.{MarkedEntry}
use Rattle.tsn_journal.specs.declared.groups.Group.TheVariants.{On}
use Rattle.tsn_journal.specs.Crossed.{IsFoundOn, IsNeeded, IsRaised, is_on_referred}
use Rattle.tsn_entries.specs.Entries.{IsNumbered, adds, with_entry}
use Rattle.tsn_entries.specs.Finding.{last_where}
use Rattle.tsn_journal.specs.Index.{belongs_to_others, is_on}
use Rattle.tsn_entries.specs.Marks.{entries_of}
use Rattle.tsn_journal.proofs.Grouping.{none_true}
use Rattle.tsn_journal.proofs.Links.{end_at, front_at, none_some, where_at}
use Rattle.tsn_journal.proofs.Newest.{number_at'}

max_of : (a b : ℕ) → (max a b ≡ a) ⊎ (max a b ≡ b)
max_of a b = elim (where_at a b)
    [ inl less ↦ inl (omega arith) | inr rest ↦ elim rest [ inl same ↦ inl (omega arith) | inr more ↦ inr (omega arith) ] ]

-- ---- the last that passes is there, and passes

pub record IsThere (t : MarkedEntry → Bool) (ms : List MarkedEntry) (y : MarkedEntry) : Type 0 where
  pub place : ℕ
  pub at : slice_get ms place ≡ Some y
  pub passes : t y ≡ true

there_in : (t : MarkedEntry → Bool) (ms : List MarkedEntry) (y : MarkedEntry) → last_where t ms ≡ Some y → IsThere t ms y
there_in t [] y h = none_some y h
there_in t (x ∷ ms) y h = by_option (last_where t ms)
    (λ none. grind arith)
    (λ z some.
    let same : z ≡ y = same_Some z y (sym (ap (λ o. option_or o (cond (t x) (Some x) None)) some) ∙ h) in
    let rest = there_in t ms y (some ∙ ap Some same) in
    record { place = suc rest.place; at = rest.at; passes = rest.passes })

there_behind : (t : MarkedEntry → Bool) (n : ℕ) (ms : List MarkedEntry) (y : MarkedEntry) → last_where t (drop n ms) ≡ Some y
    → IsThere t ms y
there_behind t zero ms y h = there_in t ms y h
there_behind t (suc n) [] y h = none_some y h
there_behind t (suc n) (x ∷ ms) y h =
    let rest = there_behind t n ms y h in record { place = suc rest.place; at = rest.at; passes = rest.passes }

pub found_on : (s n before : ℕ) (k : Key) (ms : List MarkedEntry) (y : MarkedEntry) → IsNumbered 1 (entries_of ms)
    → last_where (belongs_to_others (On k) s) (drop before ms) ≡ Some y → n ≡ max y.entry.number before → IsFoundOn before n ms s k
found_on s n before k ms y numbered found is = greater (max_of y.entry.number before)
  where
    greater : ((max y.entry.number before ≡ y.entry.number) ⊎ (max y.entry.number before ≡ before)) → IsFoundOn before n ms s k
    greater (inl own) =
        let there = there_behind (belongs_to_others (On k) s) before ms y found in
        let number : y.entry.number ≡ there.place + 1 = number_at' 1 ms there.place y numbered there.at in
        let e : n - 1 ≡ there.place = omega (arith, is, own, number) in
        inr (record { some = omega (arith, is, own, number); entry = y; at = ap (slice_get ms) e ∙ there.at; passes = there.passes })
    greater (inr old) = inl (is ∙ old)

-- ---- from a key to a change

-- ---- part after part

on_front : (k : Key) (es fs : List Part) → is_on k (Some es) ≡ true → is_on k (Some (es ++ fs)) ≡ true
on_front k es fs h = ap (λ ks. has ks k) (keys_of-append es fs) ∙ has-append (keys_of es) (keys_of fs) k
    ∙ or_left (has (keys_of es) k) (has (keys_of fs) k) h

on_back : (k : Key) (es fs : List Part) → is_on k (Some fs) ≡ true → is_on k (Some (es ++ fs)) ≡ true
on_back k es fs h = ap (λ ks. has ks k) (keys_of-append es fs) ∙ has-append (keys_of es) (keys_of fs) k
    ∙ or_right (has (keys_of es) k) (has (keys_of fs) k) h

referred_front : (es fs : List Part) → is_on_referred (Some es) ≡ true → is_on_referred (Some (es ++ fs)) ≡ true
referred_front es fs h = grind (arith, common_steps, none_true, or_left, or_right)

referred_back : (es fs : List Part) → is_on_referred (Some fs) ≡ true → is_on_referred (Some (es ++ fs)) ≡ true
referred_back es fs h = grind (arith, common_steps, or_right)

wider : (before n s : ℕ) (ms : List MarkedEntry) (es fs : List Part) → IsRaised before n ms s (Some es)
    → IsRaised before n ms s (Some (es ++ fs))
wider before n s ms es fs h = grind (arith, referred_front, on_front)

pub raised_then : (before n k s : ℕ) (ms : List MarkedEntry) (es fs : List Part) → IsRaised before n ms s (Some es)
    → IsRaised n k ms s (Some fs) → IsRaised before k ms s (Some (es ++ fs))
raised_then before n k s ms es fs first h = grind (arith, common_steps, wider, referred_back, on_back)

-- ---- an entry more

entry_at : (ms : List MarkedEntry) (i : ℕ) (m : MarkedEntry) → slice_get ms i ≡ Some m → slice_get (entries_of ms) i ≡ Some m.entry
entry_at ms i m at = slice_get-map (λ (x : MarkedEntry). x.entry) ms i ∙ ap (option_map (λ (x : MarkedEntry). x.entry)) at

module _ (es : List Entry) (w : What) (s : ℕ) where
  abbrev new : Entry
  new = record { number = length es + 1; session = s; what = w }

  still_at : (i : ℕ) (e : Entry) → slice_get es i ≡ Some e → slice_get (with_entry es s w) i ≡ Some e
  still_at i e at = front_at es (new ∷ []) i (slice_get_within es i e at) ∙ at

  pub still_needed : (n : ℕ) → IsNeeded n es → IsNeeded n (with_entry es s w)
  still_needed n h = grind (arith, still_at)

pub needed_pushed : (before n s : ℕ) (ms : List MarkedEntry) (w : What) → IsNeeded before (entries_of ms) → IsRaised before n ms s (adds w)
    → IsNeeded n (with_entry (entries_of ms) s w)
needed_pushed before n s ms w old (inl same) =
    subst (λ i. IsNeeded i (with_entry (entries_of ms) s w)) (sym same) (still_needed (entries_of ms) w s before old)
needed_pushed before n s ms w old (inr (inl own)) =
    let es = entries_of ms in
    let count : length es ≡ length ms = length-map ms (λ (x : MarkedEntry). x.entry) in
    inr (record {
      some = omega (arith, own.0);
      entry = record { number = length es + 1; session = s; what = w };
      at = end_at es _ (n - 1) (omega (arith, own.0, count));
      why = inl own.1;
    })
needed_pushed before n s ms w old (inr (inr o)) =
    let es = entries_of ms in
    let count : length es ≡ length ms = length-map ms (λ (x : MarkedEntry). x.entry) in
    let within : n - 1 < length ms = slice_get_within ms (n - 1) o.entry o.at in
    let positive : 1 ≤ n = o.some in
    inr (record {
      some = o.some;
      entry = o.entry.entry;
      at = still_at es w s (n - 1) o.entry.entry (entry_at ms (n - 1) o.entry o.at);
      why = inr (record {
        later = record { number = length es + 1; session = s; what = w };
        place = length es;
        at = end_at es _ (length es) refl;
        after = omega (arith, within, count, positive);
        other = o.other;
        key = o.key;
        on = o.on;
        later_on = o.later_on;
      });
    })
