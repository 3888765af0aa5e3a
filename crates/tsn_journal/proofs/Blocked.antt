-- What blocks a redo, sought in the rows of keys.
use Rattle.std.proofs.Common.{◌≡◌, ℕ, ◌+◌, ◌<◌, Bool, true, false, cond, ◌||◌, ◌&&◌, List, [], ◌∷◌, refl, sym, ◌∙◌, ap, Option, Some, None, arith, get_or, length, take}
use Rattle.std.specs.Prelude.{option_map}
use Rattle.std.specs.Option.{option_or}
use Rattle.tsn_journal.proofs.Newest.{has_key}
use Rattle.tsn_types.specs.declared.keys.Key.{Key}
use Rattle.tsn_types.specs.declared.records.Refs.{Refs}
use Rattle.tsn_types.specs.Keys.{keys_of_refs, refs_of}
use Rattle.tsn_edit.specs.Parts.{Change, Part}
use Rattle.tsn_entries.specs.declared.entries.Entry.{Entry}
use Rattle.tsn_entries.specs.declared.entries.MarkedEntry.{MarkedEntry}
use Rattle.tsn_journal.specs.declared.index.Index.{Index}
use Rattle.tsn_entries.specs.Entries.{applies}
use Rattle.tsn_entries.specs.Finding.{last_where}
use Rattle.tsn_journal.specs.Index.{above, is_on, refers}
use Rattle.tsn_entries.specs.Marks.{entries_of, is_in_conflict, later_of}
use Rattle.tsn_journal.specs.Touched.{CanTell, mentions, newest, referred, some_number, told_on, touched, touches}
use Rattle.tsn_journal.proofs.Sought.{in_conflict, never, on_any, sought_more, take_next}
use Rattle.tsn_journal.proofs.Under.{last_either}

abbrev at : Option MarkedEntry → Option ℕ
at o = option_map (λ m. m.entry.number) o

-- ---- numbers above a number

above_later : (n : ℕ) (x y : Option ℕ) → above n (later_of x y) ≡ later_of (above n x) (above n y)
above_later n x y = grind arith

pub both_later : (n : ℕ) (x y x' y' : Option ℕ) → above n x ≡ above n x' → above n y ≡ above n y'
    → above n (later_of x y) ≡ above n (later_of x' y')
both_later n x y x' y' first second = above_later n x y ∙ (λ i. later_of (first i) (second i)) ∙ sym (above_later n x' y')

-- ---- what the rows tell of one part

one_at : (t : Entry → Bool) (m : MarkedEntry) (o : Option MarkedEntry) (q : Option Entry) → at o ≡ option_map (λ (e : Entry). e.number) q
    → (c : Bool) → at (option_or o (cond c (Some m) None)) ≡ option_map (λ (e : Entry). e.number) (option_or q (cond c (Some m.entry) None))
one_at t m o q is c = grind arith

-- the newest entry, among the marked ones
newest_marked : (t : Entry → Bool) (ms : List MarkedEntry) → at (last_where (λ m. t m.entry) ms) ≡ newest t (entries_of ms)
newest_marked t [] = refl
newest_marked t (m ∷ ms) = one_at t m (last_where (λ x. t x.entry) ms) (last_where t (entries_of ms)) (newest_marked t ms) (t m.entry)

-- whether an entry is on the key, if there is a key
abbrev on_one : Option Key → Option Change → Bool
on_one None o = false
on_one (Some k) o = is_on k o

on_none : (r : Option Key) → on_one r None ≡ false
on_none r = grind arith

on_some : (r : Option Key) (d : Change) → on_one r (Some d) ≡ on_any r d
on_some r d = grind arith

abbrev told_test : Part → Refs → Option Change → Bool
told_test p refs o = (is_on p.key o || refers p.key o) || (on_one refs.first o || on_one refs.second o)

told_is : (p : Part) (refs : Refs) → keys_of_refs refs ≡ refs_of p.before → (o : Option Change)
    → told_test p refs o ≡ is_in_conflict o (p ∷ [])
told_is p refs same o = grind (arith, on_none, on_some, in_conflict)

module _ (ms : List MarkedEntry) (a : Index) (e : Entry) (can : CanTell ms a e) where
  above_touched : (k : Key) → above e.number (some_number (touched a k)) ≡ above e.number
      (at (last_where (λ m. is_on k (applies m.entry.what)) ms))
  above_touched k = grind (arith, newest_marked (touches k) ms)

  above_referred : (k : Key) → touches k e ≡ true
      → above e.number (some_number (referred a k)) ≡ above e.number (at (last_where (λ m. refers k (applies m.entry.what)) ms))
  above_referred k on = can.tells.to k e can.there on can.later ∙ ap (above e.number) (sym (newest_marked (mentions k) ms))

  above_told : (r : Option Key) → above e.number (told_on a r) ≡ above e.number (at (last_where (λ m. on_one r (applies m.entry.what)) ms))
  above_told None = ap (above e.number) (sym (ap at (never ms)))
  above_told (Some k) = above_touched k

  pub part_told : (p : Part) (refs : Refs) → keys_of_refs refs ≡ refs_of p.before → touches p.key e ≡ true
      → above e.number (later_of (later_of (some_number (touched a p.key)) (some_number (referred a p.key)))
      (later_of (told_on a refs.first) (told_on a refs.second)))
      ≡ above e.number (at (last_where (λ m. true && is_in_conflict (applies m.entry.what) (p ∷ [])) ms))
  part_told p refs same on =
      let t1 : MarkedEntry → Bool = λ m. is_on p.key (applies m.entry.what) in
      let t2 : MarkedEntry → Bool = λ m. refers p.key (applies m.entry.what) in
      let t3 : MarkedEntry → Bool = λ m. on_one refs.first (applies m.entry.what) in
      let t4 : MarkedEntry → Bool = λ m. on_one refs.second (applies m.entry.what) in
      both_later e.number _ _ (later_of (at (last_where t1 ms)) (at (last_where t2 ms)))
      (later_of (at (last_where t3 ms)) (at (last_where t4 ms)))
      (both_later e.number _ _ (at (last_where t1 ms)) (at (last_where t2 ms)) (above_touched p.key) (above_referred p.key on))
      (both_later e.number _ _ (at (last_where t3 ms)) (at (last_where t4 ms)) (above_told refs.first) (above_told refs.second))
      ∙ ap (above e.number)
      ((λ i. later_of (sym (last_either t1 t2 1 ms can.numbered) i) (sym (last_either t3 t4 1 ms can.numbered) i))
      ∙ sym (last_either (λ m. t1 m || t2 m) (λ m. t3 m || t4 m) 1 ms can.numbered)
      ∙ ap (λ (t : MarkedEntry → Bool). at (last_where t ms)) (λ i m. told_is p refs same (applies m.entry.what) i))

  -- a part more
  pub next_told : (ps : List Part) (i : ℕ) (p : Part) (latest found next : Option ℕ) → i < length ps → p ≡ get_or ps i p
      → above e.number latest ≡ above e.number (at (last_where (λ m. true && is_in_conflict (applies m.entry.what) (take i ps)) ms))
      → above e.number found ≡ above e.number (at (last_where (λ m. true && is_in_conflict (applies m.entry.what) (p ∷ [])) ms))
      → next ≡ later_of latest found
      → above e.number next ≡ above e.number (at (last_where (λ m. true && is_in_conflict (applies m.entry.what) (take (i + 1) ps)) ms))
  next_told ps i p latest found next short is so_far here then =
      ap (above e.number) then
      ∙ both_later e.number latest found _ _ so_far here
      ∙ ap (above e.number)
      (sought_more (λ m. true) 1 ms (take i ps) (p ∷ []) can.numbered
      ∙ ap (λ (es : Change). at (last_where (λ m. true && is_in_conflict (applies m.entry.what) es) ms)) (sym (take_next ps i p short is)))

-- ---- a change is on the keys of its parts

pub on_part : (ps : List Part) (i : ℕ) (p : Part) (e : Entry) → applies e.what ≡ Some ps → i < length ps → p ≡ get_or ps i p
    → touches p.key e ≡ true
on_part ps i p e is short at' = ap (is_on p.key) is ∙ has_key ps i p short at'
