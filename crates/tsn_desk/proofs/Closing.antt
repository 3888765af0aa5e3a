-- What is known once all seats are joined into one.
use Rattle.std.proofs.Common.{◌≡◌, ℕ, zero, suc, ◌≤◌, ◌≢◌, List, [], ◌∷◌, ◌++◌, length, slice_get, sym, refl, ap, ◌∙◌, subst, ⊎_elim, arith, length-append, Option, Some, None}
use Rattle.std.proofs.lemmas.Bool.Decides.{nat_tests}
use Rattle.std.specs.Prelude.{if◌then◌else◌, ◌==◌}
use mathlib.Core.Option.{some, none, some-injective, some-ne-none}
use lib.ListN.{get_elem?}
use mathlib.Core.Option as maybe
use Rattle.atomic_table.specs.Table.{State, Final, Seen}
use Rattle.atomic_table.specs.declared.shared.Seat.{Seat}
use Rattle.tsn_machine.specs.declared.history.Entry.{Entry}
use Rattle.tsn_desk.specs.declared.history.Calls.{Calls}
use Rattle.tsn_desk.specs.declared.board.View.{View}
use Rattle.tsn_desk.specs.declared.board.Stage.{Stage}
use Rattle.tsn_desk.specs.declared.board.Stage.TheVariants.{Idle}
use Rattle.tsn_machine.specs.History.{Begins, calls_by}
use Rattle.tsn_desk.specs.Rule.{total, Holds, times, AllMade, numbers, Kept}
use Rattle.tsn_desk.specs.Steps.{number_of, made_of}
use Rattle.tsn_desk.specs.Seats.{seen, number, made, Closes}
use Rattle.tsn_machine.proofs.Begin.{begins_trans}
use Rattle.tsn_desk.proofs.Totals.{total_at, total_two, total_below, one_there}
use Rattle.tsn_desk.proofs.Parts.{times-append}

-- where one has all of g, it has all of what is at most g
total_only : {V : Type 0} (f g : V → ℕ) (l : List V) (i : ℕ) (v : V) → ((u : V) → f u ≤ g u) → get_elem? l i ≡ some v → total g l ≡ g v
    → total f l ≡ f v
total_only f g [] i v le e t = absurd (some-ne-none v (sym e))
total_only f g (x ∷ xs) zero v le e t =
    let a : f x ≡ f v = ap f (some-injective x v e) in let b : g x ≡ g v = ap g (some-injective x v e) in let r = total_below f g xs le in
    omega arith
total_only f g (x ∷ xs) (suc i) v le e t =
    let a = total_at g xs i v e in let b = le x in let r = total_only f g xs i v le e (omega arith) in omega arith

module _ {Q A : Type 0} where
  made_left : (log : List (Entry Q A)) (a b : List (Calls Q A)) → AllMade log (a ++ b) → AllMade log a
  made_left log [] b h = tt
  made_left log (c ∷ cs) b h = (h.0, made_left log cs b h.1)

  made_right : (log : List (Entry Q A)) (a b : List (Calls Q A)) → AllMade log (a ++ b) → AllMade log b
  made_right log [] b h = h
  made_right log (c ∷ cs) b h = made_right log cs b h.1

  one_made : (log : List (Entry Q A)) (cs : List (Calls Q A)) → length cs ≡ 1 → AllMade log cs → calls_by (number_of cs) log ≡ made_of cs
  one_made log [] one h = absurd (omega arith)
  one_made log (c ∷ cs) one h = h.0

  one_times : (cs : List (Calls Q A)) → length cs ≡ 1 → 1 ≤ times (number_of cs) cs
  one_times [] one = absurd (omega arith)
  one_times (c ∷ cs) one = grind (arith, nat_tests)

  one_not : (n : ℕ) (cs : List (Calls Q A)) → length cs ≡ 1 → number_of cs ≢ n → times n cs ≡ 0
  one_not n [] one ne = refl
  one_not n (c ∷ []) one ne = grind (arith, nat_tests)
  one_not n (c ∷ d ∷ cs) one ne = absurd (omega arith)

  times_most : (n : ℕ) (cs : List (Calls Q A)) → times n cs ≤ length cs
  times_most n [] = omega arith
  times_most n (c ∷ cs) = let r = times_most n cs in let o : (if c.number == n then 1 else 0) ≤ 1 = grind (arith, nat_tests) in omega arith

module _ {M Q A : Type 0} where
  abbrev pub all_calls : List (Seat (Option M) (View M Q A)) → List (Calls Q A)
  all_calls [] = []
  all_calls (s ∷ ss) = s.me.0.calls ++ all_calls ss

  abbrev pub AllBegin : List (Seat (Option M) (View M Q A)) → List (Entry Q A) → Type 0
  AllBegin [] log = Unit {0}
  AllBegin (s ∷ ss) log = Begins (seen s) log × AllBegin ss log

  abbrev pub AllOne : List (Seat (Option M) (View M Q A)) → Type 0
  AllOne [] = Unit {0}
  AllOne (s ∷ ss) = (length s.me.0.calls ≡ 1) × AllOne ss

  pub AllBegin-more : (ss : List (Seat (Option M) (View M Q A))) (xs ys : List (Entry Q A)) → Begins xs ys → AllBegin ss xs → AllBegin ss ys
  AllBegin-more [] xs ys p h = tt
  AllBegin-more (s ∷ ss) xs ys p h = (begins_trans (seen s) xs ys h.0 p, AllBegin-more ss xs ys p h.1)

  begins_at : (ss : List (Seat (Option M) (View M Q A))) (log : List (Entry Q A)) → AllBegin ss log
      → (k : ℕ) (s : Seat (Option M) (View M Q A)) → slice_get ss k ≡ Some s → Begins (seen s) log
  begins_at [] log h k s e = absurd (cc e)
  begins_at (z ∷ ss) log h zero s e =
      let F : Seat (Option M) (View M Q A) → Type 0 = λ u. Begins (seen u) log in let p : z ≡ s = cc e in subst F p h.0
  begins_at (z ∷ ss) log h (suc k) s e = begins_at ss log h.1 k s e

  length-all_calls : (ss : List (Seat (Option M) (View M Q A))) → AllOne ss → length (all_calls ss) ≡ length ss
  length-all_calls [] h = refl
  length-all_calls (s ∷ ss) h =
      let r = length-all_calls ss h.1 in let l = length-append s.me.0.calls (all_calls ss) in let o = h.0 in omega arith

  calls_at : (ss : List (Seat (Option M) (View M Q A))) (log : List (Entry Q A)) → AllOne ss → AllMade log (all_calls ss)
      → (k : ℕ) (s : Seat (Option M) (View M Q A)) → slice_get ss k ≡ Some s → calls_by (number s) log ≡ made s
  calls_at [] log o h k s e = absurd (cc e)
  calls_at (z ∷ ss) log o h zero s e = let F : Seat (Option M) (View M Q A) → Type 0 = λ u. calls_by (number u) log ≡ made u in
      let p : z ≡ s = cc e in subst F p (one_made log z.me.0.calls o.0 (made_left log z.me.0.calls (all_calls ss) h))
  calls_at (z ∷ ss) log o h (suc k) s e = calls_at ss log o.1 (made_right log z.me.0.calls (all_calls ss) h) k s e

  none_called : (n : ℕ) (ss : List (Seat (Option M) (View M Q A))) → AllOne ss
      → ((k : ℕ) (s : Seat (Option M) (View M Q A)) → slice_get ss k ≡ Some s → number s ≢ n) → times n (all_calls ss) ≡ 0
  none_called n [] o h = refl
  none_called n (s ∷ ss) o h =
      let r = none_called n ss o.1 (λ k u e. h (suc k) u e) in let a = times-append n s.me.0.calls (all_calls ss) in
      let b = one_not n s.me.0.calls o.0 (h zero s refl) in omega arith

  has_times : (ss : List (Seat (Option M) (View M Q A))) → AllOne ss → (j : ℕ) (t : Seat (Option M) (View M Q A)) → slice_get ss j ≡ Some t
      → 1 ≤ times (number t) (all_calls ss)
  has_times [] o j t e = absurd (cc e)
  has_times (z ∷ ss) o zero t e = let F : Seat (Option M) (View M Q A) → Type 0 = λ u. 1 ≤ times (number u) (all_calls (z ∷ ss)) in
      let p : z ≡ t = cc e in let a = one_times z.me.0.calls o.0 in let b = times-append (number z) z.me.0.calls (all_calls ss) in
      subst F p (omega arith)
  has_times (z ∷ ss) o (suc j) t e =
      let r = has_times ss o.1 j t e in let b = times-append (number t) z.me.0.calls (all_calls ss) in omega arith

  twice : (z : Seat (Option M) (View M Q A)) (ss : List (Seat (Option M) (View M Q A))) → AllOne (z ∷ ss)
      → ((n : ℕ) → times n (all_calls (z ∷ ss)) ≤ 1)
      → (j : ℕ) (s t : Seat (Option M) (View M Q A)) → Some z ≡ Some s → slice_get ss j ≡ Some t → number s ≡ number t → ⊥
  twice z ss o once j s t d e same =
      let p : z ≡ s = cc d in
      let q : number z ≡ number t = ap number p ∙ same in
      let a : 1 ≤ times (number t) z.me.0.calls = (let F : ℕ → Type 0 = λ n. 1 ≤ times n z.me.0.calls in
      subst F q (one_times z.me.0.calls o.0)) in
      let b = has_times ss o.1 j t e in
      let c = once (number t) in
      let l = times-append (number t) z.me.0.calls (all_calls ss) in omega arith

  apart_in : (ss : List (Seat (Option M) (View M Q A))) → AllOne ss → ((n : ℕ) → times n (all_calls ss) ≤ 1)
      → (i j : ℕ) (s t : Seat (Option M) (View M Q A)) → slice_get ss i ≡ Some s → slice_get ss j ≡ Some t → number s ≡ number t → i ≡ j
  apart_in [] o once i j s t d e same = absurd (cc d)
  apart_in (z ∷ ss) o once zero zero s t d e same = refl
  apart_in (z ∷ ss) o once zero (suc j) s t d e same = absurd (twice z ss o once j s t d e same)
  apart_in (z ∷ ss) o once (suc i) zero s t d e same = absurd (twice z ss o once i t s e d (sym same))
  apart_in (z ∷ ss) o once (suc i) (suc j) s t d e same =
      ap suc (apart_in ss o.1 (λ n. let a = once n in let b = times-append n z.me.0.calls (all_calls ss) in omega arith) i j s t d e same)

  pub closes : (steps : M → Q → A → M → Type 0) (x : M) (n : ℕ) (s : State (Option M) (View M Q A)) → Kept steps x n s
      → (id : ℕ) (v : View M Q A) → get_elem? s.views id ≡ some v → v.stage ≡ Idle
      → (ss : List (Seat (Option M) (View M Q A))) → v.calls ≡ all_calls ss → AllOne ss → AllBegin ss v.seen → length ss ≡ n
      → (y : M) × (s.homes ≡ some (Some y) ∷ []) × Closes steps x ss y
  closes steps x n s k id v at idle ss calls_are one begin count =
      let known = k.each_seat id v at in
      let whole : length v.calls ≡ n = ap (λ (c : List (Calls Q A)). length c) calls_are ∙ (length-all_calls ss one ∙ count) in
      let all : total numbers s.views ≡ numbers v = k.all_numbers ∙ sym whole in
      let made_all : AllMade k.log (all_calls ss) = (let F : List (Calls Q A) → Type 0 = λ c. AllMade k.log c in
      subst F calls_are known.made) in
      ⊎_elim
      (λ h. (
        h.0,
        h.1,
        record {
          log = k.log;
          runs = h.2;
          begins = begins_at ss k.log (AllBegin-more ss v.seen k.log known.seen begin);
          calls = calls_at ss k.log one made_all;
          apart = apart_in ss one (λ m. let a = total_at (λ (u : View M Q A). times m u.calls) s.views id v at in let b = k.once m in
              let c : times m v.calls ≡ times m (all_calls ss) = ap (times m) calls_are in omega arith);
          no_other = λ m none_is. k.unmade m
              (total_only (λ (u : View M Q A). times m u.calls) numbers s.views id v (λ (u : View M Q A). times_most m u.calls) at all
              ∙ (ap (times m) calls_are ∙ none_called m ss one none_is));
        },
      ))
      (λ h. let u : View M Q A = h.1 in
      let holds : Holds u.stage (length k.log) = (let F : Stage → Type 0 = λ z. Holds z (length k.log) in subst F (sym h.3) refl) in
      let some_number = (k.each_seat h.0 u h.2).active (length k.log) holds in
      let ne : id ≢ h.0 = (λ e. let one_view : u ≡ v = one_there s.views id h.0 u v (sym e) h.2 at in
      absurd (cc (sym h.3 ∙ (ap (λ (z : View M Q A). z.stage) one_view ∙ idle)))) in
      let two = total_two numbers s.views id h.0 v u ne at h.2 in absurd (omega arith))
      k.slot

  pub closing : (steps : M → Q → A → M → Type 0) (x : M) (n id : ℕ) (v : View M Q A) (words : List ℕ) (slots : List (Option M))
      → Final (Seen (Kept steps x n) id v) words slots → v.stage ≡ Idle
      → (ss : List (Seat (Option M) (View M Q A))) → v.calls ≡ all_calls ss → AllOne ss → AllBegin ss v.seen → length ss ≡ n
      → (y : M) × (get_elem? slots 0 ≡ some (Some y)) × Closes steps x ss y
  closing steps x n id v words slots f idle ss calls one begin count =
      let c = closes steps x n f.0 f.1.0 id v f.1.1 idle ss calls one begin count in
      (c.0, f.4 0 (Some c.0) (ap (λ (hs : List (maybe.Option (Option M))). get_elem? hs 0) c.1), c.2)

  pub same_machine : (steps : M → Q → A → M → Type 0) (x y z : M) (ss : List (Seat (Option M) (View M Q A))) → y ≡ z → Closes steps x ss y
      → Closes steps x ss z
  same_machine steps x y z ss e c = let F : M → Type 0 = λ m. Closes steps x ss m in subst F e c

module _ {V : Type 0} where
  pub slice_get_front : (xs ys : List V) (k : ℕ) (s : V) → slice_get xs k ≡ Some s → slice_get (xs ++ ys) k ≡ Some s
  slice_get_front [] ys k s e = absurd (cc e)
  slice_get_front (x ∷ xs) ys zero s e = e
  slice_get_front (x ∷ xs) ys (suc k) s e = slice_get_front xs ys k s e

  pub slice_get_last : (xs : List V) (y : V) → slice_get (xs ++ y ∷ []) (length xs) ≡ Some y
  slice_get_last [] y = refl
  slice_get_last (x ∷ xs) y = slice_get_last xs y

  pub no_length : (xs : List V) → length xs ≡ 0 → xs ≡ []
  no_length [] e = refl
  no_length (x ∷ xs) e = absurd (omega arith)

  pub Some_same : (x y : V) → Some x ≡ Some y → x ≡ y
  Some_same x y e = cc e

  pub None_Some : (x : V) → None ≡ Some x → ⊥
  None_Some x e = absurd (cc e)
