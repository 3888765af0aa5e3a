-- Seats are made, cut in two and joined.
use Rattle.std.proofs.Common.{◌≡◌, ℕ, zero, suc, ◌+◌, ◌^◌, ◌<◌, ◌≤◌, ◌≢◌, List, [], ◌∷◌, ◌++◌, length, set, sym, refl, ap, ◌∙◌, subst, ⊎_elim, inl, inr, arith, length-append, Option, Some, max, slice_get}
use Rattle.std.proofs.lemmas.Bool.Decides.{nat_tests}
use Rattle.std.specs.Prelude.{if◌then◌else◌, nat_lt, ◌==◌}
use mathlib.Core.Logic.{dite}
use mathlib.Core.Option.{some, some-injective, some-ne-none}
use native.Mathlib.Decide.{ℕ_discrete}
use lib.ListN.{get_elem?}
use Rattle.atomic_table.specs.Table.{State, Splits, Joins, opening}
use Rattle.atomic_table.proofs.Lists.{set_else, at_snoc, at_longer}
use Rattle.tsn_machine.specs.declared.history.Entry.{Entry}
use Rattle.tsn_desk.specs.declared.history.Calls.{Calls}
use Rattle.tsn_desk.specs.declared.board.View.{View}
use Rattle.tsn_desk.specs.declared.board.Stage.{Stage}
use Rattle.tsn_desk.specs.declared.board.Stage.TheVariants.{Idle}
use Rattle.tsn_desk.specs.Rule.{holding, held_at, total, Holds, numbered, times, AllMade, opening_view, numbers, late, Knows, Kept}
use Rattle.tsn_desk.specs.Steps.{first_calls, rest_calls, joined, spent}
use Rattle.tsn_machine.proofs.Begin.{begins_self}
use Rattle.tsn_desk.proofs.Totals.{total_set, total_snoc, each_set}
use Rattle.tsn_desk.proofs.Keeps.{apart_set, slot_stays}

late_two : (a l m n : ℕ) → l + m ≡ n
    → (if nat_lt (2 ^ 63) a then l else 0) + (if nat_lt (2 ^ 63) a then m else 0) ≡ (if nat_lt (2 ^ 63) a then n else 0)
late_two a l m n e = grind (arith, nat_tests)

late_both : (a b l m : ℕ) → (if nat_lt (2 ^ 63) a then l else 0) + (if nat_lt (2 ^ 63) b then m else 0)
    ≤ (if nat_lt (2 ^ 63) (max a b) then m + l else 0)
late_both a b l m = grind (arith, nat_tests)

module _ {V : Type 0} where
  -- what holds of each place holds with one more at the end
  pub each_snoc : (P : ℕ → V → Type 0) (l : List V) (y : V) → ((k : ℕ) (s : V) → slice_get l k ≡ Some s → P k s) → P (length l) y
      → (k : ℕ) (s : V) → slice_get (l ++ y ∷ []) k ≡ Some s → P k s
  each_snoc P [] y all here zero s e = subst (λ (z : V). P 0 z) (cc e) here
  each_snoc P [] y all here (suc k) s e = absurd (cc e)
  each_snoc P (z ∷ l) y all here zero s e = all zero s e
  each_snoc P (z ∷ l) y all here (suc k) s e =
      each_snoc (λ k s. P (suc k) s) l y (λ k s e. all (suc k) s e) (subst (λ (n : ℕ). P n y) refl here) k s e

module _ {Q A : Type 0} where
  pub times-append : (n : ℕ) (a b : List (Calls Q A)) → times n (a ++ b) ≡ times n a + times n b
  times-append n [] b = omega arith
  times-append n (c ∷ cs) b = let r = times-append n cs b in omega arith

  pub AllMade-append : (log : List (Entry Q A)) (a b : List (Calls Q A)) → AllMade log a → AllMade log b → AllMade log (a ++ b)
  AllMade-append log [] b h k = k
  AllMade-append log (c ∷ cs) b h k = (h.0, AllMade-append log cs b h.1 k)

module _ (Q A : Type 0) where
  one_at : (c : Calls Q A) (n : ℕ) → c.number ≢ n → ◌≡◌ {A = ℕ} (if c.number == n then 1 else 0) 0
  one_at c n ne = grind (arith, nat_tests)

  one_most : (c : Calls Q A) (n : ℕ) → (if c.number == n then 1 else 0) ≤ 1
  one_most c n = grind (arith, nat_tests)

  none_below : (n k m : ℕ) → n < k → times {Q = Q} {A = A} n (numbered k m) ≡ 0
  none_below n k zero h = refl
  none_below n k (suc m) h =
      let r = none_below n (suc k) m (omega arith) in let c : Calls Q A = record { number = k; made = [] } in
      let o = one_at c n (λ e. omega arith) in omega arith

  once_numbered : (n k m : ℕ) → times {Q = Q} {A = A} n (numbered k m) ≤ 1
  once_numbered n k zero = omega arith
  once_numbered n k (suc m) = let c : Calls Q A = record { number = k; made = [] } in
      dite (ℕ_discrete k n)
      (λ e. let r = none_below n (suc k) m (omega arith) in let o = one_most c n in omega arith)
      (λ ne. let r = once_numbered n (suc k) m in let o = one_at c n ne in omega arith)

  length-numbered : (k m : ℕ) → length (numbered {Q = Q} {A = A} k m) ≡ m
  length-numbered k zero = refl
  length-numbered k (suc m) = let r = length-numbered (suc k) m in omega arith

  none_made : (k m : ℕ) → AllMade {Q = Q} {A = A} [] (numbered k m)
  none_made k zero = tt
  none_made k (suc m) = (refl, none_made (suc k) m)

module _ {M Q A : Type 0} (steps : M → Q → A → M → Type 0) (x : M) (seats : ℕ) where
  abbrev V : Type 0
  V = View M Q A

  abbrev St : Type 0
  St = State (Option M) V

  abbrev Rule : St → Type 0
  Rule = Kept steps x seats

  pub opens : seats ≤ 1024 → Rule (opening (0 ∷ 0 ∷ []) (Some x ∷ []) (opening_view x seats))
  opens few = let v : V = opening_view x seats in
      let only : (j : ℕ) (u : V) → get_elem? (v ∷ []) j ≡ some u → (j ≡ 0) × (v ≡ u) = only_one v in
      let counted : total numbers (v ∷ []) ≡ seats = (let l = length-numbered Q A 1 seats in omega arith) in
      record {
        log = [];
        ticket = 0;
        queue = refl;
        words = refl;
        legal = (x, refl);
        slot = inl (x, refl, refl);
        each_seat = λ j u at. let F : V → Type 0 = λ z. Knows x [] 0 (some (Some x) ∷ []) z in subst F (only j u at).1
            record {
              first = λ y e. cc e;
              seen = begins_self [];
              told = begins_self [];
              tickets = omega arith;
              made = none_made Q A 1 seats;
              stage = tt;
              active = λ t h. absurd h;
            };
        apart = λ i j t a b ai bj ha hb. (only i a ai).0 ∙ sym (only j b bj).0;
        few = few;
        all_numbers = counted;
        once = λ n. let o = once_numbered Q A n 1 seats in omega arith;
        unmade = λ n z. refl;
        room = omega arith;
      }
    where
      only_one : (v : V) (j : ℕ) (u : V) → get_elem? (v ∷ []) j ≡ some u → (j ≡ 0) × (v ≡ u)
      only_one v zero u e = (refl, some-injective v u e)
      only_one v (suc j) u e = absurd (some-ne-none u (sym e))

  pub splits : (id : ℕ) (v : V) (a b : List (Calls Q A)) → v.stage ≡ Idle → length a + length b ≡ length v.calls
      → ((n : ℕ) → times n a + times n b ≡ times n v.calls)
      → ((log : List (Entry Q A)) → AllMade log v.calls → AllMade log a × AllMade log b) → Splits Rule id v record v { calls = a } record v
      { calls = b }
  splits id v a b idle as_many as_often apiece s k at =
      let left : V = record v { calls = a } in let right : V = record v { calls = b } in
      let known = k.each_seat id v at in
      let parts = apiece k.log known.made in
      let none_held : (t : ℕ) → Holds v.stage t → ⊥ = λ t h. (let F : Stage → Type 0 = λ z. Holds z t in subst F idle h) in
      let knows : (c : List (Calls Q A)) → AllMade k.log c → Knows x k.log k.ticket s.homes (record v { calls = c }) = λ c m.
      record {
        first = known.first;
        seen = known.seen;
        told = known.told;
        tickets = known.tickets;
        made = m;
        stage = known.stage;
        active = λ t h. absurd (none_held t h);
      } in
      let sum : (f : V → ℕ) → f left + f right ≡ f v → total f (set s.views id left ++ right ∷ []) ≡ total f s.views = λ f e.
      let t = total_set f s.views id v left at in let u = total_snoc f (set s.views id left) right in omega arith in
      let in_set : (i j t : ℕ) (c d : V) → get_elem? (set s.views id left) i ≡ some c → get_elem? (set s.views id left) j ≡ some d
      → Holds c.stage t → Holds d.stage t → i ≡ j =
      apart_set steps x seats s k id left (λ j t u n at' h hu. none_held t h) in
      let right_holds : (t : ℕ) (c : V) → right ≡ c → Holds c.stage t → ⊥ = λ t c e h. (let F : V → Type 0 = λ z. Holds z.stage t in
      none_held t (subst F (sym e) h)) in
      record {
        log = k.log;
        ticket = k.ticket;
        queue = (let e = sum holding (let z : held_at v.stage ≡ 0 = ap held_at idle in omega arith) in let q = k.queue in omega arith);
        words = k.words;
        legal = k.legal;
        slot = ⊎_elim (λ h. inl h) (λ h. inr (h.0, h.1, at_longer (set s.views id left) (right ∷ []) h.0 h.1 h.2, h.3, h.4))
            (slot_stays steps x seats k.log s.homes s.views id v left at (λ h. h) k.slot);
        each_seat = λ j u at'. ⊎_elim
            (λ h. each_set (λ j u. Knows x k.log k.ticket s.homes u) s.views id left (knows a parts.0) (λ j u n at'. k.each_seat j u at') j
            u h)
            (λ h. let F : V → Type 0 = λ z. Knows x k.log k.ticket s.homes z in subst F h (knows b parts.1))
            (at_snoc (set s.views id left) right u j at');
        apart = λ i j t c d ci dj hc hd. ⊎_elim
            (λ p. ⊎_elim (λ q. in_set i j t c d p q hc hd) (λ q. absurd (right_holds t d q hd))
            (at_snoc (set s.views id left) right d j dj))
            (λ p. absurd (right_holds t c p hc))
            (at_snoc (set s.views id left) right c i ci);
        few = k.few;
        all_numbers = sum numbers as_many ∙ k.all_numbers;
        once = λ n. let e = sum (λ (u : V). times n u.calls) (as_often n) in let o = k.once n in omega arith;
        unmade = λ n z. k.unmade n (sym (sum (λ (u : V). times n u.calls) (as_often n)) ∙ z);
        room = (let e = sum late (late_two v.tickets (length a) (length b) (length v.calls) as_many) in let r = k.room in omega arith);
      }

  pub joins : (id : ℕ) (v : V) (other : ℕ) (w : V) → v.stage ≡ Idle → w.stage ≡ Idle → Joins Rule id v other w (joined v w) spent
  joins id v other w idle idle' s k at apart at' =
      let both : V = joined v w in let gone : V = spent in
      let vs : List V = set s.views id both in
      let at_other : get_elem? s.views other ≡ some w = sym (set_else s.views id other both apart) ∙ at' in
      let known = k.each_seat id v at in
      let known' = k.each_seat other w at_other in
      let none_held : (t : ℕ) → Holds v.stage t → ⊥ = λ t h. (let F : Stage → Type 0 = λ z. Holds z t in subst F idle h) in
      let sum : (f : V → ℕ) → total f (set vs other gone) + f v + f w ≡ total f s.views + f both + f gone = λ f.
      let t = total_set f s.views id v both at in let u = total_set f vs other w gone at' in omega arith in
      let lengths : length both.calls ≡ length w.calls + length v.calls = length-append w.calls v.calls in
      let often : (n : ℕ) → total (λ (u : V). times n u.calls) (set vs other gone) ≡ total (λ (u : V). times n u.calls) s.views = λ n.
      let e = sum (λ (u : V). times n u.calls) in let t = times-append n w.calls v.calls in omega arith in
      let in_first = apart_set steps x seats s k id both (λ j t u n at' h hu. none_held t h) in
      let most : max v.tickets w.tickets ≤ k.ticket = (let a = known.tickets in let b = known'.tickets in omega arith) in
      record {
        log = k.log;
        ticket = k.ticket;
        queue = (let e = sum holding in let q = k.queue in let z : held_at w.stage ≡ 0 = ap held_at idle' in omega arith);
        words = k.words;
        legal = k.legal;
        slot = slot_stays steps x seats k.log s.homes vs other w gone at' (λ h. absurd (cc (idle', h)))
            (slot_stays steps x seats k.log s.homes s.views id v both at (λ h. h) k.slot);
        each_seat = each_set (λ j u. Knows x k.log k.ticket s.homes u) vs other gone
            record {
              first = λ y e. absurd (cc e);
              seen = (k.log, refl);
              told = (k.log, refl);
              tickets = omega arith;
              made = tt;
              stage = tt;
              active = λ t h. absurd h;
            }
            (λ j u n at''. each_set (λ j u. Knows x k.log k.ticket s.homes u) s.views id both
            record {
              first = known.first;
              seen = known.seen;
              told = known'.seen;
              tickets = most;
              made = AllMade-append k.log w.calls v.calls known'.made known.made;
              stage = known.stage;
              active = λ t h. absurd (none_held t h);
            }
            (λ j u n at'. k.each_seat j u at') j u at'');
        apart = λ i j t c d. each_set (λ i c. get_elem? (set vs other gone) j ≡ some d → Holds c.stage t → Holds d.stage t → i ≡ j) vs other
            gone
            (λ _ h _. absurd h)
            (λ i c n ci. each_set (λ j d. Holds c.stage t → Holds d.stage t → i ≡ j) vs other gone (λ _ h. absurd h)
            (λ j d n' dj. in_first i j t c d ci dj) j d)
            i c;
        few = k.few;
        all_numbers = (let e = sum numbers in let a = k.all_numbers in omega arith);
        once = λ n. let e = often n in let o = k.once n in omega arith;
        unmade = λ n z. k.unmade n (sym (often n) ∙ z);
        room = (let e = sum late in let r = k.room in let l = late_both v.tickets w.tickets (length v.calls) (length w.calls) in
            let f : late both ≡ (if nat_lt (2 ^ 63) (max v.tickets w.tickets) then length w.calls + length v.calls else 0) = ap
            (λ (n : ℕ). if nat_lt (2 ^ 63) (max v.tickets w.tickets) then n else 0) lengths in
            let z : late gone ≡ 0 = refl in omega arith);
      }

  pub gives_out : (id : ℕ) (v : V) → v.stage ≡ Idle → Splits Rule id v record v { calls = rest_calls v.calls } record v
      { calls = first_calls v.calls }
  gives_out id v idle = splits id v (rest_calls v.calls) (first_calls v.calls) idle (lengths v.calls) (often v.calls) (apiece v.calls)
    where
      lengths : (cs : List (Calls Q A)) → length (rest_calls cs) + length (first_calls cs) ≡ length cs
      lengths [] = refl
      lengths (c ∷ cs) = omega arith

      often : (cs : List (Calls Q A)) (n : ℕ) → times n (rest_calls cs) + times n (first_calls cs) ≡ times n cs
      often [] n = refl
      often (c ∷ cs) n = omega arith

      apiece : (cs : List (Calls Q A)) (log : List (Entry Q A)) → AllMade log cs
          → AllMade log (rest_calls cs) × AllMade log (first_calls cs)
      apiece [] log h = (tt, tt)
      apiece (c ∷ cs) log h = (h.1, (h.0, tt))

  pub notes : (id : ℕ) (v : V) → v.stage ≡ Idle → Splits Rule id v v record v { calls = [] }
  notes id v idle = splits id v v.calls [] idle (omega arith) (λ n. omega arith) (λ log h. (h, tt))
