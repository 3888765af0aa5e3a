-- What was shown of the inner seats, said of the seats around them.
use Rattle.std.proofs.Common.{◌≡◌, ℕ, zero, suc, List, [], ◌∷◌, map, slice_get, ap, ◌∙◌, refl, Some}
use Rattle.tsn_desk.specs.declared.desk.Seat.{Seat}
use Rattle.tsn_desk.specs.Seats as inner
use Rattle.tsn_desk.specs.Desks.{Closes}

module _ {V W : Type 0} (f : V → W) where
  there : (l : List V) (k : ℕ) (v : V) → slice_get l k ≡ Some v → slice_get (map f l) k ≡ Some (f v)
  there [] k v e = absurd (cc e)
  there (x ∷ l) zero v e = let p : x ≡ v = cc e in ap (λ z. Some (f z)) p
  there (x ∷ l) (suc k) v e = there l k v e

  back : (l : List V) (k : ℕ) (w : W) → slice_get (map f l) k ≡ Some w → (v : V) × (slice_get l k ≡ Some v) × (f v ≡ w)
  back [] k w e = absurd (cc e)
  back (x ∷ l) zero w e = (x, refl, cc e)
  back (x ∷ l) (suc k) w e = back l k w e

pub closes_seats : {M Q A : Type 0} {D : _} (steps : M → Q → A → M → Type 0) (x : M) (seats : List (Seat M Q A D)) (y : M)
    → inner.Closes steps x (map (λ s. s.inner) seats) y → Closes steps x seats y
closes_seats {M} {Q} {A} {D} steps x seats y c = record {
  log = c.log;
  runs = c.runs;
  begins = λ k s e. c.begins k s.inner (there (λ (t : Seat M Q A D). t.inner) seats k s e);
  calls = λ k s e. c.calls k s.inner (there (λ (t : Seat M Q A D). t.inner) seats k s e);
  apart = λ i j s t d e same. c.apart i j s.inner t.inner (there (λ (u : Seat M Q A D). u.inner) seats i s d)
      (there (λ (u : Seat M Q A D). u.inner) seats j t e) same;
  no_other = λ n none_is. c.no_other n (λ k s e. let b = back (λ (t : Seat M Q A D). t.inner) seats k s e in
      λ same. none_is k b.0 b.1 (ap (λ t. inner.number t) b.2 ∙ same));
}
