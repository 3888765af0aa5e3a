-- The chain of digests: what one digest stands for.
use Rattle.std.proofs.Common.{◌≡◌, ◌≢◌, ℕ, Bool, List, [], ◌∷◌, ◌++◌, length, take, refl, sym, ◌∙◌, ap, ◌⊎◌, inl, inr, arith}
use Rattle.std.specs.Prelude.{All}
use Rattle.std.specs.Bool.{Decides}
use Rattle.std.specs.Str.{bytes_eq}
use Rattle.std.proofs.lemmas.List.{append_cancel_left, append_cancel_right, take_at}
use Rattle.std.proofs.lemmas.List.Elements.{All-head, All-tail}
use Rattle.std.proofs.lemmas.Slice.Eq.{bytes_eq-Decides}
use Rattle.tsn_recorded.specs.Collisions.{Collision}
use Rattle.tsn_recorded.specs.Text.{Recorded, IsRecorded, body_of, digest_after, digest_of, last_digest, text_of}
use Rattle.tsn_recorded.proofs.Digests.{length-digest_after}
use Rattle.tsn_recorded.proofs.Readings.{same_body, text_of-digest}
use Rattle.tsn_recorded.proofs.Splitting.{same_fronts}

told : (b : Bool) (xs ys : List ℕ) → Decides b (xs ≡ ys) → (xs ≡ ys) ⊎ (xs ≢ ys)
told b xs ys d = grind arith

same_or_not : (xs ys : List ℕ) → (xs ≡ ys) ⊎ (xs ≢ ys)
same_or_not xs ys = told (bytes_eq xs ys) xs ys (bytes_eq-Decides xs ys)

-- one digest is that of one text, or of two that collide
pub same_text : (xs ys : List ℕ) → digest_of xs ≡ digest_of ys → (xs ≡ ys) ⊎ Collision
same_text xs ys e = elim (same_or_not xs ys) [
  | inl same ↦ inl same
  | inr differ ↦ inr (record { one = xs; other = ys; differ = differ; same = e })
]

pub same_behind : (last other body : List ℕ) → digest_after last body ≡ digest_after other body → (last ≡ other) ⊎ Collision
same_behind last other body e = grind (arith, same_text, append_cancel_right)

-- a line stands behind one digest
pub stands_once : (last other : List ℕ) (r : Recorded) → text_of last r ≡ text_of other r → (last ≡ other) ⊎ Collision
stands_once last other r e = same_behind last other (body_of r) (sym (text_of-digest last r) ∙ ap (take 32) e ∙ text_of-digest other r)

-- a digest behind a digest is that of one recorded command
pub is_unchanged : (last : List ℕ) (r q : Recorded) → IsRecorded r → IsRecorded q
    → digest_after last (body_of r) ≡ digest_after last (body_of q) → (r ≡ q) ⊎ Collision
is_unchanged last r q isr isq e = grind (arith, same_text, same_body, append_cancel_left)

same_start : (xs ys us vs : List ℕ) → length xs ≡ length us → xs ++ ys ≡ us ++ vs → xs ≡ us
same_start xs ys us vs size e = sym (take_at xs ys (length xs) refl) ∙ ap (take (length xs)) e ∙ take_at us vs (length xs) (sym size)

same_cons : (r q : Recorded) (rs qs : List Recorded) → r ≡ q → rs ≡ qs → r ∷ rs ≡ q ∷ qs
same_cons r q rs qs e f = cc

-- the last digest is that of one list of so many recorded commands
pub same_records : (last other : List ℕ) (rs qs : List Recorded) → length last ≡ length other → length rs ≡ length qs → All IsRecorded rs
    → All IsRecorded qs
    → last_digest last rs ≡ last_digest other qs → ((last ≡ other) × (rs ≡ qs)) ⊎ Collision
same_records last other [] [] size count isr isq e = inl (e, refl)
same_records last other [] (q ∷ qs) size count isr isq e = absurd (omega arith)
same_records last other (r ∷ rs) [] size count isr isq e = absurd (omega arith)
same_records last other (r ∷ rs) (q ∷ qs) size count isr isq e =
    let sizes = length-digest_after last (body_of r) ∙ sym (length-digest_after other (body_of q)) in
    let counts : length rs ≡ length qs = omega arith in
    elim (same_records (digest_after last (body_of r)) (digest_after other (body_of q)) rs qs sizes counts (All-tail IsRecorded r rs isr)
    (All-tail IsRecorded q qs isq) e) [
      | inr c ↦ inr c
      | inl later ↦ elim (same_text (last ++ body_of r) (other ++ body_of q) later.0) [
        | inr c ↦ inr c
        | inl same ↦ inl (
          same_start last (body_of r) other (body_of q) size same,
          same_cons r q rs qs (same_body r q (All-head IsRecorded r rs isr) (All-head IsRecorded q qs isq)
              (same_fronts last (body_of r) other (body_of q) size same)) later.1,
        )
      ]
    ]
