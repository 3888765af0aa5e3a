-- The names of sessions: those of sessions that were given out, in their order; and as they are told session by session.
use Rattle.std.proofs.Common.{◌≡◌, ℕ, suc, ◌+◌, ◌<◌, ◌≤◌, ◌==◌, Bool, true, false, cond, List, [], ◌∷◌, ◌++◌, Option, Some, None, inl, inr, refl, sym, ◌∙◌, ap, subst, arith, length, bytes_eq}
use Rattle.std.proofs.lemmas.Bool.{cases_Bool, eqb-true}
use Rattle.std.proofs.lemmas.Bool.Decides.{nat_tests}
use Rattle.tsn_entries.specs.declared.entries.Entry.{Entry}
use Rattle.tsn_entries.specs.Finding.{own_standing}
use Rattle.tsn_entries.specs.declared.sessions.GivenSession.{GivenSession}
use Rattle.tsn_bridge.specs.declared.sessions.Named.{Named}
use Rattle.tsn_bridge.specs.Sessions.{given_session, given_to}
use Rattle.tsn_bridge.specs.Names.{AreWithin, name_of, session_of, with_name}
use Rattle.tsn_bridge.specs.Naming.{behind, head_name}

-- ---- within their bounds

within_last : (before last : ℕ) (names : List Named) → AreWithin before names last → before ≤ last
within_last before last [] h = h
within_last before last (x ∷ xs) h = omega (arith, h.0, within_last x.session last xs h.1)

pub within_later : (before last more : ℕ) (names : List Named) → AreWithin before names last → last ≤ more → AreWithin before names more
within_later before last more [] h le = omega (arith, h, le)
within_later before last more (x ∷ xs) h le = (h.0, within_later x.session last more xs h.1 le)

within_push : (before last n : ℕ) (name : List ℕ) (names : List Named) → AreWithin before names last → last < n
    → AreWithin before (names ++ record { session = n; name = name } ∷ []) n
within_push before last n name [] h less = (omega (arith, h, less), omega arith)
within_push before last n name (x ∷ xs) h less = (h.0, within_push x.session last n name xs h.1 less)

-- with one session more
pub within_next : (last : ℕ) (name : Option (List ℕ)) (names : List Named) → AreWithin 0 names last
    → AreWithin 0 (with_name names (last + 1) name) (last + 1)
within_next last None names h = within_later 0 last (last + 1) names h (omega arith)
within_next last (Some name) names h = within_push 0 last (last + 1) name names h (omega arith)

-- a session that goes by a name was given out
pub known_given : (before last n : ℕ) (name : List ℕ) (names : List Named) → AreWithin before names last → session_of names name ≡ Some n
    → (before < n) × (n ≤ last)
known_given before last n name [] h is = absurd (cc)
known_given before last n name (x ∷ xs) h is = elim (cases_Bool (bytes_eq x.name name)) [
  | inl e ↦
      let same : Some x.session ≡ Some n = sym (ap (λ b. cond b (Some x.session) (session_of xs name)) e) ∙ is in
      let at : x.session ≡ n = (cc) in
      (omega (arith, h.0, at), omega (arith, at, within_last x.session last xs h.1))
  | inr e ↦
      let there = known_given x.session last n name xs h.1 (sym (ap (λ b. cond b (Some x.session) (session_of xs name)) e) ∙ is) in
      (omega (arith, h.0, there.0), there.1)
]

-- ---- told session by session

none_before : (before last n : ℕ) (names : List Named) → AreWithin before names last → n ≤ before → name_of names n ≡ None
none_before before last n [] h le = refl
none_before before last n (x ∷ xs) h le =
    let other : (x.session == n) ≡ false = grind (arith, nat_tests, h.0, le) in
    rw other (none_before x.session last n xs h.1 (omega (arith, h.0, le)))

-- these names are left: those of the sessions behind this one
pub record AreLeft (names left : List Named) (before last : ℕ) : Type 0 where
  pub within : AreWithin before left last
  pub same : (n : ℕ) → before < n → name_of names n ≡ name_of left n

head_told : (before last : ℕ) (left : List Named) → AreWithin before left last → head_name left (before + 1) ≡ name_of left (before + 1)
head_told before last [] h = refl
head_told before last (x ∷ xs) h = elim (cases_Bool (x.session == before + 1)) [
  | inl e ↦ rw e refl
  | inr e ↦
      let beyond : before + 1 ≤ x.session = omega (arith, h.0) in
      rw e (sym (none_before x.session last (before + 1) xs h.1 beyond))
]

behind_within : (before last : ℕ) (left : List Named) → AreWithin before left last → before < last
    → AreWithin (before + 1) (behind left (before + 1)) last
behind_within before last [] h less = omega (arith, less)
behind_within before last (x ∷ xs) h less = elim (cases_Bool (x.session == before + 1)) [
  | inl e ↦ rw e (subst (λ b. AreWithin b xs last) (eqb-true x.session (before + 1) e) h.1)
  | inr e ↦ (let beyond : before + 1 < x.session = grind (arith, nat_tests, h.0, e) in rw e (beyond, h.1))
]

behind_same : (before n : ℕ) (left : List Named) → before + 1 < n → name_of left n ≡ name_of (behind left (before + 1)) n
behind_same before n [] less = refl
behind_same before n (x ∷ xs) less = elim (cases_Bool (x.session == before + 1)) [
  | inl e ↦ (let other : (x.session == n) ≡ false = grind (arith, nat_tests, less, eqb-true x.session (before + 1) e) in rw (e, other) refl)
  | inr e ↦ rw e refl
]

module _ (names left : List Named) (before last : ℕ) (h : AreLeft names left before last) where
  pub name_told : head_name left (before + 1) ≡ name_of names (before + 1)
  name_told = head_told before last left h.within ∙ sym (h.same (before + 1) (omega arith))

  pub fewer_left : before < last → AreLeft names (behind left (before + 1)) (before + 1) last
  fewer_left less = record {
    within = behind_within before last left h.within less;
    same = λ n far. h.same n (omega (arith, far)) ∙ behind_same before n left far;
  }

  -- one session more is told
  pub next_told_in : (es : List Entry) (all more : List GivenSession) (name : Option (List ℕ)) (standing : ℕ)
      → all ≡ given_to names es before → name ≡ head_name left (before + 1)
      → standing ≡ length (own_standing es (before + 1)) → more ≡ all ++ record { name = name; session = before + 1; standing = standing }
      ∷ [] → more ≡ given_to names es (before + 1)
  next_told_in es all more name standing told is stands grows =
      let next : before + 1 ≡ suc before = omega arith in
      let named : name ≡ name_of names (before + 1) = is ∙ name_told in
      grows ∙ (λ i. told i ++ record { name = named i; session = before + 1; standing = stands i } ∷ [])
      ∙ (λ i. given_to names es before ++ given_session names es (next i) ∷ []) ∙ ap (given_to names es) (sym next)

pub next_told : {last : ℕ} {left : List Named} (names : List Named) (es : List Entry) (before : ℕ) (all more : List GivenSession)
    (name : Option (List ℕ)) (standing : ℕ)
    → all ≡ given_to names es before → name ≡ head_name left (before + 1) → standing ≡ length (own_standing es (before + 1))
    → more ≡ all ++ record { name = name; session = before + 1; standing = standing }
    ∷ [] → AreLeft names left before last → more ≡ given_to names es (before + 1)
next_told {last} {left} names es before all more name standing told is stands grows h =
    next_told_in names left before last h es all more name standing told is stands grows
