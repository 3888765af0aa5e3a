-- The change of an entry that was pushed, and what was kept after the changes of several.
use Rattle.std.proofs.Common.{◌≡◌, ℕ, ◌+◌, ◌≤◌, zero, suc, true, false, cond, refl, sym, ◌∙◌, ap, subst, List, [], ◌∷◌, ◌++◌, length, Some, None, arith}
use Rattle.std.specs.Prelude.{◌==◌}
use Rattle.std.specs.Option.{option_and_then}
use Rattle.std.proofs.lemmas.Bool.Decides.{nat_tests}
use Rattle.tsn_edit.specs.Parts.{Change}
use Rattle.tsn_entries.specs.declared.entries.Entry.{Entry}
use Rattle.tsn_entries.specs.declared.entries.What.{What}
use Rattle.tsn_entries.specs.Entries.{Applied, IsNumbered, applies, undone, with_entry}
use Rattle.tsn_entries.specs.Finding.{change_at, entry}
use Rattle.tsn_journal.proofs.Marking.{IsNumbered-with_entry}
use Rattle.tsn_undo.specs.Ledger.{Ledger, enter}
use Rattle.tsn_undo.specs.UndoAll.{with_undone}
use Rattle.tsn_undo.proofs.UndoAll.{length-taken}
use Rattle.tsn_chain.specs.Following.{frames_after, runners_after}
use Rattle.tsn_chain.specs.Instances.{FrameData, Instances, Runners}
use Rattle.tsn_bridge.specs.Together.{Follows, followed, followed_by, undone_by}

-- an entry of another number is found as before
front : (es : List Entry) (w : Entry) (n : ℕ) → (w.number == n) ≡ false → entry (es ++ w ∷ []) n ≡ entry es n
front [] w n other = ap (λ b. cond b (Some w) None) other
front (e ∷ es) w n other = ap (λ o. cond (e.number == n) (Some e) o) (front es w n other)

-- the entry behind numbered ones is found by its number
behind : (k : ℕ) (es : List Entry) (w : Entry) (n : ℕ) → IsNumbered k es → k + length es ≤ n → w.number ≡ n
    → entry (es ++ w ∷ []) n ≡ Some w
behind k [] w n numbered high is = let same : (w.number == n) ≡ true = grind (arith, nat_tests, is) in ap (λ b. cond b (Some w) None) same
behind k (e ∷ es) w n numbered high is =
    let other : (e.number == n) ≡ false = grind (arith, nat_tests, numbered.0, high) in
    ap (λ b. cond b (Some e) (entry (es ++ w ∷ []) n)) other ∙ behind (k + 1) es w n numbered.1 (omega (arith, high)) is

pub pushed : (es : List Entry) (s : ℕ) (w : What) (n : ℕ) → IsNumbered 1 es → n ≡ length es + 1
    → change_at (with_entry es s w) n ≡ applies w
pushed es s w n numbered is = ap (option_and_then (λ e. applies e.what))
    (behind 1 es (record { number = length es + 1; session = s; what = w }) n numbered (omega (arith, is)) (sym is))

stays : (es : List Entry) (s : ℕ) (w : What) (n : ℕ) → n ≤ length es → change_at (with_entry es s w) n ≡ change_at es n
stays es s w n low =
    let other : ((length es + 1) == n) ≡ false = grind (arith, nat_tests, low) in
    ap (option_and_then (λ e. applies e.what)) (front es (record { number = length es + 1; session = s; what = w }) n other)

numbered_undone : (es : List Entry) (s : ℕ) (xs : List Applied) → IsNumbered 1 es → IsNumbered 1 (with_undone es s xs)
numbered_undone es s [] h = h
numbered_undone es s (x ∷ xs) h = IsNumbered-with_entry (with_undone es s xs) s (undone x) (numbered_undone es s xs h)

module _ {A : Type 0} (step : A → Change → A) (a : A) where
  -- entries that come later change nothing of what came before
  before : (es : List Entry) (s : ℕ) (w : What) (n k : ℕ) → n + k ≤ length es
      → followed step (with_entry es s w) a n k ≡ followed step es a n k
  before es s w n zero low = refl
  before es s w n (suc k) low =
      ap (λ b. followed_by step b (change_at (with_entry es s w) (n + k + 1))) (before es s w n k (omega (arith, low)))
      ∙ ap (followed_by step (followed step es a n k)) (stays es s w (n + k + 1) (omega (arith, low)))

  -- the entries that take back xs are followed as that says
  pub followed_undone : (es : List Entry) (s : ℕ) (xs : List Applied) → IsNumbered 1 es
      → followed step (with_undone es s xs) a (length es) (length xs) ≡ undone_by step a xs
  followed_undone es s [] numbered = refl
  followed_undone es s (x ∷ xs) numbered =
      let ws = with_undone es s xs in
      let size : length ws ≡ length es + length xs = length-taken es s xs in
      ap (λ b. followed_by step b (change_at (with_entry ws s (undone x)) (length es + length xs + 1)))
      (before ws s (undone x) (length es) (length xs) (omega (arith, size)) ∙ followed_undone es s xs numbered)
      ∙ ap (followed_by step (undone_by step a xs))
      (pushed ws s (undone x) (length es + length xs + 1) (numbered_undone es s xs numbered) (omega (arith, size)))

-- ---- a runtime whose room grew, and that then followed what was entered

numbered_front : (k : ℕ) (es : List Entry) (w : Entry) → IsNumbered k (es ++ w ∷ []) → IsNumbered k es
numbered_front k [] w h = tt
numbered_front k (e ∷ es) w h = (h.0, numbered_front (k + 1) es w h.1)

-- the one entry more, by its number
entered : (b b' : Ledger) (s : ℕ) (w : What) (number : ℕ) (es : List Entry) → IsNumbered 1 b'.entries → es ≡ b'.entries → b' ≡ enter b s w
    → number ≡ length b.entries + 1 → change_at es number ≡ applies w
entered b b' s w number es numbered same after is =
    let left : b'.entries ≡ with_entry b.entries s w = ap (λ (c : Ledger). c.entries) after in
    ap (λ xs. change_at xs number) (same ∙ left)
    ∙ pushed b.entries s w number (numbered_front 1 b.entries _ (subst (IsNumbered 1) left numbered)) is

-- the runtime followed the one entry that the book made, with its change
pub record FollowsEntry (b b' : Ledger) (s : ℕ) (w : What) (e : Change) (t t' : Instances) : Type 0 where
  pub after : b' ≡ enter b s w
  pub runners : t'.runners ≡ runners_after t.runners e
  pub frames : t'.frames ≡ frames_after t.time t.frames e
  pub time : t'.time ≡ t.time

-- and so did what contracts see of it
pub follows : {b b' : Ledger} {s : ℕ} {w : What} {e : Change} {t t' : Instances} → FollowsEntry b b' s w e t t'
    → Follows (record { ledger = b; time = t.time; frames = t.frames }) e (record { ledger = b'; time = t'.time; frames = t'.frames })
follows f = record { frames = f.frames; time = f.time }

-- the runtime followed the taking back of all of xs, the last of them first
pub record FollowsUndone (xs : List Applied) (t t' : Instances) : Type 0 where
  pub runners : t'.runners ≡ undone_by runners_after t.runners xs
  pub frames : t'.frames ≡ undone_by (frames_after t.time) t.frames xs
  pub time : t'.time ≡ t.time

module _ (old middle new : Instances) (runners : middle.runners ≡ old.runners) (frames : middle.frames ≡ old.frames)
    (time : middle.time ≡ old.time) (still : new.time ≡ middle.time) where
  pub follows_entry : (b b' : Ledger) (s : ℕ) (w : What) (e : Change) (number : ℕ) (es : List Entry) → applies w ≡ Some e
      → IsNumbered 1 b'.entries → es ≡ b'.entries → b' ≡ enter b s w → number ≡ length b.entries + 1
      → new.runners ≡ followed_by runners_after middle.runners (change_at es number)
      → new.frames ≡ followed_by (frames_after middle.time) middle.frames (change_at es number) → FollowsEntry b b' s w e old new
  follows_entry b b' s w e number es change numbered same after is r f =
      let there = entered b b' s w number es numbered same after is ∙ change in
      record {
        after = after;
        runners = r ∙ ap (followed_by runners_after middle.runners) there ∙ ap (λ (x : Runners). runners_after x e) runners;
        frames = f ∙ ap (followed_by (frames_after middle.time) middle.frames) there ∙ ap (λ n. frames_after n middle.frames e) time
            ∙ ap (λ (x : FrameData). frames_after old.time x e) frames;
        time = still ∙ time;
      }

  pub follows_each : (es : List Entry) (s first own : ℕ) (xs : List Applied) (now : List Entry) → IsNumbered 1 es
      → now ≡ with_undone es s xs → first ≡ length es → own ≡ length xs
      → new.runners ≡ followed runners_after now middle.runners first own
      → new.frames ≡ followed (frames_after middle.time) now middle.frames first own → FollowsUndone xs old new
  follows_each es s first own xs now numbered is first_is own_is r f = record {
    runners = r ∙ at runners_after middle.runners ∙ ap (λ (x : Runners). undone_by runners_after x xs) runners;
    frames = f ∙ at (frames_after middle.time) middle.frames ∙ ap (λ n. undone_by (frames_after n) middle.frames xs) time
        ∙ ap (λ (x : FrameData). undone_by (frames_after old.time) x xs) frames;
    time = still ∙ time;
  }
    where
      at : {A : Type 0} (step : A → Change → A) (a : A) → followed step now a first own ≡ undone_by step a xs
      at step a = rw (is, first_is, own_is) (followed_undone step a es s xs numbered)
