-- Instance data stays tied to the book by all that the book does.
use Rattle.std.proofs.Common.{◌≡◌, ℕ, List, [], ◌∷◌, ◌++◌, Some, refl, sym, subst, append_assoc}
use Rattle.tsn_types.specs.declared.limits.Limits.{Limits}
use Rattle.tsn_edit.specs.Changes.{Fits}
use Rattle.tsn_edit.specs.Configuration.{Configuration, IsWellKept}
use Rattle.tsn_edit.specs.Parts.{Change, inverse}
use Rattle.tsn_entries.specs.declared.entries.What.{What}
use Rattle.tsn_entries.specs.Entries.{Applied, applies, undone}
use Rattle.tsn_entries.specs.Finding.{own_standing}
use Rattle.tsn_undo.specs.Ledger.{Ledger, present}
use Rattle.tsn_undo.specs.Soundness.{IsSound}
use Rattle.tsn_undo.specs.UndoAll.{TakesAllBack, with_undone}
use Rattle.tsn_undo.proofs.UndoAll.{IsTaken, begin_taken, free_of_all, next_taken, taken_to}
use Rattle.tsn_chain.specs.Begun.{begun_frames, begun_runners}
use Rattle.tsn_chain.specs.Following.{frames_after, runners_after}
use Rattle.tsn_chain.specs.Instances.{FrameData, Instances, Runners}
use Rattle.tsn_chain.proofs.FirstRows.{begun_fresh, begun_keys}
use Rattle.tsn_schedule.specs.Stands.{StandsFor}
use Rattle.tsn_schedule.proofs.Keeps.{fresh_stands}
use Rattle.tsn_bridge.specs.Kept.{IsTied}
use Rattle.tsn_bridge.specs.Together.{undone_by}
use Rattle.tsn_bridge.proofs.Following.{followed}
use Rattle.tsn_bridge.proofs.Pushed.{FollowsEntry, FollowsUndone}

-- the runtime's part of what ties it to a book
abbrev pub Ties : Ledger → Instances → Type 0
Ties b t = IsTied b t.runners t.frames

pub tied_entry : {b b' : Ledger} {s : ℕ} {w : What} {e : Change} {t t' : Instances} → FollowsEntry b b' s w e t t' → applies w ≡ Some e
    → Fits b.limits (present b) e → Ties b t → Ties b' t'
tied_entry {b = b} {s = s} {w = w} {e = e} {t = t} f change fits h =
    rw (f.after, f.runners, f.frames) (followed b s w e change t.runners t.frames t.time h fits)

-- ---- all that a session has standing is taken back

module _ (b : Ledger) (s now : ℕ) (r : Runners) (f : FrameData) (h : IsTied b r f) where
  abbrev left : List Applied → Ledger
  left ys = record b { entries = with_undone b.entries s ys }

  tied_left : (xs ys : List Applied) → IsTaken b.limits b.opening b.entries s (xs ++ ys) []
      → IsTied (left ys) (undone_by runners_after r ys) (undone_by (frames_after now) f ys)
  tied_left xs [] t = h
  tied_left xs (y ∷ ys) t =
      let more : IsTaken b.limits b.opening b.entries s ((xs ++ y ∷ []) ++ ys) [] = subst
      (λ zs. IsTaken b.limits b.opening b.entries s zs []) (sym (append_assoc xs (y ∷ []) ys)) t in
      let next = next_taken b.limits b.opening b.entries s xs y ys (taken_to b.limits b.opening b.entries s (xs ++ y ∷ []) ys more) in
      followed (left ys) s (undone y) (inverse y.change) refl (undone_by runners_after r ys) (undone_by (frames_after now) f ys) now
      (tied_left (xs ++ y ∷ []) ys more) (next.step).fits

  pub tied_each : IsSound b.limits b.opening b.entries → (count last : ℕ) (b' : Ledger) → TakesAllBack b s count last b'
      → IsTied (left (own_standing b.entries s)) (undone_by runners_after r (own_standing b.entries s))
      (undone_by (frames_after now) f (own_standing b.entries s))
  tied_each sound count last b' is =
      tied_left [] (own_standing b.entries s) (begin_taken b.limits b.opening b.entries s sound (free_of_all b s is.free).none)

pub tied_all : (b b' : Ledger) (s count last : ℕ) (t t' : Instances) → Ties b t → IsSound b.limits b.opening b.entries
    → TakesAllBack b s count last b' → FollowsUndone (own_standing b.entries s) t t' → Ties b' t'
tied_all b b' s count last t t' h sound is f =
    rw (is.after, f.runners, f.frames) (tied_each b s t.time t.runners t.frames h sound count last b' is)

-- ---- at the beginning nothing was done

pub tied_begun : (l : Limits) (c : Configuration) (b : Ledger) (r : Runners) (f : FrameData) → IsWellKept l c
    → b ≡ record { limits = l; opening = c; entries = [] } → r ≡ begun_runners c → f ≡ begun_frames c → IsTied b r f
tied_begun l c b r f kept is runners frames = rw (is, runners, frames) (record {
  runs = record {
    ports = λ n k there. subst (λ x. StandsFor x []) (sym ((begun_fresh c).ports n k there)) fresh_stands;
    gates = λ n k there. subst (λ x. StandsFor x []) (sym ((begun_fresh c).gates n k there)) fresh_stands;
  };
  keys = begun_keys c l kept;
})
