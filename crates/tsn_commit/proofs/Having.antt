-- Where a line stands in a text.
use Rattle.std.proofs.Common.{ℕ, List, ◌++◌, sym, subst, ◌∙◌, ap}
use Rattle.std.specs.Prelude.{Contains}
use Rattle.std.proofs.lemmas.List.{append-nil}
use Rattle.std.proofs.lemmas.List.Elements.{Contains-append_left}
use Rattle.tsn_recorded.specs.Text.{AreRecordedAfter, text_after}
use Rattle.tsn_keeping.specs.Keeping.{Keeping}
use Rattle.tsn_history.specs.Texts.{BeginsWith}
use Rattle.tsn_commit.specs.Resting.{Begins, KeepsBoth, Rests}

-- What begins with a text that has the line has it.
pub has_more : (text front : List (List ℕ)) (line : List ℕ) → BeginsWith text front → Contains front line → Contains text line
has_more text front line b h =
    let P : List (List ℕ) → Type 0 = λ ls. Contains ls line in
    subst P (sym b.1) (Contains-append_left front b.0 line h)

-- A keeper at rest that began with these bytes, and whose lines have two, keeps both.
pub keeps_both : (had first : List ℕ) (lines : List (List ℕ)) (old k : Keeping) (one other : List ℕ) → Begins had first old
    → Rests had first lines k
    → Contains lines one → Contains lines other → KeepsBoth old.kept old.last k.kept one other
keeps_both had first lines old k one other begins rests has_one has_other =
    let rs = rests.recorded in
    let Q : List ℕ → Type 0 = λ d. AreRecordedAfter d rs in
    record {
      recorded = rs;
      kept_is = rests.entered.kept ∙ (ap (λ h. h ++ text_after first rs) (sym begins.kept_is)
          ∙ ap (λ d. old.kept ++ text_after d rs) (sym begins.last_is));
      well = subst Q (sym begins.last_is) (subst (AreRecordedAfter first) (append-nil rs) rests.entered.recorded);
      has_one = subst (λ (ls : List (List ℕ)). Contains ls one) (sym rests.commands) has_one;
      has_other = subst (λ (ls : List (List ℕ)). Contains ls other) (sym rests.commands) has_other;
    }
