-- Lines that are entered one after the other with one stamp, and then settled.
use Rattle.std.proofs.Common.{◌≡◌, ℕ, List, [], ◌∷◌, ◌++◌, refl, sym, subst, ◌∙◌, ap, append_assoc}
use Rattle.std.specs.Prelude.{All}
use Rattle.std.proofs.lemmas.List.{append-nil}
use Rattle.std.proofs.lemmas.List.Elements.{All-head, All-tail}
use Rattle.tsn_recorded.specs.Text.{Recorded, IsRecordedAfter}
use Rattle.tsn_keeping.specs.Keeping.{Keeping, HasEntered, with_entered, with_settled}
use Rattle.tsn_keeping.specs.Stamps.{IsStamp}
use Rattle.tsn_keeping.proofs.Entering.{all_settled, one_more}
use Rattle.tsn_keeping.proofs.Stamped.{stamped_fits}
use Rattle.tsn_commit.specs.Lines.{IsLine}
use Rattle.tsn_commit.specs.Resting.{Begins, Rests, commands_of, stamped, with_all}

-- A line with a stamp may be recorded.
pub line_fits : (last stamp line : List ℕ) → IsStamp stamp → IsLine line
    → let r : Recorded = record { stamp = stamp; command = line } in IsRecordedAfter last r
line_fits last stamp line word is = stamped_fits last stamp line word is.free is.short

-- Lines more, each with the stamp.
pub all_more : (had first stamp : List ℕ) (settled others : List Recorded) (lines : List (List ℕ)) (k : Keeping) → IsStamp stamp
    → All IsLine lines
    → HasEntered had first settled others k
    → HasEntered had first settled (others ++ stamped stamp lines) (with_all (stamped stamp lines) k)
all_more had first stamp settled others [] k word all h =
    let P : List Recorded → Type 0 = λ rs. HasEntered had first settled rs k in subst P (sym (append-nil others)) h
all_more had first stamp settled others (line ∷ lines) k word all h =
    let r : Recorded = record { stamp = stamp; command = line } in
    let P : List Recorded → Type 0 = λ rs. HasEntered had first settled rs (with_all (stamped stamp lines) (with_entered r k)) in
    let one = one_more had first settled others k h r (line_fits k.last stamp line word (All-head IsLine line lines all)) in
    subst P (append_assoc others (r ∷ []) (stamped stamp lines))
    (all_more had first stamp settled (others ++ r ∷ []) lines (with_entered r k) word (All-tail IsLine line lines all) one)

commands_of-append : (xs ys : List Recorded) → commands_of (xs ++ ys) ≡ commands_of xs ++ commands_of ys
commands_of-append [] ys = refl
commands_of-append (x ∷ xs) ys = ap (λ ls. x.command ∷ ls) (commands_of-append xs ys)

commands_of-stamped : (stamp : List ℕ) (lines : List (List ℕ)) → commands_of (stamped stamp lines) ≡ lines
commands_of-stamped stamp [] = refl
commands_of-stamped stamp (line ∷ lines) = ap (λ ls. line ∷ ls) (commands_of-stamped stamp lines)

with_all-works : (rs : List Recorded) (k : Keeping) → (with_all rs k).works ≡ k.works
with_all-works [] k = refl
with_all-works (r ∷ rs) k = with_all-works rs (with_entered r k)

-- A keeper at rest that has settled the lines rests with them behind the others.
pub rests_more : (had first stamp : List ℕ) (kept lines : List (List ℕ)) (k new : Keeping) → IsStamp stamp → All IsLine lines
    → Rests had first kept k → new ≡ with_settled (with_all (stamped stamp lines) k) → Rests had first (kept ++ lines) new
rests_more had first stamp kept lines k new word all rests is =
    let rs = rests.recorded in
    let more = stamped stamp lines in
    let P : Keeping → Type 0 = λ k. HasEntered had first (rs ++ more) [] k in
    record {
      works = ap (λ (k : Keeping). k.works) is ∙ (with_all-works more k ∙ rests.works);
      recorded = rs ++ more;
      entered = subst P (sym is) (all_settled had first rs more (with_all more k)
          (all_more had first stamp rs [] lines k word all rests.entered));
      commands = commands_of-append rs more
          ∙ (ap (λ ls. ls ++ commands_of more) rests.commands ∙ ap (λ ls. kept ++ ls) (commands_of-stamped stamp lines));
    }

-- A keeper that nothing was entered into rests with no line.
pub begins_rests : (had first : List ℕ) (k : Keeping) → Begins had first k → Rests had first [] k
begins_rests had first k begins = record {
  works = begins.works;
  recorded = [];
  entered = record {
    kept = begins.kept_is ∙ sym (append-nil had);
    unsettled = begins.none;
    last = begins.last_is;
    recorded = tt;
  };
  commands = refl;
}
