use Rattle.std.proofs.Common.{◌≡◌, ◌+◌, Bool, ◌∷◌, [], ◌++◌, cond, refl, sym, ◌∙◌, arith, filter, take}
use Rattle.tsn_entries.specs.declared.entries.MarkedEntry.{MarkedEntry}
use Rattle.tsn_journal.specs.declared.groups.Group.TheVariants.{Of}
use Rattle.tsn_journal.specs.Index.{belongs}
use Rattle.tsn_entries.specs.Marks.{IsTally}
use Rattle.tsn_journal.proofs.Walking.{both_told, one_told, none_told, taken_more}
use Rattle.tsn_journal.proofs.index.tally_own.Goals as goal
use Rattle.tsn_journal.proofs.index.tally_own.Goals.{then-is_own, else-is_own}

pub loop-entry-preserved : goal.loop-entry-preserved
loop-entry-preserved c =
    let xs = c.args.marked.now in
    let i = c.loop-entry.entry-index in
    let x = c.entry-item.result in
    let t : MarkedEntry → Bool = belongs (Of c.args.session) in
    let more : filter t (take (i + 1) xs) ≡ filter t (take i xs)
    ++ cond (t x) (x ∷ []) [] = taken_more t xs i x (omega arith) c.entry-item.is in
    let none : IsTally 0 0 [] = record { count = refl; added = refl } in
    elim c.if-is_own.branch [
      | then-is_own w ↦
          let here = both_told c.loop-entry.entries c.loop-entry.parts _ _ (filter t (take i xs)) _ c.loop-entry.invariant.tally
          (one_told 0 0 [] (t x) x w.added_parts-parts.result none (sym c.is_own.ensures ∙ w.if-is_own.true)
          w.added_parts-parts.ensures.parts) in
          grind arith
      | else-is_own w ↦
          let here = both_told c.loop-entry.entries c.loop-entry.parts _ _ (filter t (take i xs)) _ c.loop-entry.invariant.tally
          (none_told 0 0 [] (t x) x none (sym c.is_own.ensures ∙ w.if-is_own.false)) in
          grind arith
    ]
