use Rattle.std.proofs.Common.{◌≡◌, Some, IfOk, nat_eq, ap, subst, sym, ◌∙◌, length, length-append, [], ◌∷◌, ◌++◌, ◌+◌, ◌≤◌, arith}
use Rattle.std.specs.HashMap as hash
use Rattle.std.specs.Map.Iter.{deref_pair}
use Rattle.std.proofs.lemmas.Map.Views.{All-turn}
use Rattle.tsn_table.proofs.Copied.{copied_more}
use Rattle.tsn_table.proofs.Places.{all_found}
use Rattle.tsn_table.proofs.copy_of.Goals as goal

pub loop-id-preserved : goal.loop-id-preserved
loop-id-preserved g c =
    let rows = c.args.rows.now in
    let there : hash.get nat_eq rows c.in-Some.id.now ≡ Some c.in-Some.row.now =
    All-turn deref_pair (λ e. hash.get nat_eq rows e.0 ≡ Some e.1) _ _ _ _ _ _ _ (all_found rows c.iter-id-items.ensures.unique)
    (c.into_iter-id-iterator.ensures.into_iter_gives ∙ c.iter-id-items.ensures.rest) c.loop-id.yielded_by c.in-Some.is
    c.next.ensures.steps in
    let equal : c.in_ok-copy_row.field-0 ≡ c.in-Some.row.now = subst (λ r. IfOk r (λ y. y ≡ c.in-Some.row.now)) c.in_ok-copy_row.was
    (c.requires.equal c.in-Some.row c.copy_row.result c.copy_row.ensures) in
    let more = length-append c.loop-id.yielded ((c.in-Some.id, c.in-Some.row) ∷ []) in
    let before = c.loop-id.invariant.1 in
    let one = c.set_row.ensures.spare in
    let room : length rows.entries ≤ hash.spare c.set_row.new.rows + length
    (c.loop-id.yielded ++ (c.in-Some.id, c.in-Some.row) ∷ []) = omega arith in (
      λ q. copied_more deref_pair c.loop-id.yielded (c.in-Some.id, c.in-Some.row) q c.in_ok-copy_row.field-0 _ _ _ (c.loop-id.invariant.0 q)
          (λ same. ap (λ k. hash.get nat_eq rows k) (sym same) ∙ there ∙ ap Some (sym equal)) (c.set_row.ensures.rows q),
      room,
    )
