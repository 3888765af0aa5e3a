use Rattle.std.proofs.Common.{◌≡◌, ◌+◌, ◌<◌, ◌≤◌, ◌⊎◌, inl, inr, refl, sym, arith, length}
use Rattle.tsn_journal.proofs.Marking.{found_number, no_number}
use Rattle.tsn_journal.proofs.finding.at.Goals as goal

pub returns-in-Some : goal.returns-in-Some
returns-in-Some c =
    let place : c.in-Some.place + 1 ≡ c.args.number = c.in-Some.ensures.some.0 in
    sym (found_number 1 c.in-Some.place c.args.number c.args.marked.now c.index-marked-place.result c.requires (omega arith)
    c.in-Some.ensures.some.1 c.index-marked-place.is)

pub returns-in-None : goal.returns-in-None
returns-in-None c =
    let out : (c.args.number < 1) ⊎ (1 + length c.args.marked.now ≤ c.args.number) =
    elim (c.in-None.ensures.none refl) [ inl zero' ↦ inl (omega arith) | inr above ↦ inr (omega arith) ] in
    sym (no_number 1 c.args.number c.args.marked.now c.requires out)
