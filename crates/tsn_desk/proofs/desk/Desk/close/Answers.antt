use Rattle.std.proofs.Common.{rules, ◌≡◌, ◌++◌, ◌∷◌, [], List, Option, Some, length, map, slice_get, sym, ap, ◌∙◌, subst, append_assoc, arith}
use Rattle.std.proofs.lemmas.List.{append-nil, length-map, map-append}
use Rattle.std.specs.Option.{option_to_list}
use mathlib.Core.Option.{some-injective}
use Rattle.atomic_table.specs.declared.shared.Seat.{Seat}
use Rattle.tsn_desk.specs.declared.board.View.{View}
use Rattle.tsn_desk.proofs.Everywhere.{at_all}
use Rattle.tsn_desk.proofs.Outside.{closes_seats}
use Rattle.tsn_desk.specs.Desks.{IsSeatOf}
use Rattle.tsn_desk.specs.Seats.{seen, first_of, Closes}
use Rattle.tsn_machine.proofs.Begin.{begins_self}
use Rattle.tsn_desk.proofs.Closing.{AllBegin-more, closing, same_machine, slice_get_front, slice_get_last, no_length, Some_same, None_Some}
use Rattle.tsn_desk.proofs.desk.Desk.close.Given.{Over}
use Rattle.tsn_desk.proofs.desk.Desk.close.Goals.{After-take-slot}
use Rattle.tsn_desk.proofs.desk.Desk.close.Goals as goal

pub loop-other-init : goal.loop-other-init
loop-other-init g c =
    let s = c.unwrap.result in
    let own = at_all (λ (t : _). IsSeatOf c.args.self t) c.args.seats.items c.requires.own in
    let rest = c.pop.new.self.items in
    let p = c.pop.ensures.items ∙ ap (λ o. rest ++ option_to_list o) c.unwrap.ensures in
    let at = ap (λ l. slice_get l (length rest)) p ∙ slice_get_last rest s in
    let same = c.into_inner-seat.ensures.same in
    let rests = c.into_inner-seat.ensures.rests in (
      record { own = rw same (own (length rest) s at); empty = rests.0; idle = rests.1 },
      (λ k t h. own k t (ap (λ l. slice_get l k) p ∙ slice_get_front rest (s ∷ []) k t h)),
      (
        c.into_inner-seat.result ∷ [],
        ap (map (λ t. t.inner)) p ∙ (map-append (λ t. t.inner) rest (s ∷ []) ∙ ap (λ t. map (λ t. t.inner) rest ++ t ∷ []) (sym same)),
        sym (append-nil c.into_inner-seat.result.me.0.calls),
        (rests.2, tt),
        (begins_self (seen c.into_inner-seat.result), tt),
      ),
    )

pub gather-requires : goal.gather-requires
gather-requires g c =
    let s = c.in-Some.other in
    let rest = c.pop-in-loop-other.new.self.items in
    let p = c.pop-in-loop-other.ensures.items ∙ ap (λ o. rest ++ option_to_list o) c.in-Some.is in
    let at = ap (λ l. slice_get l (length rest)) p ∙ slice_get_last rest s in
    let rests = c.into_inner-other.ensures.rests in
    record {
      seats = (
        c.loop-other.invariant.0,
        record { own = rw c.into_inner-other.ensures.same (c.loop-other.invariant.1 (length rest) s at); empty = rests.0; idle = rests.1 },
      );
    }

pub loop-other-preserved : goal.loop-other-preserved
loop-other-preserved g c =
    let s = c.in-Some.other in
    let o = c.into_inner-other.result in
    let rest = c.pop-in-loop-other.new.self.items in
    let p = c.pop-in-loop-other.ensures.items ∙ ap (λ l. rest ++ option_to_list l) c.in-Some.is in
    let before = c.loop-other.invariant.2 in
    let gathered = c.gather.ensures in (
      gathered.rests,
      (λ k t h. c.loop-other.invariant.1 k t (ap (λ l. slice_get l k) p ∙ slice_get_front rest (s ∷ []) k t h)),
      (
        o ∷ before.0,
        before.1 ∙ (ap (λ l. map (λ t. t.inner) l ++ before.0) p ∙ (ap (λ l. l ++ before.0) (map-append (λ t. t.inner) rest (s ∷ []))
            ∙ (ap (λ t. (map (λ t. t.inner) rest ++ t ∷ []) ++ before.0) (sym c.into_inner-other.ensures.same)
            ∙ append_assoc (map (λ t. t.inner) rest) (o ∷ []) before.0))),
        gathered.calls ∙ ap (λ l. o.me.0.calls ++ l) before.2,
        (c.into_inner-other.ensures.rests.2, before.3),
        (gathered.learned, AllBegin-more before.0 (seen c.loop-other.seat) (seen c.gather.new.seat) gathered.kept before.4),
      ),
    )

-- the slot has the machine that the turns of all seats leave
ended : (g : Over) (c : After-take-slot g)
    → (machine : g.row.M.Denot) × (c.take-slot.result ≡ Some machine)
    × Closes g.M.Machine.steps (first_of c.args.self.table) (map (λ t. t.inner) c.args.seats.items) machine
ended g c =
    let inv = c.loop-other.invariant in
    let none_left = no_length c.loop-other.seats.items (search rules) in
    let whole = inv.2.1 ∙ ap (λ l. map (λ t. t.inner) l ++ inv.2.0) none_left in
    let all : length c.args.seats.items ≡ c.args.self.table.shared.key.seats = omega arith in
    let count : length inv.2.0 ≡ c.args.self.table.shared.key.seats = sym (ap length whole)
    ∙ (length-map c.args.seats.items (λ t. t.inner) ∙ all) in
    let end = closing g.M.Machine.steps (first_of c.args.self.table) c.args.self.table.shared.key.seats _ _ _ _
    c.close_with-closed.ensures.values.2 inv.0.idle inv.2.0 inv.2.2 inv.2.3 inv.2.4 count in
    let F = λ (l : List (Seat (Option g.row.M.Denot) (View g.row.M.Denot g.row.M-Request.Denot g.row.M-Reply.Denot))). Closes
    g.M.Machine.steps (first_of c.args.self.table) l end.0 in
    (end.0, some-injective _ _ (sym c.take-slot.ensures.value ∙ end.1), subst F (sym whole) end.2)

pub unreachable-requires : goal.unreachable-requires
unreachable-requires g c =
    let end = ended g (goal.at.unreachable-requires g c).After-take-slot in
    None_Some end.0 (sym c.in_default-slot.is ∙ end.1)

pub returns : goal.returns
returns g c =
    let end = ended g (goal.at.returns g c).After-take-slot in
    let steps = g.M.Machine.steps in
    let first = first_of c.args.self.table in
    closes_seats steps first c.args.seats.items c.in-Some-slot.machine
    (same_machine steps first end.0 c.in-Some-slot.machine _
    (Some_same end.0 c.in-Some-slot.machine (sym end.1 ∙ c.in-Some-slot.is)) end.2)
