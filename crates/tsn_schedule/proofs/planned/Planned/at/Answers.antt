use Rattle.std.proofs.Common.{arith, refl, sym, ◌≡◌, ◌∙◌, ◌-◌, get_or, length}
use Rattle.std.proofs.lemmas.Grind.{common_steps}
use Rattle.std.proofs.lemmas.List.{get_or_default}
use Rattle.std.proofs.lemmas.Option.{slice_get_read}
use Rattle.tsn_schedule.proofs.Begins.{begins_rise, last_begun, only_entry, only_earlier}
use Rattle.tsn_schedule.proofs.planned.Planned.at.Goals as goal

pub begun_by-begun-requires : goal.begun_by-begun-requires
begun_by-begun-requires g c =
    rw c.deref.ensures.value (begins_rise g.E.Timed.interval c.self.inside.schedule.list c.self.inside.begins.items c.self.invariant)

pub returns : goal.returns
returns g c =
    let i = c.self.inside in
    let found = c.begun_by-begun in
    let place = found.result - 1 in
    let at = last_begun g.E.Timed.interval i.schedule.list i.begins.items c.self.invariant c.deref.result.now c.args.offset found.result
    c.deref.ensures.value (omega arith) c.if-begun-eq0.false found.ensures.within found.ensures.begun found.ensures.later in
    let read : c.index-as_slice-place.result ≡ get_or i.schedule.list place c.index-as_slice-place.result = cc in
    record {
      entry = rw (← c.self.view_is)
          (sym (only_entry g.E.Timed.interval i.schedule.list c.args.offset place at
          ∙ slice_get_read i.schedule.list (length i.schedule.list) place c.index-as_slice-place.result refl at.within read));
      earlier = rw (← c.self.view_is)
          (c.index.ensures
          ∙ get_or_default i.begins.items place c.index.result.now 0 (omega arith)
          ∙ c.self.invariant.each place (omega arith)
          ∙ sym (only_earlier g.E.Timed.interval i.schedule.list c.args.offset place at));
      within = grind (arith, common_steps);
    }
