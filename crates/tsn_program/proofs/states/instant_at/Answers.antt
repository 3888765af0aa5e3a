use Rattle.std.proofs.Common.{rules, arith, ◌+◌, ◌*◌, ◌^◌, ◌≤◌}
use Rattle.tsn_program.proofs.Listing.{within}
use Rattle.tsn_program.proofs.states.instant_at.Goals as goal

pub overflow_mul-listing : goal.overflow_mul-listing
overflow_mul-listing c =
    let x = c.args.listing.now in
    let bound : x.from + x.step * c.args.place ≤ 2 ^ 62 = within x.from x.step x.count c.args.place _ c.requires.place c.requires.last in
    omega (arith, bound)

pub overflow_add-listing : goal.overflow_add-listing
overflow_add-listing c =
    let x = c.args.listing.now in
    let bound : x.from + x.step * c.args.place ≤ 2 ^ 62 = within x.from x.step x.count c.args.place _ c.requires.place c.requires.last in
    omega (arith, bound)

pub unwrap-requires : goal.unwrap-requires
unwrap-requires c =
    let x = c.args.listing.now in
    let bound : x.from + x.step * c.args.place ≤ 2 ^ 62 = within x.from x.step x.count c.args.place _ c.requires.place c.requires.last in
    search rules
