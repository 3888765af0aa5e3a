use Rattle.std.proofs.Common.{◌≡◌, ◌==◌, true, false, rules, arith, le_refl}
use Rattle.std.proofs.lemmas.Grind.{common_steps}
use Rattle.toml_parser.specs.Lexical.{first, skip_blank}
use Rattle.tsn_setup.proofs.Turning.{table_begun, table_ended, table_more}
use Rattle.tsn_setup.proofs.gathered.inline_table.Goals as goal

pub members-init : goal.members-init
members-init g c = (search rules, (le_refl _, table_begun _ _ (g.met.M.PlainTable.opens _ c.default-found.ensures)))

pub returns-then-first-eq125-clause-table : goal.returns-then-first-eq125-clause-table
returns-then-first-eq125-clause-table g c =
    let rest = c.members.rest.now in
    let start_is = c.skip_blank-start.ensures.rest in
    let ends : (first (skip_blank rest) == 125) ≡ true = grind (arith, common_steps) in
    rw (c.skip.ensures.rest, start_is) (table_ended c.args.text.now _ rest c.members.invariant.1.1 ends)

pub members-preserved : goal.members-preserved
members-preserved g c =
    let rest = c.members.rest.now in
    let start_is = c.skip_blank-start.ensures.rest in
    let goes : (first (skip_blank rest) == 125) ≡ false = grind (arith, common_steps) in
    let member = rw (start_is, c.requires) at c.in_ok-after.ensures.member in
    let before = c.skip_blank-start.ensures.within in
    let shorter = c.in_ok-after.ensures.shorter in
    let within = c.in_ok-rest.ensures.within in (
      search rules,
      (
        omega (arith, c.members.invariant.1.0),
        table_more c.args.text.now _ _ rest _ _ c.members.invariant.1.1 goes member c.in_ok-rest.ensures.value (omega arith),
      ),
    )
