use Rattle.std.proofs.Common.{◌≤◌, ◌≡◌, ◌==◌, true, false, length, rules, arith, le_refl}
use Rattle.std.proofs.lemmas.Grind.{common_steps}
use Rattle.toml_parser.specs.Lexical.{first, skip_ws, skip_blank}
use Rattle.toml.specs.Parse.{ends_line}
use Rattle.tsn_setup.proofs.Turning.{lines_begun, line_more, lines_trimmed}
use Rattle.tsn_setup.proofs.gathered.table_lines.Goals as goal

pub lines-init : goal.lines-init
lines-init g c = (search rules, (le_refl _, lines_begun _ _ (g.met.M.PlainTable.opens _ c.default-found.ensures)))

pub lines-preserved : goal.lines-preserved
lines-preserved g c =
    let start_is = c.skip_blank-start.ensures.rest in
    let some : (length (skip_blank c.lines.rest.now) == 0) ≡ false = grind (arith, common_steps) in
    let goes : (first (skip_blank c.lines.rest.now) == 91) ≡ false = grind (arith, common_steps) in
    let member = rw start_is at c.in_ok-after.ensures.member in
    let ends : ends_line (skip_ws c.in_ok-after.after.now) ≡ true = grind (arith, common_steps) in
    let before = c.skip_blank-start.ensures.within in
    let shorter = c.in_ok-after.ensures.shorter in (
      search rules,
      (
        omega (arith, c.lines.invariant.1.0),
        line_more _ c.args.text.now _ _ c.lines.rest.now _ c.requires c.lines.invariant.1.1 some goes member ends (omega arith),
      ),
    )

pub returns-then-is_empty-clause-table : goal.returns-then-is_empty-clause-table
returns-then-is_empty-clause-table g c =
    let rest = c.lines.rest.now in
    let start_is = c.skip_blank-start.ensures.rest in
    let within : length (skip_blank rest) ≤ length rest = rw start_is at c.skip_blank-start.ensures.within in
    rw start_is (lines_trimmed c.args.text.now _ rest c.lines.invariant.1.1 within)
