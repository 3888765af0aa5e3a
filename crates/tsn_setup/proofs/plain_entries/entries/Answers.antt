use Rattle.std.proofs.Common.{◌≡◌, ◌==◌, ◌<◌, sym, subst, true, false, length, drop, rules, arith, le_refl}
use Rattle.std.proofs.lemmas.Grind.{common_steps}
use Rattle.toml_parser.specs.Lexical.{first, skip_blank}
use Rattle.tsn_setup.specs.Plain.{EntriesSoFar}
use Rattle.tsn_setup.proofs.Turning.{entries_begun, entries_ended, entries_more}
use Rattle.tsn_setup.proofs.plain_entries.entries.Goals as goal

pub entries-init : goal.entries-init
entries-init g c = (
  search rules,
  (
    le_refl _,
    subst (λ l. EntriesSoFar g.E.PlainEntry.shape c.args.text.now l c.args.text.now) (sym c.new-list.ensures)
        (entries_begun g.E.PlainEntry.shape c.args.text.now),
  ),
)

pub returns-then-first-eq93-clause-value : goal.returns-then-first-eq93-clause-value
returns-then-first-eq93-clause-value g c =
    let rest = c.entries.rest.now in
    let start_is = c.skip_blank-start.ensures.rest in
    let ends : (first (skip_blank rest) == 93) ≡ true = grind (arith, common_steps) in
    rw (c.skip.ensures.rest, start_is) (entries_ended g.E.PlainEntry.shape c.args.text.now _ rest c.entries.invariant.1.1 ends)

pub entries-preserved : goal.entries-preserved
entries-preserved g c =
    let rest = c.entries.rest.now in
    let start_is = c.skip_blank-start.ensures.rest in
    let goes : (first (skip_blank rest) == 93) ≡ false = grind (arith, common_steps) in
    let no_array : (first (skip_blank rest) == 91) ≡ false = grind (arith, common_steps) in
    let opens : (first (skip_blank rest) == 123) ≡ true = grind (arith, common_steps) in
    let behind : c.skip-in-entries.result.now ≡ drop 1 (skip_blank rest) = rw start_is at c.skip-in-entries.ensures.rest in
    let inside : length (drop 1 (skip_blank rest)) < length (skip_blank rest) = rw (behind, start_is) at
    c.skip-in-entries.ensures.shorter in
    let read = rw behind at c.in_ok-entry.ensures.value in
    let before = c.skip_blank-start.ensures.within in
    let shorter = c.in_ok-entry.ensures.shorter in
    let within = c.in_ok-rest.ensures.within in
    let inner = c.skip-in-entries.ensures.shorter in
    let next = c.in_ok-rest.rest.now in
    let more = entries_more g.E.PlainEntry.shape c.args.text.now c.entries.list c.in_ok-entry.entry rest c.in_ok-entry.after.now next
    c.entries.invariant.1.1 goes no_array opens inside read c.in_ok-rest.ensures.value (omega arith) in (
      search rules,
      (
        omega (arith, c.entries.invariant.1.0),
        subst (λ l. EntriesSoFar g.E.PlainEntry.shape c.args.text.now l next) (sym c.in-Ok.ensures.ok) more,
      ),
    )
