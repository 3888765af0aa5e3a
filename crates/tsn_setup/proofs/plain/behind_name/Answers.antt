use Rattle.std.proofs.Common.{◌≡◌, ◌==◌, false, length, drop, arith}
use Rattle.std.proofs.lemmas.Grind.{common_steps}
use Rattle.toml_parser.specs.Lexical.{first, skip_ws, is_bare, dot}
use Rattle.tsn_setup.proofs.BareNames.{bare_last, key_named}
use Rattle.tsn_setup.proofs.plain.behind_name.Goals as goal

pub skip-behind-requires : goal.skip-behind-requires
skip-behind-requires c =
    let begins = rw (c.as_bytes.ensures.value, c.as_bytes-2.ensures.value) at c.starts_with.ensures.value in
    let last = bare_last c.args.name.now c.args.text.now c.starts_with.result c.requires begins c.if-not-starts_with.false in
    record { some = last.some; there = last.there; ascii = last.ascii }

pub returns : goal.returns
returns c =
    let begins = rw (c.as_bytes.ensures.value, c.as_bytes-2.ensures.value) at c.starts_with.ensures.value in
    let behind = c.skip-behind.ensures.rest in
    let rest = c.skip_ws-rest.ensures.rest in
    let ends : is_bare (first (drop (length c.args.name.now) c.args.text.now)) ≡ false = grind (arith, common_steps) in
    let last : (first (skip_ws (drop (length c.args.name.now) c.args.text.now)) == dot) ≡ false = grind (arith, common_steps) in
    let key = key_named c.args.name.now c.args.text.now c.starts_with.result c.requires begins c.if-not-starts_with.false ends last in
    record { key = grind (arith, common_steps, key); shorter = omega arith }
