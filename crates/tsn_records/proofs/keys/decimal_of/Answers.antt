use Rattle.std.proofs.Common.{ap, sym, ◌∙◌}
use Rattle.tsn_records.specs.Keys.{is_decimal}
use Rattle.tsn_records.proofs.Digits.{decimal_of_parsed}
use Rattle.tsn_records.proofs.keys.decimal_of.Goals as goal

pub returns : goal.returns
returns c =
    let test = sym (c.is_decimal.ensures ∙ ap is_decimal c.as_bytes.ensures.value) ∙ c.if-not-is_decimal.false in
    c.ok.ensures.value ∙ decimal_of_parsed c.args.digits.now c.parse.result c.parse.ensures.value.0 test
