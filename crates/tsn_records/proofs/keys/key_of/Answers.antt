use Rattle.std.proofs.Common.{sym, false, codes}
use Rattle.std.proofs.lemmas.Str.Pattern.{starts_text}
use Rattle.tsn_records.proofs.Digits.{none_of}
use Rattle.tsn_records.proofs.keys.key_of.Goals as goal

pub returns : goal.returns
returns c =
    let text = c.args.text.now in
    let port = sym (starts_text false (codes "port ") text c.in_default.ensures.cases) in
    let filter = sym (starts_text false (codes "filter ") text c.in_default-strip_prefix.ensures.cases) in
    let gate = sym (starts_text false (codes "gate ") text c.in_default-strip_prefix-2.ensures.cases) in
    let meter = sym (starts_text false (codes "meter ") text c.in_default-strip_prefix-3.ensures.cases) in
    none_of _ _ _ _ _ _ _ _ port filter gate meter
