use Rattle.tsn_types.specs.declared.records.Record.TheVariants.{Filter}
use Rattle.tsn_encoding.proofs.Pieces.{flat_line}
use Rattle.tsn_encoding.proofs.shown.push_filter_line.Goals as goal

pub returns : goal.returns
returns c =
    flat_line c.args.key (Filter c.args.filter.now) _ _ _ c.push_key_front.ensures.text c.push_filter.ensures.text c.push.ensures.text
