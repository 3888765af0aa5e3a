use Rattle.tsn_types.specs.declared.records.Record.TheVariants.{Meter}
use Rattle.tsn_encoding.proofs.Pieces.{flat_line}
use Rattle.tsn_encoding.proofs.shown.push_meter_line.Goals as goal

pub returns : goal.returns
returns c = flat_line c.args.key (Meter c.args.meter.now) _ _ _ c.push_key_front.ensures.text c.push_meter.ensures.text c.push.ensures.text
