use Rattle.std.proofs.Common.{◌≡◌, ◌<◌, Some, sym, ◌∙◌, ap, arith}
use Rattle.std.specs.Option.{option_copied}
use Rattle.tsn_edit.specs.Parts.{Change}
use Rattle.tsn_entries.specs.declared.entries.Entry.{Entry}
use Rattle.tsn_entries.specs.Entries.{applies}
use Rattle.tsn_journal.specs.Touched.{CanTell}
use Rattle.tsn_journal.proofs.Sought.{later_last}
use Rattle.tsn_journal.proofs.touched.redo_conflict.Goals as goal

pub returns : goal.returns
returns c =
    let ms = c.args.marked.now in
    let e : Entry = c.in_ok-undone.undone.now in
    let d : Change = c.in_ok-change.change.now in
    let is : option_copied c.args.undone ≡ Some e = ap option_copied c.in_ok-undone.was in
    let changed : applies e.what ≡ Some d = sym c.change.ensures ∙ ap option_copied c.in_ok-change.was in
    let later : c.args.index.now.stray < e.number = omega (arith, c.if-undone-from.false) in
    let can : CanTell ms c.args.index.now e = record
    { tells = c.requires.tells; numbered = c.requires.numbered; there = c.requires.there e is; later = later } in
    grind (arith, later_last)
