use Rattle.std.proofs.Common.{◌≡◌, ap, sym, refl, ◌∙◌, length}
use Rattle.std.specs.Prelude.{not}
use Rattle.std.proofs.lemmas.Bool.{le-leb}
use Rattle.std.proofs.lemmas.Str.{is_utf8-from_IsUtf8}
use Rattle.tsn_types.specs.Names.{has_control, longest_name}
use Rattle.tsn_types.proofs.names.is_name.Goals as goal

pub returns-then-text-le-LONGEST_NAME : goal.returns-then-text-le-LONGEST_NAME
returns-then-text-le-LONGEST_NAME c =
    let text = c.args.text.now in
    let control : c.has_control.result ≡ has_control 0 text = c.has_control.ensures ∙ ap (has_control 0) c.as_bytes.ensures.value in
    ap not control ∙ sym (rw (
      is_utf8-from_IsUtf8 text c.utf8.text,
      le-leb 1 (length text) c.if-text-le-LONGEST_NAME.true.0,
      le-leb (length text) longest_name c.if-text-le-LONGEST_NAME.true.1,
    ) refl)
