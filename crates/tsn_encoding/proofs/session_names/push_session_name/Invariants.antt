use Rattle.std.proofs.Common.{◌≡◌, ◌++◌, take}
use Rattle.json.specs.Print.{escape}
use Rattle.tsn_encoding.proofs.session_names.push_session_name.Given as goal

-- the bytes up to this one are put
abbrev pub invariant-bytes : goal.invariant-bytes
invariant-bytes l = l.text ≡ l.initial.text ++ escape (take l.byte-index l.bytes)
