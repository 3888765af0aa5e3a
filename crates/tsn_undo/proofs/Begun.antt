-- A book begins with no entry.
use Rattle.std.proofs.Common.{◌≡◌, List, [], sym, subst, refl}
use Rattle.tsn_types.specs.declared.limits.Limits.{Limits}
use Rattle.tsn_edit.specs.Configuration.{Configuration, IsWellKept}
use Rattle.tsn_entries.specs.declared.entries.Entry.{Entry}
use Rattle.tsn_undo.specs.Ledger.{IsBook}

begun : (l : Limits) (c : Configuration) → IsWellKept l c → IsBook l c []
begun l c kept = record { sound = record { numbered = tt; kept = kept; replays = tt; settled = tt; good = tt; same = refl }; is = refl }

pub begun_book : (l : Limits) (c : Configuration) (es : List Entry) → IsWellKept l c → es ≡ [] → IsBook l c es
begun_book l c es kept none = subst (IsBook l c) (sym none) (begun l c kept)
