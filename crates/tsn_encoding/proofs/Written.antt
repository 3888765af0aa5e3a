-- What is written as one text is written as another that it equals.
use Rattle.std.proofs.Common.{◌≡◌, ℕ, List, Bool, true, Option, Result, OnOk, IfErr, OnErr, subst}
use Rattle.std.specs.Io.KnownBytes.{Appends}
use Rattle.tsn_bytes.specs.Bytes.{IsCut}
use Rattle.tsn_bytes.specs.declared.bytes.Fault.{Fault}
use Rattle.tsn_bytes.specs.declared.bytes.Fault.TheVariants.{Write}
use Rattle.tsn_encoding.specs.Writing.{Writes}

pub written_as : (r : Result (Unit {0}) Fault) (old new : Option (List ℕ)) (had has : Bool) (t u : List ℕ) → t ≡ u
    → OnOk r (Appends old new t) → OnOk r (has ≡ had) → IfErr r (λ e. e ≡ Write) → OnErr r (has ≡ true) → OnErr r (IsCut old new t)
    → Writes r old new had has u
written_as r old new had has t u e ok worked fault failed cut =
    subst (Writes r old new had has) e (record { ok = ok; worked = worked; fault = fault; failed = failed; cut = cut })
