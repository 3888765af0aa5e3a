-- What a write of a text leaves: the writer took all of it, or it has failed and took a front.
use Rattle.std.specs.Prelude.{◌≡◌, ℕ, List, Bool, true, Option, Result, OnOk, IfErr, OnErr}
use Rattle.std.specs.Io.KnownBytes.{Appends}
use Rattle.tsn_bytes.specs.Bytes.{IsCut}
use Rattle.tsn_bytes.specs.declared.bytes.Fault.{Fault}
use Rattle.tsn_bytes.specs.declared.bytes.Fault.TheVariants.{Write}

-- from what a writer had taken to what it has, and from whether it had failed to whether it has
pub record Writes (result : Result (Unit {0}) Fault) (old new : Option (List ℕ)) (had has : Bool) (text : List ℕ) : Type 0 where
  pub ok : OnOk result (Appends old new text)
  pub worked : OnOk result (has ≡ had)
  pub fault : IfErr result (λ e. e ≡ Write)
  pub failed : OnErr result (has ≡ true)
  pub cut : OnErr result (IsCut old new text)
