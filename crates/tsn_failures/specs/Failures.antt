-- The lines that tell why a run failed.
use Rattle.std.specs.Prelude.{ℕ, List, ◌++◌, codes, decimal}
use Rattle.tsn_types.specs.declared.refusals.Refusal.{Refusal}
use Rattle.tsn_types.specs.declared.refusals.Refusal.TheVariants as refusals
use Rattle.tsn_types.specs.Refusals.{name_of, number_of}
use Rattle.tsn_bytes.specs.declared.bytes.Fault.{Fault as AnyFault}
use Rattle.tsn_bytes.specs.declared.bytes.Fault.TheVariants.{Read, Write, Memory, Exhausted}
use Rattle.tsn_failures.specs.declared.failures.Failure.{Failure}
use Rattle.tsn_failures.specs.declared.failures.Failure.TheVariants.{Fault, Refused, Setup}

abbrev pub fault_line : AnyFault → List ℕ
fault_line Read = codes "tsnd: read failed\n"
fault_line Write = codes "tsnd: write failed\n"
fault_line Memory = codes "tsnd: out of memory\n"
fault_line Exhausted = codes "tsnd: no ticket left\n"

-- a refusal by its number and its name
abbrev pub refusal_line : Refusal → List ℕ
refusal_line why = codes "tsnd: refused " ++ decimal (number_of why) ++ codes " " ++ name_of why ++ codes "\n"

-- want of memory has one line, wherever it was met
abbrev pub failure_line : Failure → List ℕ
failure_line (Fault fault) = fault_line fault
failure_line Setup = codes "tsnd: cannot read the setup\n"
failure_line (Refused refusals.Memory) = fault_line Memory
failure_line (Refused why) = refusal_line why
