-- The chain in two parts, the filter with its gate and then the meter.
use Rattle.std.specs.Prelude.{Bool, List, Result, Ok, Err}
use Rattle.tsn_chain.specs.declared.chain.Passage.{Passage}
use Rattle.tsn_chain.specs.declared.data.Met.{Met}
use Rattle.tsn_chain.specs.declared.frame.DropCause.{DropCause}
use Rattle.tsn_chain.specs.declared.frame.Verdict.{Verdict}
use Rattle.tsn_chain.specs.Chain.{Case, Row, drop, pass, walk}

-- a passage, with what is kept of the instances that the frame meets
abbrev pub case_of : Passage → Met → Case
case_of p met =
    record { number = p.id; filter = p.filter.now; gate = p.gate.now; state = p.state; frame = p.frame; time = p.time; met = met }

-- a part dropped the frame, or the other rows are to be taken
abbrev pub gone_on : {A : Type 0} → Case → Result A DropCause → Met → List Row → Verdict → Verdict × Met
gone_on x (Ok a) k rest last = walk rest last k
gone_on x (Err cause) k rest last = (drop x cause, k)

-- the verdict on a frame that was dropped, or passes, marked yellow or not
abbrev pub verdict_of : Case → Result Bool DropCause → Verdict
verdict_of x (Ok yellow) = pass x yellow
verdict_of x (Err cause) = drop x cause
