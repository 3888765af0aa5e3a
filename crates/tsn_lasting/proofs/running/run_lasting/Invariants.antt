use Rattle.tsn_lasting.specs.Parts.{standing}
use Rattle.tsn_lasting.specs.Running.{IsUnderWay}
use Rattle.tsn_lasting.proofs.running.run_lasting.Given as goal

-- the input so far was answered, from where the script began
abbrev pub invariant-reads : goal.invariant-reads
invariant-reads g l = IsUnderWay (standing g.W.ByteOut.taken l.initial.lasting) (g.R.ByteIn.remaining l.initial.reader)
    (g.R.ByteIn.remaining l.reader) l.line (standing g.W.ByteOut.taken l.lasting)
