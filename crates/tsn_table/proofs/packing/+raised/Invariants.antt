use Rattle.tsn_table.proofs.packing.+raised.Given as goal

abbrev pub decreases-raised : goal.decreases-raised
decreases-raised l = l.count
