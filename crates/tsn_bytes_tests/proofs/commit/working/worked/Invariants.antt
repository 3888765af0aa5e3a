use Rattle.tsn_bytes_tests.proofs.commit.working.worked.Given as goal

-- The texts that were just opened, and the journal of the keeper.
abbrev pub ghosts-work-R-Naming : goal.ghosts-work-R-Naming
ghosts-work-R-Naming g a = record { book = a.records.seen.book }

abbrev pub ghosts-work-K-Naming : goal.ghosts-work-K-Naming
ghosts-work-K-Naming g a = record { book = a.keeps.seen.book }

abbrev pub ghosts-work-K-Ahead : goal.ghosts-work-K-Ahead
ghosts-work-K-Ahead g a = record { had = a.keeper.kept; digest = a.keeper.last }
