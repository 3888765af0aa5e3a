use Rattle.tsn_durable_server.proofs.serving.serve_on.Given as goal

-- The texts that were just opened, and the journal of the keeper.
abbrev pub ghosts-serve_lasting-R-Naming : goal.ghosts-serve_lasting-R-Naming
ghosts-serve_lasting-R-Naming g a = record { book = a.records.seen.book }

abbrev pub ghosts-serve_lasting-K-Naming : goal.ghosts-serve_lasting-K-Naming
ghosts-serve_lasting-K-Naming g a = record { book = a.keeps.seen.book }

abbrev pub ghosts-serve_lasting-K-Ahead : goal.ghosts-serve_lasting-K-Ahead
ghosts-serve_lasting-K-Ahead g a = record { had = a.keeper.kept; digest = a.keeper.last }
