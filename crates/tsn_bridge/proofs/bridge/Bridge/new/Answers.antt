use Rattle.tsn_bridge.proofs.bridge.Bridge.new.Goals as goal

-- a configuration that was opened has no cause in its limits
pub returns-in_err-pair-clause-beyond : goal.returns-in_err-pair-clause-beyond
returns-in_err-pair-clause-beyond c = λ why is. let refused = c.in_ok-config.ensures.beyond why is in absurd (cc)
