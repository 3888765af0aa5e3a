use Rattle.tsn_bridge.proofs.Later.{all_go_on, goes_on, whole_begun}
use Rattle.tsn_bridge.proofs.laws.steps_keep_states_sound.Goals as goal

pub returns-clause-begins : goal.returns-clause-begins
returns-clause-begins c limits records opens = (whole_begun limits records opens, tt)

pub returns-clause-step : goal.returns-clause-step
returns-clause-step c before after session command reply whole ranges step = goes_on before session command reply after whole ranges step

pub returns-clause-steps : goal.returns-clause-steps
returns-clause-steps c start now turns whole ranges leads = all_go_on turns start now whole ranges leads
