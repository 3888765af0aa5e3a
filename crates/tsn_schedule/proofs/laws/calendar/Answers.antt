use Rattle.tsn_schedule.proofs.Meaning.{change_is_least, entry_is_at, cycle_start_is_latest, errors_stay, told}
use Rattle.tsn_schedule.proofs.Restored.{restored}
use Rattle.tsn_schedule.proofs.laws.calendar.Goals as goal

pub returns-clause-change : goal.returns-clause-change
returns-clause-change g c = change_is_least

pub returns-clause-entry : goal.returns-clause-entry
returns-clause-entry g c = entry_is_at

pub returns-clause-cycle_start : goal.returns-clause-cycle_start
returns-clause-cycle_start g c = cycle_start_is_latest

pub returns-clause-restored : goal.returns-clause-restored
returns-clause-restored g c = λ interval schedule acts a t h past by. restored interval schedule acts a t h.1.2 past by

pub returns-clause-errors : goal.returns-clause-errors
returns-clause-errors g c = errors_stay

pub returns-clause-told : goal.returns-clause-told
returns-clause-told g c = told
