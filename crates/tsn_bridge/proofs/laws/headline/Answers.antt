use Rattle.std.proofs.Common.{List}
use Rattle.tsn_types.specs.declared.keys.Key.{Key}
use Rattle.tsn_types.specs.declared.limits.Limits.{Limits}
use Rattle.tsn_types.specs.declared.records.Record.{Record}
use Rattle.tsn_bridge.specs.Beginning.{Opens, begun}
use Rattle.tsn_bridge.specs.Headline.{AtOnceUndone, OthersAlone, OthersLeft, RestoredList}
use Rattle.tsn_bridge.specs.Histories.{Answered, AreInRange, Leads, StateIsSound}
use Rattle.tsn_bridge.specs.State.{State}
use Rattle.tsn_bridge.proofs.Headline.{at_once_undone, others_alone_left, others_left, restored_list}
use Rattle.tsn_bridge.proofs.Later.{all_go_on, whole_begun}
use Rattle.tsn_bridge.proofs.laws.headline.Goals as goal

-- what holds of every sound state holds of the one to which commands led
led : (P : State → Type 0) → ((s : State) → StateIsSound s → P s) → (limits : Limits) (records : List (Key × Record)) (asks : List Answered)
    (now : State) → Opens limits records → AreInRange asks → Leads (begun limits records) asks now → P now
led P holds limits records asks now opens ranges leads =
    holds now (all_go_on asks (begun limits records) now (whole_begun limits records opens) ranges leads).0.journal

pub returns : goal.returns
returns c = record {
  at_once_undone = led AtOnceUndone at_once_undone;
  others_alone = led OthersAlone others_alone_left;
  others_left = led OthersLeft others_left;
  restored_list = led RestoredList restored_list;
}
