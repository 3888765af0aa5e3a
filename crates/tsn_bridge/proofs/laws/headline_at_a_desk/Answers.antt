use Rattle.std.proofs.Common.{List}
use Rattle.tsn_types.specs.declared.keys.Key.{Key}
use Rattle.tsn_types.specs.declared.limits.Limits.{Limits}
use Rattle.tsn_types.specs.declared.records.Record.{Record}
use Rattle.tsn_machine.specs.declared.history.Entry.{Entry}
use Rattle.tsn_machine.specs.History.{Runs}
use Rattle.tsn_commands.specs.declared.command.Ask.{Ask}
use Rattle.tsn_commands.specs.declared.reply.Reply.{Reply}
use Rattle.tsn_bridge.specs.Beginning.{Opens, begun}
use Rattle.tsn_bridge.specs.Headline.{AtOnceUndone, OthersAlone, OthersLeft, RestoredList}
use Rattle.tsn_bridge.specs.Histories.{StateIsSound}
use Rattle.tsn_bridge.specs.State.{State}
use Rattle.tsn_bridge.specs.Turns.{Turns}
use Rattle.tsn_bridge.proofs.Headline.{at_once_undone, others_alone_left, others_left, restored_list}
use Rattle.tsn_bridge.proofs.Turning.{commutes, whole_now}
use Rattle.tsn_bridge.proofs.laws.headline_at_a_desk.Goals as goal

-- what holds of every sound state holds of the one to which a history led
led : (P : State → Type 0) → ((s : State) → StateIsSound s → P s) → (limits : Limits) (records : List (Key × Record))
    (history : List (Entry Ask Reply)) (now : State) → Opens limits records → Runs Turns (begun limits records) history now → P now
led P holds limits records history now opens runs = holds now (whole_now limits records history now opens runs).journal

pub returns : goal.returns
returns c = record {
  whole = whole_now;
  commutation = λ limits records history now out opens runs closed.
      commutes now (whole_now limits records history now opens runs).journal out closed;
  at_once_undone = led AtOnceUndone at_once_undone;
  others_alone = led OthersAlone others_alone_left;
  others_left = led OthersLeft others_left;
  restored_list = led RestoredList restored_list;
}
