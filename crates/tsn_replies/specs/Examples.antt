-- Worked examples: the line round a shown record, entries and counters with their text.
use Rattle.std.specs.Prelude.{ℕ, List, [], ◌∷◌, ◌++◌, true, false, Some, None, codes}
use Rattle.tsn_commands.specs.declared.reply.Reply.TheVariants as replies
use Rattle.tsn_chain.specs.declared.data.FilterData.{FilterData}
use Rattle.tsn_chain.specs.declared.frame.DropCause.{DropCause}
use Rattle.tsn_chain.specs.declared.frame.Verdict.TheVariants as verdicts
use Rattle.tsn_chain.specs.declared.state.ListCounters.{ListCounters}
use Rattle.tsn_edit.specs.Parts.{Change, inverse}
use Rattle.tsn_entries.specs.declared.entries.Act.TheVariants.{Apply}
use Rattle.tsn_entries.specs.declared.entries.Entry.{Entry}
use Rattle.tsn_entries.specs.declared.entries.What.TheVariants.{Made, Undone, Redone, Acted, Settled}
use Rattle.tsn_replies.specs.Replies.{reply_text}
use Rattle.tsn_types.specs.Examples.{a_filter, a_gate, a_meter}
use Rattle.tsn_types.specs.declared.keys.Key.TheVariants as keys
use Rattle.tsn_types.specs.declared.records.Record.TheVariants as records

-- the line that shows the record of a text
abbrev pub shown_line : List ℕ → List ℕ → List ℕ
shown_line key text = codes "{\"key\":\"" ++ key ++ codes "\",\"record\":" ++ text ++ codes "}\n"

-- the line of a frame that filter 3 drops for that cause
abbrev pub dropped_line : DropCause → List ℕ
dropped_line cause = reply_text (replies.Framed (verdicts.Dropped 3 700 cause))

-- a filter is removed
abbrev pub a_removal : Change
a_removal = record { key = keys.Filter 3; before = Some (records.Filter a_filter); after = None } ∷ []

-- the removal and the undo of it
abbrev pub a_removal_undone : List Entry
a_removal_undone =
    record { number = 4; session = 1; what = Made a_removal } ∷ record { number = 5; session = 1; what = Undone 4 (inverse a_removal) } ∷ []

abbrev pub removal_undone_text : List ℕ
removal_undone_text = codes "{\"entries\":[{\"entry\":4,\"key\":\"filter 3\",\"session\":1,\"what\":\"made\"},"
    ++ codes "{\"entry\":5,\"key\":\"filter 3\",\"of\":4,\"session\":1,\"what\":\"undone\"}]}\n"

-- and a redo of that
abbrev pub a_removal_redone : List Entry
a_removal_redone = record { number = 6; session = 1; what = Redone 5 a_removal } ∷ []

abbrev pub removal_redone_text : List ℕ
removal_redone_text = codes "{\"entries\":[{\"entry\":6,\"key\":\"filter 3\",\"of\":5,\"session\":1,\"what\":\"redone\"}]}\n"

-- a filter is created with its gate and its meter, and that is redone
abbrev pub a_batch : Change
a_batch =
    record { key = keys.Filter 0; before = None; after = Some (records.Filter a_filter) } ∷
    record { key = keys.Gate 0; before = None; after = Some (records.Gate a_gate) } ∷
    record { key = keys.Meter 0; before = None; after = Some (records.Meter a_meter) } ∷ []

abbrev pub a_batch_redone : List Entry
a_batch_redone = record { number = 3; session = 1; what = Redone 2 a_batch } ∷ []

abbrev pub batch_redone_text : List ℕ
batch_redone_text = codes "{\"entries\":[{\"entry\":3,\"keys\":[\"filter 0\",\"gate 0\",\"meter 0\"],"
    ++ codes "\"of\":2,\"session\":1,\"what\":\"redone\"}]}\n"

-- a port's list is applied
abbrev pub an_apply : List Entry
an_apply = record { number = 3; session = 1; what = Acted Apply (keys.Port 1) 2500 } ∷ []

abbrev pub apply_text : List ℕ
apply_text = codes "{\"entries\":[{\"act\":\"apply\",\"entry\":3,\"key\":\"port 1\",\"now\":2500,"
    ++ codes "\"session\":1,\"what\":\"acted\"}]}\n"

-- the entries up to 7 are settled
abbrev pub a_settle : List Entry
a_settle = record { number = 8; session = 2; what = Settled 7 } ∷ []

-- a list runs, and no other is to come
abbrev pub a_list : ListCounters
a_list = record { change_error = 2; change_time = Some 3000; enabled = true; pending = false }

abbrev pub port_counters_text : List ℕ
port_counters_text = codes "{\"change_error\":2,\"change_time\":3000,\"enabled\":true,\"pending\":false}\n"

-- one of its two latches is on
abbrev pub gate_counters_text : List ℕ
gate_counters_text = codes "{\"change_error\":2,\"change_time\":3000,\"enabled\":true,\"invalid_rx\":true,"
    ++ codes "\"octets_exceeded\":false,\"pending\":false}\n"

abbrev pub a_counted_filter : FilterData
a_counted_filter = record { blocked = true; matching = 10; not_passing = 4; not_passing_sdu = 1; passing = 6; passing_sdu = 9; red = 2 }

abbrev pub filter_counters_text : List ℕ
filter_counters_text = codes "{\"blocked\":true,\"matching\":10,\"not_passing\":4,\"not_passing_sdu\":1,"
    ++ codes "\"passing\":6,\"passing_sdu\":9,\"red\":2}\n"
