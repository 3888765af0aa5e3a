-- The text of a reply: compact JSON with its members in ascending order of their names, and a line feed.
use Rattle.std.specs.Prelude.{ℕ, ◌++◌, List, [], codes, decimal}
use Rattle.serde_json.specs.Written.{compact_text}
use Rattle.tsn_commands.specs.declared.reply.Reply.{Reply}
use Rattle.tsn_commands.specs.declared.reply.Reply.TheVariants as replies
use Rattle.tsn_types.specs.declared.refusals.Refusal.{Refusal}
use Rattle.tsn_types.specs.declared.refusals.Refusal.TheVariants as refusals
use Rattle.tsn_types.specs.Refusals.{number_of, name_of, field_name}
use Rattle.tsn_records.specs.Keys.{key_text}
use Rattle.tsn_replies.specs.Running.{act_data, verdict_data, state_data, counters_data}
use Rattle.tsn_encoding.specs.Told.{entries_data, sessions_data}
use Rattle.tsn_encoding.specs.Shown.{shown_data, ids_data, setup_data}

-- a member that is a number, with a comma behind it
abbrev pub number_member : List ℕ → ℕ → List ℕ
number_member name n = codes "\"" ++ name ++ codes "\":" ++ decimal n ++ codes ","

-- a member that is a text, with a comma behind it
abbrev pub text_member : List ℕ → List ℕ → List ℕ
text_member name text = codes "\"" ++ name ++ codes "\":\"" ++ text ++ codes "\","

-- what a refusal is about, by names that come before `refused`
abbrev pub members_of : Refusal → List ℕ
members_of (refusals.Range field) = text_member (codes "field") (field_name field)
members_of (refusals.Missing key) = text_member (codes "key") (key_text key)
members_of (refusals.Exists key) = text_member (codes "key") (key_text key)
members_of (refusals.Dangling key) = text_member (codes "key") (key_text key)
members_of (refusals.Referred by) = text_member (codes "by") (key_text by)
members_of (refusals.Conflict own other) = number_member (codes "other") other ++ number_member (codes "own") own
members_of (refusals.RedoConflict other) = number_member (codes "other") other
members_of refusal = []

-- and what it is about by a name that comes behind `refused`
abbrev pub behind_of : Refusal → List ℕ
behind_of (refusals.Settled upto) = codes ",\"upto\":" ++ decimal upto
behind_of r = []

-- what it is about, its number and its name
abbrev pub refusal_text : Refusal → List ℕ
refusal_text r = codes "{" ++ members_of r ++ codes "\"refused\":" ++ decimal (number_of r) ++ behind_of r ++ codes ",\"why\":\""
    ++ name_of r ++ codes "\"}\n"

-- the line of a reply, its line feed in it
abbrev pub reply_text : Reply → List ℕ
reply_text (replies.Session session) = codes "{\"session\":" ++ decimal session ++ codes "}\n"
reply_text (replies.Known session) = codes "{\"session\":" ++ decimal session ++ codes "}\n"
reply_text (replies.Entry entry) = codes "{\"entry\":" ++ decimal entry ++ codes "}\n"
reply_text (replies.EntryOf entry of) = codes "{\"entry\":" ++ decimal entry ++ codes ",\"of\":" ++ decimal of ++ codes "}\n"
reply_text (replies.TakenBack count entry) = codes "{\"count\":" ++ decimal count ++ codes ",\"entry\":" ++ decimal entry ++ codes "}\n"
reply_text (replies.Settled entry settled) = codes "{\"entry\":" ++ decimal entry ++ codes ",\"settled\":" ++ decimal settled ++ codes "}\n"
reply_text (replies.Acted change entry now) = compact_text (act_data change entry now) ++ codes "\n"
reply_text (replies.Framed verdict) = compact_text (verdict_data verdict) ++ codes "\n"
reply_text (replies.States state) = compact_text (state_data state) ++ codes "\n"
reply_text (replies.Counters counters) = compact_text (counters_data counters) ++ codes "\n"
reply_text (replies.Shown key value) = compact_text (shown_data key value) ++ codes "\n"
reply_text (replies.Ids ids) = compact_text (ids_data ids) ++ codes "\n"
reply_text (replies.Entries es) = compact_text (entries_data es) ++ codes "\n"
reply_text (replies.Sessions all) = compact_text (sessions_data all) ++ codes "\n"
reply_text (replies.Setup text) = compact_text (setup_data text) ++ codes "\n"
reply_text (replies.Refused r) = refusal_text r
