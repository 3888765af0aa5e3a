-- What replies tell as JSON values: sessions, and entries of the journal.
use Rattle.std.specs.Prelude.{ℕ, List, [], ◌∷◌, map, codes}
use Rattle.serde_json.specs.Data.{Data, Members, string, array, object, member, no_members}
use Rattle.serde_json.specs.View.{items_of}
use Rattle.tsn_entries.specs.declared.sessions.GivenSession.{GivenSession}
use Rattle.tsn_edit.specs.Changes.{keys_of}
use Rattle.tsn_edit.specs.Parts.{parts}
use Rattle.tsn_entries.specs.declared.entries.Act.{Act}
use Rattle.tsn_entries.specs.declared.entries.Act.TheVariants.{Enable, Disable, Apply}
use Rattle.tsn_entries.specs.declared.entries.Entry.{Entry}
use Rattle.tsn_entries.specs.declared.entries.MarkedEntry.{MarkedEntry}
use Rattle.tsn_entries.specs.Marks.{entry_in}
use Rattle.tsn_entries.specs.declared.entries.What.{What}
use Rattle.tsn_entries.specs.declared.entries.What.TheVariants.{Made, Undone, Redone, Acted, Settled}
use Rattle.tsn_types.specs.declared.keys.Key.{Key}
use Rattle.tsn_records.specs.Shown.{whole_data}
use Rattle.tsn_encoding.specs.Shown.{key_data, name_data}

-- `{"name":TEXT,"session":N,"standing":C}`, a session that was given out: its name or null, and how many of its entries stand
abbrev pub session_data : GivenSession → Data
session_data given =
    object (member (codes "name") (name_data given.name)
    (member (codes "session") (whole_data given.session)
    (member (codes "standing") (whole_data given.standing) no_members)))

-- `{"sessions":[..]}`
abbrev pub sessions_data : List GivenSession → Data
sessions_data all = object (member (codes "sessions") (array (items_of (map session_data all))) no_members)

-- the command that gives such an act
abbrev pub act_name : Act → List ℕ
act_name Enable = codes "enable"
act_name Disable = codes "disable"
act_name Apply = codes "apply"

-- the member that tells the keys of a change, before these others: `"key":K` where there is one key, and `"keys":[..]`, in
-- their order, where there are several
abbrev pub with_keys : List Key → Members → Members
with_keys (k ∷ []) others = member (codes "key") (key_data k) others
with_keys ks others = member (codes "keys") (array (items_of (map key_data ks))) others

-- `{"entry":N,"key":K,"session":S,"what":"made"}`, or with `"keys":[..]`
abbrev pub made_data : ℕ → ℕ → List Key → Data
made_data number session keys =
    object (member (codes "entry") (whole_data number)
    (with_keys keys
    (member (codes "session") (whole_data session)
    (member (codes "what") (string (codes "made")) no_members))))

-- `{"entry":N,"key":K,"of":M,"session":S,"what":W}`, or with `"keys":[..]`, of the entry M that it takes back
abbrev pub taking_back_data : ℕ → ℕ → ℕ → List Key → List ℕ → Data
taking_back_data number session of keys word =
    object (member (codes "entry") (whole_data number)
    (with_keys keys
    (member (codes "of") (whole_data of)
    (member (codes "session") (whole_data session)
    (member (codes "what") (string word) no_members)))))

-- `{"act":W,"entry":N,"key":K,"now":A,"session":S,"what":"acted"}`
abbrev pub acted_data : ℕ → ℕ → Act → Key → ℕ → Data
acted_data number session act key now =
    object (member (codes "act") (string (act_name act))
    (member (codes "entry") (whole_data number)
    (member (codes "key") (key_data key)
    (member (codes "now") (whole_data now)
    (member (codes "session") (whole_data session)
    (member (codes "what") (string (codes "acted")) no_members))))))

-- `{"entry":N,"session":S,"settled":U,"what":"settled"}`
abbrev pub settled_data : ℕ → ℕ → ℕ → Data
settled_data number session upto =
    object (member (codes "entry") (whole_data number)
    (member (codes "session") (whole_data session)
    (member (codes "settled") (whole_data upto)
    (member (codes "what") (string (codes "settled")) no_members))))

-- what was done, under the entry's number and session; a change is told by its keys
abbrev pub what_data : ℕ → ℕ → What → Data
what_data number session (Made e) = made_data number session (keys_of (parts e))
what_data number session (Undone of e) = taking_back_data number session of (keys_of (parts e)) (codes "undone")
what_data number session (Redone of e) = taking_back_data number session of (keys_of (parts e)) (codes "redone")
what_data number session (Acted act key now) = acted_data number session act key now
what_data number session (Settled upto) = settled_data number session upto

abbrev pub entry_data : Entry → Data
entry_data e = what_data e.number e.session e.what

-- an entry that is kept with a mark, of which nothing is told
abbrev pub kept_data : MarkedEntry → Data
kept_data m = entry_data (entry_in m)

-- `{"entries":[..]}`
abbrev pub entries_data : List Entry → Data
entries_data es = object (member (codes "entries") (array (items_of (map entry_data es))) no_members)
