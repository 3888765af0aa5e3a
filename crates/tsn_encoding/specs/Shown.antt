-- What lines show as JSON values: a key, the name of a session, a record under its key, numbers of instances, a setup.
use Rattle.std.specs.Prelude.{ℕ, List, Option, Some, None, map, codes}
use Rattle.serde_json.specs.Data.{Data, null, string, array, object, member, no_members}
use Rattle.serde_json.specs.View.{items_of}
use Rattle.tsn_types.specs.declared.keys.Key.{Key}
use Rattle.tsn_types.specs.declared.records.Record.{Record}
use Rattle.tsn_records.specs.Keys.{key_text}
use Rattle.tsn_records.specs.Shown.{whole_data, record_data}

-- a key as it is told
abbrev pub key_data : Key → Data
key_data k = string (key_text k)

-- `{"key":K,"record":R}`
abbrev pub shown_data : Key → Record → Data
shown_data k r = object (member (codes "key") (string (key_text k)) (member (codes "record") (record_data r) no_members))

-- a name, or null
abbrev pub name_data : Option (List ℕ) → Data
name_data None = null
name_data (Some name) = string name

-- `{"setup":TEXT}`
abbrev pub setup_data : List ℕ → Data
setup_data text = object (member (codes "setup") (string text) no_members)

-- `{"ids":[..]}`
abbrev pub ids_data : List ℕ → Data
ids_data ids = object (member (codes "ids") (array (items_of (map whole_data ids))) no_members)
