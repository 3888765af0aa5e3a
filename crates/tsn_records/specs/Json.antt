-- What a JSON value holds, as commands and records are made of it.
use Rattle.std.specs.Prelude.{ℕ, suc, ◌-◌, ◌==◌, List, [], ◌∷◌, length, Bool, if◌then◌else◌, is_some, Option, Some, None, option_map, option_and_then, Result, Ok, Err}
use Rattle.serde_json.specs.Data.{Data, array, object, Items, no_items, item, Members, no_members, member}
use Rattle.serde_json.specs.Find.{get, at, as_null, as_bool, as_number, as_str, as_array, as_u64}
use Rattle.tsn_records.specs.declared.unread.Unread.{Unread}
use Rattle.tsn_records.specs.declared.unread.Unread.TheVariants.{Shape}
use Rattle.tsn_records.specs.Answers.{or_shape}
use Rattle.tsn_records.specs.Looks.{Look}
use Rattle.tsn_records.specs.Members.{names_of, entry_names_of}

abbrev pub members_len : Members → ℕ
members_len no_members = 0
members_len (member k d ms) = suc (members_len ms)

-- how many members an object has; an object has each name once
abbrev pub member_count : Data → ℕ
member_count (object ms) = members_len ms
member_count d = 0

-- the items of an array in order
abbrev pub items_list : Items → List Data
items_list no_items = []
items_list (item d ds) = d ∷ items_list ds

abbrev pub items_len : Items → ℕ
items_len no_items = 0
items_len (item d ds) = suc (items_len ds)

-- how many items an array has
abbrev pub item_count : Data → ℕ
item_count (array ds) = items_len ds
item_count d = 0

-- a whole number from 0 up, below 2^64, with no sign, fraction or exponent
abbrev pub whole : Data → Option ℕ
whole d = option_and_then as_u64 (as_number d)

-- the same, or null for none
abbrev pub whole_or_null : Data → Option (Option ℕ)
whole_or_null d = if is_some (as_null d) then Some None else option_map Some (whole d)

-- an object of that many members
abbrev pub has_members : ℕ → Data → Result (Unit {0}) Unread
has_members n d = if member_count d == n then Ok tt else Err Shape

-- The member of a name, of the kind that is wanted; a fault of shape where there is none.
abbrev pub number_at : List ℕ → Data → Result ℕ Unread
number_at name d = or_shape (option_and_then whole (get name d))

abbrev pub flag_at : List ℕ → Data → Result Bool Unread
flag_at name d = or_shape (option_and_then as_bool (get name d))

abbrev pub text_at : List ℕ → Data → Result (List ℕ) Unread
text_at name d = or_shape (option_and_then as_str (get name d))

abbrev pub value_at : List ℕ → Data → Result Data Unread
value_at name d = or_shape (get name d)

abbrev pub items_at : List ℕ → Data → Result Items Unread
items_at name d = or_shape (option_and_then as_array (get name d))

-- an array of that many items
abbrev pub has_items : ℕ → Data → Result (Unit {0}) Unread
has_items n d = if item_count d == n then Ok tt else Err Shape

-- A JSON value as one looks into it: null stands for none, and an entry of a list is an array. An identifier stands in the key.
abbrev pub as_json : Look Data
as_json = record {
  only = λ kind d. has_members (length (names_of kind) - 1) d;
  only_entry = λ kind d. has_items (length (entry_names_of kind)) d;
  at = get;
  part = λ i name d. at i d;
  number = λ found. or_shape (option_and_then whole found);
  number_or_none = λ found. or_shape (option_and_then whole_or_null found);
  flag = λ found. or_shape (option_and_then as_bool found);
  items = λ found. or_shape (option_map items_list (option_and_then as_array found));
}
