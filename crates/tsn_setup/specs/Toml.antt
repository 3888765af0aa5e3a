-- What a TOML value holds, as setups are made of it.
use Rattle.std.specs.Prelude.{ℕ, ℤ, pos, negsuc, ◌&&◌, List, [], ◌∷◌, Bool, true, if◌then◌else◌, Option, Some, None, option_and_then, option_map, Result, Ok, Err}
use Rattle.std.specs.List.{list_any}
use Rattle.std.specs.Str.{bytes_eq}
use Rattle.toml.specs.Data.{Data, Items, no_items, item, Members, no_members, member, get, as_integer, as_bool, as_array, as_table}
use Rattle.tsn_records.specs.Answers.{◌>>=◌, or_shape}
use Rattle.tsn_records.specs.Looks.{Look}
use Rattle.tsn_records.specs.Members.{names_of, entry_names_of}
use Rattle.tsn_records.specs.declared.unread.Unread.{Unread}
use Rattle.tsn_records.specs.declared.unread.Unread.TheVariants.{Shape}

-- a number from 0 up
abbrev pub natural : ℤ → Option ℕ
natural (pos n) = Some n
natural (negsuc n) = None

-- a whole number from 0 up
abbrev pub whole : Data → Option ℕ
whole d = option_and_then natural (as_integer d)

-- what is there, of the kind that is wanted; a fault of shape where there is something else
abbrev pub if_given : {A B : Type 0} → (A → Option B) → Option A → Result (Option B) Unread
if_given of_kind None = Ok None
if_given of_kind (Some x) = or_shape (of_kind x) >>= λ y. Ok (Some y)

-- The member of a name, of the kind that is wanted; a fault of shape where there is none.
abbrev pub number_at : List ℕ → Data → Result ℕ Unread
number_at name d = or_shape (option_and_then whole (get name d))

-- The same, where the member may be left out.
abbrev pub number_or_none_at : List ℕ → Data → Result (Option ℕ) Unread
number_or_none_at name d = if_given whole (get name d)

abbrev pub items_or_none_at : List ℕ → Data → Result (Option Items) Unread
items_or_none_at name d = if_given as_array (get name d)

-- the items of an array in order
abbrev pub items_list : Items → List Data
items_list no_items = []
items_list (item d ds) = d ∷ items_list ds

-- each member's name is one of these
abbrev pub are_among : List (List ℕ) → Members → Bool
are_among names no_members = true
are_among names (member k d ms) = list_any (λ name. bytes_eq name k) names && are_among names ms

-- a table with no members but these
abbrev pub has_only : List (List ℕ) → Data → Result (Unit {0}) Unread
has_only names d = or_shape (as_table d) >>= λ ms. if are_among names ms then Ok tt else Err Shape

-- A TOML value as one looks into it: what stands for none is left out, and an entry of a list is a table.
abbrev pub as_toml : Look Data
as_toml = record {
  only = λ kind d. has_only (names_of kind) d;
  only_entry = λ kind d. has_only (entry_names_of kind) d;
  at = get;
  part = λ i name d. get name d;
  number = λ found. or_shape (option_and_then whole found);
  number_or_none = λ found. if_given whole found;
  flag = λ found. or_shape (option_and_then as_bool found);
  items = λ found. or_shape (option_map items_list (option_and_then as_array found));
}
