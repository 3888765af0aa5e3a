-- How a value of a text format is looked into, as records are made of it. What is not there, or of another kind than is wanted,
-- is a fault of shape.
use Rattle.std.specs.Prelude.{ℕ, List, Bool, Option, Result}
use Rattle.tsn_types.specs.declared.keys.Kind.{Kind}
use Rattle.tsn_records.specs.declared.unread.Unread.{Unread}

pub record Look (D : Type 0) : Type 0 where
  -- it has the members of a record of that kind, and no others
  pub only : Kind → D → Result (Unit {0}) Unread
  -- it has those of an entry of a list of that kind
  pub only_entry : Kind → D → Result (Unit {0}) Unread
  -- what stands under a name
  pub at : List ℕ → D → Option D
  -- what an entry has at a place, where entries are arrays, and else under a name
  pub part : ℕ → List ℕ → D → Option D
  -- a whole number from 0 up
  pub number : Option D → Result ℕ Unread
  -- such a number, or what stands for none
  pub number_or_none : Option D → Result (Option ℕ) Unread
  pub flag : Option D → Result Bool Unread
  -- the items of an array
  pub items : Option D → Result (List D) Unread
