-- What the calls of a desk promise, of the desk and of its seats.
use Rattle.std.specs.Prelude.{◌≡◌, ◌≢◌, ℕ, slice_get, List, [], ◌∷◌, ◌++◌, length, Some}
use Rattle.atomic_table.specs.Seated.{TableId}
use Rattle.tsn_machine.specs.declared.history.Entry.{Entry}
use Rattle.tsn_desk.specs.declared.desk.Seat.{Seat}
use Rattle.tsn_desk.specs.declared.desk.Desk.{Desk}
use Rattle.tsn_machine.specs.History.{Begins, Runs, IsLegal, calls_by, call}
use Rattle.tsn_desk.specs.Seats as inner

-- the beginning of the history that the seat has seen
abbrev pub seen : {M Q A : Type 0} {D : _} → Seat M Q A D → List (Entry Q A)
seen seat = inner.seen seat.inner

-- how many tickets it has seen drawn
abbrev pub tickets : {M Q A : Type 0} {D : _} → Seat M Q A D → ℕ
tickets seat = inner.tickets seat.inner

-- the number that it makes its calls under
abbrev pub number : {M Q A : Type 0} {D : _} → Seat M Q A D → ℕ
number seat = inner.number seat.inner

-- the calls that it has made, in their order
abbrev pub made : {M Q A : Type 0} {D : _} → Seat M Q A D → List (Entry Q A)
made seat = inner.made seat.inner

-- the machine that the desk began with
abbrev pub first_of : {M Q A : Type 0} → Desk M Q A → M
first_of desk = inner.first_of desk.table

-- how many seats the desk has
abbrev pub seats_of : {M Q A : Type 0} → Desk M Q A → ℕ
seats_of desk = inner.seats_of desk.table

-- what tells one desk from another, also where the desk itself can't be named
abbrev pub DeskId : Type 0
DeskId = TableId

abbrev pub id_of : {M Q A : Type 0} → Desk M Q A → DeskId
id_of desk = desk.table.shared.table_id

-- it is a seat of this desk
abbrev pub IsSeatOf : {M Q A : Type 0} {D : _} → Desk M Q A → Seat M Q A D → Type 0
IsSeatOf desk seat = inner.IsSeatOf desk.table seat.inner

-- its number and its calls stay
abbrev pub IsSameCaller : {M Q A : Type 0} {D : _} → Seat M Q A D → Seat M Q A D → Type 0
IsSameCaller old new = inner.IsSameCaller old.inner new.inner

-- the seat has seen no less than before, and what it has seen is legal
pub record HasSeenMore {M Q A : Type 0} {D : _} (steps : M → Q → A → M → Type 0) (desk : Desk M Q A) (old new : Seat M Q A D) : Type 0 where
  pub own : IsSeatOf desk new
  pub begins : Begins (seen old) (seen new)
  pub legal : IsLegal steps (first_of desk) (seen new)

-- The history then seen is legal, begins with what was seen before, and ends with this call, at its place. Of the calls of the seat's
-- number it has those that the seat had made and this one, each once.
pub record HasTurned {M Q A : Type 0} {D : _} (steps : M → Q → A → M → Type 0) (desk : Desk M Q A) (old : Seat M Q A D) (request : Q)
    (place : ℕ) (reply : A) (new : Seat M Q A D) : Type 0 where
  pub before : List (Entry Q A)
  pub begins : Begins (seen old) before
  pub at_place : length before ≡ place
  pub whole : seen new ≡ before ++ call (number old) request reply ∷ []
  pub legal : IsLegal steps (first_of desk) (seen new)
  pub own : made new ≡ made old ++ call (number old) request reply ∷ []
  pub all_own : calls_by (number old) (seen new) ≡ made new

-- it is a seat of this desk, of this number, that has seen nothing and made no call
pub record IsFresh {M Q A : Type 0} {D : _} (desk : Desk M Q A) (seat : Seat M Q A D) (n : ℕ) : Type 0 where
  pub own : IsSeatOf desk seat
  pub nothing_seen : seen seat ≡ []
  pub nothing_made : made seat ≡ []
  pub number_is : number seat ≡ n

-- The machine is where a legal history ends, which begins with what each seat has seen. The calls in it are those of the seats, in their
-- order, which differ in their numbers, and no others.
pub record Closes {M Q A : Type 0} {D : _} (steps : M → Q → A → M → Type 0) (x : M) (seats : List (Seat M Q A D)) (machine : M) : Type 0
  where
    pub log : List (Entry Q A)
    pub runs : Runs steps x log machine
    pub begins : (k : ℕ) (s : Seat M Q A D) → slice_get seats k ≡ Some s → Begins (seen s) log
    pub calls : (k : ℕ) (s : Seat M Q A D) → slice_get seats k ≡ Some s → calls_by (number s) log ≡ made s
    pub apart : (i j : ℕ) (s t : Seat M Q A D) → slice_get seats i ≡ Some s → slice_get seats j ≡ Some t → number s ≡ number t → i ≡ j
    pub no_other : (n : ℕ) → ((k : ℕ) (s : Seat M Q A D) → slice_get seats k ≡ Some s → number s ≢ n) → calls_by n log ≡ []
