-- Seats and desks as the table sees them. `Desks.antt` says the same of those that callers have.
use Rattle.std.specs.Prelude.{◌≡◌, ◌≢◌, ℕ, slice_get, List, [], ◌++◌, Option, Some}
use Rattle.atomic_table.specs.declared.shared.Seat.{Seat}
use Rattle.atomic_table.specs.declared.owned.Table.{Table}
use Rattle.tsn_machine.specs.declared.history.Entry.{Entry}
use Rattle.tsn_desk.specs.declared.board.View.{View}
use Rattle.tsn_desk.specs.declared.board.Opening.{Opening}
use Rattle.tsn_desk.specs.declared.board.Stage.TheVariants.{Idle}
use Rattle.tsn_machine.specs.History.{Begins, Runs, IsLegal, calls_by}
use Rattle.tsn_desk.specs.Steps.{number_of, made_of}

module _ {M Q A : Type 0} where
  -- the beginning of the history that the seat has seen
  abbrev pub seen : Seat (Option M) (View M Q A) → List (Entry Q A)
  seen seat = seat.me.0.seen

  -- how many tickets it has seen drawn
  abbrev pub tickets : Seat (Option M) (View M Q A) → ℕ
  tickets seat = seat.me.0.tickets

  -- the number that it makes its calls under
  abbrev pub number : Seat (Option M) (View M Q A) → ℕ
  number seat = number_of seat.me.0.calls

  -- the calls that it has made
  abbrev pub made : Seat (Option M) (View M Q A) → List (Entry Q A)
  made seat = made_of seat.me.0.calls

  -- its number and its calls stay
  abbrev pub IsSameCaller : Seat (Option M) (View M Q A) → Seat (Option M) (View M Q A) → Type 0
  IsSameCaller old new = (number new ≡ number old) × (made new ≡ made old)

module _ {M Q A : Type 0} where
  -- The machine is where a legal history ends, which begins with what each seat has seen. The calls in it are those of the seats, which
  -- differ in their numbers, and no others.
  pub record Closes (steps : M → Q → A → M → Type 0) (x : M) (seats : List (Seat (Option M) (View M Q A))) (machine : M) : Type 0 where
    pub log : List (Entry Q A)
    pub runs : Runs steps x log machine
    pub begins : (k : ℕ) (s : Seat (Option M) (View M Q A)) → slice_get seats k ≡ Some s → Begins (seen s) log
    pub calls : (k : ℕ) (s : Seat (Option M) (View M Q A)) → slice_get seats k ≡ Some s → calls_by (number s) log ≡ made s
    pub apart : (i j : ℕ) (s t : Seat (Option M) (View M Q A)) → slice_get seats i ≡ Some s → slice_get seats j ≡ Some t
        → number s ≡ number t → i ≡ j
    pub no_other : (n : ℕ) → ((k : ℕ) (s : Seat (Option M) (View M Q A)) → slice_get seats k ≡ Some s → number s ≢ n) → calls_by n log ≡ []

module _ {M Q A T P : Type 0} where
  -- the machine that the desk began with
  abbrev pub first_of : Table (Option M) (View M Q A) (Opening M) P T → M
  first_of table = table.shared.key.first.value

  -- how many seats it has
  abbrev pub seats_of : Table (Option M) (View M Q A) (Opening M) P T → ℕ
  seats_of table = table.shared.key.seats

  -- it is a seat of this desk
  abbrev pub IsSeatOf : Table (Option M) (View M Q A) (Opening M) P T → Seat (Option M) (View M Q A) → Type 0
  IsSeatOf table seat = (seat.table_id ≡ table.shared.table_id) × (seat.me.0.first ≡ Some (first_of table))

  -- it is a seat of this desk, outside a turn
  pub record IsAtRest (table : Table (Option M) (View M Q A) (Opening M) P T) (seat : Seat (Option M) (View M Q A)) : Type 0 where
    pub own : IsSeatOf table seat
    pub empty : seat.me.1 ≡ []
    pub idle : seat.me.0.stage ≡ Idle

  -- the seat has seen the whole history, which begins with what it and the other had seen, and has taken in the other's numbers
  pub record HasGathered (steps : M → Q → A → M → Type 0) (table : Table (Option M) (View M Q A) (Opening M) P T)
      (other old new : Seat (Option M) (View M Q A)) : Type 0 where
    pub rests : IsAtRest table new
    pub calls : new.me.0.calls ≡ other.me.0.calls ++ old.me.0.calls
    pub kept : Begins (seen old) (seen new)
    pub learned : Begins (seen other) (seen new)
    pub legal : IsLegal steps (first_of table) (seen new)

  -- the seat has seen the whole history, which begins with what it and another had seen, and its own calls stay
  pub record Learned (steps : M → Q → A → M → Type 0) (table : Table (Option M) (View M Q A) (Opening M) P T)
      (from old new : Seat (Option M) (View M Q A)) : Type 0 where
    pub rests : IsAtRest table new
    pub calls : new.me.0.calls ≡ old.me.0.calls
    pub kept : Begins (seen old) (seen new)
    pub learned : Begins (seen from) (seen new)
    pub legal : IsLegal steps (first_of table) (seen new)
