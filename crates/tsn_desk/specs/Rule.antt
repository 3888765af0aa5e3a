-- The rule of a desk: what holds of its words, its slot and the views of all seats between any two atomic steps. Word 0 counts the turns
-- that have ended, and word 1 the tickets that were drawn. The one slot has the machine, but while a seat has its turn: then nothing is at
-- home.
use Rattle.std.specs.Prelude.{◌≡◌, ℕ, ◌+◌, ◌^◌, ◌<◌, ◌≤◌, ◌⊎◌, ◌==◌, nat_lt, List, [], ◌∷◌, length, if◌then◌else◌, Option, Some, zero, suc}
use mathlib.Core.Option.{some, none}
use mathlib.Core.Option as maybe
use lib.ListN.{get_elem?}
use Rattle.atomic_table.specs.Table.{State}
use Rattle.tsn_machine.specs.declared.history.Entry.{Entry}
use Rattle.tsn_desk.specs.declared.history.Calls.{Calls}
use Rattle.tsn_desk.specs.declared.board.View.{View}
use Rattle.tsn_desk.specs.declared.board.Stage.{Stage}
use Rattle.tsn_desk.specs.declared.board.Stage.TheVariants.{Idle, Waiting, Serving}
use Rattle.tsn_machine.specs.History.{Begins, Runs, IsLegal, calls_by}

-- the number f of each element, added up
abbrev pub total : {V : Type 0} → (V → ℕ) → List V → ℕ
total f [] = 0
total f (v ∷ vs) = f v + total f vs

-- a seat at this stage holds the ticket
abbrev pub Holds : Stage → ℕ → Type 0
Holds Idle t = ⊥
Holds (Waiting k) t = k ≡ t
Holds (Serving k) t = k ≡ t

-- how many tickets a seat at this stage holds
abbrev pub held_at : Stage → ℕ
held_at Idle = 0
held_at (Waiting k) = 1
held_at (Serving k) = 1

module _ {Q A : Type 0} where
  -- n numbers from k on, with no calls yet
  abbrev pub numbered : ℕ → ℕ → List (Calls Q A)
  numbered k zero = []
  numbered k (suc n) = record { number = k; made = [] } ∷ numbered (suc k) n

  -- how often a number stands there
  abbrev pub times : ℕ → List (Calls Q A) → ℕ
  times n [] = 0
  times n (c ∷ cs) = (if c.number == n then 1 else 0) + times n cs

  -- the calls told of each number are those that the history has of it
  abbrev pub AllMade : List (Entry Q A) → List (Calls Q A) → Type 0
  AllMade log [] = Unit {0}
  AllMade log (c ∷ cs) = (calls_by c.number log ≡ c.made) × AllMade log cs

module _ {M Q A : Type 0} where
  -- a seat that has seen nothing, with n numbers from k on
  abbrev pub dealt : M → ℕ → ℕ → View M Q A
  dealt x k n = record { first = Some x; seen = []; told = []; tickets = 0; calls = numbered k n; stage = Idle }

  -- the first seat, which has all numbers
  abbrev pub opening_view : M → ℕ → View M Q A
  opening_view x seats = dealt x 1 seats

  -- how many tickets the seat holds
  abbrev pub holding : View M Q A → ℕ
  holding v = held_at v.stage

  -- how many numbers the seat has
  abbrev pub numbers : View M Q A → ℕ
  numbers v = length v.calls

  -- the same of a seat that has seen more than 2^63 tickets, and else 0: so many tickets may be drawn over that
  abbrev pub late : View M Q A → ℕ
  late v = if nat_lt (2 ^ 63) v.tickets then length v.calls else 0

  module _ (log : List (Entry Q A)) (ticket : ℕ) (homes : List (maybe.Option (Option M))) (seen : List (Entry Q A)) where
    -- A ticket that waits is not yet served, or just now, and was drawn. One that has its turn is the one that is served; its seat has seen
    -- the whole history, and the machine is out.
    abbrev pub InStage : Stage → Type 0
    InStage Idle = Unit {0}
    InStage (Waiting k) = (length log ≤ k) × (k < ticket)
    InStage (Serving k) = (length log ≡ k) × (k < ticket) × (seen ≡ log) × (homes ≡ none ∷ [])

  -- what a seat knows is so: its first machine is the desk's, the history begins with what it has seen and was told, no more tickets were
  -- seen than drawn, its calls are those of the history, and it has a number where it holds a ticket
  pub record Knows (x : M) (log : List (Entry Q A)) (ticket : ℕ) (homes : List (maybe.Option (Option M))) (v : View M Q A) : Type 0 where
    pub first : (y : M) → v.first ≡ Some y → y ≡ x
    pub seen : Begins v.seen log
    pub told : Begins v.told log
    pub tickets : v.tickets ≤ ticket
    pub made : AllMade log v.calls
    pub stage : InStage log ticket homes v.seen v.stage
    pub active : (t : ℕ) → Holds v.stage t → 0 < length v.calls

  -- the machine is at home, where the history ends, or the seat whose ticket is served has it
  abbrev pub Slot : (M → Q → A → M → Type 0) → M → List (Entry Q A) → List (maybe.Option (Option M)) → List (View M Q A) → Type 0
  Slot steps x log homes views =
      ((y : M) × (homes ≡ some (Some y) ∷ []) × Runs steps x log y)
      ⊎ ((j : ℕ) × (v : View M Q A) × (get_elem? views j ≡ some v) × (v.stage ≡ Serving (length log)) × (homes ≡ none ∷ []))

-- There is one history, of all turns that have ended, and it is legal from the desk's first machine. Each turn that has ended and each
-- ticket that is held make up the tickets drawn, and no ticket is held twice. There are so many numbers as seats, at most 1,024; none
-- stands with two seats, and no call has a number that stands with none.
pub record Kept {M Q A : Type 0} (steps : M → Q → A → M → Type 0) (x : M) (seats : ℕ) (s : State (Option M) (View M Q A)) : Type 0 where
  pub log : List (Entry Q A)
  pub ticket : ℕ
  pub queue : length log + total holding s.views ≡ ticket
  pub words : s.words ≡ length log ∷ ticket ∷ []
  pub legal : IsLegal steps x log
  pub slot : Slot steps x log s.homes s.views
  pub each_seat : (j : ℕ) (v : View M Q A) → get_elem? s.views j ≡ some v → Knows x log ticket s.homes v
  pub apart : (i j t : ℕ) (v w : View M Q A) → get_elem? s.views i ≡ some v → get_elem? s.views j ≡ some w → Holds v.stage t
      → Holds w.stage t → i ≡ j
  pub few : seats ≤ 1024
  pub all_numbers : total numbers s.views ≡ seats
  pub once : (n : ℕ) → total (λ v. times n v.calls) s.views ≤ 1
  pub unmade : (n : ℕ) → total (λ v. times n v.calls) s.views ≡ 0 → calls_by n log ≡ []
  -- a seat that has seen 2^63 tickets draws none, so there are never many more
  pub room : ticket ≤ 2 ^ 63 + total late s.views
