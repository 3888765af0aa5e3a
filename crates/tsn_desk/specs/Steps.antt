-- What each atomic step tells: of the seat before it, the number found, and the seat after it.
use Rattle.std.specs.Prelude.{◌≡◌, ◌≢◌, ℕ, ◌+◌, ◌<◌, ◌≤◌, List, [], ◌∷◌, ◌++◌, length, max, Option, Some, None}
use Rattle.atomic_table.specs.Table.{Me, Step, rest}
use Rattle.tsn_machine.specs.declared.history.Entry.{Entry}
use Rattle.tsn_desk.specs.declared.history.Calls.{Calls}
use Rattle.tsn_desk.specs.declared.board.View.{View}
use Rattle.tsn_desk.specs.declared.board.Stage.TheVariants.{Idle, Waiting, Serving}
use Rattle.tsn_machine.specs.History.{Begins, Runs, IsLegal, call}
use Rattle.tsn_desk.specs.Rule.{AllMade}

module _ {Q A : Type 0} where
  -- the number that the seat makes its calls under, which is its first one
  abbrev pub number_of : List (Calls Q A) → ℕ
  number_of [] = 0
  number_of (c ∷ cs) = c.number

  -- the calls that it has made under it
  abbrev pub made_of : List (Calls Q A) → List (Entry Q A)
  made_of [] = []
  made_of (c ∷ cs) = c.made

  -- the first number alone, with its calls
  abbrev pub first_calls : List (Calls Q A) → List (Calls Q A)
  first_calls [] = []
  first_calls (c ∷ cs) = c ∷ []

  -- all numbers but the first
  abbrev pub rest_calls : List (Calls Q A) → List (Calls Q A)
  rest_calls [] = []
  rest_calls (c ∷ cs) = cs

  -- one call more under the first number
  abbrev pub add : Entry Q A → List (Calls Q A) → List (Calls Q A)
  add e [] = []
  add e (c ∷ cs) = record { number = c.number; made = c.made ++ e ∷ [] } ∷ cs

-- what a seat knows, and the slots that it has out
abbrev pub Sitter : Type 0 → Type 0 → Type 0 → Type 0
Sitter M Q A = Me (Option M) (View M Q A)

module _ {M Q A : Type 0} where
  -- a seat whose turn has ended with this call
  abbrev pub finished : View M Q A → Entry Q A → View M Q A
  finished v e = record v { seen = v.seen ++ e ∷ []; calls = add e v.calls; stage = Idle }

  -- a seat that was told what another has seen, and has the numbers of both
  abbrev pub joined : View M Q A → View M Q A → View M Q A
  joined v w = record v { told = w.seen; tickets = max v.tickets w.tickets; calls = w.calls ++ v.calls }

  -- a seat that was joined into another
  abbrev pub spent : View M Q A
  spent = record { first = None; seen = []; told = []; tickets = 0; calls = []; stage = Idle }

  -- so many tickets were drawn, and no fewer than it had seen
  abbrev pub saw_tickets : Step (Option M) → Sitter M Q A → ℕ → Sitter M Q A → Type 0
  saw_tickets step m n k = (k ≡ (record m.0 { tickets = n }, m.1)) × (m.0.tickets ≤ n)

  -- the number found is the seat's ticket
  abbrev pub drew : Step (Option M) → Sitter M Q A → ℕ → Sitter M Q A → Type 0
  drew step m n k = k ≡ (record m.0 { tickets = n + 1; stage = Waiting n }, m.1)

  module _ (steps : M → Q → A → M → Type 0) where
    -- the seat has taken the machine, which is where the history ends; it has seen that whole, and it has n calls
    abbrev pub Took : Sitter M Q A → ℕ → Sitter M Q A → Type 0
    Took m n k = (x : M) × (log : List (Entry Q A)) × (k ≡ (record m.0 { seen = log; stage = Serving n }, (0, Some x) ∷ m.1))
        × Begins m.0.seen log × (length log ≡ n) × ((y : M) → m.0.first ≡ Some y → Runs steps y log x)

    -- a look whether the ticket is served: if so, the seat has taken the machine, and else nothing changed
    abbrev pub looked : Step (Option M) → Sitter M Q A → ℕ → Sitter M Q A → Type 0
    looked step m n k = (m.0.stage ≡ Waiting n → Took m n k) × (m.0.stage ≢ Waiting n → k ≡ m)

    -- the seat has seen the whole history, which is legal, has n calls, and begins with what the seat had seen and was told
    abbrev pub saw_front : Step (Option M) → Sitter M Q A → ℕ → Sitter M Q A → Type 0
    saw_front step m n k = (log : List (Entry Q A)) × (k ≡ (record m.0 { seen = log }, m.1)) × Begins m.0.seen log × Begins m.0.told log
        × (length log ≡ n) × ((y : M) → m.0.first ≡ Some y → IsLegal steps y log) × AllMade log m.0.calls

    -- the seat has its turn, and in its slot the machine after a step that was asked and answered so
    abbrev pub HasServed : Sitter M Q A → Q → A → Type 0
    HasServed m q a =
        ((t : ℕ) × (m.0.stage ≡ Serving t))
        × ((y : M) × (z : M) × (m.1 ≡ (0, Some z) ∷ []) × ((b : M) → m.0.first ≡ Some b → Runs steps b m.0.seen y) × steps y q a z)
        × (0 < length m.0.calls)

    -- the turn has ended: the call stands last in the history, which is legal and has just the calls that the seat has made, and the
    -- machine is at home
    abbrev pub Ended : Sitter M Q A → Q → A → Sitter M Q A → Type 0
    Ended m q a k = (k ≡ (finished m.0 (call (number_of m.0.calls) q a), rest m.1))
        × ((y : M) → m.0.first ≡ Some y → IsLegal steps y k.0.seen) × AllMade k.0.seen k.0.calls

    -- the same, where something was said
    abbrev pub ended : Option (Q × A) → Step (Option M) → Sitter M Q A → ℕ → Sitter M Q A → Type 0
    ended None step m n k = Unit {0}
    ended (Some said) step m n k = Ended m said.0 said.1 k
