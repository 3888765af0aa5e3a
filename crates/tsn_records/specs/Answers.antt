-- What reading answers: a value or why there is none, and want of memory in place of either.
use Rattle.std.specs.Prelude.{◌≡◌, ◌⊎◌, List, [], ◌∷◌, Option, Some, None, Result, Ok, Err}
use Rattle.tsn_types.specs.declared.refusals.Refusal.{Refusal}
use Rattle.tsn_types.specs.declared.refusals.Refusal.TheVariants as refusals
use Rattle.tsn_records.specs.declared.unread.Unread.{Unread}
use Rattle.tsn_records.specs.declared.unread.Unread.TheVariants.{Syntax, Shape, Range, Memory}

-- the refusal that a reply names
abbrev pub refusal_of : Unread → Refusal
refusal_of Syntax = refusals.Syntax
refusal_of Shape = refusals.Shape
refusal_of (Range field) = refusals.Range field
refusal_of Memory = refusals.Memory

-- the next answer, where the first one was given
infixl 10 ◌>>=◌
abbrev pub ◌>>=◌ : {A B : Type 0} → Result A Unread → (A → Result B Unread) → Result B Unread
(Ok x) >>= f = f x
(Err e) >>= f = Err e

-- an answer, with what was given seen as data
abbrev pub seen : {A B : Type 0} → (A → B) → Result A Unread → Result B Unread
seen view (Ok x) = Ok (view x)
seen view (Err e) = Err e

-- what is there; nothing is a fault of shape
abbrev pub or_shape : {A : Type 0} → Option A → Result A Unread
or_shape None = Err Shape
or_shape (Some x) = Ok x

-- the same; nothing is a fault of syntax
abbrev pub or_syntax : {A : Type 0} → Option A → Result A Unread
or_syntax None = Err Syntax
or_syntax (Some x) = Ok x

-- an answer, with why there is none as the refusal that is told
abbrev pub refused : {A : Type 0} → Result A Unread → Result A Refusal
refused (Ok x) = Ok x
refused (Err e) = Err (refusal_of e)

-- the answers of all, or the first fault
abbrev pub each : {A B : Type 0} → (A → Result B Unread) → List A → Result (List B) Unread
each f [] = Ok []
each f (x ∷ xs) = f x >>= λ y. each f xs >>= λ ys. Ok (y ∷ ys)

-- the answer, in whose place want of memory may stand
abbrev pub Reads : {A : Type 0} → Result A Unread → Result A Unread → Type 0
Reads r answer = (r ≡ answer) ⊎ (r ≡ Err Memory)

-- the same of refusals
abbrev pub IsOrMemory : {A : Type 0} → Result A Refusal → Result A Refusal → Type 0
IsOrMemory r answer = (r ≡ answer) ⊎ (r ≡ Err refusals.Memory)
