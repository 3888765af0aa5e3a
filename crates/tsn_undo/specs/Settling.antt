-- What a settle does to a book, and why it is refused.
use Rattle.std.specs.Prelude.{◌≡◌, ℕ, ◌+◌, List, [], ◌∷◌, Option, None, filter, length, nat_le, nat_lt}
use Rattle.tsn_types.specs.declared.refusals.Field.TheVariants.{Upto}
use Rattle.tsn_types.specs.declared.refusals.Refusal.{Refusal}
use Rattle.tsn_types.specs.declared.refusals.Refusal.TheVariants.{Range, Settled as SettledAlready}
use Rattle.tsn_types.specs.Limits.{unless}
use Rattle.tsn_types.specs.Refusals.{least}
use Rattle.tsn_edit.specs.Runs.{run}
use Rattle.tsn_entries.specs.declared.entries.What.TheVariants.{Settled}
use Rattle.tsn_entries.specs.Entries.{Applied, changes, no_room, settled, standing}
use Rattle.tsn_entries.specs.Finding.{later_than}
use Rattle.tsn_undo.specs.Ledger.{Ledger, base_of, enter, present}

-- why a settle is refused: there is no entry of the number, the entries up to it are settled already, a full journal
abbrev pub settle_causes : Ledger → ℕ → List (Option Refusal)
settle_causes b upto =
    unless (nat_le upto (length b.entries)) (Range Upto) ∷ unless (nat_lt (settled b.entries) upto) (SettledAlready (settled b.entries))
    ∷ no_room b.entries 1 ∷ []

abbrev pub settle_refusal : Ledger → ℕ → Option Refusal
settle_refusal b upto = least (settle_causes b upto)

-- the entries up to the number
abbrev pub up_to : ℕ → List Applied → List Applied
up_to n xs = filter (λ x. nat_le x.number n) xs

-- a settle makes one entry and changes no record: what stood up to its number stands no more, and the run of what stands
-- begins where that has led
pub record Settles (b : Ledger) (s upto number : ℕ) (new : Ledger) : Type 0 where
  pub free : settle_refusal b upto ≡ None
  pub number_is : number ≡ length b.entries + 1
  pub after : new ≡ enter b s (Settled upto)
  pub map : present new ≡ present b
  pub settled_to : settled new.entries ≡ upto
  pub stands : standing new.entries ≡ later_than upto (standing b.entries)
  pub base : base_of new ≡ run (base_of b) (changes (up_to upto (standing b.entries)))
