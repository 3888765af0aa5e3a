-- What a settle leaves of a sound ledger, and why it is refused.
use Rattle.std.proofs.Common.{◌≡◌, ℕ, ◌+◌, ◌<◌, not, List, sym, ◌∙◌, None, arith, length}
use Rattle.std.specs.Prelude.{filter, nat_le}
use Rattle.std.proofs.lemmas.Bool.{ltb-true}
use Rattle.tsn_types.specs.Limits.{first_cause}
use Rattle.tsn_types.proofs.Causes.{each_none, unless-None}
use Rattle.tsn_entries.specs.declared.entries.What.TheVariants.{Settled}
use Rattle.tsn_entries.specs.Entries.{Applied, settled}
use Rattle.tsn_entries.specs.Finding.{later_than}
use Rattle.tsn_journal.proofs.Closing.{settled_push}
use Rattle.tsn_undo.specs.Ledger.{Ledger, enter}
use Rattle.tsn_undo.specs.Settling.{Settles, settle_causes, settle_refusal}
use Rattle.tsn_undo.proofs.Adding.{base_settled, left_now, next, nothing_push}
use Rattle.tsn_undo.proofs.Making.{SoundLedger}

-- ---- the causes

settle_refusal-first : (b : Ledger) (upto : ℕ) → settle_refusal b upto ≡ first_cause (settle_causes b upto)
settle_refusal-first b upto = grind arith

-- ---- what it leaves

-- what is left are the later ones
left_later : (n : ℕ) (xs : List Applied) → filter (λ (x : Applied). not (nat_le x.number n)) xs ≡ later_than n xs
left_later n xs = grind arith

module _ (b : Ledger) (s upto : ℕ) (sound : SoundLedger b) (free : settle_refusal b upto ≡ None) where
  above_settled : settled b.entries < upto
  above_settled = ltb-true _ _ (unless-None _ _ (each_none (settle_causes b upto) (sym (settle_refusal-first b upto) ∙ free)).1.0)

  pub makes_settle : (number : ℕ) (new : Ledger) → number ≡ length b.entries + 1 → new ≡ enter b s (Settled upto)
      → Settles b s upto number new
  makes_settle number new number_is after =
      grind (arith, nothing_push, settled_push, next, above_settled, left_now, left_later, base_settled)
