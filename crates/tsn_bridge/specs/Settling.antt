-- The rule of a settle: it makes one entry, and changes neither a record nor what the filter chain keeps.
use Rattle.std.specs.Prelude.{ℕ, true, [], ◌∷◌, Some}
use Rattle.tsn_entries.specs.declared.entries.What.TheVariants as whats
use Rattle.tsn_undo.specs.Ledger.{enter}
use Rattle.tsn_undo.specs.Settling.{settle_refusal}
use Rattle.tsn_commands.specs.declared.reply.Reply.TheVariants.{Settled}
use Rattle.tsn_bridge.specs.Edits.{next}
use Rattle.tsn_bridge.specs.State.{State}
use Rattle.tsn_bridge.specs.Rule.{Rule, no_session}

-- the state after the entries up to a number were made final
abbrev pub settled_state : State → ℕ → ℕ → State
settled_state s n upto = record s { book = enter s.book n (whats.Settled upto) }

-- any session may settle the entries up to a number that is there and not settled yet
abbrev pub settle_rule : State → ℕ → ℕ → Rule
settle_rule s n upto = record {
  causes = no_session s n ∷ settle_refusal s.book upto ∷ [];
  done = Some (Settled (next s) upto, settled_state s n upto);
  takes_memory = true;
}
