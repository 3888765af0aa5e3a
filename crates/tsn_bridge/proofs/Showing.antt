-- A show that wants memory shows a record with a list, and a list that wants it is of a kind with an instance; and what a setup is
-- answered.
use Rattle.std.proofs.Common.{◌≡◌, ◌⊎◌, ◌∙◌, ℕ, ◌<◌, length, true, Some, None, List, [], ◌∷◌, Result, Ok, Err, inl, inr, refl, sym}
use Rattle.std.specs.Prelude.{is_some}
use Rattle.std.specs.FinMap.{get}
use Rattle.std.proofs.lemmas.Bool.{lt-ltb}
use Rattle.tsn_types.specs.declared.keys.Key.{Key}
use Rattle.tsn_types.specs.declared.keys.Key.TheVariants.{Filter, Gate, Meter, Port}
use Rattle.tsn_types.specs.declared.keys.Kind.{Kind}
use Rattle.tsn_types.specs.declared.limits.Limits.{Limits}
use Rattle.tsn_types.specs.declared.records.Record.{Record}
use Rattle.tsn_types.specs.declared.records.Record.TheVariants as records
use Rattle.tsn_types.specs.declared.refusals.Field.TheVariants as fields
use Rattle.tsn_types.specs.declared.refusals.Refusal.{Refusal}
use Rattle.tsn_types.specs.declared.refusals.Refusal.TheVariants.{Memory, Missing, NoSession, Range}
use Rattle.tsn_types.specs.Limits.{HoldsRecord, holds_key, unless}
use Rattle.tsn_types.specs.Refusals.{least}
use Rattle.tsn_edit.specs.Configuration.{IsWellKept}
use Rattle.tsn_config.specs.Ids.{ids_of}
use Rattle.tsn_export.specs.Text.{exported}
use Rattle.tsn_undo.specs.Ledger.{present}
use Rattle.tsn_commands.specs.declared.reply.Reply.TheVariants.{Refused, Setup}
use Rattle.tsn_bridge.specs.Acts.{has_list}
use Rattle.tsn_bridge.specs.Reads.{list_rule, record_has_list, setup_rule, show_rule}
use Rattle.tsn_bridge.specs.Rule.{Allows, is_given}
use Rattle.tsn_bridge.specs.State.{State}
use Rattle.tsn_bridge.proofs.Stepping.{is_refused}

-- where a record with a list stands, the key is of a kind that has lists
has_list_of : (l : Limits) (k : Key) (r : Record) → HoldsRecord l k r → record_has_list r ≡ true → has_list k ≡ true
has_list_of l (Port n) r holds list = refl
has_list_of l (Gate n) r holds list = refl
has_list_of l (Filter n) (records.Port r) holds list = absurd holds
has_list_of l (Filter n) (records.Filter r) holds list = (cc)
has_list_of l (Filter n) (records.Gate r) holds list = absurd holds
has_list_of l (Filter n) (records.Meter r) holds list = (cc)
has_list_of l (Meter n) (records.Port r) holds list = absurd holds
has_list_of l (Meter n) (records.Filter r) holds list = (cc)
has_list_of l (Meter n) (records.Gate r) holds list = absurd holds
has_list_of l (Meter n) (records.Meter r) holds list = (cc)

pub show_refused : (s : State) (n : ℕ) (k : Key) (r : Record) → IsWellKept s.book.limits (present s.book) → holds_key s.book.limits k ≡ true
    → is_given s n ≡ true → get (present s.book) k ≡ Some r
    → record_has_list r ≡ true → Allows (show_rule s n k) s (Refused Memory) s
show_refused s n k r kept holds known stands list =
    is_refused (show_rule s n k) s (Refused Memory) s None Memory
    (λ i. least (unless (holds i) (Range fields.Key) ∷ unless (known i) NoSession ∷ unless (is_some (stands i)) (Missing k) ∷ []))
    (has_list_of s.book.limits k r (kept.within k r stands).1 list) refl refl refl

pub list_refused : (s : State) (n : ℕ) (kind : Kind) → is_given s n ≡ true → 0 < length (ids_of kind (present s.book))
    → Allows (list_rule s n kind) s (Refused Memory) s
list_refused s n kind known some =
    is_refused (list_rule s n kind) s (Refused Memory) s None Memory (λ i. least (unless (known i) NoSession ∷ []))
    (lt-ltb 0 (length (ids_of kind (present s.book))) some) refl refl refl

-- ---- the setup

-- where the session was given out, what its text comes to is told, or want of memory
pub setup_told : (s : State) (n : ℕ) (text : List ℕ) → is_given s n ≡ true → exported s.book.limits (present s.book) ≡ Ok text
    → Allows (setup_rule s n) s (Setup text) s
setup_told s n text given is = rw (given, is) (inl refl)

pub setup_refused : (s : State) (n : ℕ) (why : Refusal) {x : Result (List ℕ) Refusal} → is_given s n ≡ true
    → x ≡ exported s.book.limits (present s.book) → (x ≡ Err why) ⊎ (why ≡ Memory)
    → Allows (setup_rule s n) s (Refused why) s
setup_refused s n why given same (inl is) = rw (given, sym same ∙ is) (inl refl)
setup_refused s n why given same (inr memory) = rw (given, memory) (inr (refl, refl, refl))
