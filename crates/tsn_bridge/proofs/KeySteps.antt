-- Commands on a key are steps: refused before all else, refused by what they add, or done.
use Rattle.std.proofs.Common.{◌≡◌, ◌≤◌, ◌+◌, ℕ, Bool, true, false, refl, sym, ◌∙◌, ap, subst, arith, List, [], ◌∷◌, ◌++◌, Option, Some, None, length, max}
use Rattle.std.specs.Prelude.{◌<◌, nat_le, option_map}
use Rattle.std.specs.Option.{option_or}
use Rattle.std.proofs.lemmas.Bool.{le-leb, lt-leb}
use Rattle.std.specs.FinMap.{get}
use Rattle.tsn_types.specs.declared.keys.Key.{Key}
use Rattle.tsn_types.specs.declared.refusals.Refusal.{Refusal}
use Rattle.tsn_types.specs.declared.refusals.Refusal.TheVariants.{EmptyList, JournalFull, NotEnabled, Past}
use Rattle.tsn_types.specs.Limits.{first_cause, unless}
use Rattle.tsn_types.specs.Refusals.{IsLeastOrMemory, least}
use Rattle.tsn_types.proofs.Ordered.{IsOrdered, causes_of, is_unless}
use Rattle.tsn_entries.specs.declared.entries.Act.{Act as Asked}
use Rattle.tsn_entries.specs.declared.entries.Act.TheVariants as asked
use Rattle.tsn_entries.specs.Entries.{most_entries, no_room}
use Rattle.tsn_undo.specs.Ledger.{present}
use Rattle.tsn_undo.proofs.Free.{or_none}
use Rattle.tsn_chain.specs.declared.state.Counters.{Counters}
use Rattle.tsn_chain.specs.declared.state.State.{State as Shown}
use Rattle.tsn_bridge.specs.Names.{GivenOut}
use Rattle.tsn_commands.specs.declared.reply.Reply.{Reply}
use Rattle.tsn_commands.specs.declared.reply.Reply.TheVariants as replies
use Rattle.tsn_bridge.specs.Acts.{act_causes, act_change, act_rule, apply_causes, apply_rule, enabled_at, has_entry, key_causes, list_causes}
use Rattle.tsn_bridge.specs.Looking.{counted_at, counters_rule, last_at, shown_at, states_rule}
use Rattle.tsn_bridge.specs.Pair.{PairState, acted}
use Rattle.tsn_bridge.specs.Rule.{Allows, Rule}
use Rattle.tsn_bridge.specs.State.{State}
use Rattle.tsn_types.proofs.Causes.{option_or-None}
use Rattle.tsn_bridge.proofs.Causes.{least_key, least_list}
use Rattle.tsn_bridge.proofs.Stepping.{is_done, is_refused, is_surely_refused, seen}

-- ---- what a command adds to the causes of its key

full : State → List (ℕ × Option Refusal)
full s = (18, no_room s.book.entries 1) ∷ []

full_ordered : (s : State) → IsOrdered 6 (full s)
unfolding full
full_ordered s = (omega arith, is_unless (nat_le (length s.book.entries + 1) most_entries) JournalFull, tt)

early : State → Key → ℕ → List (ℕ × Option Refusal)
early s k t = (16, unless (nat_le (last_at s.book k) t) Past) ∷ []

early_ordered : (s : State) (k : Key) (t : ℕ) → IsOrdered 6 (early s k t)
unfolding early
early_ordered s k t = (omega arith, is_unless (nat_le (last_at s.book k) t) Past, tt)

appliable : State → Key → List (ℕ × Option Refusal)
appliable s k = (14, unless (enabled_at s.book k) NotEnabled) ∷ (15, unless (has_entry (get (present s.book) k)) EmptyList)
    ∷ (18, no_room s.book.entries 1) ∷ []

appliable_ordered : (s : State) (k : Key) → IsOrdered 6 (appliable s k)
unfolding appliable
appliable_ordered s k = (
  omega arith,
  is_unless (enabled_at s.book k) NotEnabled,
  (
    omega arith,
    is_unless (has_entry (get (present s.book) k)) EmptyList,
    (omega arith, is_unless (nat_le (length s.book.entries + 1) most_entries) JournalFull, tt),
  ),
)

-- what an act adds
added : State → Asked → Key → List (ℕ × Option Refusal)
added s asked.Enable k = full s
added s asked.Disable k = full s
added s asked.Apply k = appliable s k

added_ordered : (s : State) (act : Asked) (k : Key) → IsOrdered 6 (added s act k)
unfolding added
added_ordered s asked.Enable k = full_ordered s
added_ordered s asked.Disable k = full_ordered s
added_ordered s asked.Apply k = appliable_ordered s k

added_are : (s : State) (act : Asked) (k : Key) → causes_of (added s act k) ≡ act_causes s.book act k ++ no_room s.book.entries 1 ∷ []
unfolding added full appliable
added_are s asked.Enable k = refl
added_are s asked.Disable k = refl
added_are s asked.Apply k = refl

-- the causes of an apply but for the journal, and then the journal's
apply_first : (s : State) (k : Key)
    → first_cause (causes_of (appliable s k)) ≡ option_or (first_cause (apply_causes s.book k)) (no_room s.book.entries 1)
unfolding appliable
apply_first s k =
    grouped (unless (enabled_at s.book k) NotEnabled) (unless (has_entry (get (present s.book) k)) EmptyList) (no_room s.book.entries 1)
  where
    grouped : (a b m : Option Refusal) → option_or a (option_or b (option_or m None)) ≡ option_or (option_or a (option_or b None)) m
    grouped None None m = option_or-None m
    grouped (Some a) b m = refl
    grouped None (Some b) m = refl

-- an apply that nothing refuses finds its key there, enabled, and an entry in the list
pub record FindsList (s : State) (n : ℕ) (k : Key) : Type 0 where
  pub none : first_cause (list_causes s n k []) ≡ None
  pub enabled : enabled_at s.book k ≡ true
  pub some : has_entry (get (present s.book) k) ≡ true

pub applied_finds : (s : State) (n : ℕ) (k : Key) (now : ℕ) → least (apply_rule s n k now).causes ≡ None → FindsList s n k
unfolding appliable
applied_finds s n k now none =
    let both = or_none (first_cause (list_causes s n k [])) (first_cause (causes_of (appliable s k)))
    (sym (least_list s n k (appliable s k) (appliable_ordered s k)) ∙ none) in
    let found = passed (enabled_at s.book k) (has_entry (get (present s.book) k))
    (or_none (first_cause (apply_causes s.book k)) (no_room s.book.entries 1) (sym (apply_first s k) ∙ both.1)).0 in
    record { none = both.0; enabled = found.0; some = found.1 }
  where
    passed : (a b : Bool) → option_or (unless a NotEnabled) (option_or (unless b EmptyList) None) ≡ None → (a ≡ true) × (b ≡ true)
    passed true true h = (refl, refl)
    passed true false h = (cc)
    passed false b h = (cc)

-- a look not before the last act, of a key that nothing else refuses, is not refused
pub states_free : (s : State) (n : ℕ) (k : Key) (t : ℕ) → first_cause (list_causes s n k []) ≡ None → last_at s.book k ≤ t
    → least (states_rule s n k t).causes ≡ None
unfolding early
states_free s n k t none le =
    least_list s n k (early s k t) (early_ordered s k t) ∙ ap (λ o. option_or o (first_cause (causes_of (early s k t)))) none
    ∙ ap (λ g. option_or (unless g Past) None) (le-leb (last_at s.book k) t le)

-- ---- a command that is refused before all else

module _ (s : State) (n : ℕ) (k : Key) (more : List (ℕ × Option Refusal)) (h : IsOrdered 6 more) (rule : Rule) (why : Refusal) where
  stop_list : rule.causes ≡ list_causes s n k (causes_of more) → first_cause (list_causes s n k []) ≡ Some why
      → Allows rule s (replies.Refused why) s
  stop_list is e = is_surely_refused rule s (replies.Refused why) s why
      (ap least is ∙ least_list s n k more h ∙ ap (λ o. option_or o (first_cause (causes_of more))) e) refl refl

  -- or by what it adds
  stop_more : rule.causes ≡ list_causes s n k (causes_of more) → first_cause (list_causes s n k []) ≡ None
      → first_cause (causes_of more) ≡ Some why → Allows rule s (replies.Refused why) s
  stop_more is none e = is_surely_refused rule s (replies.Refused why) s why
      (ap least is ∙ least_list s n k more h ∙ ap (λ o. option_or o (first_cause (causes_of more))) none ∙ e) refl refl

module _ (s : State) (n : ℕ) (k : Key) (why : Refusal) where
  pub act_stopped : (act : Asked) (now : ℕ) → first_cause (list_causes s n k []) ≡ Some why
      → Allows (act_rule s n act k now) s (replies.Refused why) s
  act_stopped act now e = stop_list s n k (added s act k) (added_ordered s act k) (act_rule s n act k now) why
      (sym (ap (list_causes s n k) (added_are s act k))) e

  pub act_cause : (act : Asked) (now : ℕ) → first_cause (list_causes s n k []) ≡ Some why → least (act_rule s n act k now).causes ≡ Some why
  act_cause act now e =
      ap (λ os. least (list_causes s n k os)) (sym (added_are s act k))
      ∙ least_list s n k (added s act k) (added_ordered s act k)
      ∙ ap (λ o. option_or o (first_cause (causes_of (added s act k)))) e

  pub states_stopped : (t : ℕ) → first_cause (list_causes s n k []) ≡ Some why → Allows (states_rule s n k t) s (replies.Refused why) s
  unfolding early
  states_stopped t e = stop_list s n k (early s k t) (early_ordered s k t) (states_rule s n k t) why refl e

  pub counters_stopped : first_cause (key_causes s n k []) ≡ Some why → Allows (counters_rule s n k) s (replies.Refused why) s
  counters_stopped e =
      is_surely_refused (counters_rule s n k) s (replies.Refused why) s why (least_key s n k [] tt ∙ ap (λ o. option_or o None) e) refl refl

-- ---- what looks

module _ (p : PairState) (k : GivenOut) (n : ℕ) (key : Key) (now : State) (view : ◌≡◌ {A = State} (seen p k) now) where
  pub counters_step : (told : Counters) → first_cause (key_causes now n key []) ≡ None → counted_at p.ledger p.frames p.time key ≡ Some told
      → Allows (counters_rule now n key) now (replies.Counters told) now
  counters_step told none is =
      is_done (counters_rule now n key) now (replies.Counters told) now (least_key now n key [] tt ∙ ap (λ o. option_or o None) none)
      (sym (ap (λ (x : State). (counters_rule x n key).done) view)
      ∙ ap (λ o. option_map {T = Reply} {U = Reply × State} (λ x. (x, seen p k)) (option_map (λ x. replies.Counters x) o)) is
      ∙ ap (λ (x : State). Some (replies.Counters told, x)) view)

  pub states_step : (at : ℕ) (x : Shown) → first_cause (list_causes now n key []) ≡ None → last_at p.ledger key ≤ at
      → shown_at p.ledger key (get (present p.ledger) key) at ≡ Some x → Allows (states_rule now n key at) now (replies.States x) now
  states_step at x none late is =
      is_done (states_rule now n key at) now (replies.States x) now
      (states_free now n key at none (subst (λ (y : State). last_at y.book key ≤ at) view late))
      (sym (ap (λ (y : State). (states_rule y n key at).done) view)
      ∙ ap (λ o. option_map {T = Reply} {U = Reply × State} (λ y. (y, seen p k)) (option_map (λ y. replies.States y) o)) is
      ∙ ap (λ (y : State). Some (replies.States x, y)) view)

  pub states_past : (at : ℕ) → first_cause (list_causes now n key []) ≡ None → at < last_at p.ledger key
      → Allows (states_rule now n key at) now (replies.Refused Past) now
  unfolding early
  states_past at none before =
      stop_more now n key (early now key at) (early_ordered now key at) (states_rule now n key at) Past refl none
      (ap (λ g. option_or (unless g Past) None)
      (lt-leb (last_at now.book key) at (subst (λ (y : State). at < last_at y.book key) view before)))

-- ---- acts

module _ (p p' : PairState) (k : GivenOut) (n : ℕ) (act : Asked) (key : Key) (now : ℕ) (s : State) (view : ◌≡◌ {A = State} (seen p k) s)
    (none : first_cause (list_causes s n key []) ≡ None) where
  -- its key refuses nothing, so the causes are what it adds
  pub least_act : least (act_rule s n act key now).causes ≡ first_cause (act_causes p.ledger act key ++ no_room p.ledger.entries 1 ∷ [])
  least_act =
      ap (λ os. least (list_causes s n key os)) (sym (added_are s act key))
      ∙ least_list s n key (added s act key) (added_ordered s act key)
      ∙ ap (λ o. option_or o (first_cause (causes_of (added s act key)))) none
      ∙ ap first_cause (added_are s act key)
      ∙ ap (λ (x : State). first_cause (act_causes x.book act key ++ no_room x.book.entries 1 ∷ [])) (sym view)

  pub act_done : (told : Option ℕ) (entry counted : ℕ) → told ≡ act_change p.ledger act key (max p.time now)
      → entry ≡ length p.ledger.entries + 1 → counted ≡ max p.time now
      → first_cause (act_causes p.ledger act key ++ no_room p.ledger.entries 1 ∷ []) ≡ None → p' ≡ acted p n act key now
      → Allows (act_rule s n act key now) s (replies.Acted told entry counted) (seen p' k)
  act_done told entry counted told_is entry_is counted_is free after =
      is_done (act_rule s n act key now) s (replies.Acted told entry counted) (seen p' k) (least_act ∙ free)
      (sym (ap (λ (x : State). (act_rule x n act key now).done) view)
      ∙ (λ i. Some (replies.Acted (sym told_is i) (sym entry_is i) (sym counted_is i), seen (sym after i) k)))

  pub act_refused : (why : Refusal) → IsLeastOrMemory (first_cause (act_causes p.ledger act key ++ no_room p.ledger.entries 1 ∷ [])) why
      → p' ≡ p → Allows (act_rule s n act key now) s (replies.Refused why) (seen p' k)
  act_refused why is same =
      is_refused (act_rule s n act key now) s (replies.Refused why) (seen p' k)
      (first_cause (act_causes p.ledger act key ++ no_room p.ledger.entries 1 ∷ [])) why least_act refl is refl
      (ap (λ (q : PairState). seen q k) same ∙ view)
