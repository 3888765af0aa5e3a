-- What the machine answers to a look at a port, and lines of instants.
use Rattle.std.proofs.Common.{◌≡◌, ◌⊎◌, inl, inr, ℕ, ◌+◌, ◌-◌, ◌*◌, ◌<◌, ◌≤◌, refl, sym, ap, subst, arith, mul-le-mul_left, Option, Some, None, ◌∙◌, unwrap_or, option_map, false}
use Rattle.std.specs.Prelude.{MatchBool, MatchOption, IsTrue, Bool, ⊤}
use Rattle.std.specs.FinMap.{get}
use Rattle.tsn_types.specs.declared.keys.Key.TheVariants.{Port}
use Rattle.tsn_types.specs.declared.records.PortEntry.{PortEntry}
use Rattle.tsn_types.specs.declared.records.PortGates.{PortGates}
use Rattle.tsn_types.specs.declared.records.Record.{Record}
use Rattle.tsn_types.specs.declared.records.Record.TheVariants as records
use Rattle.tsn_types.specs.declared.refusals.Refusal.{Refusal}
use Rattle.tsn_types.specs.declared.refusals.Refusal.TheVariants.{Memory}
use Rattle.tsn_chain.specs.declared.state.State.{State as Shown}
use Rattle.tsn_chain.specs.declared.state.State.TheVariants as shown
use Rattle.tsn_chain.specs.State.{port_state}
use Rattle.tsn_undo.specs.Ledger.{Ledger, present}
use Rattle.tsn_bridge.specs.Looking.{shown_at, states_rule}
use Rattle.tsn_bridge.specs.Machine.{Step}
use Rattle.tsn_bridge.specs.State.{State}
use Rattle.tsn_bridge.proofs.Stepping.{AllowsAt}
use Rattle.tsn_commands.specs.declared.command.Command.TheVariants as commands
use Rattle.tsn_commands.specs.declared.reply.Reply.{Reply}
use Rattle.tsn_commands.specs.declared.reply.Reply.TheVariants as replies
use Rattle.tsn_types.specs.declared.limits.Limits.{Limits}
use Rattle.tsn_program.specs.Listing.{Enables, EnablesNot, IsSeenFrom, gates_told, listing_refusal, shows}
use Rattle.tsn_words.specs.declared.arguments.Listing.{Listing}
use Rattle.tsn_program.proofs.Seen.{unrefused}

-- ---- instants

pub within : (from step count place most : ℕ) → place < count → from + step * (count - 1) ≤ most → from + step * place ≤ most
within from step count place most before last =
    let up : place ≤ count - 1 = omega (arith, before) in
    omega (arith, mul-le-mul_left step up, last)

-- ---- a look at a port

port_gates : (r : PortGates) (o : Option PortEntry) → (g : ℕ) × (port_state r o ≡ shown.Port g)
port_gates r None = (r.gates, refl)
port_gates r (Some e) = (e.gates, refl)

-- a port shows gates, where it shows a state
IsPorts : Option Shown → Type 0
IsPorts o = (o ≡ None) ⊎ ((g : ℕ) × (o ≡ Some (shown.Port g)))

shown_by : (b : Ledger) (n t : ℕ) (v : Option Record) → IsPorts (shown_at b (Port n) v t)
unfolding IsPorts
shown_by b n t None = inl refl
shown_by b n t (Some (records.Port r)) =
    let told = port_gates r _ in
    inr (told.0, ap (λ (x : Shown). Some x) told.1)
shown_by b n t (Some (records.Filter r)) = inl refl
shown_by b n t (Some (records.Gate r)) = inl refl
shown_by b n t (Some (records.Meter r)) = inl refl

IsGate : Shown → Type 0
IsGate (shown.Port g) = ⊥
IsGate (shown.Gate is_open ipv) = ⊤

-- the reply tells the gates that the port shows
abbrev pub TellsPort : Option Shown → Reply → Type 0
TellsPort o reply = (g : ℕ) × (reply ≡ replies.States (shown.Port g)) × (o ≡ Some (shown.Port g))

told_by : (s new : State) (reply : Reply) (o : Option Shown) → IsPorts o
    → (option_map {T = Reply} {U = Reply × State} (λ x. (x, s)) (option_map (λ x. replies.States x) o) ≡ Some (reply, new))
    ⊎ (IsTrue false × (reply ≡ replies.Refused Memory) × (new ≡ s))
    → (new ≡ s) × TellsPort o reply
unfolding IsPorts IsGate
told_by s new reply None ports (inl e) =
    absurd (subst (λ (x : Option (Reply × State)). MatchOption x ⊤ (λ y. ⊥)) e tt)
told_by s new reply (Some (shown.Port g)) ports (inl e) =
    let both = ap (λ (x : Option (Reply × State)). unwrap_or x (reply, new)) e in
    (sym (ap (λ (x : Reply × State). x.1) both), (g, sym (ap (λ (x : Reply × State). x.0) both), refl))
told_by s new reply (Some (shown.Gate is_open ipv)) (inl none) (inl e) =
    absurd (subst (λ (x : Option Shown). MatchOption x ⊥ (λ y. ⊤)) none tt)
told_by s new reply (Some (shown.Gate is_open ipv)) (inr some) (inl e) =
    absurd (subst (λ (x : Option Shown). MatchOption x ⊥ (λ y. IsGate y)) (some.1) tt)
told_by s new reply o ports (inr h) = absurd (subst (λ (b : Bool). MatchBool b ⊥ ⊤) h.0 tt)

-- so a reply tells of gates
pub never_untold : (o : Option Shown) (reply : Reply) → TellsPort o reply → gates_told reply ≡ None → ⊥
never_untold o reply h none = subst (λ (x : Option ℕ). MatchOption x ⊤ (λ y. ⊥)) (sym none ∙ ap gates_told h.1) tt

-- and of those that the port shows
pub told_gates : (o : Option Shown) (reply : Reply) (gates : ℕ) → TellsPort o reply → gates_told reply ≡ Some gates
    → o ≡ Some (shown.Port gates)
told_gates o reply gates h some =
    let same : h.0 ≡ gates = ap (λ (x : Option ℕ). unwrap_or x gates) (sym (ap gates_told h.1) ∙ some) in
    h.2 ∙ ap (λ (g : ℕ). Some (shown.Port g)) same

-- what a look at a port is answered that nothing refuses, and that it changes nothing
pub look : (s new : State) (port t : ℕ) (reply : Reply) → IsSeenFrom s port t → Step s 1 (commands.States (Port port) t) reply new
    → (new ≡ s) × TellsPort (shows s (Port port) t) reply
look s new port t reply seen step =
    told_by s new reply _ (shown_by s.book port t (get (present s.book) (Port port)))
    (subst (λ o. AllowsAt o (states_rule s 1 (Port port) t) s reply new) (unrefused s port t seen) step)

-- ---- the listed port and its first instant

pub listed_within : (l m : Limits) (x : Listing) → l ≡ m → listing_refusal l x ≡ None → listing_refusal m x ≡ None
listed_within l m x same none = subst (λ (k : Limits). listing_refusal k x ≡ None) same none

pub enables_listed : (s new : State) (x : Listing) (port now : ℕ) → port ≡ x.port → now ≡ x.from → Enables s port now new
    → Enables s x.port x.from new
enables_listed s new x port now is_port is_now h =
    subst (λ (t : ℕ). Enables s x.port t new) is_now (subst (λ (p : ℕ). Enables s p now new) is_port h)

pub enables_not_listed : (s : State) (x : Listing) (port now : ℕ) (why : Refusal) → port ≡ x.port → now ≡ x.from → EnablesNot s port now why
    → EnablesNot s x.port x.from why
enables_not_listed s x port now why is_port is_now h =
    subst (λ (t : ℕ). EnablesNot s x.port t why) is_now (subst (λ (p : ℕ). EnablesNot s p now why) is_port h)
