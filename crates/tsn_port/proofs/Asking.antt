-- What a bridge may answer to what a port worker asks.
use Rattle.std.proofs.Common.{◌≡◌, ◌∙◌, ◌+◌, ◌<◌, ◌≤◌, ℕ, Bool, true, false, Option, Some, None, List, [], ◌∷◌, ap, arith, inl, inr, refl, subst, sym}
use Rattle.std.proofs.lemmas.Bool.Decides.{nat_tests}
use Rattle.std.specs.Prelude.{◌&&◌, is_some, nat_le, nat_lt, option_map}
use Rattle.std.specs.FinMap.{get}
use Rattle.tsn_types.specs.declared.keys.Key.TheVariants.{Port}
use Rattle.tsn_types.specs.declared.records.PortGates.{PortGates}
use Rattle.tsn_types.specs.declared.records.Record.{Record}
use Rattle.tsn_types.specs.declared.records.Record.TheVariants as records
use Rattle.tsn_types.specs.declared.refusals.Field.TheVariants as fields
use Rattle.tsn_types.specs.declared.refusals.Refusal.TheVariants as refusals
use Rattle.tsn_types.specs.Limits.{holds_key, unless}
use Rattle.tsn_types.specs.Refusals.{least}
use Rattle.tsn_entries.specs.Finding.{since}
use Rattle.tsn_undo.specs.Ledger.{present}
use Rattle.tsn_undo.proofs.Making.{kept_now}
use Rattle.tsn_commands.specs.declared.command.Command.TheVariants as commands
use Rattle.tsn_commands.specs.declared.reply.Reply.{Reply}
use Rattle.tsn_commands.specs.declared.reply.Reply.TheVariants.{Known, Refused, Session, Shown}
use Rattle.tsn_bridge.specs.Later.{IsWhole}
use Rattle.tsn_bridge.specs.Machine.{Step}
use Rattle.tsn_bridge.specs.Reads.{show_rule, since_rule}
use Rattle.tsn_bridge.specs.Rule.{Allows, is_given, look_rule}
use Rattle.tsn_bridge.specs.Names.{known}
use Rattle.tsn_bridge.specs.Sessions.{hello_as, new_session}
use Rattle.tsn_commands.specs.Commands.{most_sessions}
use Rattle.tsn_bridge.specs.State.{State}
use Rattle.tsn_bridge.proofs.AtOnce.{done_of}
use Rattle.tsn_bridge.proofs.Naming.{known_given}
use Rattle.tsn_bridge.proofs.Stepping.{AllowsAt}
use Rattle.tsn_port.specs.Starting.{AnswersHello, AnswersLook, AnswersSince, Gives}
use Rattle.tsn_port.proofs.Ports.{port_of}

-- what is done is the reply, and the state after
reply_is : (a b : Reply) (s t : State) → ◌≡◌ {A = Option (Reply × State)} (Some (a, s)) (Some (b, t)) → b ≡ a
reply_is a b s t done = sym (ap (λ (p : Reply × State). p.0) (done_of _ _ done))

state_is : (a b : Reply) (s t : State) → ◌≡◌ {A = Option (Reply × State)} (Some (a, s)) (Some (b, t)) → t ≡ s
state_is a b s t done = sym (ap (λ (p : Reply × State). p.1) (done_of _ _ done))

-- ---- a hello

-- the reply gives a session that was given out; or it refuses for want of memory, or since no session is left
data Greets (new : State) : Reply → Type 0 where
  GivesNew : (m : ℕ) → is_given new m ≡ true → Greets new (Session m)
  GivesKnown : (m : ℕ) → is_given new m ≡ true → Greets new (Known m)
  NoMemory : Greets new (Refused refusals.Memory)
  NoneLeft : Greets new (Refused (refusals.Range fields.Session))

is_given_next : (k m n : ℕ) → m ≡ k + 1 → n ≡ k + 1 → (nat_lt 0 m && nat_le m n) ≡ true
is_given_next k m n same more = grind (arith, nat_tests)

is_given_in : (m n : ℕ) → 0 < m → m ≤ n → (nat_lt 0 m && nat_le m n) ≡ true
is_given_in m n low high = grind (arith, nat_tests)

as_reply : (new : State) (a r : Reply) → r ≡ a → Greets new a → Greets new r
as_reply new a r is g = subst (Greets new) (sym is) g

-- a session more
greets_new : (b : Bool) (s : State) (name : Option (List ℕ)) (r : Reply) (new : State)
    → AllowsAt (least (unless b (refusals.Range fields.Session) ∷ [])) (new_session s name) s r new → Greets new r
greets_new true s name r new (inl done) =
    as_reply new (Session (s.sessions + 1)) r (reply_is _ r _ new done)
    (GivesNew (s.sessions + 1) (is_given_next s.sessions (s.sessions + 1) new.sessions refl
    (ap (λ (t : State). t.sessions) (state_is _ r _ new done))))
greets_new true s name r new (inr memory) = as_reply new (Refused refusals.Memory) r memory.1 NoMemory
greets_new false s name r new cause = as_reply new (Refused (refusals.Range fields.Session)) r cause.0 NoneLeft

-- by the session that goes by the name, if there is one
greets_as : (s : State) (name : Option (List ℕ)) (r : Reply) (new : State) (o : Option ℕ) → ((m : ℕ) → o ≡ Some m → is_given s m ≡ true)
    → Allows (hello_as s name o) s r new → Greets new r
greets_as s name r new None given step = greets_new (nat_lt s.sessions most_sessions) s name r new step
greets_as s name r new (Some m) given (inl done) =
    as_reply new (Known m) r (reply_is _ r _ new done)
    (GivesKnown m (subst (λ (t : State). is_given t m ≡ true) (sym (state_is _ r _ new done)) (given m refl)))
greets_as s name r new (Some m) given (inr memory) = absurd (let never : false ≡ true = memory.0 in (cc))

known_is_given : (s : State) (name : Option (List ℕ)) → IsWhole s → (m : ℕ) → known s.names name ≡ Some m → is_given s m ≡ true
known_is_given s None whole m is = absurd (cc)
known_is_given s (Some name) whole m is =
    let within = known_given 0 s.sessions m name s.names whole.names is in is_given_in m s.sessions within.0 within.1

greets : (s : State) (n : ℕ) (name : Option (List ℕ)) (r : Reply) (new : State) → IsWhole s → Step s n (commands.Hello name) r new
    → Greets new r
greets s n name r new whole step = greets_as s name r new (known s.names name) (known_is_given s name whole) step

answers : (new : State) (r : Reply) → Greets new r → AnswersHello r
answers new r (GivesNew m given) = inl (m, inl refl)
answers new r (GivesKnown m given) = inl (m, inr refl)
answers new r NoMemory = inr (inl refl)
answers new r NoneLeft = inr (inr refl)

pub answers_hello : (s : State) (n : ℕ) (name : Option (List ℕ)) (r : Reply) (new : State) → IsWhole s
    → Step s n (commands.Hello name) r new → AnswersHello r
answers_hello s n name r new whole step = answers new r (greets s n name r new whole step)

gives_given : (new : State) (m : ℕ) (r : Reply) → Greets new r → Gives r m → is_given new m ≡ true
gives_given new m r (GivesNew k given) (inl is) = let same : k ≡ m = (cc) in subst (λ x. is_given new x ≡ true) same given
gives_given new m r (GivesNew k given) (inr is) = absurd (cc)
gives_given new m r (GivesKnown k given) (inl is) = absurd (cc)
gives_given new m r (GivesKnown k given) (inr is) = let same : k ≡ m = (cc) in subst (λ x. is_given new x ≡ true) same given
gives_given new m r NoMemory (inl is) = absurd (cc)
gives_given new m r NoMemory (inr is) = absurd (cc)
gives_given new m r NoneLeft (inl is) = absurd (cc)
gives_given new m r NoneLeft (inr is) = absurd (cc)

pub given_by_hello : (s : State) (n : ℕ) (name : Option (List ℕ)) (m : ℕ) (r : Reply) (new : State) → IsWhole s
    → Step s n (commands.Hello name) r new → Gives r m → is_given new m ≡ true
given_by_hello s n name m r new whole step gives = gives_given new m r (greets s n name r new whole step) gives

pub given_later : (m n k : ℕ) → (nat_lt 0 m && nat_le m n) ≡ true → n ≤ k → (nat_lt 0 m && nat_le m k) ≡ true
given_later m n k given more = grind (arith, nat_tests, given)

-- ---- a look at a port

-- the port's record is shown; or the port is over the limits; or memory was wanting
pub record Shows (s : State) (n : ℕ) (r : Reply) (new : State) : Type 0 where
  pub answers : AnswersLook n r
  pub same : new ≡ s
  pub shown : (p : PortGates) → r ≡ Shown (Port n) (records.Port p)
      → (n ≤ s.book.limits.ports) × (get (present s.book) (Port n) ≡ Some (records.Port p))
  pub over : r ≡ Refused (refusals.Range fields.Key) → s.book.limits.ports < n

abbrev LooksAt : Bool → Bool → Option Record → State → ℕ → ℕ → Reply → State → Type 0
LooksAt b g o s m n r new =
    AllowsAt (least (unless b (refusals.Range fields.Key) ∷ unless g refusals.NoSession ∷ unless (is_some o) (refusals.Missing (Port n))
    ∷ []))
    (look_rule s (record { causes = []; answer = option_map (λ v. Shown (Port n) v) o; takes_memory = true })) s r new

over_limits : (l n : ℕ) → 1 ≤ n → (nat_lt 0 n && nat_le n l) ≡ false → l < n
over_limits l n low not = grind (arith, nat_tests, not)

over_shows : (s : State) (n : ℕ) (r : Reply) (new : State) → s.book.limits.ports < n → r ≡ Refused (refusals.Range fields.Key) → new ≡ s
    → Shows s n r new
over_shows s n r new high told same = record {
  answers = inr (inr told);
  same = same;
  shown = λ q is. absurd (let never : Shown (Port n) (records.Port q) ≡ Refused (refusals.Range fields.Key) = sym is ∙ told in (cc));
  over = λ is. high;
}

shows_at : (g : Bool) (b : Bool) (o : Option Record) (s : State) (m n : ℕ) (r : Reply) (new : State) → 1 ≤ n → g ≡ true
    → (nat_lt 0 n && nat_le n s.book.limits.ports) ≡ b
    → (n ≤ s.book.limits.ports → (p : PortGates) × (o ≡ Some (records.Port p))) → get (present s.book) (Port n) ≡ o
    → LooksAt b g o s m n r new → Shows s n r new
shows_at false b o s m n r new low given is there at step = absurd (let never : false ≡ true = given in (cc))
shows_at true true None s m n r new low given is there at step =
    let within : n ≤ s.book.limits.ports = grind (arith, nat_tests, is) in
    absurd (let never : None ≡ Some (records.Port (there within).0) = (there within).1 in (cc))
shows_at true true (Some v) s m n r new low given is there at (inl done) =
    let within : n ≤ s.book.limits.ports = grind (arith, nat_tests, is) in
    let p = there within in
    let value : v ≡ records.Port p.0 = let same : Some v ≡ Some (records.Port p.0) = p.1 in (cc) in
    let told : r ≡ Shown (Port n) (records.Port p.0) = reply_is _ r _ new done ∙ ap (λ w. Shown (Port n) w) value in
    record {
      answers = inl (p.0, told);
      same = state_is _ r _ new done;
      shown = λ q is. (
        within,
        at ∙ (let same : Shown (Port n) (records.Port q) ≡ Shown (Port n) (records.Port p.0) = sym is ∙ told in
            let also : records.Port p.0 ≡ records.Port q = (cc) in ap Some (value ∙ also)),
      );
      over = λ is. absurd (let never : Refused (refusals.Range fields.Key) ≡ Shown (Port n) (records.Port p.0) = sym is ∙ told in (cc));
    }
shows_at true true (Some v) s m n r new low given is there at (inr memory) = record {
  answers = inr (inl memory.1);
  same = memory.2;
  shown = λ q is. absurd (let never : Shown (Port n) (records.Port q) ≡ Refused refusals.Memory = sym is ∙ memory.1 in (cc));
  over = λ is. absurd (let never : Refused (refusals.Range fields.Key) ≡ Refused refusals.Memory = sym is ∙ memory.1 in (cc));
}
shows_at true false None s m n r new low given is there at cause =
    over_shows s n r new (over_limits s.book.limits.ports n low is) cause.0 cause.1
shows_at true false (Some v) s m n r new low given is there at cause =
    over_shows s n r new (over_limits s.book.limits.ports n low is) cause.0 cause.1

-- the rule of a look, with its causes at what they come to
looks_at : (s : State) (m n : ℕ) (r : Reply) (new : State) → Allows (show_rule s m (Port n)) s r new
    → LooksAt (holds_key s.book.limits (Port n)) (is_given s m) (get (present s.book) (Port n)) s m n r new
looks_at s m n r new step = step

pub shows : (s : State) (m n : ℕ) (r : Reply) (new : State) → IsWhole s → 1 ≤ n → is_given s m ≡ true
    → Step s m (commands.Show (Port n)) r new → Shows s n r new
shows s m n r new whole low given step =
    shows_at (is_given s m) (holds_key s.book.limits (Port n)) (get (present s.book) (Port n)) s m n r new low given refl
    (λ within. port_of s.book.limits (present s.book) n (kept_now s.book whole.journal) low within) refl (looks_at s m n r new step)

-- ---- a question for entries

reads_at : (g : Bool) (s : State) (from : ℕ) (r : Reply) (new : State) → g ≡ true
    → AllowsAt (least (unless g refusals.NoSession ∷ [])) (since_rule s 0 from) s r new → AnswersSince r
reads_at true s from r new given (inl done) = inl (since s.book.entries from, reply_is _ r _ new done)
reads_at true s from r new given (inr memory) = inr memory.1
reads_at false s from r new given step = absurd (let never : false ≡ true = given in (cc))

pub answers_since : (s : State) (m from : ℕ) (r : Reply) (new : State) → is_given s m ≡ true → Step s m (commands.Since from) r new
    → AnswersSince r
answers_since s m from r new given step = reads_at (is_given s m) s from r new given step
