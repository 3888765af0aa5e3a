-- What a connection does to its seat, over all its lines.
use Rattle.std.proofs.Common.{◌≡◌, inl, inr, ℕ, Bool, true, false, ◌++◌, List, [], ◌∷◌, Option, Some, None, Result, Ok, Err, refl, sym, ap, ◌∙◌, subst}
use Rattle.tsn_desk.specs.declared.desk.Desk.{Desk}
use Rattle.tsn_desk.specs.declared.desk.Seat.{Seat}
use Rattle.tsn_desk.specs.Desks.{IsSeatOf, HasTurned, number}
use Rattle.tsn_machine.specs.History.{IsLegal, calls_by, call}
use Rattle.tsn_machine.proofs.Begin.{begins_self, begins_trans}
use Rattle.tsn_types.specs.declared.refusals.Refusal.{Refusal}
use Rattle.tsn_bytes.specs.declared.bytes.Fault.{Fault}
use Rattle.tsn_bytes.specs.declared.bytes.Fault.TheVariants.{Read, Write, Memory, Exhausted}
use Rattle.tsn_bridge.specs.State.{State}
use Rattle.tsn_port.specs.Workers.{BridgeSeat, GoesOn}
use Rattle.tsn_bridge.specs.Turns.{Turns}
use Rattle.tsn_commands.specs.declared.command.Ask.{Ask}
use Rattle.tsn_commands.specs.declared.reply.Reply.{Reply}
use Rattle.tsn_serve.specs.Lines.{short_line, last_line}
use Rattle.tsn_serve.specs.Script.{Answering, Run, AllAnswered}
use Rattle.tsn_serve.specs.Outcomes.{Moment, IsBroken, Outcome}
use Rattle.tsn_serve.specs.Answers.{Replies, Says}
use Rattle.tsn_serve.specs.Talk.{Caller, Calls, Asks, Talks, Tires, BreaksTalk, Goes, caller_of, latest_after}
use Rattle.tsn_serve.specs.Held.{shown}

-- what every answer keeps, a run keeps
module _ {S : Type 0} (answers : Answering S) (R : S → S → Type 0) (stays : (s : S) → R s s) (on : (a b c : S) → R a b → R b c
    → R a c) (each : (old : S) (line : Option (List ℕ)) (text : List ℕ) (new : S) → answers old line text new → R old new) where
  pub run_keeps : (old : S) (lines : List (List ℕ)) (text : List ℕ) (new : S) → Run answers old lines text new → R old new
  run_keeps old [] text new h = subst (λ s. R old s) (sym h.1) (stays old)
  run_keeps old (line ∷ lines) text new h = on old h.0 new (each old (short_line line) h.1 h.0 h.3) (run_keeps h.0 lines h.2 new h.4)

pub stays : (c : Caller) → Goes c c
stays c =
    record { desk = refl; first = refl; number = refl; seen = begins_self c.seen; made = begins_self c.made; legal = λ l. l; own = λ o. o }

pub on : (a b c : Caller) → Goes a b → Goes b c → Goes a c
on a b c g h = record {
  desk = h.desk ∙ g.desk;
  first = h.first ∙ g.first;
  number = h.number ∙ g.number;
  seen = begins_trans a.seen b.seen c.seen g.seen h.seen;
  made = begins_trans a.made b.made c.made g.made h.made;
  legal = λ l. h.legal (g.legal l);
  own = λ o. h.own (g.own o);
}

-- the latest session is no part of it
pub whichever : (old new : Caller) (latest : Option ℕ) → Goes old new → Goes old (record new { latest = latest })
whichever old new latest h =
    record { desk = h.desk; first = h.first; number = h.number; seen = h.seen; made = h.made; legal = h.legal; own = h.own }

pub same_goes : (old new : Caller) → new ≡ old → Goes old new
same_goes old new e = subst (λ c. Goes old c) (sym e) (stays old)

-- ---- a line

-- a turn of a seat is a call of the caller that it was
pub turn_calls : {D : _} (desk : Desk State Ask Reply) (held : Option (Seat State Ask Reply D)) (seat new : Seat State Ask Reply D)
    (ask : Ask) (place : ℕ) (reply : Reply) (latest latest' : Option ℕ) → held ≡ Some seat → number new ≡ number seat
    → HasTurned Turns desk seat ask place reply new → latest' ≡ latest_after latest reply
    → Calls (shown desk held latest) ask reply (caller_of desk new latest')
turn_calls desk held seat new ask place reply latest latest' there number_is t latest_is =
    subst (λ h. Calls (shown desk h latest) ask reply (caller_of desk new latest')) (sym there) (record {
      before = t.before;
      begins = t.begins;
      whole = t.whole;
      legal = t.legal;
      own = t.own;
      all_own = t.all_own;
      same = (refl, refl, number_is);
      latest = latest_is;
    })

pub calls_goes : (old : Caller) (ask : Ask) (reply : Reply) (new : Caller) → Calls old ask reply new → Goes old new
calls_goes old ask reply new c = record {
  desk = c.same.0;
  first = c.same.1;
  number = c.same.2;
  seen = begins_trans old.seen c.before new.seen c.begins (call old.number ask reply ∷ [], sym c.whole);
  made = (call old.number ask reply ∷ [], sym c.own);
  legal = λ l. subst (λ x. IsLegal Turns x new.seen) (sym c.same.1) c.legal;
  own = λ o. subst (λ n. calls_by n new.seen ≡ new.made) (sym c.same.2) c.all_own;
}

replies_go : (old : Caller) (what : Result Ask Refusal) (reply : Reply) (new : Caller) → Replies Asks old what reply new → Goes old new
replies_go old (Ok ask) reply new h = elim h [ inl p ↦ calls_goes old ask reply new p.1 | inr r ↦ same_goes old new r.2 ]
replies_go old (Err refusal) reply new h = same_goes old new h.1

pub says_goes : (old : Caller) (line : Option (List ℕ)) (reply : Reply) (new : Caller) → Says Asks old line reply new → Goes old new
says_goes old line reply new h = replies_go old h.0 reply new h.2

talk_goes : (old : Caller) (line : Option (List ℕ)) (text : List ℕ) (new : Caller) → Talks old line text new → Goes old new
talk_goes old line text new h = says_goes old line h.0 new h.1

pub tires_goes : (old : Caller) (read : Result Ask Refusal) (new : Caller) → Tires old read new → Goes old new
tires_goes old read new t = subst (λ c. Goes old c) (sym t.same)
    (record {
      desk = refl;
      first = refl;
      number = refl;
      seen = begins_self old.seen;
      made = begins_self old.made;
      legal = λ l. l;
      own = λ o. o;
    })

breaks_goes : (old : Caller) (line : Option (List ℕ)) (fault : Fault) (part : List ℕ) (new : Caller) → BreaksTalk old line fault part new
    → Goes old new
breaks_goes old line fault part new h =
    elim h [ inl cut ↦ talk_goes old line cut.1.0 new cut.1.1 | inr tired ↦ tires_goes old tired.2.0 new tired.2.2 ]

-- ---- all lines

talks_go : (old : Caller) (lines : List (List ℕ)) (text : List ℕ) (new : Caller) → Run Talks old lines text new → Goes old new
talks_go old lines text new h = run_keeps Talks Goes stays on talk_goes old lines text new h

all_go : (at_end : Bool) (old : Caller) (input written : List ℕ) (new : Caller) → AllAnswered Talks at_end old input written new
    → Goes old new
all_go true old input written new (lines, rest, cut, run) = talks_go old (lines ++ last_line rest) written new run
all_go false old input written new (lines, rest, cut, run) = talks_go old lines written new run

broken_goes : (reads : ℕ) (fault : Fault) (old new : Moment Caller) → IsBroken Talks BreaksTalk reads fault old new
    → Goes old.state new.state
broken_goes reads fault old new b = elim b.script [
  | inl cut ↦ on old.state cut.mid new.state (talks_go old.state cut.lines cut.text cut.mid cut.run)
      (breaks_goes cut.mid (short_line cut.line) fault cut.part new.state cut.broken)
  | inr all ↦ all_go b.at_end old.state b.ran.input b.ran.text new.state all.1
]

-- however a connection ends
pub ends_go : (reads : ℕ) (old new : Moment Caller) (r : Result (Unit {0}) Fault) → Outcome Talks BreaksTalk reads old new r
    → Goes old.state new.state
ends_go reads old new (Ok u) o = all_go true old.state o.ran.input o.ran.text new.state o.script
ends_go reads old new (Err Read) o = all_go false old.state o.ran.input o.ran.text new.state o.script
ends_go reads old new (Err Write) o = broken_goes reads Write old new o
ends_go reads old new (Err Exhausted) o = broken_goes reads Exhausted old new o
ends_go reads old new (Err Memory) o = same_goes old.state new.state (ap (λ m. m.state) o)

-- ---- a seat that serves

-- a seat whose calls were those of a connection
pub sat : (desk : Desk State Ask Reply) (old new : BridgeSeat) → IsSeatOf desk new
    → Goes (caller_of desk old None) (caller_of desk new None) → GoesOn desk old new
sat desk old new own g =
    record { own = own; number_is = g.number; seen_more = g.seen; made_more = g.made; legal = g.legal; calls = g.own }

-- a seat that served no connection
pub sat_still : (desk : Desk State Ask Reply) (seat : BridgeSeat) → IsSeatOf desk seat → GoesOn desk seat seat
sat_still desk seat own = sat desk seat seat own (stays _)
