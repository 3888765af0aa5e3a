-- What a run of a connection over its lines says outright.
use Rattle.std.proofs.Common.{◌≡◌, ◌≢◌, ◌⊎◌, inl, inr, ℕ, ◌++◌, List, [], ◌∷◌, Option, Some, None, Result, Ok, Err, refl, sym, ap, ◌∙◌, subst, append_assoc, append-nil}
use Rattle.tsn_machine.specs.declared.history.Entry.{Entry}
use Rattle.tsn_machine.specs.History.{IsLegal, calls_by}
use Rattle.tsn_types.specs.declared.refusals.Refusal.{Refusal}
use Rattle.tsn_types.specs.declared.refusals.Refusal.TheVariants as refusals
use Rattle.tsn_bridge.specs.Turns.{Turns}
use Rattle.tsn_commands.specs.declared.command.Ask.{Ask}
use Rattle.tsn_commands.specs.declared.reply.Reply.{Reply}
use Rattle.tsn_commands.specs.declared.reply.Reply.TheVariants as replies
use Rattle.tsn_wire.specs.Reading.{line_of}
use Rattle.tsn_replies.specs.Replies.{reply_text}
use Rattle.tsn_serve.specs.Lines.{short_line}
use Rattle.tsn_serve.specs.Script.{Run}
use Rattle.tsn_serve.specs.Answers.{Replies, Says}
use Rattle.tsn_serve.specs.Talk.{Caller, MayAsk, Calls, Asks, Talks, latest_after, Goes}
use Rattle.tsn_serve.specs.Served.{IsRefusedFor, IsExchanged, AreExchanged, call_of, calls_of, IsServed}
use Rattle.tsn_serve.proofs.Going.{on, same_goes, calls_goes}

-- a line, told outright
record IsTold (old : Caller) (line : Option (List ℕ)) (reply : Reply) (new : Caller) : Type 0 where
  asked : Option Ask
  exchanged : IsExchanged old.latest line asked reply
  latest : new.latest ≡ latest_after old.latest reply
  made : new.made ≡ old.made ++ call_of old.number asked reply
  goes : Goes old new
  legal : call_of old.number asked reply ≢ [] → IsLegal Turns new.first new.seen
  own : call_of old.number asked reply ≢ [] → calls_by new.number new.seen ≡ new.made

-- a line that is refused with no call
told_refused : (old : Caller) (line : Option (List ℕ)) (reply : Reply) (new : Caller) (why : Refusal) → reply ≡ replies.Refused why
    → IsRefusedFor old.latest line why → new ≡ old → IsTold old line reply new
told_refused old line reply new why is for same = record {
  asked = None;
  exchanged = (why, is, for);
  latest = ap (λ c. c.latest) same ∙ sym (ap (λ r. latest_after old.latest r) is);
  made = ap (λ c. c.made) same ∙ sym (append-nil old.made);
  goes = same_goes old new same;
  legal = λ some. absurd (some refl);
  own = λ some. absurd (some refl);
}

-- a line that a call answers
told_call : (old : Caller) (text : List ℕ) (ask : Ask) (reply : Reply) (new : Caller) → line_of text ≡ Ok ask → MayAsk old.latest ask
    → Calls old ask reply new → IsTold old (Some text) reply new
told_call old text ask reply new reads may c =
    let goes = calls_goes old ask reply new c in record {
      asked = Some ask;
      exchanged = (reads, may);
      latest = c.latest;
      made = c.own;
      goes = goes;
      legal = λ _. subst (λ x. IsLegal Turns x new.seen) (sym goes.first) c.legal;
      own = λ _. subst (λ n. calls_by n new.seen ≡ new.made) (sym goes.number) c.all_own;
    }

told_read : (old : Caller) (text : List ℕ) (what : Result Ask Refusal) (reply : Reply) (new : Caller) → line_of text ≡ what
    → Replies Asks old what reply new → IsTold old (Some text) reply new
told_read old text (Ok ask) reply new reads h = elim h [
  | inl p ↦ told_call old text ask reply new reads p.0 p.1
  | inr r ↦ told_refused old (Some text) reply new refusals.NoSession r.1 (inr (inr (refl, (ask, reads, r.0)))) r.2
]
told_read old text (Err why) reply new reads h = told_refused old (Some text) reply new why h.0 (inl reads) h.1

told : (old : Caller) (line : Option (List ℕ)) (reply : Reply) (new : Caller) → Says Asks old line reply new → IsTold old line reply new
told old None reply new h =
    let r : Replies Asks old (Err refusals.TooLong) reply new = subst (λ read. Replies Asks old read reply new) h.1 h.2 in
    told_refused old None reply new refusals.TooLong r.0 refl r.1
told old (Some text) reply new h = elim h.1 [
  | inl read ↦ told_read old text h.0 reply new (sym read) h.2
  | inr memory ↦
      let r : Replies Asks old (Err refusals.Memory) reply new = subst (λ read. Replies Asks old read reply new) memory h.2 in
      told_refused old (Some text) reply new refusals.Memory r.0 (inr (inl refl)) r.1
]

-- where either list has an element, one of them has
some_of : {E : Type 0} (xs ys : List E) → xs ++ ys ≢ [] → (xs ≢ []) ⊎ (ys ≢ [])
some_of [] ys h = inr h
some_of (x ∷ xs) ys h = inl (λ e. cc)

-- what holds after a line goes on over the lines behind it, whose calls tell it anew
legal_on : (mid new : Caller) (first rest : List (Entry Ask Reply)) → Goes mid new → (first ≢ [] → IsLegal Turns mid.first mid.seen)
    → (rest ≢ [] → IsLegal Turns new.first new.seen) → first ++ rest ≢ [] → IsLegal Turns new.first new.seen
legal_on mid new first rest goes one more some = elim (some_of first rest some) [ inl f ↦ goes.legal (one f) | inr r ↦ more r ]

own_on : (mid new : Caller) (first rest : List (Entry Ask Reply)) → Goes mid new → (first ≢ [] → calls_by mid.number mid.seen ≡ mid.made)
    → (rest ≢ [] → calls_by new.number new.seen ≡ new.made) → first ++ rest ≢ [] → calls_by new.number new.seen ≡ new.made
own_on mid new first rest goes one more some = elim (some_of first rest some) [ inl f ↦ goes.own (one f) | inr r ↦ more r ]

-- a line in front of others
served_more : (old mid new : Caller) (line : List ℕ) (lines : List (List ℕ)) (reply : Reply) (more text : List ℕ)
    → IsTold old (short_line line) reply mid → IsServed mid lines more new → text ≡ reply_text reply ++ more
    → IsServed old (line ∷ lines) text new
served_more old mid new line lines reply more text t s whole =
    let under : calls_of old.number s.exchanges ≡ calls_of mid.number s.exchanges = ap (λ n. calls_of n s.exchanges) (sym t.goes.number) in
    record {
      exchanges = record { line = short_line line; asked = t.asked; reply = reply } ∷ s.exchanges;
      each_line = ap (λ ls. short_line line ∷ ls) s.each_line;
      each = (t.exchanged, subst (λ l. AreExchanged l s.exchanges new.latest) t.latest s.each);
      text_is = whole ∙ ap (λ w. reply_text reply ++ w) s.text_is;
      calls = s.calls ∙ (ap (λ l. l ++ calls_of mid.number s.exchanges) t.made
          ∙ (append_assoc old.made (call_of old.number t.asked reply) (calls_of mid.number s.exchanges)
          ∙ ap (λ l. old.made ++ (call_of old.number t.asked reply ++ l)) (sym under)));
      goes = on old mid new t.goes s.goes;
      legal = λ some. legal_on mid new (call_of old.number t.asked reply) (calls_of old.number s.exchanges) s.goes t.legal
          (λ r. s.legal (λ e. r (under ∙ e))) some;
      own = λ some. own_on mid new (call_of old.number t.asked reply) (calls_of old.number s.exchanges) s.goes t.own
          (λ r. s.own (λ e. r (under ∙ e))) some;
    }

pub served : (old : Caller) (lines : List (List ℕ)) (text : List ℕ) (new : Caller) → Run Talks old lines text new
    → IsServed old lines text new
served old [] text new h = record {
  exchanges = [];
  each_line = refl;
  each = ap (λ c. c.latest) h.1;
  text_is = h.0;
  calls = ap (λ c. c.made) h.1 ∙ sym (append-nil old.made);
  goes = same_goes old new h.1;
  legal = λ some. absurd (some refl);
  own = λ some. absurd (some refl);
}
served old (line ∷ lines) text new h =
    let says = h.3 in
    served_more old h.0 new line lines says.0 h.2 text (told old (short_line line) says.0 h.0 says.1) (served h.0 lines h.2 new h.4)
    (h.5 ∙ ap (λ w. w ++ h.2) says.2)
