-- A reply waits, goes out, or breaks off.
use Rattle.std.proofs.Common.{◌≡◌, ◌⊎◌, ℕ, inl, inr, List, [], ◌++◌, Option, refl, sym, ◌∙◌, ap, subst}
use Rattle.std.specs.Prelude.{take, drop, Result, Ok, Err, OnOk, OnErr}
use Rattle.std.specs.Io.KnownBytes.{Appends}
use Rattle.std.proofs.lemmas.List.{append-nil, take-append-drop}
use Rattle.tsn_bytes.specs.Bytes.{IsCut}
use Rattle.tsn_commands.specs.declared.reply.Reply.{Reply}
use Rattle.tsn_lasting.specs.Standing.{Replies}
use Rattle.tsn_lasting.proofs.Answering.{begins_behind, begins_within, took_behind}
use Rattle.tsn_replies.specs.Replies.{reply_text}
use Rattle.tsn_serve.specs.Talk.{Goes, Told}
use Rattle.tsn_clerk.specs.Noting.{IsRecorded}
use Rattle.tsn_clerk.specs.Talking.{AnswersLine, BreaksLine, BreaksOff, HandsOn, IsCovered, IsCutShort, IsDue, Lines, Parts, Replied, Tells}
use Rattle.tsn_clerk.proofs.Going.{broken_stays, replied_goes, with_caller}

module _ {O : Type 0} (taken : O → Option (List ℕ)) where
  -- the writer took a front of what waits, all that is due being kept
  pub cut_short : (a : Parts O) (w : O) → IsCovered a.due a.kept → IsCut (taken a.writer) (taken w) a.replies.bytes
      → IsCutShort taken a [] (record a { writer = w })
  cut_short a w covered (n, few, took) = record {
    caller = refl;
    due = refl;
    covered = covered;
    front = take n a.replies.bytes;
    took = took;
    begins = (drop n a.replies.bytes, append-nil a.replies.bytes ∙ sym (take-append-drop n a.replies.bytes));
  }

  -- ---- a view and what it is of

  module _ (a b : Parts O) (same : a ≡ b) (n : Parts O) (text : List ℕ) where
    pub breaks_from : BreaksOff taken a text n → BreaksOff taken b text n
    breaks_from h = subst (λ p. BreaksOff taken p text n) same h

    pub tells_from : Tells taken a text n → Tells taken b text n
    tells_from h = subst (λ p. Tells taken p text n) same h

  -- ---- a reply found no room: what waits goes out, and then its own text; v is the view of the old parts

  module _ (old v : Parts O) (view : old ≡ v) (r : Replies) (text : List ℕ) (cut : r.bytes ≡ old.replies.bytes) where
    abbrev before : Parts O
    before = record old { replies = r }

    front_kept : (n : Parts O) → BreaksOff taken before [] n → BreaksOff taken old text n
    front_kept n (inl off) = inl (record { caller = off.caller; taken_is = off.taken_is })
    front_kept n (inr short) = inr (record {
      caller = short.caller;
      due = short.due;
      covered = short.covered;
      front = short.front;
      took = short.took;
      begins = begins_behind r.bytes old.replies.bytes short.front text cut short.begins;
    })

    pub not_settled : (n : Parts O) → BreaksOff taken before [] n → BreaksOff taken v text n
    not_settled n off = breaks_from old v view n text (front_kept n off)

    module _ (a mid : Parts O) (hands : HandsOn taken before [] mid) (same : a ≡ mid) (w : O) where
      took_more : (more : List ℕ) → Appends (taken a.writer) (taken w) more
          → Appends (taken old.writer) (taken w) (old.replies.bytes ++ more)
      took_more more appended =
          took_behind (taken old.writer) (taken mid.writer) (taken w) r.bytes old.replies.bytes more cut hands.took
          (subst (λ (p : Parts O). Appends (taken p.writer) (taken w) more) same appended)

      pub told_directly : Appends (taken a.writer) (taken w) text → Tells taken v text (record a { writer = w })
      told_directly appended = tells_from old v view (record a { writer = w }) text (inr (record {
        caller = ap (λ (p : Parts O). p.caller) same ∙ hands.caller;
        due = ap (λ (p : Parts O). p.due) same ∙ hands.due;
        covered = subst (λ (p : Parts O). IsCovered p.due p.kept) (sym same) hands.covered;
        took = took_more text appended;
        none = ap (λ (p : Parts O). p.replies.bytes) same ∙ hands.none;
      }))

      pub cut_directly : IsCut (taken a.writer) (taken w) text → BreaksOff taken v text (record a { writer = w })
      cut_directly (n, few, appended) = breaks_from old v view (record a { writer = w }) text (inr (record {
        caller = ap (λ (p : Parts O). p.caller) same ∙ hands.caller;
        due = ap (λ (p : Parts O). p.due) same ∙ hands.due;
        covered = subst (λ (p : Parts O). IsCovered p.due p.kept) (sym same) hands.covered;
        front = old.replies.bytes ++ take n text;
        took = took_more (take n text) appended;
        begins = begins_within old.replies.bytes text n;
      }))

  -- ---- a line

  module _ (old mid new : Parts O) (line : Option (List ℕ)) (reply : Reply) (replied : Replied old line reply mid) where
    pub answered : Tells taken mid (reply_text reply) new → AnswersLine taken old line new
    answered told = record { reply = reply; between = mid; replied = replied; told = told }

    told_of : BreaksOff taken mid (reply_text reply) new
        → (taken new.writer ≡ taken old.writer)
        ⊎ ((r : Reply) × (between : Parts O) × Replied old line r between × IsCutShort taken between (reply_text r) new)
    told_of (inl off) = inl (off.taken_is ∙ ap taken replied.writer)
    told_of (inr short) = inr (reply, mid, replied, short)

    pub broken : BreaksOff taken mid (reply_text reply) new → BreaksLine taken old line new
    broken off = record {
      goes =
          with_caller taken old mid new (replied_goes taken old line reply mid replied) (broken_stays taken mid new (reply_text reply) off);
      told = told_of off;
    }

  pub cut_off : (old new : Parts O) (line : Option (List ℕ)) → Goes old.caller new.caller → new.writer ≡ old.writer
      → BreaksLine taken old line new
  cut_off old new line goes writer = record { goes = goes; told = inl (ap taken writer) }

pub replied_as : {O : Type 0} (old new : Parts O) (line : Option (List ℕ)) (reply : Reply) (mark : Option Lines)
    → Told IsRecorded old.caller line reply mark new.caller → IsDue old.due mark new.due → new.replies ≡ old.replies
    → new.writer ≡ old.writer → Replied old line reply new
replied_as old new line reply mark told due replies writer =
    record { mark = mark; told = told; due = due; replies = replies; writer = writer }

-- settled or broken off, the caller stays
pub settle_stays : {O E : Type 0} (taken : O → Option (List ℕ)) (r : Result (Unit {0}) E) (old new : Parts O)
    → OnOk r (HandsOn taken old [] new) → OnErr r (BreaksOff taken old [] new) → new.caller ≡ old.caller
settle_stays taken (Ok u) old new ok err = ok.caller
settle_stays taken (Err e) old new ok err = broken_stays taken old new [] err
