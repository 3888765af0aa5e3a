-- A line is answered, and its reply waits, goes out, or breaks off.
use Rattle.std.proofs.Common.{◌≡◌, ℕ, inl, inr, List, [], ◌∷◌, ◌++◌, Option, sym, ◌∙◌, ap, subst, map, append_assoc, arith}
use Rattle.std.specs.Prelude.{Result, Ok, Err, IfErr, OnErr, OnOk, Some, is_err, is_ok, false, true, take, drop, length}
use Rattle.std.specs.Io.KnownBytes.{Appends}
use Rattle.std.proofs.KnownBytes.{Appends-trans}
use Rattle.tsn_bytes.specs.Bytes.{IsCut}
use Rattle.tsn_keeping.specs.Keeping.{Keeping, with_settled}
use Rattle.std.proofs.lemmas.List.{append-nil, map-append, take-append-drop, take-append-le, take_all}
use Rattle.tsn_types.specs.declared.refusals.Refusal.{Refusal}
use Rattle.tsn_commands.specs.declared.command.Ask.{Ask}
use Rattle.tsn_commands.specs.declared.reply.Reply.{Reply}
use Rattle.tsn_replies.specs.Replies.{reply_text}
use Rattle.tsn_bridge.specs.Histories.{Answered}
use Rattle.tsn_recorded.specs.Text.{Recorded, text_after}
use Rattle.tsn_replay.specs.Recorder.{HasLine, Recording, text_of}
use Rattle.tsn_serve.specs.Answers.{MayRead}
use Rattle.tsn_serve.specs.Lines.{last_line, longest_line, short_line}
use Rattle.tsn_spelling.specs.Line.{line_text}
use Rattle.tsn_lasting.specs.Exchanges.{AnswersRead, Exchange, recorded_of}
use Rattle.tsn_lasting.specs.Parts.{AnswersLine, BreaksLine, BreaksOff, HandsOn, IsCutOff, IsCutShort, Parts, Puts, StepsRead, StepsRecorder, Tells, standing}
use Rattle.tsn_lasting.specs.Running.{Goes, IsBroken, IsWhole}
use Rattle.tsn_lasting.specs.Standing.{BeginsWith, HasAnswered, IsAtRest, Lasts, Replies, Standing, Steps}
use Rattle.tsn_lasting.proofs.GoingOn.{settled, settled_lasts, still_lasts, told, told_lasts, waits}
use Rattle.tsn_lasting.proofs.Windows.{stopped}

pub begins_same : (a b : List ℕ) → b ≡ a → BeginsWith b a
begins_same a b same = ([], same ∙ sym (append-nil a))

steps_of : (line : Option (List ℕ)) (s : Standing) (read : Result Ask Refusal) (reply : Reply) (rs : List Recorded) (mid : Standing)
    → MayRead line read → StepsRead s read reply rs mid
    → Steps s (record { line = line; read = read; reply = reply }) rs mid
steps_of line s read reply rs mid may steps = record {
  exchanges = record { may = may; answers = steps.answers; has_line = steps.has_line };
  leaves = record { commands = steps.commands; well = steps.well };
  last = steps.last;
  entered = steps.entered;
}

module _ {W : Type 0} (taken : W → Option (List ℕ)) (line : Option (List ℕ)) (read : Result Ask Refusal) (reply : Reply)
    (rs : List Recorded) (old mid new : Parts W)
    (may : MayRead line read) (steps : StepsRead (standing taken old) read reply rs (standing taken mid)) where
  abbrev s : Standing
  s = standing taken old

  abbrev m : Standing
  m = standing taken mid

  abbrev n : Standing
  n = standing taken new

  abbrev x : Exchange
  x = record { line = line; read = read; reply = reply }

  pub answered : Tells m n (reply_text reply) → AnswersLine taken old line new
  answered (inl w) s0 ls has =
      waits s0 ls s has x rs m (steps_of line s read reply rs m may steps) n w.stays (begins_same s.kept n.kept (w.kept ∙ steps.kept))
      (w.taken ∙ steps.taken) (w.waiting ∙ ap (λ t. t ++ reply_text reply) steps.waiting)
  answered (inr h) s0 ls has =
      told s0 ls s has x rs m (steps_of line s read reply rs m may steps) n h.stays h.kept
      (subst (λ t. Appends t n.taken (s.waiting ++ reply_text reply)) steps.taken
      (subst (λ t. Appends m.taken n.taken (t ++ reply_text reply)) steps.waiting h.took)) h.none

  pub broken : BreaksOff m n (reply_text reply) → BreaksLine taken old line new
  broken (inl off) s0 ls has =
      still_lasts s0 ls s has n (line ∷ []) (off.taken ∙ steps.taken) (subst (λ t. BeginsWith n.kept t) steps.kept off.kept)
  broken (inr short) s0 ls has =
      told_lasts s0 ls s has x rs m (steps_of line s read reply rs m may steps) n short.front short.kept
      (subst (λ t. Appends t n.taken short.front) steps.taken short.took)
      (subst (λ t. BeginsWith (t ++ reply_text reply) short.front) steps.waiting short.begins)

module _ {W : Type 0} (taken : W → Option (List ℕ)) where
  pub cut_off : (line : Option (List ℕ)) (old new : Parts W) → IsCutOff (standing taken old) (standing taken new)
      → BreaksLine taken old line new
  cut_off line old new off s0 ls has = still_lasts s0 ls (standing taken old) has (standing taken new) (line ∷ []) off.taken off.kept

  -- ---- behind a window

  pub window_settled : (s0 : Standing) (input : List ℕ) (held : Option (List ℕ)) (mid new : Parts W)
      → Goes s0 input held (standing taken mid) → HandsOn (standing taken mid) (standing taken new) []
      → Goes s0 input held (standing taken new)
  window_settled s0 input held mid new goes hands = record {
    lines = goes.lines;
    rest = goes.rest;
    splits = goes.splits;
    held_is = goes.held_is;
    answered = settled s0 (map short_line goes.lines) (standing taken mid) goes.answered (standing taken new) hands.stays hands.kept
        (subst (λ t. Appends (taken mid.writer) (taken new.writer) t) (append-nil mid.replies.bytes) hands.took) hands.none;
  }

  pub rests : (mid new : Parts W) → HandsOn (standing taken mid) (standing taken new) [] → IsAtRest (standing taken new)
  rests mid new hands = record { kept = hands.kept ∙ sym hands.stays.entered; none = hands.none }

  lasts_broken : (s0 : Standing) (ls : List (Option (List ℕ))) (mid new : Parts W) → HasAnswered s0 ls (standing taken mid)
      → BreaksOff (standing taken mid) (standing taken new) [] → Lasts s0 (ls ++ []) (standing taken new)
  lasts_broken s0 ls mid new has (inl off) = still_lasts s0 ls (standing taken mid) has (standing taken new) [] off.taken off.kept
  lasts_broken s0 ls mid new has (inr short) =
      settled_lasts s0 ls (standing taken mid) has (standing taken new) [] short.front short.kept short.took
      (subst (λ t. BeginsWith t short.front) (append-nil mid.replies.bytes) short.begins)

  pub window_broke : (s0 : Standing) (input : List ℕ) (held : Option (List ℕ)) (mid new : Parts W) → Goes s0 input held (standing taken mid)
      → BreaksOff (standing taken mid) (standing taken new) [] → IsBroken s0 input (standing taken new)
  window_broke s0 input held mid new goes breaks =
      stopped taken s0 input held mid goes new
      (subst (λ xs. Lasts s0 xs (standing taken new)) (append-nil (map short_line goes.lines))
      (lasts_broken s0 (map short_line goes.lines) mid new goes.answered breaks))

  pub whole_settled : (s0 : Standing) (input : List ℕ) (mid new : Parts W) → IsWhole s0 input (standing taken mid)
      → HandsOn (standing taken mid) (standing taken new) [] → IsWhole s0 input (standing taken new)
  whole_settled s0 input mid new whole hands = record {
    lines = whole.lines;
    rest = whole.rest;
    splits = whole.splits;
    answered = settled s0 (map short_line (whole.lines ++ last_line whole.rest)) (standing taken mid) whole.answered (standing taken new)
        hands.stays hands.kept
        (subst (λ t. Appends (taken mid.writer) (taken new.writer) t) (append-nil mid.replies.bytes) hands.took) hands.none;
  }

  pub whole_broke : (s0 : Standing) (input : List ℕ) (mid new : Parts W) → IsWhole s0 input (standing taken mid)
      → BreaksOff (standing taken mid) (standing taken new) [] → IsBroken s0 input (standing taken new)
  whole_broke s0 input mid new whole breaks = record {
    lines = whole.lines;
    read = (whole.rest, whole.splits.whole);
    others = map short_line (last_line whole.rest);
    lasts = subst (λ xs. Lasts s0 xs (standing taken new)) (append-nil _ ∙ map-append short_line whole.lines (last_line whole.rest))
        (lasts_broken s0 (map short_line (whole.lines ++ last_line whole.rest)) mid new whole.answered breaks);
  }

-- ---- what a turn of the recorder leaves is entered

pub record Leaves (r0 : Recording) (read : Result Ask Refusal) (reply : Reply) (r1 : Recording) : Type 0 where
  pub text : r1.text ≡ text_of line_text (recorded_of read reply)
  pub has_line : HasLine line_text longest_line (recorded_of read reply)
  pub answers : AnswersRead r0.bridge read reply r1.bridge

pub turn_leaves : (r0 : Recording) (read : Result Ask Refusal) (reply : Reply) (r1 : Recording) → r0.text ≡ []
    → StepsRecorder r0 read reply r1 → Leaves r0 read reply r1
turn_leaves r0 (Ok ask) reply r1 none steps = record {
  text = steps.grows ∙ ap (λ t. t ++ text_of line_text (recorded_of (Ok ask) reply)) none;
  has_line = steps.has_line;
  answers = (steps.ranges, steps.handles);
}
turn_leaves r0 (Err why) reply r1 none steps = record {
  text = ap (λ (r : Recording). r.text) steps.1 ∙ none;
  has_line = tt;
  answers = (steps.0, ap (λ (r : Recording). r.bridge) steps.1);
}

pub exchanged : {W : Type 0} (taken : W → Option (List ℕ)) (old new : Parts W) (r0 r1 : Recording) (read : Result Ask Refusal)
    (reply : Reply)
    → r0.bridge ≡ old.bridge → r0.text ≡ [] → StepsRecorder r0 read reply r1 → new.bridge ≡ r1.bridge
    → ((t : Option Answered) → r1.text ≡ text_of line_text t → HasLine line_text longest_line t
    → (rs : List Recorded) × Puts old.keeper t rs new.keeper)
    → new.writer ≡ old.writer → new.replies ≡ old.replies
    → (rs : List Recorded) × StepsRead (standing taken old) read reply rs (standing taken new)
exchanged taken old new r0 r1 read reply here none steps there enters writer replies =
    let left = turn_leaves r0 read reply r1 none steps in
    let put = enters (recorded_of read reply) left.text left.has_line in (
      put.0,
      record {
        answers = subst (λ b. AnswersRead b read reply new.bridge) here (subst (AnswersRead r0.bridge read reply) (sym there) left.answers);
        has_line = left.has_line;
        commands = put.1.commands;
        well = put.1.well;
        last = put.1.last;
        entered = (λ i. put.1.kept i ++ put.1.unsettled i)
            ∙ sym (append_assoc old.keeper.kept old.keeper.unsettled (text_after old.keeper.last put.0));
        kept = put.1.kept;
        taken = ap taken writer;
        waiting = ap (λ (r : Replies). r.bytes) replies;
      },
    )

-- ---- what a call answered

pub err_of : {T E P : Type 0} (r : Result T E) → true ≡ is_err r → OnErr r P → P
err_of (Ok x) h p = (cc)
err_of (Err e) h p = p

pub ok_of : {T E P : Type 0} (r : Result T E) → false ≡ is_err r → OnOk r P → P
ok_of (Ok x) h p = p
ok_of (Err e) h p = (cc)

-- the writer took a front of what waits, once all was kept
pub cut_short : {W : Type 0} (taken : W → Option (List ℕ)) (old new : Parts W) → new.keeper ≡ with_settled old.keeper
    → IsCut (taken old.writer) (taken new.writer) old.replies.bytes → IsCutShort (standing taken old) (standing taken new) []
cut_short taken old new settled' (n, few, took) = record {
  kept = ap (λ (k : Keeping). k.kept) settled';
  front = take n old.replies.bytes;
  took = took;
  begins = (drop n old.replies.bytes, append-nil old.replies.bytes ∙ sym (take-append-drop n old.replies.bytes));
}

pub not_ok : {T E P : Type 0} (r : Result T E) → false ≡ is_ok r → OnErr r P → P
not_ok (Ok x) h p = (cc)
not_ok (Err e) h p = p

pub ok_both : {T E P Q S : Type 0} (r : Result T E) → (P → Q → S) → OnOk r P → OnOk r Q → OnOk r S
ok_both (Ok x) f p q = f p q
ok_both (Err e) f p q = p

pub if_err_of : {T E : Type 0} {P : E → Type 0} (r : Result T E) → true ≡ is_err r → IfErr r P → (e : E) × P e
if_err_of (Ok x) h p = (cc)
if_err_of (Err e) h p = (e, p)

-- what a reply that found no room left of itself is cut off again
pub cut_back : (old new text : List ℕ) (len : ℕ) → len ≡ length old → IsCut (Some old) (Some new) text → take len new ≡ old
cut_back old new text len is (n, few, grown) =
    (λ i. take (is i) (grown i)) ∙ take-append-le (length old) old (take n text) (omega arith) ∙ take_all (length old) old (omega arith)

-- ---- a view and what it is of

module _ {W : Type 0} (taken : W → Option (List ℕ)) (a b : Parts W) (same : a ≡ b) (n : Standing) where
  pub cut_off_from : IsCutOff (standing taken a) n → IsCutOff (standing taken b) n
  cut_off_from h = subst (λ p. IsCutOff (standing taken p) n) same h

  pub breaks_from : (text : List ℕ) → BreaksOff (standing taken a) n text → BreaksOff (standing taken b) n text
  breaks_from text h = subst (λ p. BreaksOff (standing taken p) n text) same h

  pub tells_from : (text : List ℕ) → Tells (standing taken a) n text → Tells (standing taken b) n text
  tells_from text h = subst (λ p. Tells (standing taken p) n text) same h

  pub steps_from : (read : Result Ask Refusal) (reply : Reply) → ((rs : List Recorded) × StepsRead (standing taken a) read reply rs n)
      → (rs : List Recorded) × StepsRead (standing taken b) read reply rs n
  steps_from read reply h = subst (λ p. (rs : List Recorded) × StepsRead (standing taken p) read reply rs n) same h

-- ---- a reply found no room

-- a front of what waits, and of that with the reply behind it
pub begins_behind : (whole old front text : List ℕ) → whole ≡ old → BeginsWith (whole ++ []) front → BeginsWith (old ++ text) front
begins_behind whole old front text cut (rest, is) =
    (rest ++ text, ap (λ b. b ++ text) (sym cut ∙ sym (append-nil whole) ∙ is) ∙ append_assoc front rest text)

-- what waits and a front of the reply
pub begins_within : (old text : List ℕ) (n : ℕ) → BeginsWith (old ++ text) (old ++ take n text)
begins_within old text n =
    (drop n text, ap (λ t. old ++ t) (sym (take-append-drop n text)) ∙ sym (append_assoc old (take n text) (drop n text)))

-- a writer took what waits, and then more
pub took_behind : (t0 t1 t2 : Option (List ℕ)) (whole old more : List ℕ) → whole ≡ old → Appends t0 t1 (whole ++ []) → Appends t1 t2 more
    → Appends t0 t2 (old ++ more)
took_behind t0 t1 t2 whole old more cut first second =
    subst (λ t. Appends t0 t2 (t ++ more)) (append-nil whole ∙ cut) (Appends-trans t0 t1 t2 (whole ++ []) more first second)

-- What waits was handed on, and then the reply's own text, or a front of it; v is the view of the old parts.
module _ {W : Type 0} (taken : W → Option (List ℕ)) (old v : Parts W) (view : old ≡ v) (r : Replies) (text : List ℕ)
    (cut : r.bytes ≡ old.replies.bytes) where
  abbrev before : Standing
  before = standing taken (record { bridge = old.bridge; keeper = old.keeper; replies = r; writer = old.writer })

  front_kept : (n : Standing) → BreaksOff before n [] → BreaksOff (standing taken old) n text
  front_kept n (inl off) = inl (record { taken = off.taken; kept = off.kept })
  front_kept n (inr short) = inr (record {
    kept = short.kept;
    front = short.front;
    took = short.took;
    begins = begins_behind r.bytes old.replies.bytes short.front text cut short.begins;
  })

  pub not_settled : (n : Standing) → BreaksOff before n [] → BreaksOff (standing taken v) n text
  not_settled n off = breaks_from taken old v view n text (front_kept n off)

  module _ (a mid : Parts W) (hands : HandsOn before (standing taken mid) []) (same : a ≡ mid) (w : W) where
    abbrev after : Standing
    after = standing taken (record { bridge = a.bridge; keeper = a.keeper; replies = a.replies; writer = w })

    took_more : (more : List ℕ) → Appends (taken a.writer) (taken w) more
        → Appends (taken old.writer) (taken w) (old.replies.bytes ++ more)
    took_more more appended =
        took_behind (taken old.writer) (taken mid.writer) (taken w) r.bytes old.replies.bytes more cut hands.took
        (subst (λ (p : Parts W). Appends (taken p.writer) (taken w) more) same appended)

    pub told_directly : Appends (taken a.writer) (taken w) text → Tells (standing taken v) after text
    told_directly appended = tells_from taken old v view after text (inr (record {
      stays = record {
        bridge = ap (λ (p : Parts W). p.bridge) same ∙ hands.stays.bridge;
        last = ap (λ (p : Parts W). p.keeper.last) same ∙ hands.stays.last;
        entered = ap (λ (p : Parts W). p.keeper.kept ++ p.keeper.unsettled) same ∙ hands.stays.entered;
      };
      kept = ap (λ (p : Parts W). p.keeper.kept) same ∙ hands.kept;
      took = took_more text appended;
      none = ap (λ (p : Parts W). p.replies.bytes) same ∙ hands.none;
    }))

    pub cut_directly : IsCut (taken a.writer) (taken w) text → BreaksOff (standing taken v) after text
    cut_directly (n, few, appended) = breaks_from taken old v view after text (inr (record {
      kept = ap (λ (p : Parts W). p.keeper.kept) same ∙ hands.kept;
      front = old.replies.bytes ++ take n text;
      took = took_more (take n text) appended;
      begins = begins_within old.replies.bytes text n;
    }))

pub breaks_line_to : {W : Type 0} (taken : W → Option (List ℕ)) (old a b : Parts W) (line : Option (List ℕ)) → a ≡ b
    → BreaksLine taken old line a → BreaksLine taken old line b
breaks_line_to taken old a b line same h = subst (λ p. BreaksLine taken old line p) same h
