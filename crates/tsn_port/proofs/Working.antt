-- What the calls of a port worker tell it, and what it tells then.
use Rattle.std.proofs.Common.{◌≡◌, ◌∙◌, ◌⊎◌, ◌+◌, ◌<◌, ◌≤◌, ◌++◌, ℕ, Bool, List, [], ◌∷◌, Option, Some, ap, append-nil, arith, inl, inr, length, length-append, refl, subst, sym, take, true, false}
use Rattle.std.proofs.lemmas.List.{take_all}
use Rattle.std.specs.FinMap.{get}
use Rattle.tsn_types.specs.declared.keys.Key.TheVariants.{Port}
use Rattle.tsn_types.specs.declared.limits.Limits.{Limits}
use Rattle.tsn_types.specs.declared.records.PortGates.{PortGates}
use Rattle.tsn_types.specs.declared.records.Record.TheVariants as records
use Rattle.tsn_types.specs.declared.refusals.Field.TheVariants as fields
use Rattle.tsn_types.specs.declared.refusals.Refusal.TheVariants as refusals
use Rattle.tsn_schedule.specs.Acts.{last_instant}
use Rattle.tsn_entries.specs.declared.entries.Entry.{Entry}
use Rattle.tsn_entries.specs.Entries.{applies, changes, collect}
use Rattle.tsn_edit.specs.Runs.{IsGood}
use Rattle.tsn_undo.specs.Ledger.{present}
use Rattle.tsn_undo.specs.Soundness.{configuration}
use Rattle.tsn_desk.specs.declared.desk.Desk.{Desk}
use Rattle.tsn_machine.specs.declared.history.Entry.{Entry as Call}
use Rattle.tsn_desk.specs.Desks.{HasSeenMore, HasTurned, IsSameCaller, IsSeatOf, first_of, made, number, seen}
use Rattle.tsn_machine.specs.History.{Begins, IsLegal, Runs, call, calls_by}
use Rattle.tsn_machine.proofs.Begin.{begins_self, begins_trans}
use Rattle.tsn_commands.specs.declared.command.Ask.{Ask}
use Rattle.tsn_commands.specs.declared.reply.Reply.{Reply}
use Rattle.tsn_commands.specs.declared.reply.Reply.TheVariants as replies
use Rattle.tsn_bridge.specs.Reached.{IsReached}
use Rattle.tsn_bridge.specs.Rule.{is_given}
use Rattle.tsn_bridge.specs.State.{State}
use Rattle.tsn_bridge.specs.Turns.{Turns}
use Rattle.tsn_bridge.proofs.Reaching.{limits_reached}
use Rattle.tsn_port.specs.declared.worker.PortWorker.{PortWorker}
use Rattle.tsn_port.specs.Histories.{IsWhole, Tells, TookSome}
use Rattle.tsn_port.specs.Mirrors.{AreOfPort, MirrorState, Mirrors, ShowsGates, first_record, mirrored}
use Rattle.tsn_port.specs.Starting.{AnswersHello, AnswersLook, AnswersSince, Gives, HasRead, IsGivenIn, Looked, SaidHello, hello, look_at, since}
use Rattle.tsn_port.specs.Workers.{BridgeSeat, CallsOnce, EndsIn, GoesOn, IsPast, IsRound, IsWorkerOf, TellsGates, entries_behind, last_seen, port_of}
use Rattle.tsn_port.proofs.Asking.{Shows, answers_hello, answers_since, given_by_hello, given_later, shows}
use Rattle.tsn_port.proofs.Following.{asked, grows, runs_split, since_gives, since_is, tells_on, whole_at, whole_on}
use Rattle.tsn_port.proofs.Openings.{first_is}
use Rattle.tsn_port.proofs.Ports.{entries_of_ports, port_of as record_of, tells_gates, tells_past}

begins_length : {E : Type 0} (xs ys : List E) → Begins xs ys → length xs ≤ length ys
begins_length xs ys b = subst (λ l. length xs ≤ length l) b.1 (simp length-append (omega arith))

same_length : {E : Type 0} (xs ys : List E) → Begins xs ys → length xs ≡ length ys → xs ≡ ys
same_length {E = E} xs ys (rest, whole) same =
    sym (append-nil xs) ∙ (ap (λ r. xs ++ r)
    (sym (empty rest (omega (arith, same, sym (length-append xs rest) ∙ ap (λ l. length l) whole)))) ∙ whole)
  where
    empty : (r : List E) → length r ≡ 0 → r ≡ []
    empty [] none = refl
    empty (x ∷ r) none = absurd (let never : ⊥ = omega (arith, none) in never)

-- ---- a seat goes on

module _ (desk : Desk State Ask Reply) where
  pub turn_goes : (old new : BridgeSeat) (ask : Ask) (place : ℕ) (reply : Reply) → IsSeatOf desk new → number new ≡ number old
      → HasTurned Turns desk old ask place reply new → GoesOn desk old new
  turn_goes old new ask place reply own same t = record {
    own = own;
    number_is = same;
    seen_more = begins_trans (seen old) t.before (seen new) t.begins (call (number old) ask reply ∷ [], sym t.whole);
    made_more = (call (number old) ask reply ∷ [], sym t.own);
    legal = λ _. t.legal;
    calls = λ _. ap (λ n. calls_by n (seen new)) same ∙ t.all_own;
  }

  -- after a call more is seen
  pub sees_more : (old new : BridgeSeat) (ask : Ask) (place : ℕ) (reply : Reply) → HasTurned Turns desk old ask place reply new
      → length (seen old) < length (seen new)
  sees_more old new ask place reply t =
      let rest : length (seen old) + length t.begins.0 ≡ length t.before = sym (length-append (seen old) t.begins.0)
      ∙ ap (λ h. length h) t.begins.1 in
      let size : length (seen new) ≡ length t.before + 1 = ap (λ h. length h) t.whole
      ∙ length-append t.before (call (number old) ask reply ∷ []) in
      omega (arith, rest, size)

  pub stays_goes : (old new : BridgeSeat) → IsSeatOf desk new → number new ≡ number old → seen new ≡ seen old → made new ≡ made old
      → GoesOn desk old new
  stays_goes old new own same seen_same made_same = record {
    own = own;
    number_is = same;
    seen_more = subst (λ h. Begins (seen old) h) (sym seen_same) (begins_self (seen old));
    made_more = subst (λ h. Begins (made old) h) (sym made_same) (begins_self (made old));
    legal = λ is. subst (λ h. IsLegal Turns (first_of desk) h) (sym seen_same) is;
    calls = λ is. ap (λ n. calls_by n (seen new)) same ∙ (ap (λ h. calls_by (number old) h) seen_same ∙ (is ∙ sym made_same));
  }

  pub front_goes : (old new : BridgeSeat) → IsSameCaller old new → HasSeenMore Turns desk old new
      → calls_by (number old) (seen new) ≡ made old → GoesOn desk old new
  front_goes old new same more calls = record {
    own = more.own;
    number_is = same.0;
    seen_more = more.begins;
    made_more = subst (λ h. Begins (made old) h) (sym same.1) (begins_self (made old));
    legal = λ _. more.legal;
    calls = λ _. ap (λ n. calls_by n (seen new)) same.0 ∙ (calls ∙ sym same.1);
  }

  pub goes_both : (old mid new : BridgeSeat) → GoesOn desk old mid → GoesOn desk mid new → GoesOn desk old new
  goes_both old mid new one two = record {
    own = two.own;
    number_is = two.number_is ∙ one.number_is;
    seen_more = begins_trans (seen old) (seen mid) (seen new) one.seen_more two.seen_more;
    made_more = begins_trans (made old) (made mid) (made new) one.made_more two.made_more;
    legal = λ is. two.legal (one.legal is);
    calls = λ is. two.calls (one.calls is);
  }

-- ---- the last call of a history

-- the state before the call, and what it was answered there
last_turn : (first z : State) (before : List (Call Ask Reply)) (e : Call Ask Reply) → Runs Turns first (before ++ e ∷ []) z
    → (y : State) × Runs Turns first before y × Turns y e.request e.reply z
last_turn first z before e run =
    let (y, upto, (z', step, end)) = runs_split first z before (e ∷ []) run in
    (y, upto, subst (λ t. Turns y e.request e.reply t) end step)

module _ (desk : Desk State Ask Reply) (old new : BridgeSeat) (ask : Ask) (place : ℕ) (reply : Reply)
    (t : HasTurned Turns desk old ask place reply new) where
  abbrev first : State
  first = first_of desk

  pub at_last : (z : State) → Runs Turns first (seen new) z → (y : State) × Runs Turns first t.before y × Turns y ask reply z
  at_last z run = last_turn first z t.before (call (number old) ask reply) (subst (λ h. Runs Turns first h z) t.whole run)

  -- what holds wherever the machine gave the reply, holds of the reply
  pub of_reply : (P : Type 0) → ((y z : State) → Runs Turns first t.before y → Runs Turns first (seen new) z → Turns y ask reply z → P) → P
  of_reply P f = let end = t.legal in let last = at_last end.0 end.1 in f last.0 end.0 last.1 end.1 last.2

-- ---- the session stays given out

module _ (first : State) (reached : IsReached first) where
  pub given_on : (h h' : List (Call Ask Reply)) (n : ℕ) → Begins h h' → IsGivenIn first h n → IsGivenIn first h' n
  given_on h h' n begins given z run =
      let (u, old, onto) = runs_split first z h begins.0 (subst (λ l. Runs Turns first l z) (sym begins.1) run) in
      let later = grows first reached u z begins.0 (whole_at first reached h u old) onto in
      given_later n u.sessions z.sessions (given u old) later.sessions

-- ---- what each call tells

module _ (desk : Desk State Ask Reply) (old new : BridgeSeat) (place : ℕ) (reply : Reply) where
  module _ (reached : IsReached (first_of desk)) (name : Option (List ℕ)) where
    pub hello_answered : HasTurned Turns desk old (hello name) place reply new → AnswersHello reply
    hello_answered t = of_reply desk old new (hello name) place reply t (AnswersHello reply)
        (λ y z upto _ turn. answers_hello y 0 name reply z (whole_at (first_of desk) reached t.before y upto) turn.1)

    pub said_hello : (n : ℕ) → Gives reply n → HasTurned Turns desk old (hello name) place reply new → SaidHello desk old name n new
    said_hello n gives t = record {
      legal = t.legal;
      reply = reply;
      gives = gives;
      call_is = t.own;
      given = λ z run.
          let last = at_last desk old new (hello name) place reply t z run in
          given_by_hello last.0 0 name n reply z (whole_at (first_of desk) reached t.before last.0 last.1) last.2.1 gives;
    }

  module _ (reached : IsReached (first_of desk)) (session : ℕ) (given : IsGivenIn (first_of desk) (seen old) session) where
    -- the session is given out before the call too
    given_before : (ask : Ask) (t : HasTurned Turns desk old ask place reply new) (y : State) → Runs Turns (first_of desk) t.before y
        → is_given y session ≡ true
    given_before ask t y run = given_on (first_of desk) reached (seen old) t.before session t.begins given y run

    given_after : (ask : Ask) → HasTurned Turns desk old ask place reply new → IsGivenIn (first_of desk) (seen new) session
    given_after ask t = given_on (first_of desk) reached (seen old) (seen new) session
        (begins_trans (seen old) t.before (seen new) t.begins (call (number old) ask reply ∷ [], sym t.whole)) given

    pub since_answered : (from : ℕ) → HasTurned Turns desk old (since session from) place reply new → AnswersSince reply
    since_answered from t = of_reply desk old new (since session from) place reply t (AnswersSince reply)
        (λ y z upto _ turn. answers_since y session from reply z (given_before (since session from) t y upto) turn.1)

    pub has_read : (from : ℕ) (entries : List Entry) → reply ≡ replies.Entries entries
        → HasTurned Turns desk old (since session from) place reply new → HasRead desk old session from entries place new
    has_read from entries is t = record {
      turned = subst (λ r. HasTurned Turns desk old (since session from) place r new) is t;
      given = given_after (since session from) t;
    }

    module _ (n : ℕ) (low : 1 ≤ n) where
      looked_at : (t : HasTurned Turns desk old (look_at session n) place reply new) (y z : State) → Runs Turns (first_of desk) t.before y
          → Turns y (look_at session n) reply z → Shows y n reply z
      looked_at t y z upto turn = shows y session n reply z (whole_at (first_of desk) reached t.before y upto) low
          (given_before (look_at session n) t y upto) turn.1

      pub look_answered : HasTurned Turns desk old (look_at session n) place reply new → AnswersLook n reply
      look_answered t = of_reply desk old new (look_at session n) place reply t (AnswersLook n reply)
          (λ y z upto _ turn. (looked_at t y z upto turn).answers)

      -- limits stay
      limits_at : (h : List (Call Ask Reply)) (y : State) → Runs Turns (first_of desk) h y
          → y.book.limits.ports ≡ (first_of desk).book.limits.ports
      limits_at h y run = ap (λ (l : Limits). l.ports)
          (grows (first_of desk) reached (first_of desk) y h (whole_at (first_of desk) reached [] (first_of desk) refl) run).limits

      pub over_the_limits : reply ≡ replies.Refused (refusals.Range fields.Key)
          → HasTurned Turns desk old (look_at session n) place reply new → (first_of desk).book.limits.ports < n
      over_the_limits is t = of_reply desk old new (look_at session n) place reply t ((first_of desk).book.limits.ports < n)
          (λ y z upto _ turn. subst (λ m. m < n) (limits_at t.before y upto) ((looked_at t y z upto turn).over is))

      pub looked : (value : PortGates) → reply ≡ replies.Shown (Port n) (records.Port value)
          → HasTurned Turns desk old (look_at session n) place reply new → Looked desk old session n value new
      looked value is t = record {
        legal = t.legal;
        call_is = t.own ∙ ap (λ r. made old ++ call (number old) (look_at session n) r ∷ []) is;
        given = given_after (look_at session n) t;
        within = of_reply desk old new (look_at session n) place reply t (n ≤ (first_of desk).book.limits.ports)
            (λ y z upto _ turn. subst (λ m. n ≤ m) (limits_at t.before y upto) ((looked_at t y z upto turn).shown value is).0);
        stands = λ z run.
            let last = at_last desk old new (look_at session n) place reply t z run in
            let told = looked_at t last.0 z last.1 last.2 in
            ap (λ (s : State). get (present s.book) (Port n)) told.same ∙ (told.shown value is).1;
      }

-- ---- a start

module _ (first : State) (reached : IsReached first) (n : ℕ) (low : 1 ≤ n) (high : n ≤ first.book.limits.ports) where
  -- what the journal began with for the port
  pub began : (h : List (Call Ask Reply)) (z : State) → Runs Turns first h z
      → (p : PortGates) × (get z.book.opening (Port n) ≡ Some (records.Port p))
  began h z run =
      let whole = whole_at first reached h z run in
      let limits = (grows first reached first z h (whole_at first reached [] first refl) run).limits in
      record_of z.book.limits z.book.opening n whole.journal.kept low (subst (λ (l : Limits). n ≤ l.ports) (sym limits) high)

  within_at : (h : List (Call Ask Reply)) (z : State) → Runs Turns first h z → n ≤ z.book.limits.ports
  within_at h z run =
      subst (λ (l : Limits). n ≤ l.ports) (sym (grows first reached first z h (whole_at first reached [] first refl) run).limits) high

  module _ (h before now : List (Call Ask Reply)) (number session : ℕ) (shown : PortGates) (entries : List Entry) (m : MirrorState)
      (stands : (z : State) → Runs Turns first h z → get (present z.book) (Port n) ≡ Some (records.Port shown))
      (begins : Begins h before) (whole : now ≡ before ++ call number (since session 0) (replies.Entries entries) ∷ [])
      (port : m.port ≡ n) (front : m.front ≡ length entries)
      (mirrors : AreOfPort n (mirrored n (first_record n entries shown) []) entries → Mirrors m (first_record n entries shown) entries)
    where
      -- the entries that were told are those of any state to which the history leads
      all_entries : (z : State) → Runs Turns first now z → entries ≡ z.book.entries
      all_entries z run =
          let last = last_turn first z before (call number (since session 0) (replies.Entries entries))
          (subst (λ l. Runs Turns first l z) whole run) in
          let gives = since_gives last.0 session 0 entries z last.2.1 in
          gives.0 ∙ since_is last.0.book.entries 0 (whole_at first reached before last.0 last.1).journal.numbered
          ∙ ap (λ (s : State). s.book.entries) (sym gives.1)

      -- and the record before them is the one with which the journal began
      began_with : (z : State) → Runs Turns first now z → get z.book.opening (Port n) ≡ Some (records.Port (first_record n entries shown))
      began_with z run =
          let last = last_turn first z before (call number (since session 0) (replies.Entries entries))
          (subst (λ l. Runs Turns first l z) whole run) in
          let gives = since_gives last.0 session 0 entries z last.2.1 in
          let (u, old, onto) = runs_split first last.0 h begins.0 (subst (λ l. Runs Turns first l last.0) (sym begins.1) last.1) in
          let later = grows first reached u last.0 begins.0 (whole_at first reached h u old) onto in
          let sound = (whole_at first reached now z run).journal in
          let is : z.book.entries ≡ u.book.entries ++ later.more = ap (λ (s : State). s.book.entries) gives.1 ∙ later.entries in
          let opening : z.book.opening ≡ u.book.opening = ap (λ (s : State). s.book.opening) gives.1 ∙ later.opening in
          let at : get (present u.book) (Port n) ≡ Some (records.Port shown) = stands u old in
          let got = first_is z.book.limits n low (within_at now z run) u.book.entries later.more z.book.opening shown sound.kept
          (subst (λ es. IsGood z.book.limits z.book.opening (changes (collect applies es))) is sound.replays)
          (ap (λ o. get (configuration o u.book.entries) (Port n)) opening ∙ at) in
          got ∙ ap (λ es. Some (records.Port (first_record n es shown))) (sym is ∙ sym (all_entries z run))

      pub starts_telling : Tells first now m
      starts_telling = record {
        stands = λ z opening run at.
            let is = asked first reached now z run in
            let same : records.Port opening ≡ records.Port (first_record n entries shown) =
            let both : Some (records.Port opening) ≡ Some (records.Port (first_record n entries shown)) = sym
            (ap (λ k. get z.book.opening (Port k)) (sym port) ∙ at) ∙ began_with z run in (cc) in
            let first_is : opening ≡ first_record n entries shown = (cc) in
            let fits : n ≤ is.limits.ports = subst (λ (l : Limits). n ≤ l.ports) (limits_reached z is) (within_at now z run) in
            let of_port = entries_of_ports is.limits is.given is.asks z n (first_record n entries shown) is.opens is.ranges is.led low fits
            (began_with z run) in
            let told = mirrors (subst (λ es. AreOfPort n (mirrored n (first_record n entries shown) []) es) (sym (all_entries z run))
            of_port)
            in
            let all : take m.front z.book.entries ≡ entries = ap (take m.front) (sym (all_entries z run))
            ∙ take_all m.front entries (omega (arith, front)) in
            subst (λ es. Mirrors m opening es) (sym all) (subst (λ p. Mirrors m p entries) (sym first_is) told);
        within = λ z run. omega (arith, front, ap (λ es. length es) (all_entries z run));
      }

      pub starts_whole : IsWhole first now m
      starts_whole z run = front ∙ ap (λ es. length es) (all_entries z run)

pub starts : (desk : Desk State Ask Reply) → IsReached (first_of desk)
    → (s1 s2 s3 : BridgeSeat) (n session : ℕ) (shown : PortGates) (entries : List Entry) (place : ℕ) → 1 ≤ n
    → Looked desk s1 session n shown s2 → HasRead desk s2 session 0 entries place s3
    → (w : PortWorker) → port_of w ≡ n → w.session ≡ session → w.place ≡ place → last_seen w ≡ seen s3 → w.mirror.front ≡ length entries
    → (AreOfPort n (mirrored n (first_record n entries shown) []) entries → Mirrors w.mirror (first_record n entries shown) entries)
    → IsWorkerOf desk w
starts desk reached s1 s2 s3 n session shown entries place low looked read w port same_session same_place last front mirrors =
    let t = read.turned in
    let first = first_of desk in
    let whole : last_seen w ≡ t.before ++ call (number s2) (since session 0) (replies.Entries entries) ∷ [] = last ∙ t.whole in
    record {
      reached = reached;
      low = subst (λ k. 1 ≤ k) (sym port) low;
      high = subst (λ k. k ≤ first.book.limits.ports) (sym port) looked.within;
      legal = subst (λ h. IsLegal Turns first h) (sym last) t.legal;
      turned = ap (λ l. length l) whole ∙ (length-append t.before _ ∙ (ap (λ k. k + 1) t.at_place ∙ ap (λ k. k + 1) (sym same_place)));
      given = λ z run. subst (λ k. is_given z k ≡ true) (sym same_session) (read.given z (subst (λ h. Runs Turns first h z) last run));
      tells = starts_telling first reached n low looked.within (seen s2) t.before (last_seen w) (number s2) session shown entries w.mirror
          looked.stands t.begins whole port front mirrors;
      whole = λ _. starts_whole first reached n low looked.within (seen s2) t.before (last_seen w) (number s2) session shown entries
          w.mirror looked.stands t.begins whole port front mirrors;
    }

-- ---- a turn that follows

pub follows : (desk : Desk State Ask Reply) (w w' : PortWorker) → IsWorkerOf desk w → (old new : BridgeSeat)
    → Begins (last_seen w) (seen old) → (entries : List Entry) (place : ℕ)
    → HasRead desk old w.session w.mirror.front entries place new → TookSome w.mirror entries w'.mirror
    → w'.session ≡ w.session → w'.place ≡ place → last_seen w' ≡ seen new
    → (w'.is_short ≡ false → w'.mirror.front ≡ w.mirror.front + length entries)
    → IsWorkerOf desk w'
follows desk w w' is old new begins entries place read took same_session same_place last all =
    let t = read.turned in
    let first = first_of desk in
    let whole : last_seen w' ≡ t.before ++ call (number old) (since w.session w.mirror.front) (replies.Entries entries) ∷ [] = last
    ∙ t.whole in
    let before = begins_trans (last_seen w) (seen old) t.before begins t.begins in
    record {
      reached = is.reached;
      low = subst (λ k. 1 ≤ k) (sym took.port) is.low;
      high = subst (λ k. k ≤ first.book.limits.ports) (sym took.port) is.high;
      legal = subst (λ h. IsLegal Turns first h) (sym last) t.legal;
      turned = ap (λ l. length l) whole ∙ (length-append t.before _ ∙ (ap (λ k. k + 1) t.at_place ∙ ap (λ k. k + 1) (sym same_place)));
      given = λ z run. subst (λ k. is_given z k ≡ true) (sym same_session) (read.given z (subst (λ h. Runs Turns first h z) last run));
      tells = tells_on first is.reached (last_seen w) t.before (last_seen w') (number old) w.session w.mirror w'.mirror entries is.low
          is.high took.port is.tells before whole took.more took.most took.taken;
      whole = λ long. whole_on first is.reached (last_seen w) t.before (last_seen w') (number old) w.session w.mirror w'.mirror entries
          is.low is.high took.port is.tells before whole took.more took.most took.taken (all long);
    }

-- ---- a round

module _ (desk : Desk State Ask Reply) (w : PortWorker) (is : IsWorkerOf desk w) (long : w.is_short ≡ false) where
  -- the mirror is the port's after all entries of any state to which the history leads
  all_in : (z : State) → Runs Turns (first_of desk) (last_seen w) z
      → (p : PortGates) × (get z.book.opening (Port (port_of w)) ≡ Some (records.Port p)) × Mirrors w.mirror p z.book.entries
  all_in z run =
      let p = began (first_of desk) is.reached (port_of w) is.low is.high (last_seen w) z run in
      let front = is.whole long z run in (
        p.0,
        p.1,
        subst (λ es. Mirrors w.mirror p.0 es) (take_all w.mirror.front z.book.entries (omega (arith, front)))
            (is.tells.stands z p.0 run p.1),
      )

  pub round_gates : (t gates : ℕ)
      → ((opening : PortGates) (entries : List Entry) → Mirrors w.mirror opening entries
      → (last_instant (mirrored (port_of w) opening entries).acts ≤ t) × ShowsGates (mirrored (port_of w) opening entries) t gates)
      → EndsIn (first_of desk) (last_seen w) (TellsGates (port_of w) t gates)
  round_gates t gates told = (
    is.legal,
    λ z run.
        let (p, at, mirrors) = all_in z run in
        let both = told p z.book.entries mirrors in
        record {
          current = subst (λ m. m ≤ t) (tells_past z.book (port_of w) p at) both.0;
          told = tells_gates z.book (port_of w) p t gates at both.1;
        },
  )

  pub round_past : (t : ℕ) → ((opening : PortGates) (entries : List Entry) → Mirrors w.mirror opening entries
      → t < last_instant (mirrored (port_of w) opening entries).acts)
      → EndsIn (first_of desk) (last_seen w) (IsPast (port_of w) t)
  round_past t told = (
    is.legal,
    λ z run.
        let (p, at, mirrors) = all_in z run in
        subst (λ m. t < m) (tells_past z.book (port_of w) p at) (told p z.book.entries mirrors),
  )

module _ (desk : Desk State Ask Reply) (w : PortWorker) (is : IsWorkerOf desk w) (old at new : BridgeSeat) (front : ℕ)
    (begins : Begins (last_seen w) (seen at)) (size : length (seen at) ≡ front) where
  -- where the front is the one after the last turn, what was seen is just the history of that turn
  pub is_last : w.place + 1 ≡ front → seen at ≡ last_seen w
  is_last here = sym (same_length (last_seen w) (seen at) begins (is.turned ∙ here ∙ sym size))

  -- where a call was made, the front was another one
  pub is_round : number at ≡ number old → made at ≡ made old → ((w.is_short ≡ false) × (w.place + 1 ≡ front) → ⊥)
      → (made new ≡ made at) ⊎ CallsOnce (entries_behind w) at new → IsRound w old new
  is_round same_number same_made other (inl none) = inl (none ∙ same_made)
  is_round same_number same_made other (inr (one, more)) = inr (
    (
      one.0,
      one.1 ∙ (ap (λ h. h ++ call (number at) (entries_behind w) one.0 ∷ []) same_made
          ∙ ap (λ k. made old ++ call k (entries_behind w) one.0 ∷ []) same_number),
    ),
    ahead w.is_short refl,
  )
    where
      ahead : (b : Bool) → w.is_short ≡ b → (w.is_short ≡ true) ⊎ (w.place + 2 < length (seen new))
      ahead true short = inl short
      ahead false long =
          let differs : w.place + 1 ≡ front → ⊥ = λ here. other (long, here) in
          let low : w.place + 1 ≤ front = subst (λ k. k ≤ front) is.turned
          (subst (λ k. length (last_seen w) ≤ k) size (begins_length (last_seen w) (seen at) begins)) in
          inr (omega (arith, differs, low, size, more))
