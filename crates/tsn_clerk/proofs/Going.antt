-- What a talk does to its caller, over all its lines.
use Rattle.std.proofs.Common.{◌≡◌, ℕ, inl, inr, List, [], ◌∷◌, ◌++◌, Option, Some, None, refl, sym, ◌∙◌, ap, subst, true, false}
use Rattle.tsn_bytes.specs.declared.bytes.Fault.{Fault}
use Rattle.tsn_desk.specs.declared.desk.Desk.{Desk}
use Rattle.tsn_desk.specs.Desks.{IsSeatOf}
use Rattle.tsn_commands.specs.declared.command.Ask.{Ask}
use Rattle.tsn_commands.specs.declared.reply.Reply.{Reply}
use Rattle.tsn_bridge.specs.State.{State}
use Rattle.tsn_port.specs.Workers.{BridgeSeat, GoesOn}
use Rattle.tsn_replies.specs.Replies.{reply_text}
use Rattle.tsn_serve.specs.Lines.{last_line, short_line}
use Rattle.tsn_serve.specs.Pieces.{Breaks, EndBreaks, Ends, Feeds, Going}
use Rattle.tsn_serve.specs.Script.{Run}
use Rattle.tsn_serve.specs.Talk.{Caller, Goes, Told, caller_of}
use Rattle.tsn_serve.proofs.Going.{on, run_keeps, sat, says_goes, stays, whichever}
use Rattle.tsn_clerk.specs.Noting.{IsRecorded}
use Rattle.tsn_clerk.specs.Talking.{Answers, AnswersBreak, AnswersLine, BreaksOff, HandsOn, IsHeld, Parts, Replied, Tells}

-- what was told was a call, or none
pub told_goes : {K : Type 0} (marks : Ask → Reply → K → Type 0) (old : Caller) (line : Option (List ℕ)) (reply : Reply) (mark : Option K)
    (new : Caller) → Told marks old line reply mark new → Goes old new
told_goes marks old line reply mark new t = says_goes old line reply new (t.0, t.1, t.2)

module _ {O : Type 0} (taken : O → Option (List ℕ)) where
  -- where a reply is told, its caller stays
  pub told_stays : (old new : Parts O) (text : List ℕ) → Tells taken old text new → new.caller ≡ old.caller
  told_stays old new text (inl waits) = waits.caller
  told_stays old new text (inr hands) = hands.caller

  pub broken_stays : (old new : Parts O) (text : List ℕ) → BreaksOff taken old text new → new.caller ≡ old.caller
  broken_stays old new text (inl off) = off.caller
  broken_stays old new text (inr short) = short.caller

  pub replied_goes : (old : Parts O) (line : Option (List ℕ)) (reply : Reply) (new : Parts O) → Replied old line reply new
      → Goes old.caller new.caller
  replied_goes old line reply new r = told_goes IsRecorded old.caller line reply r.mark new.caller r.told

  pub with_caller : (old between new : Parts O) → Goes old.caller between.caller → new.caller ≡ between.caller → Goes old.caller new.caller
  with_caller old between new goes same = subst (λ (c : Caller). Goes old.caller c) (sym same) goes

  line_goes : (old : Parts O) (line : Option (List ℕ)) (text : List ℕ) (new : Parts O) → Answers taken old line text new
      → Goes old.caller new.caller
  line_goes old line text new a =
      with_caller old a.1.between new (replied_goes old line a.1.reply a.1.between a.1.replied)
      (told_stays a.1.between new (reply_text a.1.reply) a.1.told)

  lines_go : (old : Parts O) (lines : List (List ℕ)) (text : List ℕ) (new : Parts O) → Run (Answers taken) old lines text new
      → Goes old.caller new.caller
  lines_go old lines text new run =
      run_keeps (Answers taken) (λ (p q : Parts O). Goes p.caller q.caller) (λ p. stays p.caller) (λ a b d. on a.caller b.caller d.caller)
      line_goes old lines text new run

  -- nothing was answered yet of what is held
  going : (old : Parts O) (held : Option (List ℕ)) (h : IsHeld held) → Going (Answers taken) old h.rest held [] old
  going old held h =
      record { lines = []; rest = h.rest; splits = record { whole = refl; each = tt; last = h.free }; kept_is = h.is; run = (refl, refl) }

  pub fed : (old new : Parts O) (held held' : Option (List ℕ)) (piece text : List ℕ) → IsHeld held
      → Feeds (Answers taken) old held piece text new held' → Goes old.caller new.caller × IsHeld held'
  fed old new held held' piece text h feeds =
      let g = feeds old h.rest [] (going old held h) in
      (lines_go old g.lines ([] ++ text) new g.run, record { rest = g.rest; free = g.splits.last; is = g.kept_is })

  pub broke : (old new : Parts O) (held : Option (List ℕ)) (fault : Fault) (piece written : List ℕ) → IsHeld held
      → Breaks (Answers taken) (AnswersBreak taken) fault old held piece written new → Goes old.caller new.caller
  broke old new held fault piece written h breaks =
      let b = breaks old h.rest [] (going old held h) in
      on old.caller b.mid.caller new.caller (lines_go old b.lines b.text b.mid b.run) b.broken.1.goes

  pub ended : (old new : Parts O) (held : Option (List ℕ)) (text : List ℕ) → IsHeld held → Ends (Answers taken) old held text new
      → Goes old.caller new.caller
  ended old new held text h ends =
      let (lines, rest, splits, run) = ends old h.rest [] (going old held h) in
      lines_go old (lines ++ last_line rest) ([] ++ text) new run

  pub end_broke : (old new : Parts O) (held : Option (List ℕ)) (fault : Fault) (written : List ℕ) → IsHeld held
      → EndBreaks (Answers taken) (AnswersBreak taken) fault old held written new → Goes old.caller new.caller
  end_broke old new held fault written h breaks =
      let b = breaks old h.rest [] (going old held h) in
      on old.caller b.mid.caller new.caller (lines_go old b.lines b.text b.mid b.run) b.broken.1.goes

-- ---- a seat that serves

-- a new line is empty
pub none_held : (held : Option (List ℕ)) → held ≡ Some [] → IsHeld held
none_held held is = record { rest = []; free = tt; is = is }

-- a seat whose calls were those of a talk
pub served : (desk : Desk State Ask Reply) (seat new : BridgeSeat) (latest : Option ℕ) → IsSeatOf desk new
    → Goes (caller_of desk seat None) (caller_of desk new latest) → GoesOn desk seat new
served desk seat new latest own goes = sat desk seat new own (whichever (caller_of desk seat None) (caller_of desk new latest) None goes)
