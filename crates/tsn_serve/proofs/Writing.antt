-- An answer breaks off where the writer fails, and one of a bridge only there.
use Rattle.std.proofs.Common.{◌≡◌, ◌≢◌, ℕ, List, take, Option, Result, Ok, Err, OnErr, inl, inr, refl}
use Rattle.std.specs.Result.{IfErr}
use Rattle.std.specs.Io.KnownBytes.{Appends}
use Rattle.tsn_bytes.specs.Bytes.{IsCut}
use Rattle.tsn_bytes.specs.declared.bytes.Fault.{Fault}
use Rattle.tsn_bytes.specs.declared.bytes.Fault.TheVariants.{Read, Write, Memory, Exhausted}
use Rattle.tsn_types.specs.declared.refusals.Refusal.{Refusal}
use Rattle.tsn_bridge.specs.State.{State}
use Rattle.tsn_commands.specs.declared.command.Ask.{Ask}
use Rattle.tsn_commands.specs.declared.reply.Reply.{Reply}
use Rattle.tsn_replies.specs.Replies.{reply_text}
use Rattle.tsn_serve.specs.Answers.{Replying, Replies, MayRead, Says, CutsText, Answers, BreaksInWriting}
use Rattle.tsn_serve.specs.Talk.{Caller, Asks, BreaksTalk}
use Rattle.tsn_serve.specs.Outcomes.{Moment, Outcome}

-- a reply that was cut off
pub broke_in_writing : {S T : Type 0} (replying : Replying S) (r : Result T Fault) (old : S) (line : Option (List ℕ)) (reply : Reply)
    (new : S) (taken taken' : Option (List ℕ))
    → Says replying old line reply new → IfErr r (λ e. e ≡ Write) → OnErr r (IsCut taken taken' (reply_text reply))
    → IfErr r (λ e. (part : List ℕ) × CutsText replying old line e part new × Appends taken taken' part)
broke_in_writing replying (Ok x) old line reply new taken taken' says write cut = tt
broke_in_writing replying (Err e) old line reply new taken taken' says write cut =
    (take cut.0 (reply_text reply), (write, (reply_text reply, (reply, says, refl), (cut.0, cut.1, refl))), cut.2)

-- the same of a connection, whatever line was read so
pub cut_for_each : {T : Type 0} (r : Result T Fault) (old : Caller) (read : Result Ask Refusal) (reply : Reply) (new : Caller)
    (taken taken' : Option (List ℕ))
    → Replies Asks old read reply new → IfErr r (λ e. e ≡ Write) → OnErr r (IsCut taken taken' (reply_text reply))
    → IfErr r (λ e. (part : List ℕ) × ((line : Option (List ℕ)) → MayRead line read → BreaksTalk old line e part new)
    × Appends taken taken' part)
cut_for_each (Ok x) old read reply new taken taken' replies write cut = tt
cut_for_each (Err e) old read reply new taken taken' replies write cut = (
  take cut.0 (reply_text reply),
  (λ line may. inl (write, (reply_text reply, (reply, (read, may, replies), refl), (cut.0, cut.1, refl)))),
  cut.2,
)

-- a bridge is never exhausted
pub never_exhausted : (reads : ℕ) (old new : Moment State) (r : Result (Unit {0}) Fault) → Outcome Answers BreaksInWriting reads old new r
    → r ≢ Err Exhausted
never_exhausted reads old new (Ok u) o e = cc
never_exhausted reads old new (Err Read) o e = cc
never_exhausted reads old new (Err Write) o e = cc
never_exhausted reads old new (Err Memory) o e = cc
never_exhausted reads old new (Err Exhausted) o e =
    elim o.script [ inl b ↦ let f : Exhausted ≡ Write = b.broken.0 in cc | inr a ↦ let f : Exhausted ≡ Write = a.0 in cc ]
