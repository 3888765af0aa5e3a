-- What a connection did with all its lines, told outright.
use Rattle.std.specs.Prelude.{◌≡◌, ◌≢◌, ◌⊎◌, ℕ, List, [], ◌∷◌, ◌++◌, map, Option, Some, None, Ok, Err}
use Rattle.std.specs.List.{flat_map}
use Rattle.tsn_machine.specs.declared.history.Entry.{Entry}
use Rattle.tsn_machine.specs.History.{IsLegal, calls_by, call}
use Rattle.tsn_types.specs.declared.refusals.Refusal.{Refusal}
use Rattle.tsn_types.specs.declared.refusals.Refusal.TheVariants as refusals
use Rattle.tsn_bridge.specs.Turns.{Turns}
use Rattle.tsn_commands.specs.declared.command.Ask.{Ask}
use Rattle.tsn_commands.specs.declared.reply.Reply.{Reply}
use Rattle.tsn_commands.specs.declared.reply.Reply.TheVariants as replies
use Rattle.tsn_wire.specs.Reading.{line_of}
use Rattle.tsn_replies.specs.Replies.{reply_text}
use Rattle.tsn_serve.specs.Lines.{short_line}
use Rattle.tsn_serve.specs.Talk.{Caller, MayAsk, latest_after, Goes}

-- What became of a line, none of one that is too long: the command of the one call that was made for it, or none where
-- no call was made; and the reply.
pub record Exchange : Type 0 where
  pub line : Option (List ℕ)
  pub asked : Option Ask
  pub reply : Reply

-- The line was read as this command.
abbrev pub ReadsAs : Option (List ℕ) → Ask → Type 0
ReadsAs None ask = ⊥
ReadsAs (Some line) ask = line_of line ≡ Ok ask

-- Why a line is answered with no call: it is too long, or its reading refuses it, or memory was wanting in its reading,
-- or it is of a session that is not the connection's.
abbrev pub IsRefusedFor : Option ℕ → Option (List ℕ) → Refusal → Type 0
IsRefusedFor latest None why = why ≡ refusals.TooLong
IsRefusedFor latest (Some line) why =
    (line_of line ≡ Err why)
    ⊎ (why ≡ refusals.Memory)
    ⊎ ((why ≡ refusals.NoSession) × ((ask : Ask) × (line_of line ≡ Ok ask) × (MayAsk latest ask → ⊥)))

-- A call is made for a line that was read as a hello or as a command of the latest session; any other reply refuses the
-- line.
abbrev pub IsExchanged : Option ℕ → Option (List ℕ) → Option Ask → Reply → Type 0
IsExchanged latest line (Some ask) reply = ReadsAs line ask × MayAsk latest ask
IsExchanged latest line None reply = (why : Refusal) × (reply ≡ replies.Refused why) × IsRefusedFor latest line why

-- Each of them, in order, with the session of the latest hello before it; and that after them all.
abbrev pub AreExchanged : Option ℕ → List Exchange → Option ℕ → Type 0
AreExchanged latest [] after = after ≡ latest
AreExchanged latest (e ∷ es) after =
    IsExchanged latest e.line e.asked e.reply × AreExchanged (latest_after latest e.reply) es after

-- the call of an exchange under a number, if there was one
abbrev pub call_of : ℕ → Option Ask → Reply → List (Entry Ask Reply)
call_of n (Some ask) reply = call n ask reply ∷ []
call_of n None reply = []

-- the calls of the exchanges, in order
abbrev pub calls_of : ℕ → List Exchange → List (Entry Ask Reply)
calls_of n es = flat_map (λ e. call_of n e.asked e.reply) es

-- There is an exchange for each line, in order. What is written is the texts of the replies, one after another. The
-- calls are all the new calls that the caller made, each once and in order. Where there is one, the history then seen is
-- legal and has just the caller's calls under its number: so each of the replies is the machine's at the place of its
-- call. Else the history that was seen stays so.
pub record IsServed (old : Caller) (lines : List (List ℕ)) (text : List ℕ) (new : Caller) : Type 0 where
  pub exchanges : List Exchange
  pub each_line : map (λ e. e.line) exchanges ≡ map short_line lines
  pub each : AreExchanged old.latest exchanges new.latest
  pub text_is : text ≡ flat_map (λ e. reply_text e.reply) exchanges
  pub calls : new.made ≡ old.made ++ calls_of old.number exchanges
  pub goes : Goes old new
  pub legal : calls_of old.number exchanges ≢ [] → IsLegal Turns new.first new.seen
  pub own : calls_of old.number exchanges ≢ [] → calls_by new.number new.seen ≡ new.made
