-- What a clerk hears is what is kept, and what it records is the record.
use Rattle.std.proofs.Common.{◌≡◌, ℕ, Bool, true, false, cond, List, [], ◌∷◌, ◌++◌, Option, Some, None, refl, sym, ◌∙◌, ap, subst, arith}
use Rattle.std.specs.Prelude.{option_map, IfSome}
use Rattle.std.proofs.lemmas.List.Elements.{All-nil}
use Rattle.tsn_types.specs.declared.keys.Key.{Key}
use Rattle.tsn_commands.specs.declared.command.Ask.{Ask}
use Rattle.tsn_commands.specs.declared.command.Command.{Command}
use Rattle.tsn_commands.specs.declared.command.Command.TheVariants as commands
use Rattle.tsn_commands.specs.declared.reply.Reply.{Reply}
use Rattle.tsn_commit.specs.Lines.{IsLine}
use Rattle.tsn_bridge.specs.Rule.{may_change}
use Rattle.tsn_replay.specs.Recording.{instant_told, kept, recorded, with_reply}
use Rattle.tsn_spelling.specs.Line.{line_text}
use Rattle.tsn_entries.specs.declared.entries.Act.{Act as Asked}
use Rattle.tsn_commands.specs.Commands.{act_command}
use Rattle.tsn_clerk.specs.declared.clerk.Heard.TheVariants as heard
use Rattle.tsn_clerk.specs.declared.clerk.Manner.{Manner}
use Rattle.tsn_clerk.specs.declared.clerk.Manner.TheVariants.{Act, Hello, Itself, Passing}
use Rattle.tsn_clerk.specs.Noting.{EndsWith, HasLast, IsHeard, IsRecorded, manner_of}

-- what is kept of a command of this kind
abbrev kept_by : ℕ → Command → ℕ → Manner → Option Ask
kept_by n command at Itself = Some (record { session = n; command = command })
kept_by n command at Hello = Some (record { session = 0; command = command })
kept_by n command at (Act act key) = Some (record { session = n; command = act_command act key at })
kept_by n command at Passing = None

kept_is : (n : ℕ) (command : Command) (at : ℕ) → kept n command at ≡ kept_by n command at (manner_of command)
kept_is n (commands.Hello name) at = refl
kept_is n command at = refl

-- the line of a hello names no session
hello_line : (n : ℕ) (command : Command) → manner_of command ≡ Hello → line_text (record { session = n; command = command })
    ≡ line_text (record { session = 0; command = command })
hello_line n (commands.Hello name) is = refl
hello_line n command is = absurd (cc)

pub empty_line : IsLine []
empty_line = record { free = All-nil _; short = omega arith }

module _ (ask : Ask) (line : List ℕ) where
  of_manner : (kind : Manner) → manner_of ask.command ≡ kind → (at : ℕ)
      → kept ask.session ask.command at ≡ kept_by ask.session ask.command at kind
  of_manner kind is at = kept_is ask.session ask.command at ∙ ap (kept_by ask.session ask.command at) is

  pub hears_passing : manner_of ask.command ≡ Passing → IsHeard heard.Passing line ask
  hears_passing is at = of_manner Passing is at

  pub hears_act : (act : Asked) (key : Key) → manner_of ask.command ≡ Act act key → IsHeard (heard.Act act key ask.session) line ask
  hears_act act key is at = of_manner (Act act key) is at

  pub hears_itself : manner_of ask.command ≡ Itself → line ≡ line_text ask → IsHeard heard.Line line ask
  hears_itself is spelled at = (ask, of_manner Itself is at, spelled)

  pub hears_hello : manner_of ask.command ≡ Hello → line ≡ line_text ask → IsHeard heard.Line line ask
  hears_hello is spelled at =
      (record { session = 0; command = ask.command }, of_manner Hello is at, spelled ∙ hello_line ask.session ask.command is)

-- ---- what is recorded

module _ (ask : Ask) (reply : Reply) (lines : List (List ℕ)) where
  by_kept : (b : Bool) (o : Option Ask) → ((a : Ask) → o ≡ Some a → EndsWith lines (line_text a))
      → HasLast (cond b (option_map (with_reply reply) o) None) lines
  by_kept false o ends = tt
  by_kept true None ends = tt
  by_kept true (Some a) ends = ends a refl

  pub has_last : (o : Option Ask) → kept ask.session ask.command (instant_told reply) ≡ o
      → ((a : Ask) → o ≡ Some a → EndsWith lines (line_text a)) → HasLast (recorded (record { ask = ask; reply = reply })) lines
  has_last o is ends = subst (λ (x : Option Ask). HasLast (cond (may_change reply) (option_map (with_reply reply) x) None) lines) (sym is)
      (by_kept (may_change reply) o ends)

  same_ends : (a b : Ask) → Some a ≡ Some b → EndsWith lines (line_text a) → EndsWith lines (line_text b)
  same_ends a b is ends = subst (λ (o : Option Ask). IfSome o (λ x. EndsWith lines (line_text x))) is ends

  pub one_kept : (a : Ask) → kept ask.session ask.command (instant_told reply) ≡ Some a → EndsWith lines (line_text a)
      → HasLast (recorded (record { ask = ask; reply = reply })) lines
  one_kept a is ends = has_last (Some a) is (λ b same. same_ends a b same ends)

  pub none_kept : kept ask.session ask.command (instant_told reply) ≡ None → HasLast (recorded (record { ask = ask; reply = reply })) lines
  none_kept is = has_last None is (λ b never. cc)

-- what is noted of what was heard
pub noted_line : (ask : Ask) (reply : Reply) (line : List ℕ) (mark : Option (List (List ℕ))) → IsHeard heard.Line line ask
    → IfSome mark (λ lines. EndsWith lines line) → IsRecorded ask reply mark
noted_line ask reply line None h ends = tt
noted_line ask reply line (Some lines) h ends =
    let k = h (instant_told reply) in
    one_kept ask reply lines k.0 k.1 (subst (λ l. EndsWith lines l) k.2 ends)

pub noted_act : (ask : Ask) (reply : Reply) (line : List ℕ) (act : Asked) (key : Key) (session : ℕ) (mark : Option (List (List ℕ)))
    → IsHeard (heard.Act act key session) line ask
    → IfSome mark (λ lines. EndsWith lines (line_text (record { session = session; command = act_command act key (instant_told reply) })))
    → IsRecorded ask reply mark
noted_act ask reply line act key session None h ends = tt
noted_act ask reply line act key session (Some lines) h ends =
    one_kept ask reply lines (record { session = session; command = act_command act key (instant_told reply) }) (h (instant_told reply))
    ends

pub noted_none : (ask : Ask) (reply : Reply) (line : List ℕ) (lines : List (List ℕ)) → IsHeard heard.Passing line ask
    → IsRecorded ask reply (Some lines)
noted_none ask reply line lines h = none_kept ask reply lines (h (instant_told reply))
