-- The rules of a hello, of a resume, and of what tells of the sessions that were given out.
use Rattle.std.specs.Prelude.{ℕ, ◌+◌, zero, suc, true, false, List, [], ◌∷◌, ◌++◌, Option, Some, None, is_some, length, nat_lt}
use Rattle.tsn_types.specs.declared.refusals.Field.TheVariants as fields
use Rattle.tsn_types.specs.declared.refusals.Refusal.TheVariants.{Range}
use Rattle.tsn_types.specs.Limits.{unless}
use Rattle.tsn_entries.specs.declared.entries.Entry.{Entry}
use Rattle.tsn_entries.specs.Finding.{own_standing}
use Rattle.tsn_commands.specs.declared.reply.Reply.TheVariants.{Known, Session, Sessions}
use Rattle.tsn_entries.specs.declared.sessions.GivenSession.{GivenSession}
use Rattle.tsn_bridge.specs.declared.sessions.Named.{Named}
use Rattle.tsn_commands.specs.Commands.{most_sessions}
use Rattle.tsn_bridge.specs.Names.{known, name_of, with_name}
use Rattle.tsn_bridge.specs.State.{State}
use Rattle.tsn_bridge.specs.Rule.{Look, Rule, look_rule, no_session}

-- a session more: the next number is given out, while there is one, and goes by the name, if one is said
abbrev pub new_session : State → Option (List ℕ) → Rule
new_session s name = record {
  causes = unless (nat_lt s.sessions most_sessions) (Range fields.Session) ∷ [];
  done = Some (Session (s.sessions + 1), record s { sessions = s.sessions + 1; names = with_name s.names (s.sessions + 1) name });
  takes_memory = is_some name;
}

-- a session that goes by the name already: it is answered, and nothing changes
abbrev pub known_look : ℕ → Look
known_look n = record { causes = []; answer = Some (Known n); takes_memory = false }

abbrev pub hello_as : State → Option (List ℕ) → Option ℕ → Rule
hello_as s name None = new_session s name
hello_as s name (Some n) = look_rule s (known_look n)

-- a hello goes on as the session that goes by its name, or asks for a session more
abbrev pub hello_rule : State → Option (List ℕ) → Rule
hello_rule s name = hello_as s name (known s.names name)

-- a resume answers the session's own number, where it was given out
abbrev pub resume_look : State → ℕ → Look
resume_look s n = record { causes = no_session s n ∷ []; answer = Some (Session n); takes_memory = false }

abbrev pub resume_rule : State → ℕ → Rule
resume_rule s n = look_rule s (resume_look s n)

-- a session that was given out: its name, if it has one, its number, and how many of its entries stand
abbrev pub given_session : List Named → List Entry → ℕ → GivenSession
given_session names es n = record { name = name_of names n; session = n; standing = length (own_standing es n) }

-- the sessions from 1 up to this one
abbrev pub given_to : List Named → List Entry → ℕ → List GivenSession
given_to names es zero = []
given_to names es (suc n) = given_to names es n ++ given_session names es (suc n) ∷ []

-- all sessions that were given out, ascending
abbrev pub sessions_look : State → ℕ → Look
sessions_look s n = record {
  causes = no_session s n ∷ [];
  answer = Some (Sessions (given_to s.names s.book.entries s.sessions));
  takes_memory = true;
}

abbrev pub sessions_rule : State → ℕ → Rule
sessions_rule s n = look_rule s (sessions_look s n)
