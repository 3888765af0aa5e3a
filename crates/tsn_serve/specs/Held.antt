-- What a connection shows of the seat that it holds.
use Rattle.std.specs.Prelude.{◌≡◌, ◌≢◌, refl, ℕ, List, [], Option, Some, None}
use Rattle.std.specs.Coded.{Coded, code_by, coded×, coded_ℕ, coded_list, coded_option}
use Rattle.atomic_table.specs.Seated.{table_id_coded}
use Rattle.tsn_machine.specs.declared.history.Entry.{Entry}
use Rattle.tsn_desk.specs.declared.desk.Seat.{Seat}
use Rattle.tsn_desk.specs.declared.desk.Desk.{Desk}
use Rattle.tsn_desk.specs.Desks.{DeskId, first_of, IsSeatOf, id_of}
use Rattle.tsn_bridge.specs.State.{State, state_code}
use Rattle.tsn_commands.specs.declared.command.Ask.{Ask}
use Rattle.tsn_commands.specs.declared.reply.Reply.{Reply}
use Rattle.tsn_commands.specs.contracts.command.Ask as ask_row
use Rattle.tsn_commands.specs.contracts.reply.Reply as reply_row
use Rattle.tsn_serve.specs.Talk.{Caller, caller_of}

-- a connection as a caller; while its seat is out in a turn nothing is asked of it
abbrev pub shown : {D : _} → Desk State Ask Reply → Option (Seat State Ask Reply D) → Option ℕ → Caller
shown desk (Some seat) latest = caller_of desk seat latest
shown desk None latest =
    record { desk = id_of desk; first = first_of desk; number = 0; seen = []; made = []; tickets = 0; latest = latest }

-- between two turns the seat is there, and is one of the desk
pub record IsHeld {D : _} (desk : Desk State Ask Reply) (seat : Option (Seat State Ask Reply D)) : Type 0 where
  pub there : seat ≢ None
  pub own : (s : Seat State Ask Reply D) → seat ≡ Some s → IsSeatOf desk s

-- a call is stored as its fields
abbrev pub call_code : Coded (Entry Ask Reply)
call_code =
    code_by (ℕ × (Ask × Reply)) (coded× coded_ℕ (coded× ask_row.the_row.coded reply_row.the_row.coded))
    (λ e. (e.number, (e.request, e.reply)))
    (λ p. record { number = p.0; request = p.1.0; reply = p.1.1 })
    (λ _. refl)

-- a caller is stored as its fields
abbrev pub caller_code : Coded Caller
caller_code =
    code_by (DeskId × (State × (ℕ × (List (Entry Ask Reply) × (List (Entry Ask Reply) × (ℕ × Option ℕ))))))
    (coded× table_id_coded (coded× state_code
    (coded× coded_ℕ (coded× (coded_list call_code) (coded× (coded_list call_code) (coded× coded_ℕ (coded_option coded_ℕ)))))))
    (λ c. (c.desk, (c.first, (c.number, (c.seen, (c.made, (c.tickets, c.latest)))))))
    (λ p. record {
      desk = p.0;
      first = p.1.0;
      number = p.1.1.0;
      seen = p.1.1.1.0;
      made = p.1.1.1.1.0;
      tickets = p.1.1.1.1.1.0;
      latest = p.1.1.1.1.1.1;
    })
    (λ _. refl)
