-- What serving a bridge leaves in text.
use Rattle.std.specs.Prelude.{◌≡◌, ℕ, zero, suc, ◌++◌, List, [], ◌∷◌, Option, Some, None}
use Rattle.tsn_bridge.specs.State.{State}
use Rattle.tsn_server.specs.Reporting.{Shows, report_line}

-- the ports from 1 up to this one
abbrev pub ports_to : ℕ → List ℕ
ports_to zero = []
ports_to (suc n) = ports_to n ++ suc n ∷ []

-- the ports that are followed: none where no instant is given
abbrev pub followed : ℕ → Option ℕ → List ℕ
followed ports None = []
followed ports (Some at) = ports_to ports

-- the line tells of a port at the instant, where a legal history of this bridge ends
abbrev pub IsSo : State → ℕ → ℕ → List ℕ → Type 0
IsSo first at port line = (told : Option ℕ) × Shows first [] port at told × (line ≡ report_line port told)

-- a line for each port, in order
abbrev pub ReportsPorts : State → ℕ → List ℕ → List ℕ → Type 0
ReportsPorts first at [] text = text ≡ []
ReportsPorts first at (port ∷ ports) text =
    (line : List ℕ) × (more : List ℕ) × IsSo first at port line × ReportsPorts first at ports more × (text ≡ line ++ more)

-- What is told at the end: nothing where no instant is given, else a line for each port of the bridge.
abbrev pub ReportsEnd : State → Option ℕ → List ℕ → Type 0
ReportsEnd first None text = text ≡ []
ReportsEnd first (Some at) text = ReportsPorts first at (ports_to first.book.limits.ports) text
