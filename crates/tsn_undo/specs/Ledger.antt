-- A book as its limits, its opening and its entries, with its room. The opening is not kept: it is what rewinding gives.
use Rattle.std.specs.Prelude.{◌≡◌, ℕ, ◌+◌, ◌≤◌, refl, List, [], ◌∷◌}
use Rattle.std.specs.FinMap.{code}
use Rattle.std.specs.Coded.{Coded, code_by, coded×, coded_list, coded_ℕ}
use Rattle.tsn_types.specs.contracts.limits.Limits as limits_row
use Rattle.tsn_types.specs.contracts.keys.Key as key_row
use Rattle.tsn_types.specs.contracts.records.Record as record_row
use Rattle.tsn_types.specs.declared.limits.Limits.{Limits}
use Rattle.tsn_edit.specs.Parts.{Change, inverse}
use Rattle.tsn_edit.specs.Configuration.{Configuration}
use Rattle.tsn_edit.specs.Changes.{after_change}
use Rattle.tsn_entries.specs.contracts.entries.Entry as entry_row
use Rattle.tsn_entries.specs.declared.entries.Entry.{Entry}
use Rattle.tsn_entries.specs.declared.entries.What.{What}
use Rattle.tsn_entries.specs.Entries.{applies, changes, collect, with_entry}
use Rattle.tsn_undo.specs.Soundness.{IsSound, base, configuration}

pub record Ledger : Type 0 where
  pub limits : Limits
  pub opening : Configuration
  pub entries : List Entry

-- how many entries more the journal certainly has room for, and for how many parts of changes the configuration
pub record Room : Type 0 where
  pub entries : ℕ
  pub parts : ℕ

pub record LedgerWithRoom : Type 0 where
  pub ledger : Ledger
  pub room : Room

-- there is room for so many entries and so many parts
abbrev pub Holds : Room → ℕ → ℕ → Type 0
Holds r entries parts = (entries ≤ r.entries) × (parts ≤ r.parts)

-- at most so many entries and so many parts of the room were taken
abbrev pub Takes : Room → ℕ → ℕ → Room → Type 0
Takes old entries parts new = (old.entries ≤ new.entries + entries) × (old.parts ≤ new.parts + parts)

abbrev pub ledger_code : Coded Ledger
ledger_code =
    code_by (Limits × (Configuration × List Entry))
    (coded× limits_row.the_row.coded
    (coded× (code key_row.the_row.coded record_row.the_row.coded) (coded_list entry_row.the_row.coded)))
    (λ s. (s.limits, (s.opening, s.entries))) (λ p. record { limits = p.0; opening = p.1.0; entries = p.1.1 }) (λ _. refl)

abbrev pub room_code : Coded Room
room_code = code_by (ℕ × ℕ) (coded× coded_ℕ coded_ℕ) (λ r. (r.entries, r.parts)) (λ p. record { entries = p.0; parts = p.1 }) (λ _. refl)

abbrev pub ledger_with_room_code : Coded LedgerWithRoom
ledger_with_room_code =
    code_by (Ledger × Room) (coded× ledger_code room_code) (λ s. (s.ledger, s.room)) (λ p. record { ledger = p.0; room = p.1 }) (λ _. refl)

-- the configuration to which the entries have led
abbrev pub present : Ledger → Configuration
present b = configuration b.opening b.entries

-- where the run of the standing entries begins
abbrev pub base_of : Ledger → Configuration
base_of b = base b.opening b.entries

-- the ledger with one entry more
abbrev pub enter : Ledger → ℕ → What → Ledger
enter b s w = record b { entries = with_entry b.entries s w }

-- where changes that ended in c began: their inverses, the last one first
abbrev pub rewound : Configuration → List Change → Configuration
rewound c [] = c
rewound c (e ∷ es) = after_change (rewound c es) (inverse e)

abbrev pub opening_of : Configuration → List Entry → Configuration
opening_of c es = rewound c (changes (collect applies es))

-- the entries are sound from the opening and end in c
pub record IsBook (l : Limits) (c : Configuration) (es : List Entry) : Type 0 where
  pub sound : IsSound l (opening_of c es) es
  pub is : configuration (opening_of c es) es ≡ c
