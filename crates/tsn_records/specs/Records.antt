-- The shapes of records: of which kinds their members are, in any text format. Which members there are says the table of members.
use Rattle.std.specs.Prelude.{List, Option, Result, Ok, Err, codes}
use Rattle.tsn_types.specs.declared.keys.Kind.{Kind}
use Rattle.tsn_types.specs.declared.keys.Kind.TheVariants as kinds
use Rattle.tsn_records.specs.declared.allowed.Allowed.{Allowed}
use Rattle.tsn_records.specs.declared.allowed.Allowed.TheVariants as allowed
use Rattle.tsn_records.specs.declared.drafts.GateEntryDraft.{GateEntryDraft}
use Rattle.tsn_records.specs.declared.drafts.MemberDraft.{MemberDraft}
use Rattle.tsn_records.specs.declared.drafts.MemberDraft.TheVariants.{Number, Maybe, Flag, PortList, GateList}
use Rattle.tsn_records.specs.declared.drafts.PortEntryDraft.{PortEntryDraft}
use Rattle.tsn_records.specs.declared.drafts.RecordDraft.{RecordDraft}
use Rattle.tsn_records.specs.declared.unread.Unread.{Unread}
use Rattle.tsn_records.specs.declared.unread.Unread.TheVariants.{Shape}
use Rattle.tsn_records.specs.Answers.{◌>>=◌, each}
use Rattle.tsn_records.specs.Looks.{Look}
use Rattle.tsn_records.specs.Members.{rows_of}
use Rattle.tsn_records.specs.Values.{typed}

-- `gates` and `interval`
unfoldable pub port_entry_shape : {D : Type 0} → Look D → D → Result PortEntryDraft Unread
port_entry_shape look d = do
  _ ← look.only_entry kinds.Port d
  gates ← look.number (look.part 0 (codes "gates") d)
  interval ← look.number (look.part 1 (codes "interval") d)
  Ok (record { gates = gates; interval = interval })

-- `open`, `ipv`, `interval` and `octets`
unfoldable pub gate_entry_shape : {D : Type 0} → Look D → D → Result GateEntryDraft Unread
gate_entry_shape look d = do
  _ ← look.only_entry kinds.Gate d
  is_open ← look.flag (look.part 0 (codes "open") d)
  ipv ← look.number_or_none (look.part 1 (codes "ipv") d)
  interval ← look.number (look.part 2 (codes "interval") d)
  octets ← look.number_or_none (look.part 3 (codes "octets") d)
  Ok (record { is_open = is_open; ipv = ipv; interval = interval; octets = octets })

-- entries of that shape
abbrev pub list_shape : {D E : Type 0} → Look D → (D → Result E Unread) → Option D → Result (List E) Unread
list_shape look entry found = look.items found >>= each entry

-- a member of a record of that kind, as its row of the table wants it
unfoldable pub member_shape : {D : Type 0} → Look D → Kind → Allowed → Option D → Result MemberDraft Unread
member_shape look kind (allowed.Number least most) found = look.number found >>= λ n. Ok (Number n)
member_shape look kind (allowed.NumberOrNone least most) found = look.number_or_none found >>= λ o. Ok (Maybe o)
member_shape look kind allowed.Flag found = look.flag found >>= λ b. Ok (Flag b)
member_shape look kinds.Port (allowed.List most) found = list_shape look (port_entry_shape look) found >>= λ es. Ok (PortList es)
member_shape look kinds.Gate (allowed.List most) found = list_shape look (gate_entry_shape look) found >>= λ es. Ok (GateList es)
member_shape look kind row found = Err Shape

-- the members of a record of that kind, in the order of the table
abbrev pub members_shape : {D : Type 0} → Look D → Kind → D → Result (List MemberDraft) Unread
members_shape look kind d = each (λ row. member_shape look kind row.1 (look.at row.0 d)) (rows_of kind)

-- a record of that kind: it has these members, and no others
unfoldable pub record_shape : {D : Type 0} → Look D → Kind → D → Result RecordDraft Unread
record_shape look kind d = do
  _ ← look.only kind d
  values ← members_shape look kind d
  Ok (typed kind values)
