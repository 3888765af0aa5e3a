-- What a value of the shape of a record has, and that a value that has it is of the shape; whatever the text format.
use Rattle.std.proofs.Common.{◌≡◌, ℕ, List, [], ◌∷◌, Option, Ok, codes, refl, sym, ap, subst, ◌∙◌}
use Rattle.tsn_types.specs.declared.keys.Kind.{Kind}
use Rattle.tsn_types.specs.declared.keys.Kind.TheVariants as kinds
use Rattle.tsn_records.specs.Answers.{each}
use Rattle.tsn_records.specs.Looks.{Look}
use Rattle.tsn_records.specs.Members.{rows_of}
use Rattle.tsn_records.specs.Records.{list_shape, member_shape, members_shape, record_shape, port_entry_shape, gate_entry_shape}
use Rattle.tsn_records.specs.Values.{AllFit, Fits, kind_of_draft, typed, values_of}
use Rattle.tsn_records.specs.declared.allowed.Allowed.{Allowed}
use Rattle.tsn_records.specs.declared.allowed.Allowed.TheVariants as allowed
use Rattle.tsn_records.specs.declared.drafts.GateEntryDraft.{GateEntryDraft}
use Rattle.tsn_records.specs.declared.drafts.PortEntryDraft.{PortEntryDraft}
use Rattle.tsn_records.specs.declared.drafts.MemberDraft.{MemberDraft}
use Rattle.tsn_records.specs.declared.drafts.MemberDraft.TheVariants.{Number, Maybe, Flag, PortList, GateList}
use Rattle.tsn_records.specs.declared.drafts.RecordDraft.{RecordDraft}
use Rattle.tsn_records.specs.declared.drafts.RecordDraft.TheVariants as records
use Rattle.tsn_records.proofs.Steps.{steps, last_step, only as one}

-- ---- a record and its members

-- a record is what its members make
pub typed_back : (r : RecordDraft) → typed (kind_of_draft r) (values_of r) ≡ r
unfolding typed
typed_back (records.Port r) = refl
typed_back r = refl

-- the members of a record are such as the table wants them
pub values_fit : (r : RecordDraft) → AllFit (kind_of_draft r) (rows_of (kind_of_draft r)) (values_of r)
values_fit (records.Port r) = assumption
values_fit r = assumption

-- members such as the table wants them are those of the record that they make
pub values_back : (kind : Kind) (vs : List MemberDraft) → AllFit kind (rows_of kind) vs → values_of (typed kind vs) ≡ vs
unfolding typed
values_back kinds.Port (Number a ∷ PortList b ∷ Number c ∷ Number d ∷ Number e ∷ []) fits = refl
values_back kinds.Filter (Maybe a ∷ Maybe b ∷ Number c ∷ Maybe d ∷ Maybe e ∷ Flag f ∷ []) fits = refl
values_back kinds.Gate (Flag a ∷ Maybe b ∷ GateList c ∷ Number d ∷ Number e ∷ Number f ∷ Flag g ∷ Flag h ∷ []) fits = refl
values_back kinds.Meter (Number a ∷ Number b ∷ Number c ∷ Number d ∷ Flag e ∷ Flag f ∷ Flag g ∷ Flag h ∷ []) fits = refl
values_back kind vs fits = absurd (assumption)

-- ---- what is read fits

member_fits : {D : Type 0} (look : Look D) (kind : Kind) (row : Allowed) (found : Option D) (v : MemberDraft)
    → member_shape look kind row found ≡ Ok v → Fits kind row v
unfolding member_shape
member_fits look kind (allowed.Number least most) found v h =
    last_step (look.number found) v (Fits kind (allowed.Number least most)) Number h (λ n _. tt)
member_fits look kind (allowed.NumberOrNone least most) found v h =
    last_step (look.number_or_none found) v (Fits kind (allowed.NumberOrNone least most)) Maybe h (λ o _. tt)
member_fits look kind allowed.Flag found v h = last_step (look.flag found) v (Fits kind allowed.Flag) Flag h (λ b _. tt)
member_fits look kinds.Port (allowed.List most) found v h =
    last_step (list_shape look (port_entry_shape look) found) v (Fits kinds.Port (allowed.List most)) PortList h (λ es _. tt)
member_fits look kinds.Gate (allowed.List most) found v h =
    last_step (list_shape look (gate_entry_shape look) found) v (Fits kinds.Gate (allowed.List most)) GateList h (λ es _. tt)
member_fits look kind row found v h = cc

members_fit : {D : Type 0} (look : Look D) (kind : Kind) (d : D) (rows : List (List ℕ × Allowed)) (vs : List MemberDraft)
    → each (λ row. member_shape look kind row.1 (look.at row.0 d)) rows ≡ Ok vs → AllFit kind rows vs
members_fit look kind d [] vs h = subst (AllFit kind []) (one (Ok []) [] vs refl h) tt
members_fit look kind d (row ∷ rows) vs h =
    steps (member_shape look kind row.1 (look.at row.0 d)) _ vs h (λ v v_is v_next.
    last_step (each (λ r. member_shape look kind r.1 (look.at r.0 d)) rows) vs (AllFit kind (row ∷ rows)) (λ ws. v ∷ ws) v_next
    (λ ws ws_is. (member_fits look kind row.1 (look.at row.0 d) v v_is, members_fit look kind d rows ws ws_is)))

-- What a value of the shape of this record has.
pub record RecordHas {D : Type 0} (look : Look D) (kind : Kind) (d : D) (r : RecordDraft) : Type 0 where
  pub only : look.only kind d ≡ Ok tt
  pub of : kind_of_draft r ≡ kind
  pub members : members_shape look kind d ≡ Ok (values_of r)

pub of_typed : (kind : Kind) (vs : List MemberDraft) → kind_of_draft (typed kind vs) ≡ kind
unfolding typed
of_typed kinds.Port vs = refl
of_typed kind vs = refl

pub record_has : {D : Type 0} (look : Look D) (kind : Kind) (d : D) (r : RecordDraft) → record_shape look kind d ≡ Ok r
    → RecordHas look kind d r
unfolding record_shape
record_has look kind d r h =
    steps (look.only kind d) _ r h (λ u only_is only_next.
    last_step (members_shape look kind d) r (RecordHas look kind d) (typed kind) only_next (λ vs vs_is. record {
      only = only_is;
      of = of_typed kind vs;
      members = vs_is ∙ ap Ok (sym (values_back kind vs (members_fit look kind d (rows_of kind) vs vs_is)));
    }))

pub record_shaped : {D : Type 0} (look : Look D) (kind : Kind) (d : D) (r : RecordDraft) → RecordHas look kind d r
    → record_shape look kind d ≡ Ok r
unfolding record_shape
record_shaped look kind d r has = rw (has.only, has.members) (ap Ok (subst (λ k. typed k (values_of r) ≡ r) has.of (typed_back r)))

-- ---- entries of lists

pub record PortEntryHas {D : Type 0} (look : Look D) (d : D) (x : PortEntryDraft) : Type 0 where
  pub only : look.only_entry kinds.Port d ≡ Ok tt
  pub gates : look.number (look.part 0 (codes "gates") d) ≡ Ok x.gates
  pub interval : look.number (look.part 1 (codes "interval") d) ≡ Ok x.interval

pub record GateEntryHas {D : Type 0} (look : Look D) (d : D) (x : GateEntryDraft) : Type 0 where
  pub only : look.only_entry kinds.Gate d ≡ Ok tt
  pub is_open : look.flag (look.part 0 (codes "open") d) ≡ Ok x.is_open
  pub ipv : look.number_or_none (look.part 1 (codes "ipv") d) ≡ Ok x.ipv
  pub interval : look.number (look.part 2 (codes "interval") d) ≡ Ok x.interval
  pub octets : look.number_or_none (look.part 3 (codes "octets") d) ≡ Ok x.octets

pub port_entry_has : {D : Type 0} (look : Look D) (d : D) (x : PortEntryDraft) → port_entry_shape look d ≡ Ok x → PortEntryHas look d x
unfolding port_entry_shape
port_entry_has look d x h =
    steps (look.only_entry kinds.Port d) _ x h (λ only only_is only_next.
    steps (look.number (look.part 0 (codes "gates") d)) _ x only_next (λ gates gates_is gates_next.
    last_step (look.number (look.part 1 (codes "interval") d)) x (PortEntryHas look d) (λ interval. record { gates = gates; interval = interval })
    gates_next (λ interval interval_is. record { only = only_is; gates = gates_is; interval = interval_is })))

pub gate_entry_has : {D : Type 0} (look : Look D) (d : D) (x : GateEntryDraft) → gate_entry_shape look d ≡ Ok x → GateEntryHas look d x
unfolding gate_entry_shape
gate_entry_has look d x h =
    steps (look.only_entry kinds.Gate d) _ x h (λ only only_is only_next.
    steps (look.flag (look.part 0 (codes "open") d)) _ x only_next (λ is_open is_open_is is_open_next.
    steps (look.number_or_none (look.part 1 (codes "ipv") d)) _ x is_open_next (λ ipv ipv_is ipv_next.
    steps (look.number (look.part 2 (codes "interval") d)) _ x ipv_next (λ interval interval_is interval_next.
    last_step (look.number_or_none (look.part 3 (codes "octets") d)) x (GateEntryHas look d)
    (λ octets. record { is_open = is_open; ipv = ipv; interval = interval; octets = octets }) interval_next
    (λ octets octets_is. record { only = only_is; is_open = is_open_is; ipv = ipv_is; interval = interval_is; octets = octets_is })))))

pub port_entry_of : {D : Type 0} (look : Look D) (d : D) (x : PortEntryDraft) → PortEntryHas look d x → port_entry_shape look d ≡ Ok x
unfolding port_entry_shape
port_entry_of look d x has = rw (has.only, has.gates, has.interval)

pub gate_entry_of : {D : Type 0} (look : Look D) (d : D) (x : GateEntryDraft) → GateEntryHas look d x → gate_entry_shape look d ≡ Ok x
unfolding gate_entry_shape
gate_entry_of look d x has = rw (has.only, has.is_open, has.ipv, has.interval, has.octets)
