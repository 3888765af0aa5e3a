-- From the first line to the end of a start.
use Rattle.std.proofs.Common.{◌≡◌, ◌≢◌, ◌⊎◌, ℕ, List, [], ◌∷◌, drop, Bool, true, Option, inl, inr, refl, sym, ◌∙◌, subst}
use Rattle.std.specs.Io.KnownBytes.{IsAtEnd}
use Rattle.tsn_types.specs.declared.refusals.Refusal.{Refusal as AnyRefusal}
use Rattle.tsn_types.specs.declared.refusals.Refusal.TheVariants as refusals
use Rattle.tsn_bridge.specs.State.{State}
use Rattle.tsn_recorded.specs.Text.{Recorded}
use Rattle.tsn_recorded.specs.Reading.{IsEnd, Reads}
use Rattle.tsn_recorded.specs.Reader.{HasGiven, Standing}
use Rattle.tsn_resuming.proofs.Going.{begins_with, reads_on}
use Rattle.tsn_resuming.specs.Resuming.{Begins, Fails, GoesOn, HasBadFirst, HasBegun, HasNoLine, IsGiven, IsRefusedAt, OpensNone, StopsAt, StopsReading}
use Rattle.tsn_resuming.specs.Standing.{IsEnded, IsFed, IsThrough, IsUnderWay}
use Rattle.tsn_resuming.specs.declared.resuming.Resumed.{Resumed}
use Rattle.tsn_resuming.specs.declared.resuming.StartFault.{StartFault}
use Rattle.tsn_resuming.specs.declared.resuming.StartFault.TheVariants.{Read, Memory, NoJournal, OtherVersion, OtherSetup, Setup, Refused}

pub begun : (before now given : Option (List ℕ)) (s : Standing) (bridge : State) → IsFed before now (s.latest ∷ []) s
    → (b : Begins given s.latest.command bridge)
    → IsUnderWay before now b.setup s bridge
begun before now given s bridge fed b = record {
  commands = s.latest ∷ [];
  fed = fed;
  leads = record {
    first = s.latest;
    others = [];
    all = refl;
    has_setup = b.has_setup;
    start = bridge;
    opens = b.opens;
    asks = [];
    read = refl;
    replayed = refl;
  };
}

pub has_begun : (before now given : Option (List ℕ)) (s : Standing) (bridge : State) → IsFed before now (s.latest ∷ []) s
    → Begins given s.latest.command bridge → HasBegun before now given s bridge
has_begun before now given s bridge fed b = record { setup = b.setup; own = b.own; way = begun before now given s bridge fed b }

bad_first : (before after given : Option (List ℕ)) (s : Standing) (why : StartFault) → IsFed before after (s.latest ∷ []) s
    → OpensNone given s.latest.command why → HasBadFirst before after given why
bad_first before after given s why fed none = record {
  first = s.latest;
  begins = begins_with before after (s.latest ∷ []) s fed;
  opens_none = none;
}

fails_first : (before after : Option (List ℕ)) (failed : Bool) (given : Option (List ℕ)) (why : StartFault)
    → HasBadFirst before after given why → Fails before after failed given why
fails_first before after failed given Read h = absurd h.opens_none
fails_first before after failed given Memory h = tt
fails_first before after failed given NoJournal h = inr h
fails_first before after failed given OtherVersion h = h
fails_first before after failed given OtherSetup h = h
fails_first before after failed given (Setup why) h = h
fails_first before after failed given (Refused line why) h = absurd h.opens_none

-- the first line opens no bridge
pub not_begun : (before after : Option (List ℕ)) (failed : Bool) (given : Option (List ℕ)) (s : Standing) (why : StartFault)
    → IsFed before after (s.latest ∷ []) s → OpensNone given s.latest.command why
    → Fails before after failed given why
not_begun before after failed given s why fed none = fails_first before after failed given why (bad_first before after given s why fed none)

stops : (before after : Option (List ℕ)) (failed : Bool) (given : Option (List ℕ)) (why : StartFault) → StopsAt before after why
    → Fails before after failed given why
stops before after failed given Read h = absurd h
stops before after failed given Memory h = tt
stops before after failed given NoJournal h = absurd h
stops before after failed given OtherVersion h = absurd h
stops before after failed given OtherSetup h = absurd h
stops before after failed given (Setup why) h = absurd h
stops before after failed given (Refused line why) h = h

read_fails : (before after : Option (List ℕ)) (failed : Bool) (given : Option (List ℕ)) (why : StartFault) → why ≡ Read → failed ≡ true
    → Fails before after failed given why
read_fails before after failed given why is h = subst (Fails before after failed given) (sym is) h

-- the reading ended behind the first line
pub stops_reading : (before after : Option (List ℕ)) (failed : Bool) (given : Option (List ℕ)) (why : StartFault)
    → StopsReading before after failed why → Fails before after failed given why
stops_reading before after failed given why (inl h) = read_fails before after failed given why h.0 h.1
stops_reading before after failed given why (inr h) = stops before after failed given why h

-- no line was given, and there is nothing more to read
pub has_no_line : (before now after : Option (List ℕ)) (old new : Standing) → IsEnded now after
    → ((fed : List ℕ) (rs : List Recorded) → HasGiven fed rs old → HasGiven fed rs new)
    → ((fed : List ℕ) (rs : List Recorded) → HasGiven fed rs old → Reads [] fed rs (drop new.good fed))
    → IsFed before now [] old → HasNoLine before after
has_no_line before now after old new ended gives reads fed =
    let given = gives fed.bytes [] fed.given in
    record {
      bytes = fed.bytes;
      read = reads_on before now after fed.bytes ended.nothing fed.read;
      all = ended.all;
      reads = subst (λ n. Reads [] fed.bytes [] (drop n fed.bytes)) (sym given.good) (reads fed.bytes [] fed.given);
    }

-- all was read and stepped
pub resumed : (before after given : Option (List ℕ)) (setup : List ℕ) (s : Standing) (r : Resumed) → IsAtEnd after → IsGiven given setup
    → r.chain ≡ s.last → r.lines ≡ s.lines → r.good ≡ s.good
    → ((fed : List ℕ) (rs : List Recorded) → HasGiven fed rs s → IsEnd s.lines (drop s.good fed) r.end)
    → IsThrough before after setup s r.bridge → GoesOn before after given r
resumed before after given setup s r all own chain lines good end through = record {
  bytes = through.bytes;
  read = through.read;
  all = all;
  commands = through.commands;
  rest = drop s.good through.bytes;
  reads = through.reads;
  end = subst (λ n. IsEnd n (drop s.good through.bytes) r.end) (sym through.given.count) (end through.bytes through.commands through.given);
  setup = setup;
  own = own;
  leads = through.leads;
  lines = lines ∙ sym through.given.count;
  good = good ∙ sym through.given.good;
  chain = chain ∙ through.given.last;
}

-- the fault of a line that is refused, unless memory was wanting
pub stopped : (before now : Option (List ℕ)) (line : ℕ) (why : AnyRefusal) (fault : StartFault)
    → (fault ≡ Memory) ⊎ ((fault ≡ Refused line why) × (why ≢ refusals.Memory)) → (why ≢ refusals.Memory → IsRefusedAt before now line why)
    → StopsAt before now fault
stopped before now line why fault (inl e) at = subst (StopsAt before now) (sym e) tt
stopped before now line why fault (inr p) at = subst (StopsAt before now) (sym p.0) (at p.1)

pub unless_memory : {A : Type 0} (why : AnyRefusal) → (why ≡ refusals.Memory) ⊎ A → why ≢ refusals.Memory → A
unless_memory why (inl e) known = absurd (known e)
unless_memory why (inr h) known = h
