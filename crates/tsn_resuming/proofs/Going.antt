-- How far the reading of a file has come, line by line and piece by piece.
use Rattle.std.proofs.Common.{◌≡◌, ◌≢◌, ℕ, Bool, true, false, List, [], ◌∷◌, ◌++◌, drop, Option, Ok, sym, ap, ◌∙◌, subst, append-nil, length-append}
use Rattle.std.specs.Bool.{OnFalse, OnTrue}
use Rattle.std.specs.Io.KnownBytes.{Consumes}
use Rattle.std.proofs.KnownBytes.{Consumes-nil, Consumes-trans}
use Rattle.std.proofs.lemmas.List.{map-append}
use Rattle.tsn_types.specs.declared.refusals.Refusal.{Refusal}
use Rattle.tsn_types.specs.declared.refusals.Refusal.TheVariants as refusals
use Rattle.tsn_bridge.specs.State.{State}
use Rattle.tsn_recorded.specs.Text.{Recorded}
use Rattle.tsn_recorded.specs.Reading.{Reads}
use Rattle.tsn_recorded.specs.Reader.{HasGiven, Standing}
use Rattle.tsn_replay.proofs.LeadingBack.{replays_on}
use Rattle.tsn_resuming.specs.Resuming.{BeginsWith, IsRefusedAt}
use Rattle.tsn_resuming.specs.Standing.{IsEnded, IsFed, IsRefused, IsStepped, IsThrough, IsUnderWay, LeadTo, read_as}

-- a further line, by which the bridge was stepped
pub leads_on : (setup : List ℕ) (rs : List Recorded) (r : Recorded) (s now : State) → LeadTo setup rs s → IsStepped s r.command now
    → LeadTo setup (rs ++ r ∷ []) now
leads_on setup rs r s now leads stepped = record {
  first = leads.first;
  others = leads.others ++ r ∷ [];
  all = ap (λ t. t ++ r ∷ []) leads.all;
  has_setup = leads.has_setup;
  start = leads.start;
  opens = leads.opens;
  asks = leads.asks ++ stepped.ask ∷ [];
  read = map-append read_as leads.others (r ∷ []) ∙ rw (leads.read, stepped.read) (sym (map-append Ok leads.asks (stepped.ask ∷ [])));
  replayed = replays_on leads.asks (stepped.ask ∷ []) leads.start s now leads.replayed stepped.replayed;
}

-- the reader gave one more line
abbrev pub Gives : Standing → Standing → Type 0
Gives old new = (fed : List ℕ) (rs : List Recorded) → HasGiven fed rs old → HasGiven fed (rs ++ new.latest ∷ []) new

-- the reader gave no more
abbrev pub GivesNone : Standing → Standing → Type 0
GivesNone old new = (fed : List ℕ) (rs : List Recorded) → HasGiven fed rs old → HasGiven fed rs new

abbrev pub ReadsAll : Standing → Standing → Type 0
ReadsAll old new = (fed : List ℕ) (rs : List Recorded) → HasGiven fed rs old → Reads [] fed rs (drop new.good fed)

pub goes_on : (before now : Option (List ℕ)) (setup : List ℕ) (old new : Standing) (s t : State) → Gives old new
    → IsStepped s new.latest.command t
    → IsUnderWay before now setup old s → IsUnderWay before now setup new t
goes_on before now setup old new s t gives stepped way = record {
  commands = way.commands ++ new.latest ∷ [];
  fed = record { bytes = way.fed.bytes; read = way.fed.read; given = gives way.fed.bytes way.commands way.fed.given };
  leads = leads_on setup way.commands new.latest s t way.leads stepped;
}

pub is_through : (before now : Option (List ℕ)) (setup : List ℕ) (old new : Standing) (s : State) → GivesNone old new → ReadsAll old new
    → IsUnderWay before now setup old s → IsThrough before now setup new s
is_through before now setup old new s gives reads way = record {
  commands = way.commands;
  bytes = way.fed.bytes;
  read = way.fed.read;
  given = gives way.fed.bytes way.commands way.fed.given;
  reads = reads way.fed.bytes way.commands way.fed.given;
  leads = way.leads;
}

pub begins_with : (before now : Option (List ℕ)) (rs : List Recorded) (s : Standing) → IsFed before now rs s → BeginsWith before now rs
begins_with before now rs s fed = record {
  bytes = fed.bytes;
  read = fed.read;
  rest = s.held ++ fed.given.counted;
  front = fed.given.front;
  recorded = fed.given.recorded;
}

pub refused_at : (before now : Option (List ℕ)) (setup : List ℕ) (old new : Standing) (s : State) (line : ℕ) (why : Refusal) → Gives old new
    → new.lines ≡ line
    → IsRefused s new.latest.command why → why ≢ refusals.Memory → IsUnderWay before now setup old s → IsRefusedAt before now line why
refused_at before now setup old new s line why gives count refused known way =
    let given = gives way.fed.bytes way.commands way.fed.given in
    record {
      done = way.commands;
      last = new.latest;
      begins = begins_with before now (way.commands ++ new.latest ∷ []) new
          (record { bytes = way.fed.bytes; read = way.fed.read; given = given });
      setup = setup;
      s = s;
      leads = way.leads;
      number = sym count ∙ sym given.count ∙ length-append way.commands (new.latest ∷ []);
      refused = refused;
      not_memory = known;
    }

-- behind a piece that was fed
pub fed_on : (before now after : Option (List ℕ)) (piece : List ℕ) (rs : List Recorded) (old new : Standing) → Consumes now after piece
    → ((fed : List ℕ) (rs : List Recorded) → HasGiven fed rs old → HasGiven (fed ++ piece) rs new)
    → IsFed before now rs old → IsFed before after rs new
fed_on before now after piece rs old new read feeds fed = record {
  bytes = fed.bytes ++ piece;
  read = Consumes-trans before now after fed.bytes piece fed.read read;
  given = feeds fed.bytes rs fed.given;
}

-- at the end of the file nothing is read
pub reads_on : (before now after : Option (List ℕ)) (bytes : List ℕ) → Consumes now after [] → Consumes before now bytes
    → Consumes before after bytes
reads_on before now after bytes nothing read =
    subst (Consumes before after) (append-nil bytes) (Consumes-trans before now after bytes [] read nothing)

pub through_to_end : (before now after : Option (List ℕ)) (setup : List ℕ) (s : Standing) (bridge : State) → IsEnded now after
    → IsThrough before now setup s bridge → IsThrough before after setup s bridge
through_to_end before now after setup s bridge ended through = record {
  commands = through.commands;
  bytes = through.bytes;
  read = reads_on before now after through.bytes ended.nothing through.read;
  given = through.given;
  reads = through.reads;
  leads = through.leads;
}

pub begins_fed : (file : Option (List ℕ)) (s : Standing) → HasGiven [] [] s → IsFed file file [] s
begins_fed file s given = record { bytes = []; read = Consumes-nil file; given = given }

pub stays_fed : (before now : Option (List ℕ)) (rs : List Recorded) (old new : Standing) → GivesNone old new → IsFed before now rs old
    → IsFed before now rs new
stays_fed before now rs old new gives fed = record { bytes = fed.bytes; read = fed.read; given = gives fed.bytes rs fed.given }

-- where there was more to read
pub way_on : (before now after : Option (List ℕ)) (setup : List ℕ) (old new : Standing) (s : State)
    → ((rs : List Recorded) → IsFed before now rs old → IsFed before after rs new)
    → IsThrough before now setup old s → IsUnderWay before after setup new s
way_on before now after setup old new s feeds through = record {
  commands = through.commands;
  fed = feeds through.commands (record { bytes = through.bytes; read = through.read; given = through.given });
  leads = through.leads;
}

-- what holds where a test failed, which it did
pub at_false : {A : Type 0} (test : Bool) → test ≡ false → OnFalse test A → A
at_false {A} test e h = subst (λ b. OnFalse b A) e h

pub at_true : {A : Type 0} (test : Bool) → test ≡ true → OnTrue test A → A
at_true {A} test e h = subst (λ b. OnTrue b A) e h
