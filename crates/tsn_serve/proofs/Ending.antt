-- How a run over lines ends, from where it was before its last read.
use Rattle.std.proofs.Common.{◌≡◌, ◌≢◌, ◌⊎◌, inl, inr, ℕ, ◌+◌, ◌≤◌, ◌<◌, ◌++◌, List, [], length, true, false, Option, Some, Result, Err, refl, sym, ◌∙◌, subst, arith, append-nil, length-append}
use Rattle.std.proofs.KnownBytes.{Appends-nil, Appends-trans, Appends-kept, Consumes-nil, Consumes-kept, Consumes-trans}
use Rattle.std.specs.Io.KnownBytes.{Appends, Consumes, Keeps, IsAtEnd}
use Rattle.tsn_bytes.specs.Bytes.{Counts}
use Rattle.tsn_bytes.specs.declared.bytes.Fault.{Fault}
use Rattle.tsn_bytes.specs.declared.bytes.Fault.TheVariants.{Write, Exhausted}
use Rattle.tsn_serve.specs.Script.{Answering, Breaking, Run}
use Rattle.tsn_serve.specs.Pieces.{Going, Feeds, Ends, Breaks, EndBreaks}
use Rattle.tsn_serve.specs.Outcomes.{Moment, Moves, Ran, Completes, BreaksOff, IsBroken, Outcome}
use Rattle.tsn_serve.proofs.Running.{opened}

-- Between two reads: this input was read in so many calls, each of which gave a byte, its whole lines were answered,
-- and no call failed.
pub record Underway {S : Type 0} (answers : Answering S) (old now : Moment S) (kept : Option (List ℕ)) (made : ℕ) : Type 0 where
  pub input : List ℕ
  pub text : List ℕ
  pub moves : Moves old now input text made
  pub going : Going answers old.state input kept text now.state
  pub each : made ≤ length input
  pub reader_worked : now.reader_failed ≡ old.reader_failed
  pub writer_worked : now.writer_failed ≡ old.writer_failed

-- one call more
counts_more : (before m made after : ℕ) → Counts before m made → Counts m after 1 → Counts before after (made + 1)
counts_more before m made after f g fits =
    let so_far : m ≡ before + made = f (omega arith) in
    let then : after ≡ m + 1 = g (omega arith) in
    omega arith

-- one read more, which gave this piece
moves_on : {S : Type 0} (answers : Answering S) (old now new : Moment S) (kept : Option (List ℕ)) (made : ℕ) (piece written : List ℕ)
    (flushed : Option (List ℕ)) (u : Underway answers old now kept made)
    → Consumes now.left new.left piece → Counts now.calls new.calls 1 → Keeps now.taken flushed → Appends flushed new.taken written
    → Moves old new (u.input ++ piece) (u.text ++ written) (made + 1)
moves_on answers old now new kept made piece written flushed u left calls took wrote = record {
  read = Consumes-trans _ _ _ _ _ u.moves.read left;
  counts = counts_more old.calls now.calls made new.calls u.moves.counts calls;
  wrote = Appends-trans _ _ _ _ _ (Appends-kept _ _ _ _ u.moves.wrote took) wrote;
}

-- the last read, which gave nothing
abbrev ran_out : {S : Type 0} (answers : Answering S) (reads : ℕ) (old now new : Moment S) (kept : Option (List ℕ)) (made : ℕ)
    (written : List ℕ) (flushed : Option (List ℕ))
    → Underway answers old now kept made → made < reads
    → Consumes now.left new.left [] → Counts now.calls new.calls 1 → Keeps now.taken flushed → Appends flushed new.taken written
    → Ran reads old new
ran_out answers reads old now new kept made written flushed u few left calls took wrote = record {
  input = u.input;
  text = u.text ++ written;
  made = made + 1;
  moves = subst (λ i. Moves old new i (u.text ++ written) (made + 1)) (append-nil u.input)
      (moves_on answers old now new kept made [] written flushed u left calls took wrote);
  few = omega arith;
}

-- no read more
abbrev ran_so_far : {S : Type 0} (answers : Answering S) (reads : ℕ) (old now new : Moment S) (kept : Option (List ℕ)) (made : ℕ)
    → Underway answers old now kept made → made ≤ reads → new.left ≡ now.left → new.calls ≡ now.calls → Keeps now.taken new.taken
    → Ran reads old new
ran_so_far answers reads old now new kept made u few left calls took = record {
  input = u.input;
  text = u.text;
  made = made;
  moves = record {
    read = subst (λ l. Consumes old.left l u.input) (sym left) u.moves.read;
    counts = subst (λ n. Counts old.calls n made) (sym calls) u.moves.counts;
    wrote = Appends-kept _ _ _ _ u.moves.wrote took;
  };
  few = few;
}

-- before the first read
pub begun : {S : Type 0} (answers : Answering S) (now : Moment S) (kept : Option (List ℕ)) → kept ≡ Some []
    → Underway answers now now kept 0
begun answers now kept e = record {
  input = [];
  text = [];
  moves = record { read = Consumes-nil _; counts = λ _. omega arith; wrote = Appends-nil _ };
  going = subst (λ k. Going answers now.state [] k [] now.state) (sym e) (opened answers now.state);
  each = omega arith;
  reader_worked = refl;
  writer_worked = refl;
}

-- a flush failed before a read, or after the last of them
pub flush_failed : {S : Type 0} (answers : Answering S) (breaks : Breaking S) (reads : ℕ) (old now new : Moment S) (kept : Option (List ℕ))
    (made : ℕ)
    → Underway answers old now kept made → made ≤ reads
    → new.state ≡ now.state → new.left ≡ now.left → new.calls ≡ now.calls → new.reader_failed ≡ now.reader_failed
    → Keeps now.taken new.taken → new.writer_failed ≡ true
    → IsBroken answers breaks reads Write old new
flush_failed answers breaks reads old now new kept made u few state left calls reader took failed = record {
  ran = ran_so_far answers reads old now new kept made u few left calls took;
  at_end = false;
  ended = λ e. absurd (let f : false ≡ true = e in cc);
  script = inr (
    refl,
    (
      u.going.lines,
      u.going.rest,
      u.going.splits,
      subst (λ s. Run answers old.state u.going.lines u.text s) (sym state) u.going.run,
    ),
  );
  reader_worked = reader ∙ u.reader_worked;
  writer_failed = λ _. failed;
  writer_worked = λ other. absurd (other refl);
}

-- a read failed, and nothing is held back
pub read_failed : {S : Type 0} (answers : Answering S) (reads : ℕ) (old now new : Moment S) (kept : Option (List ℕ)) (made : ℕ)
    → Underway answers old now kept made → made < reads
    → new.state ≡ now.state → Keeps now.left new.left → Counts now.calls new.calls 1 → new.reader_failed ≡ true
    → Keeps now.taken new.taken → new.held_back ≡ [] → new.writer_failed ≡ now.writer_failed
    → BreaksOff answers reads old new
read_failed answers reads old now new kept made u few state left calls failed took out writer = record {
  ran = record {
    input = u.input;
    text = u.text;
    made = made + 1;
    moves = record {
      read = Consumes-kept _ _ _ _ u.moves.read left;
      counts = counts_more old.calls now.calls made new.calls u.moves.counts calls;
      wrote = Appends-kept _ _ _ _ u.moves.wrote took;
    };
    few = omega arith;
  };
  cause = inl failed;
  script = (u.going.lines, u.going.rest, u.going.splits, subst (λ s. Run answers old.state u.going.lines u.text s) (sym state) u.going.run);
  handed_on = out;
  writer_worked = writer ∙ u.writer_worked;
}

-- so many reads were made, and nothing is held back
pub bound_reached : {S : Type 0} (answers : Answering S) (reads : ℕ) (old now new : Moment S) (kept : Option (List ℕ)) (made : ℕ)
    → Underway answers old now kept made → made ≡ reads
    → new.state ≡ now.state → new.left ≡ now.left → new.calls ≡ now.calls
    → Keeps now.taken new.taken → new.held_back ≡ [] → new.writer_failed ≡ now.writer_failed
    → BreaksOff answers reads old new
bound_reached answers reads old now new kept made u all state left calls took out writer = record {
  ran = ran_so_far answers reads old now new kept made u (omega arith) left calls took;
  cause = inr (all, let e = u.each in omega arith);
  script = (u.going.lines, u.going.rest, u.going.splits, subst (λ s. Run answers old.state u.going.lines u.text s) (sym state) u.going.run);
  handed_on = out;
  writer_worked = writer ∙ u.writer_worked;
}

-- a piece was read and answered
pub fed : {S : Type 0} (answers : Answering S) (old now new : Moment S) (kept kept' : Option (List ℕ)) (made : ℕ) (piece text : List ℕ)
    (flushed : Option (List ℕ))
    → Underway answers old now kept made → 0 < length piece
    → Consumes now.left new.left piece → Counts now.calls new.calls 1 → new.reader_failed ≡ now.reader_failed
    → Keeps now.taken flushed → Appends flushed new.taken text → new.writer_failed ≡ now.writer_failed
    → Feeds answers now.state kept piece text new.state kept'
    → Underway answers old new kept' (made + 1)
fed answers old now new kept kept' made piece text flushed u some left calls reader took wrote writer feeds = record {
  input = u.input ++ piece;
  text = u.text ++ text;
  moves = moves_on answers old now new kept made piece text flushed u left calls took wrote;
  going = feeds old.state u.input u.text u.going;
  each = let e = u.each in simp length-append (omega arith);
  reader_worked = reader ∙ u.reader_worked;
  writer_worked = writer ∙ u.writer_worked;
}

-- in a piece an answer broke off
pub feed_broke : {S : Type 0} (answers : Answering S) (breaks : Breaking S) (reads : ℕ) (fault : Fault) (old now new : Moment S)
    (kept : Option (List ℕ)) (made : ℕ) (piece written : List ℕ) (flushed : Option (List ℕ))
    → Underway answers old now kept made → made < reads
    → Consumes now.left new.left piece → Counts now.calls new.calls 1 → new.reader_failed ≡ now.reader_failed
    → Keeps now.taken flushed → Appends flushed new.taken written
    → (fault ≡ Write → new.writer_failed ≡ true) → (fault ≢ Write → new.writer_failed ≡ now.writer_failed)
    → Breaks answers breaks fault now.state kept piece written new.state
    → IsBroken answers breaks reads fault old new
feed_broke answers breaks reads fault old now new kept made piece written flushed u few left calls reader took wrote failed worked broken =
    record {
      ran = record {
        input = u.input ++ piece;
        text = u.text ++ written;
        made = made + 1;
        moves = moves_on answers old now new kept made piece written flushed u left calls took wrote;
        few = omega arith;
      };
      at_end = false;
      ended = λ e. absurd (let f : false ≡ true = e in cc);
      script = inl (broken old.state u.input u.text u.going);
      reader_worked = reader ∙ u.reader_worked;
      writer_failed = failed;
      writer_worked = λ other. worked other ∙ u.writer_worked;
    }

-- at the end of the input the last answer broke off
pub finish_broke : {S : Type 0} (answers : Answering S) (breaks : Breaking S) (reads : ℕ) (fault : Fault) (old now new : Moment S)
    (kept : Option (List ℕ)) (made : ℕ) (written : List ℕ) (flushed : Option (List ℕ))
    → Underway answers old now kept made → made < reads
    → Consumes now.left new.left [] → IsAtEnd new.left → Counts now.calls new.calls 1 → new.reader_failed ≡ now.reader_failed
    → Keeps now.taken flushed → Appends flushed new.taken written
    → (fault ≡ Write → new.writer_failed ≡ true) → (fault ≢ Write → new.writer_failed ≡ now.writer_failed)
    → EndBreaks answers breaks fault now.state kept written new.state
    → IsBroken answers breaks reads fault old new
finish_broke answers breaks reads fault old now new kept made written flushed u few left at_end calls reader took wrote failed worked
    broken =
    record {
      ran = ran_out answers reads old now new kept made written flushed u few left calls took wrote;
      at_end = true;
      ended = λ _. at_end;
      script = inl (broken old.state u.input u.text u.going);
      reader_worked = reader ∙ u.reader_worked;
      writer_failed = failed;
      writer_worked = λ other. worked other ∙ u.writer_worked;
    }

-- all lines were answered, and the last flush failed
pub last_flush_failed : {S : Type 0} (answers : Answering S) (breaks : Breaking S) (reads : ℕ) (old now new : Moment S)
    (kept : Option (List ℕ)) (made : ℕ) (text : List ℕ) (flushed taken : Option (List ℕ))
    → Underway answers old now kept made → made < reads
    → Consumes now.left new.left [] → IsAtEnd new.left → Counts now.calls new.calls 1 → new.reader_failed ≡ now.reader_failed
    → Keeps now.taken flushed → Appends flushed taken text → Keeps taken new.taken → new.writer_failed ≡ true
    → Ends answers now.state kept text new.state
    → IsBroken answers breaks reads Write old new
last_flush_failed answers breaks reads old now new kept made text flushed taken u few left at_end calls reader took wrote kept_on failed
    ends =
    record {
      ran = ran_out answers reads old now new kept made text flushed u few left calls took (Appends-kept _ _ _ _ wrote kept_on);
      at_end = true;
      ended = λ _. at_end;
      script = inr (refl, ends old.state u.input u.text u.going);
      reader_worked = reader ∙ u.reader_worked;
      writer_failed = λ _. failed;
      writer_worked = λ other. absurd (other refl);
    }

-- all lines were answered, and nothing is held back
pub completed : {S : Type 0} (answers : Answering S) (reads : ℕ) (old now new : Moment S) (kept : Option (List ℕ)) (made : ℕ)
    (text : List ℕ) (flushed taken : Option (List ℕ))
    → Underway answers old now kept made → made < reads
    → Consumes now.left new.left [] → IsAtEnd new.left → Counts now.calls new.calls 1 → new.reader_failed ≡ now.reader_failed
    → Keeps now.taken flushed → Appends flushed taken text → Keeps taken new.taken → new.held_back ≡ []
    → new.writer_failed ≡ now.writer_failed
    → Ends answers now.state kept text new.state
    → Completes answers reads old new
completed answers reads old now new kept made text flushed taken u few left at_end calls reader took wrote kept_on out writer ends =
    record {
      ran = ran_out answers reads old now new kept made text flushed u few left calls took (Appends-kept _ _ _ _ wrote kept_on);
      at_end = at_end;
      script = ends old.state u.input u.text u.going;
      handed_on = out;
      reader_worked = reader ∙ u.reader_worked;
      writer_worked = writer ∙ u.writer_worked;
    }

-- an answer that broke off ends the run, by its own fault
pub broken_by : {S : Type 0} (answers : Answering S) (breaks : Breaking S) (reads : ℕ) (fault : Fault) (old new : Moment S)
    → (fault ≡ Write) ⊎ (fault ≡ Exhausted) → IsBroken answers breaks reads fault old new → Outcome answers breaks reads old new (Err fault)
broken_by answers breaks reads fault old new (inl write) b =
    subst (λ f. Outcome answers breaks reads old new (Err f)) (sym write) (subst (λ f. IsBroken answers breaks reads f old new) write b)
broken_by answers breaks reads fault old new (inr exhausted) b =
    subst (λ f. Outcome answers breaks reads old new (Err f)) (sym exhausted)
    (subst (λ f. IsBroken answers breaks reads f old new) exhausted b)

-- a run told of states that equal its own
pub outcome_as : {S : Type 0} (answers : Answering S) (breaks : Breaking S) (reads : ℕ) (old new : Moment S) (x y : S)
    (r : Result (Unit {0}) Fault) → old.state ≡ x → new.state ≡ y → Outcome answers breaks reads old new r → Outcome answers breaks reads
    (record old { state = x }) (record new { state = y }) r
outcome_as answers breaks reads old new x y r e f o =
    subst (λ s. Outcome answers breaks reads (record old { state = s }) (record new { state = y }) r) e
    (subst (λ s. Outcome answers breaks reads old (record new { state = s }) r) f o)
