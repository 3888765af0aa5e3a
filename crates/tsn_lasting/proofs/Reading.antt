-- From the first read to the last.
use Rattle.std.proofs.Common.{◌≡◌, ℕ, List, [], ◌++◌, Option, Some, refl, sym, subst, take}
use Rattle.std.proofs.KnownBytes.{Consumes-kept, Consumes-nil, Consumes-trans}
use Rattle.std.proofs.lemmas.List.{append-nil}
use Rattle.std.specs.Io.KnownBytes.{Consumes, IsAtEnd, Keeps}
use Rattle.tsn_lasting.specs.Parts.{Parts, standing}
use Rattle.tsn_lasting.specs.Running.{Breaks, Ends, Goes, IsBroken, IsUnderWay, IsWhole}
use Rattle.tsn_lasting.specs.Standing.{IsAtRest, Standing}
use Rattle.tsn_lasting.proofs.GoingOn.{begun}
use Rattle.tsn_lasting.proofs.Windows.{stopped}

pub first_under_way : (s : Standing) (left : Option (List ℕ)) → IsAtRest s → IsUnderWay s left left (Some []) s
first_under_way s left rest = record {
  input = [];
  read = Consumes-nil left;
  goes = record { lines = []; rest = []; splits = record { whole = refl; each = tt; last = tt }; held_is = refl; answered = begun s rest };
  rests = rest;
}

-- a read failed, or too many were made
pub under_way_breaks : {W : Type 0} (taken : W → Option (List ℕ)) (s0 : Standing) (left now after held : Option (List ℕ)) (p : Parts W)
    → IsUnderWay s0 left now held (standing taken p) → Keeps now after → Breaks s0 left after (standing taken p)
under_way_breaks taken s0 left now after held p under keeps = record {
  input = under.input;
  read = Consumes-kept left now after under.input under.read keeps;
  broken = stopped taken s0 under.input held p under.goes p under.goes.answered.lasts;
}

module _ {W : Type 0} (taken : W → Option (List ℕ)) (s0 : Standing) (left now after held : Option (List ℕ)) (mid new : Parts W) (n : ℕ)
    (chunk : List ℕ) (under : IsUnderWay s0 left now held (standing taken mid)) (read : Consumes now after (take n chunk)) where
  nothing_read : n ≡ 0 → Consumes left after under.input
  nothing_read none = subst (Consumes left after) (append-nil under.input)
      (Consumes-trans left now after under.input [] under.read (subst (λ k. Consumes now after (take k chunk)) none read))

  pub all_ended : n ≡ 0 → IsAtEnd after
      → ((s : Standing) (input : List ℕ) → Goes s input held (standing taken mid) → IsWhole s input (standing taken new))
      → IsAtRest (standing taken new) → Ends s0 left after (standing taken new)
  all_ended none at_end whole rests =
      record { input = under.input; read = nothing_read none; at_end = at_end; whole = whole s0 under.input under.goes; rests = rests }

  pub end_breaks : n ≡ 0 → ((s : Standing) (input : List ℕ) → Goes s input held (standing taken mid)
      → IsBroken s input (standing taken new)) → Breaks s0 left after (standing taken new)
  end_breaks none broken = record { input = under.input; read = nothing_read none; broken = broken s0 under.input under.goes }

  pub window_more : (piece : List ℕ) (next : Option (List ℕ)) → piece ≡ take n chunk
      → ((s : Standing) (input : List ℕ) → Goes s input held (standing taken mid) → Goes s (input ++ piece) next (standing taken new))
      → IsAtRest (standing taken new) → IsUnderWay s0 left after next (standing taken new)
  window_more piece next is goes rests = record {
    input = under.input ++ piece;
    read = Consumes-trans left now after under.input piece under.read (subst (Consumes now after) (sym is) read);
    goes = goes s0 under.input under.goes;
    rests = rests;
  }

  pub window_breaks : (piece : List ℕ) → piece ≡ take n chunk
      → ((s : Standing) (input : List ℕ) → Goes s input held (standing taken mid) → IsBroken s (input ++ piece) (standing taken new))
      → Breaks s0 left after (standing taken new)
  window_breaks piece is broken = record {
    input = under.input ++ piece;
    read = Consumes-trans left now after under.input piece under.read (subst (Consumes now after) (sym is) read);
    broken = broken s0 under.input under.goes;
  }
