-- What lasts goes on to last, line after line.
use Rattle.std.proofs.Common.{◌≡◌, ℕ, List, [], ◌∷◌, ◌++◌, Option, refl, sym, ◌∙◌, ap, subst, append_assoc}
use Rattle.std.specs.Io.KnownBytes.{Appends}
use Rattle.std.proofs.KnownBytes.{Appends-nil, Appends-trans}
use Rattle.std.proofs.lemmas.List.{append-nil, map-append}
use Rattle.tsn_bridge.specs.State.{State}
use Rattle.tsn_replies.specs.Replies.{reply_text}
use Rattle.tsn_recorded.specs.Text.{AreRecordedAfter, Recorded, last_digest, text_after}
use Rattle.tsn_recorded.proofs.Readings.{are_recorded-append, last_digest-append, text_after-append}
use Rattle.tsn_lasting.specs.Exchanges.{Exchange, Exchanges, Runs, command_of, commands_of, lines_of, recorded_of, replies_of}
use Rattle.tsn_lasting.specs.Standing.{BeginsWith, HasAnswered, IsAtRest, Lasts, Leaves, Standing, Stays, Steps}

-- ---- an exchange more

pub runs_more : (s mid new : State) (xs : List Exchange) (x : Exchange) → Runs s xs mid → Exchanges mid x new → Runs s (xs ++ x ∷ []) new
runs_more s mid new [] x run last = (new, subst (λ m. Exchanges m x new) run last, refl)
runs_more s mid new (y ∷ ys) x (m, first, rest) last = (m, first, runs_more m mid new ys x rest last)

commands_more : (xs : List Exchange) (x : Exchange) → commands_of (xs ++ x ∷ []) ≡ commands_of xs ++ command_of (recorded_of x.read x.reply)
commands_more [] x = append-nil (command_of (recorded_of x.read x.reply))
commands_more (y ∷ ys) x = ap (λ cs. command_of (recorded_of y.read y.reply) ++ cs) (commands_more ys x)
    ∙ sym (append_assoc (command_of (recorded_of y.read y.reply)) (commands_of ys) (command_of (recorded_of x.read x.reply)))

replies_more : (xs : List Exchange) (x : Exchange) → replies_of (xs ++ x ∷ []) ≡ replies_of xs ++ reply_text x.reply
replies_more [] x = append-nil (reply_text x.reply)
replies_more (y ∷ ys) x =
    ap (λ cs. reply_text y.reply ++ cs) (replies_more ys x) ∙ sym (append_assoc (reply_text y.reply) (replies_of ys) (reply_text x.reply))

lines_more : (xs : List Exchange) (x : Exchange) → lines_of (xs ++ x ∷ []) ≡ lines_of xs ++ x.line ∷ []
lines_more xs x = map-append (λ (y : Exchange). y.line) xs (x ∷ [])

begins_itself : (text : List ℕ) → BeginsWith text text
begins_itself text = ([], sym (append-nil text))

begins_then : (a b d : List ℕ) → BeginsWith b a → BeginsWith d b → BeginsWith d a
begins_then a b d first then = (first.0 ++ then.0, then.1 ∙ ap (λ t. t ++ then.0) first.1 ∙ append_assoc a first.0 then.0)

-- ---- a beginning

pub begun : (s0 : Standing) → IsAtRest s0 → HasAnswered s0 [] s0
begun s0 rest = record {
  exchanges = [];
  lines = refl;
  runs = refl;
  recorded = [];
  leaves = record { commands = refl; well = tt };
  last = refl;
  entered = sym (append-nil s0.entered);
  handed = [];
  took = Appends-nil s0.taken;
  told = sym rest.none;
  lasts = record {
    exchanges = [];
    others = [];
    lines = refl;
    state = s0.bridge;
    runs = refl;
    recorded = [];
    leaves = record { commands = refl; well = tt };
    kept = ([], rest.kept ∙ sym (append-nil (s0.entered ++ []) ∙ append-nil s0.entered));
    handed = [];
    took = Appends-nil s0.taken;
    covers = begins_itself [];
  };
}

module _ (s0 : Standing) (ls : List (Option (List ℕ))) (s : Standing) (has : HasAnswered s0 ls s) where
  -- ---- what was handed on stays, and what is kept grows

  pub still_lasts : (new : Standing) (more : List (Option (List ℕ))) → new.taken ≡ s.taken → BeginsWith new.kept s.kept
      → Lasts s0 (ls ++ more) new
  still_lasts new more taken grown =
      let old = has.lasts in record {
        exchanges = old.exchanges;
        others = old.others ++ more;
        lines = ap (λ xs. xs ++ more) old.lines ∙ append_assoc (lines_of old.exchanges) old.others more;
        state = old.state;
        runs = old.runs;
        recorded = old.recorded;
        leaves = old.leaves;
        kept = begins_then _ s.kept new.kept old.kept grown;
        handed = old.handed;
        took = subst (λ t. Appends s0.taken t old.handed) (sym taken) old.took;
        covers = old.covers;
      }

  -- all that was entered is kept, and a front of what waits is handed on
  pub settled_lasts : (new : Standing) (more : List (Option (List ℕ))) (front : List ℕ) → new.kept ≡ s.entered
      → Appends s.taken new.taken front → BeginsWith s.waiting front → Lasts s0 (ls ++ more) new
  settled_lasts new more front kept took begins = record {
    exchanges = has.exchanges;
    others = more;
    lines = ap (λ xs. xs ++ more) (sym has.lines);
    state = s.bridge;
    runs = has.runs;
    recorded = has.recorded;
    leaves = has.leaves;
    kept = ([], kept ∙ has.entered ∙ sym (append-nil _));
    handed = has.handed ++ front;
    took = Appends-trans s0.taken s.taken new.taken has.handed front has.took took;
    covers = (begins.0, has.told ∙ ap (λ t. has.handed ++ t) begins.1 ∙ sym (append_assoc has.handed front begins.0));
  }

  pub settled : (new : Standing) → Stays s new → new.kept ≡ s.entered → Appends s.taken new.taken s.waiting → new.waiting ≡ []
      → HasAnswered s0 ls new
  settled new stays kept took none = record {
    exchanges = has.exchanges;
    lines = has.lines;
    runs = subst (Runs s0.bridge has.exchanges) (sym stays.bridge) has.runs;
    recorded = has.recorded;
    leaves = has.leaves;
    last = stays.last ∙ has.last;
    entered = stays.entered ∙ has.entered;
    handed = has.handed ++ s.waiting;
    took = Appends-trans s0.taken s.taken new.taken has.handed s.waiting has.took took;
    told = has.told ∙ sym (append-nil _) ∙ ap (λ t. (has.handed ++ s.waiting) ++ t) (sym none);
    lasts = subst (λ xs. Lasts s0 xs new) (append-nil ls) (settled_lasts new [] s.waiting kept took (begins_itself s.waiting));
  }

  -- ---- a line more

  module _ (x : Exchange) (rs : List Recorded) (mid : Standing) (steps : Steps s x rs mid) where
    abbrev all : List Exchange
    all = has.exchanges ++ x ∷ []

    more_leaves : Leaves s0 all (has.recorded ++ rs)
    more_leaves = record {
      commands = map-append (λ (r : Recorded). r.command) has.recorded rs ∙ (λ i. has.leaves.commands i ++ steps.leaves.commands i)
          ∙ sym (commands_more has.exchanges x);
      well = are_recorded-append s0.last has.recorded rs has.leaves.well (subst (λ d. AreRecordedAfter d rs) has.last steps.leaves.well);
    }

    more_entered : mid.entered ≡ s0.entered ++ text_after s0.last (has.recorded ++ rs)
    more_entered =
        steps.entered
        ∙ (λ i. has.entered i ++ text_after (has.last i) rs)
        ∙ append_assoc s0.entered (text_after s0.last has.recorded) (text_after (last_digest s0.last has.recorded) rs)
        ∙ ap (λ t. s0.entered ++ t) (sym (text_after-append s0.last has.recorded rs))

    more_told : replies_of all ≡ (has.handed ++ s.waiting) ++ reply_text x.reply
    more_told = replies_more has.exchanges x ∙ ap (λ t. t ++ reply_text x.reply) has.told

    more_runs : Runs s0.bridge all mid.bridge
    more_runs = runs_more s0.bridge s.bridge mid.bridge has.exchanges x has.runs steps.exchanges

    more_lines : lines_of all ≡ ls ++ x.line ∷ []
    more_lines = lines_more has.exchanges x ∙ ap (λ xs. xs ++ x.line ∷ []) has.lines

    -- what it leaves is kept, with all that was entered, and a front of what waits and of its reply is handed on
    pub told_lasts : (new : Standing) (front : List ℕ) → new.kept ≡ mid.entered → Appends s.taken new.taken front
        → BeginsWith (s.waiting ++ reply_text x.reply) front → Lasts s0 (ls ++ x.line ∷ []) new
    told_lasts new front kept took begins = record {
      exchanges = all;
      others = [];
      lines = sym more_lines ∙ sym (append-nil _);
      state = mid.bridge;
      runs = more_runs;
      recorded = has.recorded ++ rs;
      leaves = more_leaves;
      kept = ([], kept ∙ more_entered ∙ sym (append-nil _));
      handed = has.handed ++ front;
      took = Appends-trans s0.taken s.taken new.taken has.handed front has.took took;
      covers = (
        begins.0,
        more_told ∙ append_assoc has.handed s.waiting (reply_text x.reply) ∙ ap (λ t. has.handed ++ t) begins.1
            ∙ sym (append_assoc has.handed front begins.0),
      );
    }

    -- it is answered, whether its reply waits or is told
    answered : (new : Standing) (handed : List ℕ) → Stays mid new → Appends s0.taken new.taken handed
        → (has.handed ++ s.waiting) ++ reply_text x.reply ≡ handed ++ new.waiting → Lasts s0 (ls ++ x.line ∷ []) new
        → HasAnswered s0 (ls ++ x.line ∷ []) new
    answered new handed stays took told lasts = record {
      exchanges = all;
      lines = more_lines;
      runs = subst (Runs s0.bridge all) (sym stays.bridge) more_runs;
      recorded = has.recorded ++ rs;
      leaves = more_leaves;
      last = stays.last ∙ steps.last ∙ ap (λ d. last_digest d rs) has.last ∙ sym (last_digest-append s0.last has.recorded rs);
      entered = stays.entered ∙ more_entered;
      handed = handed;
      took = took;
      told = more_told ∙ told;
      lasts = lasts;
    }

    -- its reply waits
    pub waits : (new : Standing) → Stays mid new → BeginsWith new.kept s.kept → new.taken ≡ s.taken
        → new.waiting ≡ s.waiting ++ reply_text x.reply → HasAnswered s0 (ls ++ x.line ∷ []) new
    waits new stays grown taken waiting =
        answered new has.handed stays (subst (λ t. Appends s0.taken t has.handed) (sym taken) has.took)
        (append_assoc has.handed s.waiting (reply_text x.reply) ∙ ap (λ t. has.handed ++ t) (sym waiting))
        (still_lasts new (x.line ∷ []) taken grown)

    -- it is told at once, behind what waits
    pub told : (new : Standing) → Stays mid new → new.kept ≡ mid.entered → Appends s.taken new.taken (s.waiting ++ reply_text x.reply)
        → new.waiting ≡ [] → HasAnswered s0 (ls ++ x.line ∷ []) new
    told new stays kept took none =
        let all_told = s.waiting ++ reply_text x.reply in
        answered new (has.handed ++ all_told) stays (Appends-trans s0.taken s.taken new.taken has.handed all_told has.took took)
        (append_assoc has.handed s.waiting (reply_text x.reply) ∙ sym (append-nil _) ∙ ap (λ t. (has.handed ++ all_told) ++ t) (sym none))
        (told_lasts new all_told kept took (begins_itself all_told))
