-- What words without a fault give: a subcommand of the program, and to each all that it wants.
use Rattle.std.proofs.Common.{◌≡◌, ◌∙◌, ◌&&◌, ◌||◌, inl, inr, ℕ, ◌-◌, ◌^◌, Bool, cond, true, false, not, zero, suc, refl, sym, ap, subst, codes, List, [], ◌∷◌, Option, Some, None, is_some}
use Rattle.std.specs.Prelude.{⊤, option_map}
use Rattle.std.specs.Option.{option_map_or}
use Rattle.std.specs.List.{fold, list_any}
use Rattle.std.specs.Str.{bytes_eq}
use Rattle.std.proofs.lemmas.Slice.Eq.{bytes_eq-Decides}
use Rattle.clap.specs.Lexer.{long_of, short_of}
use Rattle.clap.specs.ValueTests.{accepts, is_unsigned_in}
use Rattle.clap.specs.Facts.{explicit_source, parser_of_value, unwrap_or_range}
use Rattle.clap.specs.Kinds.{Kinds, check_kinds, or_else}
use Rattle.clap.specs.Walk.{Held, Names, Outcome, Row, Rule, Step, Text, Waiting, Walk, action_of, after_flag, after_step, arg_by_index, arg_by_long, bundle, done, idle, long_met, long_or_other, next, nothing_held, option, plain, plain_word, positional, refused, rows_after, short_or_plain, subcommand, subcommand_met, subcommand_or_other, to_positional, trailing, value, waits, walk, walk_from, walked, walked_from, word_met}
use Rattle.clap.specs.Simple.{Shape, argument_words, built, entered, names_of, new_shape, rows_at, subcommand_of}
use Rattle.clap.specs.Takes.{is_given}
use Rattle.clap.specs.Faults.{check_fault, defaults_fault, entered_fault, fault_of, level_fault, other_fault, settle_fault, step_fault, turn_fault, walk_fault, word_fault}
use Rattle.clap.specs.declared.builder.value_parser.ValueParser.TheVariants.{Unsigned}
use Rattle.clap.specs.declared.builder.action.ArgAction.TheVariants.{Set}
use Rattle.clap.specs.declared.builder.range.ValueRange.{ValueRange}
use Rattle.clap.specs.declared.error.kind.ErrorKind.TheVariants.{DisplayHelp, InvalidSubcommand}
use Rattle.clap.proofs.ValueTestLemmas.{accepts-Accepts}
use Rattle.tsn_words.specs.Asking.{HasJournal, HasNumber, HasServe, HasStates, HasText, IsComplete, MayHaveNumber, last_entry, last_probe, longest_idle, longest_step, most_connections, most_instants, most_workers, program}
use Rattle.tsn_words.proofs.OneValue.{DefaultsFit, RowsFit, RuleFits, RulesFit, after_fit, given_value, no_kind, value_fits}

-- ---- no fault comes where `help` is no subcommand

IsNoHelp : Text → Type 0
IsNoHelp name = bytes_eq name (codes "help") ≡ false

StopsWell : Option (Text × List Text) → Type 0
StopsWell None = ⊤
StopsWell (Some p) = IsNoHelp p.0

StepsWell : Step → Type 0
StepsWell (subcommand name) = IsNoHelp name
StepsWell (next waiting) = ⊤
StepsWell (trailing position) = ⊤
StepsWell value = ⊤

plain_steps : (c : List Rule) (waiting : Waiting) (word : Text) (h : Held) → StepsWell (plain_word c waiting word h).1
unfolding StepsWell
plain_steps c idle word h = tt
plain_steps c positional word h = tt
plain_steps c (option id) word h = tt

flag_steps : (c : List Rule) (waiting : Waiting) (word : Text) (h : Held) (came : Outcome) → StepsWell (after_flag c waiting word h came).1
unfolding StepsWell
flag_steps c waiting word h done = tt
flag_steps c waiting word h (waits id) = tt
flag_steps c waiting word h plain = plain_steps c waiting word h
flag_steps c waiting word h refused = plain_steps c waiting word h

other_steps : (c : List Rule) (waiting : Waiting) (word : Text) (h : Held) (o : Option (Text × Option Text))
    → StepsWell (long_or_other c waiting word o h).1
other_steps c waiting word h (Some p) = flag_steps c waiting word _ (long_met c (arg_by_long c p.0) p.1 h).1
other_steps c waiting word h None = go (short_of word)
  where
    go : (o : Option Text) → StepsWell (short_or_plain c waiting word o h).1
    go (Some flags) = flag_steps c waiting word _ (bundle c flags h).1
    go None = plain_steps c waiting word h

module _ (s : Shape) (names : Names) (helps : s.disable_help_subcommand ≡ false) where
  named_well : (name word : Text) (h : Held) → other_fault s (Some name) word h ≡ [] → IsNoHelp name
  unfolding IsNoHelp
  named_well name word h none = go (bytes_eq name (codes "help"))
      (ap (λ b. cond (bytes_eq name (codes "help") && not b) (DisplayHelp ∷ InvalidSubcommand ∷ []) []) (sym helps) ∙ none)
    where
      go : (b : Bool) → cond (b && true) (DisplayHelp ∷ InvalidSubcommand ∷ []) [] ≡ [] → b ≡ false
      go true never = (cc)
      go false none = refl

  met_well : (is_trailing : Bool) (waiting : Waiting) (position : ℕ) (word : Text) (h : Held)
      → word_fault s names is_trailing waiting word h ≡ [] → StepsWell (word_met s.rules names is_trailing waiting position word h).1
  unfolding StepsWell
  met_well true waiting position word h none = tt
  met_well false waiting position word h none = go (subcommand_met names waiting word) none
    where
      dashes : (b : Bool) → StepsWell (cond b (h, trailing position) (long_or_other s.rules waiting word (long_of word) h)).1
      dashes true = tt
      dashes false = other_steps s.rules waiting word h (long_of word)

      go : (o : Option Text) → other_fault s o word h ≡ [] → StepsWell (subcommand_or_other s.rules o waiting position word h).1
      go (Some name) none = named_well name word h none
      go None none = dashes (bytes_eq word (45 ∷ 45 ∷ []))

  step_well : (word : Text) (w : Walk) (h : Held) (step : Step) → StepsWell step → StopsWell w.stopped
      → StopsWell (after_step s.rules word w h step).stopped
  unfolding StepsWell StopsWell
  step_well word w h (next waiting) well before = before
  step_well word w h (trailing position) well before = before
  step_well word w h (subcommand name) well before = well
  step_well word w h value well before = go (arg_by_index s.rules w.position)
    where
      go : (o : Option Rule) → StopsWell (to_positional s.rules o word w h).stopped
      go None = before
      go (Some a) = tt

  turn_well : (o : Option (Text × List Text)) (w : Walk) (word : Text) → StopsWell o → StopsWell w.stopped
      → cond (is_some o) [] (or_else (word_fault s names w.is_trailing w.waiting word w.held)
      (step_fault s w.position (word_met s.rules names w.is_trailing w.waiting w.position word w.held).0
      (word_met s.rules names w.is_trailing w.waiting w.position word w.held).1)) ≡ []
      → StopsWell (walked_from s.rules names o w word).stopped
  unfolding StopsWell
  turn_well (Some p) w word well before none = well
  turn_well None w word well before none =
      let met = word_met s.rules names w.is_trailing w.waiting w.position word w.held in
      let steps = no_kind (word_fault s names w.is_trailing w.waiting word w.held) (step_fault s w.position met.0 met.1) none in
      step_well word w met.0 met.1 (met_well w.is_trailing w.waiting w.position word w.held steps.0) before

  walk_well : (words : List Text) (w : Walk) → walk_fault s names w words ≡ [] → StopsWell w.stopped
      → StopsWell (fold (walked s.rules names) w words).stopped
  unfolding walk_fault walked
  walk_well [] w none before = before
  walk_well (word ∷ rest) w none before =
      let steps = no_kind (turn_fault s names w word) (walk_fault s names (walked s.rules names w word) rest) none in
      walk_well rest (walked s.rules names w word) steps.1 (turn_well w.stopped w word before before steps.0)

-- ---- one level

record Level (s : Shape) (names : Names) (words : List Text) (has : Bool) (below : Kinds) : Type 0 where
  walks : walk_fault s names (walk_from nothing_held) words ≡ []
  deeper : below ≡ []
  settles : settle_fault s.rules s.args_override_self (walk s.rules names nothing_held words).held ≡ []
  checks : check_fault s (rows_after s.rules names words) has ≡ []

level : (s : Shape) (names : Names) (words : List Text) (has : Bool) (below : Kinds) → level_fault s names nothing_held words has below ≡ []
    → Level s names words has below
level s names words has below none =
    let first = no_kind (walk_fault s names (walk_from nothing_held) words) _ none in
    let second = no_kind below _ first.1 in
    let third = no_kind (settle_fault s.rules s.args_override_self (walk s.rules names nothing_held words).held) _ second.1 in
    let fourth = no_kind (defaults_fault _ s.rules) (check_fault s (rows_after s.rules names words) has) third.1 in
    record { walks = first.0; deeper = second.0; settles = third.0; checks = fourth.1 }

checked : (help named argument : Bool) → check_kinds help named argument ≡ [] → (named ≡ false) × (argument ≡ false)
checked true named argument e = (cc)
checked false true argument e = (cc)
checked false false true e = (cc)
checked false false false e = (refl, refl)

checks : (s : Shape) (rows : List Row) (has : Bool) → check_fault s rows has ≡ []
    → ((not has && s.subcommand_required) ≡ false)
    × ((not (s.subcommand_negates_reqs && has) && list_any (λ (a : Rule). a.required && not (is_given a.id rows)) s.rules) ≡ false)
checks s rows has e =
    checked (not has && (s.arg_required_else_help && not (list_any (λ (r : Row). explicit_source r.source) rows)))
    (not has && s.subcommand_required)
    (not (s.subcommand_negates_reqs && has) && list_any (λ (a : Rule). a.required && not (is_given a.id rows)) s.rules) e

-- what no test misses is given
all_given : (a b c d e : Bool) →
    ((true && not a) || ((true && not b) || ((true && not c) || ((true && not d) || ((true && not e) || false))))) ≡ false
    → (a ≡ true) × (b ≡ true) × (c ≡ true) × (d ≡ true) × (e ≡ true)
all_given false b c d e h = (cc)
all_given true false c d e h = (cc)
all_given true true false d e h = (cc)
all_given true true true false e h = (cc)
all_given true true true true false h = (cc)
all_given true true true true true h = (refl, refl, refl, refl, refl)

-- ---- what is taken for an argument, by its name in whichever subcommand has it

accepted : Text → Text → Bool
accepted id v = cond (bytes_eq id (codes "port")) (is_unsigned_in 0 (2 ^ 64 - 1) v)
    (cond (bytes_eq id (codes "from")) (is_unsigned_in 0 (2 ^ 64 - 1) v)
    (cond (bytes_eq id (codes "step")) (is_unsigned_in 0 longest_step v)
    (cond (bytes_eq id (codes "count")) (is_unsigned_in 1 most_instants v)
    (cond (bytes_eq id (codes "workers")) (is_unsigned_in 1 most_workers v)
    (cond (bytes_eq id (codes "connections")) (is_unsigned_in 1 most_connections v)
    (cond (bytes_eq id (codes "probe")) (is_unsigned_in 0 last_probe v)
    (cond (bytes_eq id (codes "idle")) (is_unsigned_in 1 longest_idle v)
    (cond (bytes_eq id (codes "since")) (is_unsigned_in 0 last_entry v)
    (cond (bytes_eq id (codes "diff")) (is_unsigned_in 1 last_entry v) true)))))))))

one : (a : Rule) → a.defaults ≡ [] → action_of a ≡ Set → ◌≡◌ {A = ValueRange} (unwrap_or_range a.range)
    (record { start_inclusive = 1; end_inclusive = 1 })
    → ((v : Text) → accepts a.ignore_case (parser_of_value a.parser) v ≡ true → accepted a.id v ≡ true) → RuleFits accepted a
one a none action range passes =
    (subst (DefaultsFit accepted a.id) (sym none) tt, inr (inl (record { action = action; range = range; passes = passes })))

text_given : (sub name : Text) (rows : List Row) → RowsFit accepted rows → is_given name rows ≡ true → HasText (Some (sub, rows)) name
text_given sub name rows fit given =
    let found = given_value accepted name rows fit given in
    (found.0, found.1)

number_given : (sub name : Text) (least most : ℕ) (rows : List Row)
    → ((v : Text) → accepted name v ≡ true → is_unsigned_in least most v ≡ true) → RowsFit accepted rows → is_given name rows ≡ true
    → HasNumber (Some (sub, rows)) name least most
number_given sub name least most rows passes fit given =
    let found = given_value accepted name rows fit given in
    (found.0, found.1, accepts-Accepts false (Unsigned least most) found.0 (passes found.0 found.2))

number_fits : (sub name : Text) (least most : ℕ) (rows : List Row)
    → ((v : Text) → accepted name v ≡ true → is_unsigned_in least most v ≡ true) → RowsFit accepted rows
    → MayHaveNumber (Some (sub, rows)) name least most
number_fits sub name least most rows passes fit v is =
    accepts-Accepts false (Unsigned least most) v (passes v (value_fits accepted name rows fit v is))

-- a rule fits, and those behind it do
both : {A B : Type 0} → A → B → A × B
both a b = (a, b)

-- the rows that a subcommand has fit, and none is missing that it wants
given_to : (s : Shape) → s.args_override_self ≡ false → RulesFit accepted s.rules → (words : List Text)
    → level_fault s [] nothing_held words false [] ≡ []
    → RowsFit accepted (rows_after s.rules [] words)
    × ((not (s.subcommand_negates_reqs && false)
    && list_any (λ (a : Rule). a.required && not (is_given a.id (rows_after s.rules [] words))) s.rules) ≡ false)
given_to s once all words none =
    let parts = level s [] words false [] none in
    (after_fit accepted s [] once all words parts.walks parts.settles, (checks s (rows_after s.rules [] words) false parts.checks).1)

-- ---- the commands as they are built

shape_at : ℕ → List Shape → Shape
shape_at k [] = new_shape []
shape_at zero (s ∷ shapes) = s
shape_at (suc k) (s ∷ shapes) = shape_at k shapes

built_at : ℕ → Shape
unfolding shape_at
built_at k = shape_at k (built program).subs

-- all is right with the words of a subcommand
abbrev AreTaken : ℕ → List Text → Type 0
AreTaken k words = level_fault (built_at k) [] nothing_held words false [] ≡ []

-- ---- `states`

states_fit : RulesFit accepted (built_at 1).rules
unfolding accepted shape_at built_at
states_fit =
    both (one _ refl refl refl (λ v e. refl)) (both (one _ refl refl refl (λ v e. e)) (both (one _ refl refl refl (λ v e. e))
    (both (one _ refl refl refl (λ v e. e)) (both (one _ refl refl refl (λ v e. e)) ((tt, inl refl), tt)))))

states_given : (words : List Text) → AreTaken 1 words → HasStates (Some (rows_at (built_at 1) words))
unfolding accepted shape_at built_at
states_given words none =
    let rows = rows_after (built_at 1).rules [] words in
    let given = given_to (built_at 1) refl states_fit words none in
    let each = all_given (is_given (codes "FILE") rows) (is_given (codes "port") rows) (is_given (codes "from") rows)
    (is_given (codes "step") rows) (is_given (codes "count") rows) given.1 in
    record {
      named = refl;
      file = text_given (codes "states") (codes "FILE") rows given.0 each.0;
      port = number_given (codes "states") (codes "port") 0 (2 ^ 64 - 1) rows (λ v e. e) given.0 each.1;
      from = number_given (codes "states") (codes "from") 0 (2 ^ 64 - 1) rows (λ v e. e) given.0 each.2;
      step = number_given (codes "states") (codes "step") 0 longest_step rows (λ v e. e) given.0 each.3;
      count = number_given (codes "states") (codes "count") 1 most_instants rows (λ v e. e) given.0 each.4;
    }

-- ---- `serve`

serve_fit : RulesFit accepted (built_at 2).rules
unfolding accepted shape_at built_at
serve_fit =
    both (one _ refl refl refl (λ v e. refl)) (both (one _ refl refl refl (λ v e. refl)) (both (one _ refl refl refl (λ v e. e))
    (both (one _ refl refl refl (λ v e. e)) (both (one _ refl refl refl (λ v e. e)) (both (one _ refl refl refl (λ v e. e))
    (both (one _ refl refl refl (λ v e. refl)) (both (one _ refl refl refl (λ v e. refl))
    (both ((refl, refl), inr (inr (record { action = refl; range = refl; missing = refl; passes = refl }))) ((tt, inl refl), tt)))))))))

serve_given : (words : List Text) → AreTaken 2 words → HasServe (Some (rows_at (built_at 2) words))
unfolding accepted shape_at built_at
serve_given words none =
    let given = given_to (built_at 2) refl serve_fit words none in
    record {
      workers = number_fits (codes "serve") (codes "workers") 1 most_workers _ (λ v e. e) given.0;
      connections = number_fits (codes "serve") (codes "connections") 1 most_connections _ (λ v e. e) given.0;
      probe = number_fits (codes "serve") (codes "probe") 0 last_probe _ (λ v e. e) given.0;
      idle = number_fits (codes "serve") (codes "idle") 1 longest_idle _ (λ v e. e) given.0;
      named = refl;
    }

-- ---- `journal`

journal_fit : RulesFit accepted (built_at 4).rules
unfolding accepted shape_at built_at
journal_fit =
    both (one _ refl refl refl (λ v e. refl)) (both (one _ refl refl refl (λ v e. e)) (both (one _ refl refl refl (λ v e. e))
    (both ((refl, refl), inr (inr (record { action = refl; range = refl; missing = refl; passes = refl })))
    (both (one _ refl refl refl (λ v e. refl))
    (both ((refl, refl), inr (inr (record { action = refl; range = refl; missing = refl; passes = refl }))) ((tt, inl refl), tt))))))

-- what one test does not miss is given
one_given : (a : Bool) → ((true && not a) || false) ≡ false → a ≡ true
one_given false h = (cc)
one_given true h = refl

journal_given : (words : List Text) → AreTaken 4 words → HasJournal (Some (rows_at (built_at 4) words))
unfolding accepted shape_at built_at
journal_given words none =
    let rows = rows_after (built_at 4).rules [] words in
    let given = given_to (built_at 4) refl journal_fit words none in
    record {
      file = text_given (codes "journal") (codes "JOURNAL") rows given.0 (one_given (is_given (codes "JOURNAL") rows) given.1);
      since = number_fits (codes "journal") (codes "since") 0 last_entry rows (λ v e. e) given.0;
      diff = number_fits (codes "journal") (codes "diff") 1 last_entry rows (λ v e. e) given.0;
      named = refl;
    }

-- ---- the program

by_stop : (stop : Option (Text × List Text)) → StopsWell stop → entered_fault (built program) stop ≡ []
    → is_some (entered (built program) stop) ≡ true → IsComplete (entered (built program) stop)
unfolding StopsWell IsNoHelp shape_at built_at
by_stop None well none some = (cc)
by_stop (Some p) well none some =
    go (bytes_eq (codes "script") p.0) (bytes_eq (codes "states") p.0) (bytes_eq (codes "serve") p.0) (bytes_eq (codes "check") p.0)
    (bytes_eq (codes "journal") p.0) (bytes_eq (codes "help") p.0) refl none some
  where
    no_help : bytes_eq (codes "help") p.0 ≡ true → ⊥
    no_help is =
        let same : codes "help" ≡ p.0 = (bytes_eq-Decides (codes "help") p.0).0 is in
        let never : bytes_eq (codes "help") (codes "help") ≡ false = subst (λ t. bytes_eq t (codes "help") ≡ false) (sym same) well in
        (cc)

    shape : Bool → Bool → Bool → Bool → Bool → Bool → Option Shape
    shape a b c d e f =
        cond (a || false) (Some (built_at 0)) (cond (b || false) (Some (built_at 1)) (cond (c || false) (Some (built_at 2))
        (cond (d || false) (Some (built_at 3)) (cond (e || false) (Some (built_at 4)) (cond (f || false) (Some (built_at 5)) None)))))

    go : (a b c d e f : Bool) → bytes_eq (codes "help") p.0 ≡ f
        → option_map_or (λ (s : Shape). level_fault s [] nothing_held p.1 false []) (shape a b c d e f) [] ≡ []
        → is_some (option_map (λ (s : Shape). rows_at s p.1) (shape a b c d e f)) ≡ true
        → IsComplete (option_map (λ (s : Shape). rows_at s p.1) (shape a b c d e f))
    go true b c d e f is none some = inl refl
    go false true c d e f is none some = inr (inl (states_given p.1 none))
    go false false true d e f is none some = inr (inr (inl (serve_given p.1 none)))
    go false false false true e f is none some = inr (inr (inr (inl refl)))
    go false false false false true f is none some = inr (inr (inr (inr (journal_given p.1 none))))
    go false false false false false true is none some = absurd (no_help is)
    go false false false false false false is none some = (cc)

pub complete : (words : List Text) → fault_of program words ≡ [] → IsComplete (subcommand_of program words)
unfolding StopsWell
complete words none =
    let app = built program in
    let args = argument_words program words in
    let stop = (walk app.top.rules (names_of app) nothing_held args).stopped in
    let parts = level app.top (names_of app) args (is_some (entered app stop)) (entered_fault app stop) none in
    let wanted = (checks app.top (rows_after app.top.rules (names_of app) args) (is_some (entered app stop)) parts.checks).0 in
    by_stop stop (walk_well app.top (names_of app) refl args (walk_from nothing_held) parts.walks tt) parts.deeper
    (entered_of (is_some (entered app stop)) wanted)
  where
    entered_of : (b : Bool) → (not b && true) ≡ false → b ≡ true
    entered_of true e = refl
    entered_of false e = (cc)
