-- In words that have no fault, an argument that takes one value has a value that its parser takes, and a flag has its own.
use Rattle.std.proofs.Common.{◌≡◌, ◌⊎◌, ◌∙◌, ◌&&◌, ◌||◌, ◌==◌, inl, inr, ℕ, Bool, cond, true, false, not, zero, suc, refl, sym, ap, subst, arith, codes, List, [], ◌∷◌, ◌++◌, length, drop, Option, Some, None, is_some, unwrap_or, eqb-true}
use Rattle.std.specs.Prelude.{⊤, encode_utf8, option_and_then, slice_get}
use Rattle.std.specs.List.{find, fold}
use Rattle.std.specs.Option.{option_map_or}
use Rattle.std.specs.Str.{bytes_eq, chars}
use Rattle.std.proofs.lemmas.Slice.Eq.{bytes_eq-Decides}
use Rattle.clap.specs.Lexer.{long_of, short_of}
use Rattle.clap.specs.Values.{is_request, refused_kind}
use Rattle.clap.specs.ValueTests.{accepts}
use Rattle.clap.specs.Facts.{explicit_source, parser_of_value, unwrap_or_range}
use Rattle.clap.specs.Kinds.{Kinds, or_else, range_kinds, value_kinds}
use Rattle.clap.specs.Walk.{Held, Names, Outcome, Row, Rule, Step, Text, Waiting, Walk, action_of, after_flag, after_step, arg_by_id, arg_by_index, arg_by_long, arg_by_short, at_row, attached_value, default_rows, bundle, bundle_met, bundle_step, done, first_of, flag_met, has_long, has_row, has_short, idle, is_pending, long_met, long_or_other, more_values, most_values, next, nothing_held, option, option_met, option_word, plain, plain_word, positional, positional_held, reacted, reading_by, refused, rows_after, settled, settled_rows, short_met, short_or_plain, subcommand, subcommand_met, subcommand_or_other, takes_several, takes_values, to_positional, trailing, used, used_as, used_by_id, value, values_or_missing, waits, walk, walk_from, walked, walked_from, with_default, with_values, without, word_met}
use Rattle.clap.specs.Faults.{action_fault, bundle_step_fault, flag_word_fault, flags_fault, long_fault, option_fault, other_fault, positional_fault, react_fault, repeat_fault, settle_fault, short_fault, step_fault, stray_fault, turn_fault, use_fault, values_fault, walk_fault, word_fault}
use Rattle.clap.specs.Simple.{Shape}
use Rattle.clap.specs.Takes.{is_given}
use Rattle.clap.specs.declared.error.kind.ErrorKind.TheVariants.{ArgumentConflict, InvalidValue, TooManyValues, WrongNumberOfValues}
use Rattle.clap.specs.declared.builder.action.ArgAction.{ArgAction}
use Rattle.clap.specs.declared.builder.action.ArgAction.TheVariants.{Set, Append, SetTrue, SetFalse, Count, Help, HelpShort, HelpLong, Version}
use Rattle.clap.specs.declared.builder.value_parser.Reading.{Reading}
use Rattle.clap.specs.declared.builder.range.ValueRange.{ValueRange}
use Rattle.clap.specs.declared.parser.matches.ValueSource.{ValueSource}
use Rattle.clap.specs.declared.parser.matches.ValueSource.TheVariants.{CommandLine, DefaultValue}

-- ---- lists of kinds

-- where no kind comes of two steps, none comes of either
pub no_kind : (a b : Kinds) → or_else a b ≡ [] → (a ≡ []) × (b ≡ [])
no_kind [] b e = (refl, e)
no_kind (k ∷ ks) b e = (cc)

-- ---- rules and rows

-- `accepted id v` says whether v is a value for the argument of this id
module _ (accepted : Text → Text → Bool) where
  -- the argument takes one value, once
  pub record IsOne (a : Rule) : Type 0 where
    pub action : action_of a ≡ Set
    pub range : ◌≡◌ {A = ValueRange} (unwrap_or_range a.range) (record { start_inclusive = 1; end_inclusive = 1 })
    pub passes : (v : Text) → accepts a.ignore_case (parser_of_value a.parser) v ≡ true → accepted a.id v ≡ true

  -- the argument takes no value, and then has `true`
  pub record IsFlag (a : Rule) : Type 0 where
    pub action : action_of a ≡ SetTrue
    pub range : ◌≡◌ {A = ValueRange} (unwrap_or_range a.range) (record { start_inclusive = 0; end_inclusive = 0 })
    pub missing : a.missing ≡ codes "true" ∷ []
    pub passes : accepted a.id (codes "true") ≡ true

  -- there is no default, or one value that would do
  abbrev pub DefaultsFit : Text → List Text → Type 0
  DefaultsFit id [] = ⊤
  DefaultsFit id (v ∷ vs) = (vs ≡ []) × (accepted id v ≡ true)

  -- it is one of these, or ends the parse
  abbrev pub RuleFits : Rule → Type 0
  RuleFits a = DefaultsFit a.id a.defaults × ((is_request (action_of a) ≡ true) ⊎ (IsOne a ⊎ IsFlag a))

  abbrev pub RulesFit : List Rule → Type 0
  RulesFit [] = ⊤
  RulesFit (a ∷ c) = RuleFits a × RulesFit c

  abbrev pub FoundFits : Option Rule → Type 0
  FoundFits None = ⊤
  FoundFits (Some a) = RuleFits a

  -- a row has one value, which its argument takes
  abbrev pub RowFits : Row → Type 0
  RowFits r = (v : Text) × (r.values ≡ v ∷ []) × (accepted r.id v ≡ true)

  abbrev pub RowsFit : List Row → Type 0
  RowsFit [] = ⊤
  RowsFit (r ∷ rs) = RowFits r × RowsFit rs

  find_fits : (p : Rule → Bool) (c : List Rule) → RulesFit c → FoundFits (find p c)
  find_fits p [] h = tt
  find_fits p (a ∷ c) h = go (p a) (find_fits p c h.1)
    where
      go : (b : Bool) → FoundFits (find p c) → FoundFits (cond b (Some a) (find p c))
      go true rest = h.0
      go false rest = rest

  rows_fit : (rs : List Row) (r : Row) → RowsFit rs → RowFits r → RowsFit (rs ++ r ∷ [])
  rows_fit [] r h one = (one, tt)
  rows_fit (x ∷ rs) r h one = (h.0, rows_fit rs r h.1 one)

  -- a change of the row of an id, where there is none
  no_row : (id : Text) (change : Row → List Row) (missing rows : List Row) → has_row id rows ≡ false
      → at_row id change missing rows ≡ rows ++ missing
  no_row id change missing [] e = refl
  no_row id change missing (r ∷ rs) e = go (bytes_eq r.id id) (no_row id change missing rs) e
    where
      go : (b : Bool) → (has_row id rs ≡ false → at_row id change missing rs ≡ rs ++ missing) → (b || has_row id rs) ≡ false
          → cond b (change r ++ rs) (r ∷ at_row id change missing rs) ≡ r ∷ (rs ++ missing)
      go true rest never = (cc)
      go false rest none = ap (λ xs. r ∷ xs) (rest none)

  nil_right : (rows : List Row) → rows ++ [] ≡ rows
  nil_right [] = refl
  nil_right (r ∷ rs) = ap (λ xs. r ∷ xs) (nil_right rs)

  -- one value, of an argument that had none
  new_fits : (id v : Text) (how : Reading) (from : ValueSource) (rows : List Row) → has_row id rows ≡ false → accepted id v ≡ true
      → RowsFit rows → RowsFit (with_values id how from (v ∷ []) rows)
  new_fits id v how from rows none takes h =
      let row : Row = record { id = id; values = v ∷ []; count = None; source = Some from; reading = how } in
      subst RowsFit (sym (no_row id (more_values from (v ∷ [])) (row ∷ []) rows none)) (rows_fit rows row h (v, refl, takes))

  put_fits : (id v : Text) (how : Reading) (rows : List Row) → has_row id rows ≡ false → accepted id v ≡ true → RowsFit rows
      → RowsFit (with_values id how CommandLine (v ∷ []) (without id rows))
  put_fits id v how rows none takes h =
      let kept : without id rows ≡ rows = no_row id (λ r. []) [] rows none ∙ nil_right rows in
      subst (λ now. RowsFit (with_values id how CommandLine (v ∷ []) now)) (sym kept) (new_fits id v how CommandLine rows none takes h)

  -- ---- one use

  no_request : (x : ArgAction) (again : Bool) (a : Rule) (values : List Text) (rows : List Row) → is_request x ≡ true
      → action_fault x again a values rows ≡ [] → ⊥
  no_request Set again a values rows r e = (cc)
  no_request Append again a values rows r e = (cc)
  no_request SetTrue again a values rows r e = (cc)
  no_request SetFalse again a values rows r e = (cc)
  no_request Count again a values rows r e = (cc)
  no_request Help again a values rows r e = (cc)
  no_request HelpShort again a values rows r e = (cc)
  no_request HelpLong again a values rows r e = (cc)
  no_request Version again a values rows r e = (cc)

  one_of : (n : ℕ) → range_kinds 1 1 n ≡ [] → 1 ≡ n
  one_of n e = go (n == 0) (1 == n) refl e
    where
      go : (a b : Bool) → (1 == n) ≡ b → cond a (InvalidValue ∷ []) (cond b [] (WrongNumberOfValues ∷ [])) ≡ [] → 1 ≡ n
      go true b is never = (cc)
      go false true is none = eqb-true 1 n is
      go false false is never = (cc)

  one_value : (vs : List Text) → 1 ≡ length vs → (v : Text) × (vs ≡ v ∷ [])
  one_value [] e = absurd (omega (arith, e))
  one_value (v ∷ []) e = (v, refl)
  one_value (v ∷ (w ∷ vs)) e = absurd (omega (arith, e))

  none_of : (n : ℕ) → range_kinds 0 0 n ≡ [] → 0 ≡ n
  none_of n e = go (0 == n) refl e
    where
      go : (b : Bool) → (0 == n) ≡ b → cond b [] (WrongNumberOfValues ∷ []) ≡ [] → 0 ≡ n
      go true is none = eqb-true 0 n is
      go false is never = (cc)

  no_value : (vs : List Text) → 0 ≡ length vs → vs ≡ []
  no_value [] e = refl
  no_value (v ∷ vs) e = absurd (omega (arith, e))

  taken : (a : Rule) (v : Text) → values_fault a (v ∷ []) ≡ [] → accepts a.ignore_case (parser_of_value a.parser) v ≡ true
  taken a v e =
      go (accepts a.ignore_case (parser_of_value a.parser) v) (no_kind (value_kinds a.ignore_case (parser_of_value a.parser) v) [] e).0
    where
      go : (b : Bool) → cond b [] (refused_kind (parser_of_value a.parser) ∷ []) ≡ [] → b ≡ true
      go true none = refl
      go false never = (cc)

  first_time : (id : Text) (rows : List Row) → repeat_fault false id rows ≡ [] → has_row id rows ≡ false
  first_time id rows e = go (has_row id rows) e
    where
      go : (b : Bool) → cond (b && true) (ArgumentConflict ∷ []) [] ≡ [] → b ≡ false
      go true never = (cc)
      go false none = refl

  -- no fault comes of how many values there are, of an earlier use, or of a value
  faultless : (x : ArgAction) (range : ValueRange) (a : Rule) (values : List Text) (rows : List Row) → action_of a ≡ x
      → unwrap_or_range a.range ≡ range → use_fault false a values rows ≡ []
      → (range_kinds range.start_inclusive range.end_inclusive (length values) ≡ [])
      × (action_fault x false a (values_or_missing a values) rows ≡ [])
  faultless x range a values rows acts in_range none =
      let steps = no_kind (range_kinds (unwrap_or_range a.range).start_inclusive (most_values a) (length values)) _ none in (
        ap (λ (r : ValueRange). range_kinds r.start_inclusive r.end_inclusive (length values)) (sym in_range) ∙ steps.0,
        ap (λ y. action_fault y false a (values_or_missing a values) rows) (sym acts) ∙ steps.1,
      )

  set_fits : (a : Rule) (values : List Text) (rows : List Row) → IsOne a → use_fault false a values rows ≡ [] → RowsFit rows
      → RowsFit (used a values rows)
  set_fits a values rows one none h =
      let steps = faultless Set _ a values rows one.action one.range none in
      let single = one_value values (one_of (length values) steps.0) in
      let v = single.0 in
      let sets = no_kind (repeat_fault false a.id rows) (values_fault a (values_or_missing a values)) steps.1 in
      let takes = one.passes v (taken a v (ap (λ vs. values_fault a (values_or_missing a vs)) (sym single.1) ∙ sets.1)) in
      let same : used a values rows ≡ with_values a.id (reading_by a) CommandLine (v ∷ []) (without a.id rows) =
      ap (λ vs. used a vs rows) single.1 ∙ ap (λ x. used_as x a.id (reading_by a) (v ∷ []) rows) one.action in
      subst RowsFit (sym same) (put_fits a.id v (reading_by a) rows (first_time a.id rows sets.0) takes h)

  flag_sets : (a : Rule) (values : List Text) (rows : List Row) → IsFlag a → use_fault false a values rows ≡ [] → RowsFit rows
      → RowsFit (used a values rows)
  flag_sets a values rows flag none h =
      let steps = faultless SetTrue _ a values rows flag.action flag.range none in
      let empty = no_value values (none_of (length values) steps.0) in
      let sets = no_kind (repeat_fault false a.id rows) (values_fault a (values_or_missing a values)) steps.1 in
      let same : used a values rows ≡ with_values a.id (reading_by a) CommandLine (codes "true" ∷ []) (without a.id rows) =
      ap (λ vs. used a vs rows) empty ∙ ap (λ x. used_as x a.id (reading_by a) a.missing rows) flag.action
      ∙ ap (λ vs. with_values a.id (reading_by a) CommandLine vs (without a.id rows)) flag.missing in
      subst RowsFit (sym same) (put_fits a.id (codes "true") (reading_by a) rows (first_time a.id rows sets.0) flag.passes h)

  used_fits : (a : Rule) (values : List Text) (rows : List Row) → RuleFits a → use_fault false a values rows ≡ [] → RowsFit rows
      → RowsFit (used a values rows)
  used_fits a values rows fits none h = elim fits.1 [
    | inl request ↦ absurd (no_request (action_of a) false a (values_or_missing a values) rows request
        (no_kind (range_kinds (unwrap_or_range a.range).start_inclusive (most_values a) (length values)) _ none).1)
    | inr (inl one) ↦ set_fits a values rows one none h
    | inr (inr flag) ↦ flag_sets a values rows flag none h
  ]

  -- ---- what is held

  module _ (c : List Rule) (all : RulesFit c) where
    settled_at : (o : Option (Text × List Text)) (rows : List Row)
        → option_map_or (λ p. option_map_or (λ a. use_fault false a p.1 rows) (arg_by_id c p.0) []) o [] ≡ [] → RowsFit rows
        → RowsFit (settled_rows c o rows)
    settled_at None rows none h = h
    settled_at (Some p) rows none h = go (arg_by_id c p.0) (find_fits (λ a. bytes_eq a.id p.0) c all) none
      where
        go : (o : Option Rule) → FoundFits o → option_map_or (λ a. use_fault false a p.1 rows) o [] ≡ [] → RowsFit (used_by_id o p.1 rows)
        go None fits none = h
        go (Some a) fits none = used_fits a p.1 rows fits none h

    settled_fits : (h : Held) → settle_fault c false h ≡ [] → RowsFit h.rows → RowsFit (settled c h).rows
    settled_fits h none fits = settled_at h.pending h.rows none fits

    reacted_fits : (a : Rule) (values : List Text) (h : Held) → RuleFits a → react_fault c false a values h ≡ [] → RowsFit h.rows
        → RowsFit (reacted c a values h).rows
    reacted_fits a values h fits none rows =
        let steps = no_kind (settle_fault c false h) (use_fault false a values (settled c h).rows) none in
        used_fits a values (settled c h).rows fits steps.1 (settled_fits h steps.0 rows)

    option_fits : (a : Rule) (v : Option Text) (h : Held) → RuleFits a → option_fault c false a v h ≡ [] → RowsFit h.rows
        → RowsFit (option_met c a v h).0.rows
    option_fits a (Some v) h fits none rows = reacted_fits a (v ∷ []) h fits none rows
    option_fits a None h fits none rows = settled_fits h none rows

    flag_fits : (a : Rule) (v : Option Text) (h : Held) → RuleFits a
        → cond (is_some v) (TooManyValues ∷ []) (react_fault c false a [] h) ≡ [] → RowsFit h.rows → RowsFit (flag_met c a v h).0.rows
    flag_fits a (Some v) h fits none rows = rows
    flag_fits a None h fits none rows = reacted_fits a [] h fits none rows

    long_fits : (o : Option Rule) (v : Option Text) (h : Held) → FoundFits o → long_fault c false o v h ≡ [] → RowsFit h.rows
        → RowsFit (long_met c o v h).0.rows
    long_fits None v h fits none rows = rows
    long_fits (Some a) v h fits none rows = go (takes_values a) none
      where
        go : (b : Bool) → cond b (option_fault c false a v h) (cond (is_some v) (TooManyValues ∷ []) (react_fault c false a [] h)) ≡ []
            → RowsFit (cond b (option_met c a v h) (flag_met c a v h)).0.rows
        go true none = option_fits a v h fits none rows
        go false none = flag_fits a v h fits none rows

    -- a bundle of short flags
    short_fits : (o : Option Rule) (rest : Text) (h : Held) (met : Held → Held × Outcome) (fault : Held → Kinds) → FoundFits o
        → ((h : Held) → fault h ≡ [] → RowsFit h.rows → RowsFit (met h).0.rows)
        → short_fault c false o rest h fault ≡ [] → RowsFit h.rows → RowsFit (short_met c o rest h met).0.rows
    short_fits None rest h met fault fits more none rows = rows
    short_fits (Some a) rest h met fault fits more none rows = go (takes_values a) none
      where
        go : (b : Bool) → cond b (option_fault c false a (attached_value rest) h)
            (or_else (react_fault c false a [] h) (fault (reacted c a [] h))) ≡ []
            → RowsFit (cond b (option_met c a (attached_value rest) h) (met (reacted c a [] h))).0.rows
        go true none = option_fits a (attached_value rest) h fits none rows
        go false none =
            let steps = no_kind (react_fault c false a [] h) (fault (reacted c a [] h)) none in
            more (reacted c a [] h) steps.1 (reacted_fits a [] h fits steps.0 rows)

    BundleFits : ℕ → Type 0
    BundleFits k = (flags : Text) (skip : ℕ) (so_far : Outcome) (h : Held) → flags_fault c false k flags skip h ≡ [] → RowsFit h.rows
        → RowsFit (bundle_met c k flags skip so_far h).0.rows

    flags_fit : (k : ℕ) → BundleFits k → (o : Option ℕ) (flags : Text) (skip : ℕ) (so_far : Outcome) (h : Held)
        → bundle_step_fault c false o flags skip h (flags_fault c false k) ≡ [] → RowsFit h.rows
        → RowsFit (bundle_step c o flags skip so_far h (bundle_met c k)).0.rows
    unfolding BundleFits
    flags_fit k shorter None flags skip so_far h none rows = rows
    flags_fit k shorter (Some x) flags zero so_far h none rows =
        let rest = drop (length (encode_utf8 x)) flags in
        short_fits (arg_by_short c x) rest h (bundle_met c k rest 0 done) (flags_fault c false k rest 0)
        (find_fits (λ a. not (is_some a.index) && has_short a x) c all) (shorter rest 0 done) none rows
    flags_fit k shorter (Some x) flags (suc skip) so_far h none rows = shorter (drop (length (encode_utf8 x)) flags) skip so_far h none rows

    bundle_fits : (k : ℕ) (flags : Text) (skip : ℕ) (so_far : Outcome) (h : Held) → flags_fault c false k flags skip h ≡ [] → RowsFit h.rows
        → RowsFit (bundle_met c k flags skip so_far h).0.rows
    unfolding BundleFits flags_fault bundle_met
    bundle_fits zero flags skip so_far h none rows = rows
    bundle_fits (suc k) flags skip so_far h none rows =
        flags_fit k (bundle_fits k) (slice_get (chars flags) 0) flags skip so_far h none rows

    -- ---- a word

    plain_fits : (waiting : Waiting) (word : Text) (h : Held) → RowsFit h.rows → RowsFit (plain_word c waiting word h).0.rows
    plain_fits idle word h rows = rows
    plain_fits positional word h rows = rows
    plain_fits (option id) word h rows = go (arg_by_id c id)
      where
        go : (o : Option Rule) → RowsFit (option_word o id word h).0.rows
        go None = rows
        go (Some a) = rows

    after_fits : (waiting : Waiting) (word : Text) (h : Held) (came : Outcome) → RowsFit h.rows
        → RowsFit (after_flag c waiting word h came).0.rows
    after_fits waiting word h done rows = rows
    after_fits waiting word h (waits id) rows = rows
    after_fits waiting word h plain rows = plain_fits waiting word h rows
    after_fits waiting word h refused rows = plain_fits waiting word h rows

    short_word_fits : (waiting : Waiting) (word : Text) (o : Option Text) (h : Held)
        → option_map_or (λ flags. flags_fault c false (length flags) flags h.skip (record h { skip = 0 })) o [] ≡ [] → RowsFit h.rows
        → RowsFit (short_or_plain c waiting word o h).0.rows
    short_word_fits waiting word None h none rows = plain_fits waiting word h rows
    short_word_fits waiting word (Some flags) h none rows =
        after_fits waiting word _ (bundle c flags h).1 (bundle_fits (length flags) flags h.skip plain (record h { skip = 0 }) none rows)

    flag_word_fits : (waiting : Waiting) (word : Text) (o : Option (Text × Option Text)) (h : Held) → flag_word_fault c false o word h ≡ []
        → RowsFit h.rows → RowsFit (long_or_other c waiting word o h).0.rows
    flag_word_fits waiting word None h none rows = short_word_fits waiting word (short_of word) h none rows
    flag_word_fits waiting word (Some p) h none rows =
        after_fits waiting word _ (long_met c (arg_by_long c p.0) p.1 h).1
        (long_fits (arg_by_long c p.0) p.1 h (find_fits (λ a. not (is_some a.index) && has_long a p.0) c all) none rows)

  -- ---- the walk

  module _ (s : Shape) (names : Names) (once : s.args_override_self ≡ false) (all : RulesFit s.rules) where
    met_fits : (is_trailing : Bool) (waiting : Waiting) (position : ℕ) (word : Text) (h : Held)
        → word_fault s names is_trailing waiting word h ≡ [] → RowsFit h.rows
        → RowsFit (word_met s.rules names is_trailing waiting position word h).0.rows
    met_fits true waiting position word h none rows = rows
    met_fits false waiting position word h none rows = go (subcommand_met names waiting word) none
      where
        other : (b : Bool) → cond b [] (flag_word_fault s.rules s.args_override_self (long_of word) word h) ≡ []
            → RowsFit (cond b (h, trailing position) (long_or_other s.rules waiting word (long_of word) h)).0.rows
        other true none = rows
        other false none = flag_word_fits s.rules all waiting word (long_of word) h
            (ap (λ again. flag_word_fault s.rules again (long_of word) word h) (sym once) ∙ none) rows

        go : (o : Option Text) → other_fault s o word h ≡ [] → RowsFit (subcommand_or_other s.rules o waiting position word h).0.rows
        go (Some name) none = rows
        go None none = other (bytes_eq word (45 ∷ 45 ∷ [])) none

    placed_fits : (a : Rule) (word : Text) (h : Held) → positional_fault s.rules s.args_override_self a h ≡ [] → RowsFit h.rows
        → RowsFit (positional_held s.rules a word h).rows
    placed_fits a word h none rows = go (is_pending a h.pending && takes_several a) none
      where
        go : (b : Bool) → cond b [] (settle_fault s.rules s.args_override_self h) ≡ [] → RowsFit (cond b h (settled s.rules h)).rows
        go true none = rows
        go false none = settled_fits s.rules all h (ap (λ again. settle_fault s.rules again h) (sym once) ∙ none) rows

    step_fits : (word : Text) (w : Walk) (h : Held) (step : Step) → step_fault s w.position h step ≡ [] → RowsFit h.rows
        → RowsFit (after_step s.rules word w h step).held.rows
    step_fits word w h (next waiting) none rows = rows
    step_fits word w h (trailing position) none rows = rows
    step_fits word w h (subcommand name) none rows = rows
    step_fits word w h value none rows = go (arg_by_index s.rules w.position) none
      where
        go : (o : Option Rule) → option_map_or (λ a. positional_fault s.rules s.args_override_self a h) o (stray_fault s) ≡ []
            → RowsFit (to_positional s.rules o word w h).held.rows
        go None none = rows
        go (Some a) none = placed_fits a word h none rows

    turned : (o : Option (Text × List Text)) (w : Walk) (word : Text) (met : Held × Step)
        → met ≡ word_met s.rules names w.is_trailing w.waiting w.position word w.held
        → cond (is_some o) [] (or_else (word_fault s names w.is_trailing w.waiting word w.held) (step_fault s w.position met.0 met.1)) ≡ []
        → RowsFit w.held.rows
        → RowsFit (walked_from s.rules names o w word).held.rows
    turned (Some p) w word met is none rows = rows
    turned None w word met is none rows =
        let steps = no_kind (word_fault s names w.is_trailing w.waiting word w.held) _ none in
        let held = subst (λ (m : Held × Step). RowsFit m.0.rows) (sym is)
        (met_fits w.is_trailing w.waiting w.position word w.held steps.0 rows) in
        subst (λ (m : Held × Step). RowsFit (after_step s.rules word w m.0 m.1).held.rows) is (step_fits word w met.0 met.1 steps.1 held)

    turn_fits : (w : Walk) (word : Text) → turn_fault s names w word ≡ [] → RowsFit w.held.rows
        → RowsFit (walked s.rules names w word).held.rows
    unfolding walked
    turn_fits w word none rows =
        turned w.stopped w word (word_met s.rules names w.is_trailing w.waiting w.position word w.held) refl none rows

    pub walk_fits : (words : List Text) (w : Walk) → walk_fault s names w words ≡ [] → RowsFit w.held.rows
        → RowsFit (fold (walked s.rules names) w words).held.rows
    unfolding walk_fault
    walk_fits [] w none rows = rows
    walk_fits (word ∷ rest) w none rows =
        let steps = no_kind (turn_fault s names w word) (walk_fault s names (walked s.rules names w word) rest) none in
        walk_fits rest (walked s.rules names w word) steps.1 (turn_fits w word steps.0 rows)

    -- what was not used has its default, if it has one
    defaulted : (c : List Rule) (rows : List Row) → RulesFit c → RowsFit rows → RowsFit (fold with_default rows c)
    defaulted [] rows all h = h
    defaulted (a ∷ c) rows all h = defaulted c (with_default rows a) all.1 (go (has_row a.id rows) refl a.defaults all.0.0)
      where
        go : (b : Bool) → has_row a.id rows ≡ b → (ds : List Text) → DefaultsFit a.id ds
            → RowsFit (cond b rows (default_rows a.id (reading_by a) ds rows))
        go true is ds fits = h
        go false is [] fits = h
        go false is (v ∷ vs) fits = subst (λ rest. RowsFit (with_values a.id (reading_by a) DefaultValue (v ∷ rest) rows)) (sym fits.0)
            (new_fits a.id v (reading_by a) DefaultValue rows is fits.1 h)

    pub after_fit : (words : List Text) → walk_fault s names (walk_from nothing_held) words ≡ []
        → settle_fault s.rules s.args_override_self (walk s.rules names nothing_held words).held ≡ []
        → RowsFit (rows_after s.rules names words)
    after_fit words none last =
        let end = (walk s.rules names nothing_held words).held in
        defaulted s.rules (settled s.rules end).rows all
        (settled_fits s.rules all end (ap (λ again. settle_fault s.rules again end) (sym once) ∙ last)
        (walk_fits words (walk_from nothing_held) none tt))

  -- ---- what is given

  -- an argument that was given has a value, which it takes
  pub given_value : (id : Text) (rows : List Row) → RowsFit rows → is_given id rows ≡ true
      → (v : Text) × (first_of id rows ≡ Some v) × (accepted id v ≡ true)
  given_value id [] h given = (cc)
  given_value id (r ∷ rs) h given = go (bytes_eq r.id id) (given_value id rs h.1) refl given
    where
      go : (b : Bool) → (is_given id rs ≡ true → (v : Text) × (first_of id rs ≡ Some v) × (accepted id v ≡ true)) → bytes_eq r.id id ≡ b
          → option_map_or (λ (x : Row). explicit_source x.source) (cond b (Some r) (find (λ x. bytes_eq x.id id) rs)) false ≡ true
          → (v : Text) × (option_and_then (λ (x : Row). slice_get x.values 0) (cond b (Some r) (find (λ x. bytes_eq x.id id) rs)) ≡ Some v)
          × (accepted id v ≡ true)
      go true rest is given =
          (h.0.0, ap (λ vs. slice_get vs 0) h.0.1, subst (λ t. accepted t h.0.0 ≡ true) ((bytes_eq-Decides r.id id).0 is) h.0.2)
      go false rest is given = rest given

  -- what is there for an argument is a value that it takes
  pub value_fits : (id : Text) (rows : List Row) → RowsFit rows → (v : Text) → first_of id rows ≡ Some v → accepted id v ≡ true
  value_fits id [] h v is = (cc)
  value_fits id (r ∷ rs) h v is = go (bytes_eq r.id id) (value_fits id rs h.1 v) refl is
    where
      value : (w : Text) → Some w ≡ Some v → w ≡ v
      value w e = ap (λ x. unwrap_or x w) e

      go : (b : Bool) → (first_of id rs ≡ Some v → accepted id v ≡ true) → bytes_eq r.id id ≡ b
          → option_and_then (λ (x : Row). slice_get x.values 0) (cond b (Some r) (find (λ x. bytes_eq x.id id) rs)) ≡ Some v → accepted id v
          ≡ true
      go true rest is has =
          let same : h.0.0 ≡ v = value h.0.0 (ap (λ vs. slice_get vs 0) (sym h.0.1) ∙ has) in
          subst (λ t. accepted id t ≡ true) same (subst (λ t. accepted t h.0.0 ≡ true) ((bytes_eq-Decides r.id id).0 is) h.0.2)
      go false rest is has = rest has
