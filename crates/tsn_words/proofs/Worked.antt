-- The words of worked command lines.
use Rattle.std.proofs.Common.{◌⊎◌, ◌↔◌, Bool, true, false, not, ◌&&◌, sym, ◌≡◌, ℕ, List, [], ◌∷◌, codes, refl, ap, ap₂, subst, ◌∙◌, inl, inr, Option, Some, None, Result, Ok, Err, IfErr, IfOk, MatchResult, arith, is_ok, is_some, map, option_map, unwrap_or, ◌+◌, ◌≤◌}
use Rattle.std.specs.Prelude.{IsOk, IsSome, ⊤}
use Rattle.std.specs.Bool.{MatchBool}
use Rattle.std.specs.Borrow.{Bor}
use Rattle.std.proofs.lemmas.Result.{IfOk-weaker}
use Rattle.std.specs.Result.{result_unwrap_or}
use Rattle.std.specs.Str.Parse.{ParsesUnsigned}
use Rattle.clap.specs.declared.error.Error.{Error}
use Rattle.clap.specs.declared.error.kind.ErrorKind.TheVariants.{DisplayHelp, MissingSubcommand, OutOfMemory, ValueValidation}
use Rattle.clap.specs.Simple.{has_plain_fields, subcommand_of}
use Rattle.clap.specs.declared.builder.command.Command.{Command}
use Rattle.clap.specs.declared.builder.command.Command.TheViews.{out-Command}
use Rattle.clap.specs.Kinds.{FailsBy, IsAmong}
use Rattle.clap.specs.Values.{kind_of}
use Rattle.std.specs.Str.{bytes_eq}
use Rattle.std.proofs.lemmas.Slice.Eq.{bytes_eq-Decides}
use Rattle.clap.specs.Faults.{fault_of, is_simple_and_free}
use Rattle.clap.specs.Walk.{Row}
use Rattle.clap.specs.Words.{first_value, rows_of}
use Rattle.clap.specs.declared.parser.matches.Found.{Found}
use Rattle.clap.proofs.WalkLemmas.{first_value-rows}
use Rattle.clap.proofs.OnLiterals.{clap_on_literals}
use Rattle.tsn_words.specs.Asking.{AsksFor, Given, GivesCheck, GivesKept, GivesNoCheck, GivesTooMuch, GivesWrongSyncs, HasJournal, HasServe, HasStates, IsComplete, IsFlagged, IsNumber, IsRefusal, IsWork, KeepsOrRefuses, Misgives, Names, TellsSomething, bit, has_text, is_flagged, looks, number_of, program, text_given}
use Rattle.tsn_words.specs.declared.kept.Kept.{Kept}
use Rattle.tsn_words.specs.declared.arguments.Asked.{Asked}
use Rattle.tsn_words.specs.declared.arguments.Asked.TheVariants.{Shown, Refused}

-- what a parse finds wrong is computed for this program
pub simple : is_simple_and_free program ≡ true
unfolding clap_on_literals
simple = refl

-- what two tests pass, each passes
pub both_are : (a b : Bool) → (a && b) ≡ true → (a ≡ true) × (b ≡ true)
both_are true true e = (refl, refl)
both_are true false e = (cc)
both_are false b e = (cc)

-- whatever the program's name, `script` alone has no fault
pub script : (name : List ℕ) → fault_of program (name ∷ codes "script" ∷ []) ≡ []
unfolding clap_on_literals
script name = refl

-- so a parse of that fails only for want of memory
pub script_parsed : {T : Type 0} (r : Result T Error) (words : List (List ℕ)) → FailsBy (fault_of program words) r → (name : List ℕ)
    → words ≡ name ∷ codes "script" ∷ [] → IfErr r (λ e. kind_of e ≡ OutOfMemory)
script_parsed (Ok x) words fails name is = tt
script_parsed (Err e) words fails name is =
    elim fails [
      | inl memory ↦ memory
      | inr among ↦ absurd (subst (IsAmong (kind_of e)) (ap (fault_of program) is ∙ script name) among)
    ]

-- `--help` shows help, and no word at all is a subcommand that is missing
help : (name : List ℕ) → fault_of program (name ∷ codes "--help" ∷ []) ≡ DisplayHelp ∷ []
unfolding clap_on_literals
help name = refl

nothing : (name : List ℕ) → fault_of program (name ∷ []) ≡ MissingSubcommand ∷ []
unfolding clap_on_literals
nothing name = refl

-- a port's states, with the numbers in another order than the options have, and an option's value in its word
abbrev listed : List ℕ → List (List ℕ)
listed name = name ∷ codes "states" ∷ codes "--step" ∷ codes "400" ∷ codes "cell.toml" ∷ codes "--port=1" ∷ codes "--from" ∷ codes "2500"
    ∷ codes "--count" ∷ codes "+3" ∷ []

listed_faultless : (name : List ℕ) → fault_of program (listed name) ≡ []
unfolding clap_on_literals
listed_faultless name = refl

listed_given : (name : List ℕ) → map (text_given (subcommand_of program (listed name)))
    (codes "FILE" ∷ codes "port" ∷ codes "from" ∷ codes "step" ∷ codes "count" ∷ [])
    ≡ Some (codes "cell.toml") ∷ Some (codes "1") ∷ Some (codes "2500") ∷ Some (codes "400") ∷ Some (codes "+3") ∷ []
unfolding clap_on_literals
listed_given name = refl

listed_count : number_of (codes "+3") ≡ 3
listed_count = refl

-- a server, with an address that has no meaning yet, and its numbers at the ends of their ranges
abbrev served : List ℕ → List (List ℕ)
served name = name ∷ codes "serve" ∷ codes "--probe=4611686018427387904" ∷ codes "--listen" ∷ codes "anywhere" ∷ codes "--workers"
    ∷ codes "1000" ∷ codes "cell.toml" ∷ codes "--connections" ∷ codes "65535" ∷ []

served_faultless : (name : List ℕ) → fault_of program (served name) ≡ []
unfolding clap_on_literals
served_faultless name = refl

served_given : (name : List ℕ) → map (text_given (subcommand_of program (served name)))
    (codes "FILE" ∷ codes "listen" ∷ codes "workers" ∷ codes "connections" ∷ codes "probe" ∷ [])
    ≡ Some (codes "cell.toml") ∷ Some (codes "anywhere") ∷ Some (codes "1000") ∷ Some (codes "65535") ∷ Some (codes "4611686018427387904")
    ∷ []
unfolding clap_on_literals
served_given name = refl

-- a server with a journal that is not synced, whose setup's file is left out
served_kept : (name : List ℕ) → map
    (text_given (subcommand_of program
    (name ∷ codes "serve" ∷ codes "--listen" ∷ codes "l" ∷ codes "--workers" ∷ codes "1" ∷ codes "--connections" ∷ codes "2"
    ∷ codes "--probe" ∷ codes "0" ∷ codes "--journal=j" ∷ codes "--sync=none" ∷ []))) (codes "FILE" ∷ codes "journal" ∷ codes "sync" ∷ [])
    ≡ None ∷ Some (codes "j") ∷ Some (codes "none") ∷ []
unfolding clap_on_literals
served_kept name = refl

-- a server whose connections may be idle for a day, and are told of
served_loudly : (name : List ℕ)
    → map (text_given (subcommand_of program (name ∷ codes "serve" ∷ codes "--log" ∷ codes "--idle" ∷ codes "86400" ∷ [])))
    (codes "idle" ∷ codes "log" ∷ [])
    ≡ Some (codes "86400") ∷ Some (codes "true") ∷ []
unfolding clap_on_literals
served_loudly name = refl

-- a connection can't be idle for no time
served_hastily : (name : List ℕ) → fault_of program (name ∷ codes "serve" ∷ codes "--idle=0" ∷ []) ≡ ValueValidation ∷ []
unfolding clap_on_literals
served_hastily name = refl

-- a server of which nothing is said
served_plainly : (name : List ℕ) → fault_of program (name ∷ codes "serve" ∷ []) ≡ []
unfolding clap_on_literals
served_plainly name = refl

-- one worker more than there may be is no number of them
crowded : (name : List ℕ) → fault_of program
    (name ∷ codes "serve" ∷ codes "cell.toml" ∷ codes "--listen" ∷ codes "anywhere" ∷ codes "--workers" ∷ codes "1001"
    ∷ codes "--connections" ∷ codes "1" ∷ codes "--probe" ∷ codes "0" ∷ []) ≡ ValueValidation ∷ []
unfolding clap_on_literals
crowded name = refl

-- a look at a setup
checked_faultless : (name : List ℕ) → fault_of program (name ∷ codes "check" ∷ codes "cell.toml" ∷ []) ≡ []
unfolding clap_on_literals
checked_faultless name = refl

-- or at command lines
lines_looked_at : (name : List ℕ)
    → map (text_given (subcommand_of program (name ∷ codes "check" ∷ codes "--lines" ∷ []))) (codes "FILE" ∷ codes "lines" ∷ []) ≡ None
    ∷ Some (codes "true") ∷ []
unfolding clap_on_literals
lines_looked_at name = refl

-- a script with a journal, whose setup's file is left out
kept : (name : List ℕ) → map (text_given (subcommand_of program (name ∷ codes "script" ∷ codes "--journal" ∷ codes "j" ∷ [])))
    (codes "FILE" ∷ codes "journal" ∷ codes "sync" ∷ [])
    ≡ None ∷ Some (codes "j") ∷ None ∷ []
unfolding clap_on_literals
kept name = refl

-- a look at a journal, by each of the options and by none
abbrev looked_at : List ℕ → List (List ℕ) → List (Option (List ℕ))
looked_at name options = map (text_given (subcommand_of program (name ∷ codes "journal" ∷ codes "j" ∷ options)))
    (codes "JOURNAL" ∷ codes "since" ∷ codes "diff" ∷ codes "setup" ∷ codes "begin" ∷ codes "mend" ∷ [])

whole : (name : List ℕ) → looked_at name [] ≡ Some (codes "j") ∷ None ∷ None ∷ Some (codes "false") ∷ None ∷ Some (codes "false") ∷ []
unfolding clap_on_literals
whole name = refl

since : (name : List ℕ) → looked_at name (codes "--since=0" ∷ []) ≡ Some (codes "j") ∷ Some (codes "0") ∷ None ∷ Some (codes "false") ∷ None
    ∷ Some (codes "false") ∷ []
unfolding clap_on_literals
since name = refl

diff : (name : List ℕ) → looked_at name (codes "--diff" ∷ codes "4294967295" ∷ []) ≡ Some (codes "j") ∷ None ∷ Some (codes "4294967295")
    ∷ Some (codes "false") ∷ None ∷ Some (codes "false") ∷ []
unfolding clap_on_literals
diff name = refl

mended : (name : List ℕ) → looked_at name (codes "--mend" ∷ []) ≡ Some (codes "j") ∷ None ∷ None ∷ Some (codes "false") ∷ None
    ∷ Some (codes "true") ∷ []
unfolding clap_on_literals
mended name = refl

exported : (name : List ℕ) → looked_at name (codes "--setup" ∷ []) ≡ Some (codes "j") ∷ None ∷ None ∷ Some (codes "true") ∷ None
    ∷ Some (codes "false") ∷ []
unfolding clap_on_literals
exported name = refl

begun : (name : List ℕ) → looked_at name (codes "--begin=n" ∷ []) ≡ Some (codes "j") ∷ None ∷ None ∷ Some (codes "false") ∷ Some (codes "n")
    ∷ Some (codes "false") ∷ []
unfolding clap_on_literals
begun name = refl

-- entries are counted from 1, to 2^32 - 1
no_entry : (name : List ℕ) → fault_of program (name ∷ codes "journal" ∷ codes "j" ∷ codes "--diff" ∷ codes "0" ∷ []) ≡ ValueValidation ∷ []
unfolding clap_on_literals
no_entry name = refl

late_entry : (name : List ℕ) → fault_of program (name ∷ codes "journal" ∷ codes "j" ∷ codes "--since" ∷ codes "4294967296" ∷ [])
    ≡ ValueValidation ∷ []
unfolding clap_on_literals
late_entry name = refl

-- `script` alone names `script`
script_named : (name : List ℕ) → subcommand_of program (name ∷ codes "script" ∷ []) ≡ Some (codes "script", [])
unfolding clap_on_literals
script_named name = refl

-- a command whose shape is plain has no global argument
third_is_false : (a b g rest : Bool) → (a && (b && (not g && rest))) ≡ true → g ≡ false
third_is_false true true false rest e = refl
third_is_false true true true rest e = sym e
third_is_false true false true rest e = sym e
third_is_false true false false rest e = refl
third_is_false false b true rest e = sym e
third_is_false false b false rest e = refl

pub local_by_shape : (c : Command) → has_plain_fields (out-Command c) ≡ true → (out-Command c).has_globals ≡ false
local_by_shape c plain = third_is_false _ _ _ _ plain

-- ---- what is read of a subcommand

-- a text that is there is some reference to it
pub some_text : (o : Option (Bor (List ℕ))) (text : List ℕ) → option_map (λ s. s.now) o ≡ Some text → IsSome o
some_text None text e = (cc)
some_text (Some s) text e = refl

pub same_text : (o : Option (Bor (List ℕ))) (s : Bor (List ℕ)) (text : List ℕ) → o ≡ Some s → option_map (λ s. s.now) o ≡ Some text
    → s.now ≡ text
same_text o s text is e =
    let both : Some s.now ≡ Some text = sym (ap (option_map (λ (x : Bor (List ℕ)). x.now)) is) ∙ e in
    ap (λ x. unwrap_or x text) both

-- whether the text that is there is `true`
pub flag_read : (text : List ℕ) (b : Bool) {got : Option (List ℕ)} → got ≡ Some text → b ≡ bytes_eq text (codes "true")
    → (b ≡ true) ↔ (got ≡ Some (codes "true"))
flag_read text b has is = (
  λ yes. has ∙ ap Some ((bytes_eq-Decides text (codes "true")).0 (sym is ∙ yes)),
  λ e. is ∙ (bytes_eq-Decides text (codes "true")).1 (ap (λ x. unwrap_or x text) (sym has ∙ e)),
)

-- a number's text is read as that number
pub is_read : {E : Type 0} (text : List ℕ) (r : Result ℕ E) → ParsesUnsigned 64 10 text r → IsNumber text → IsOk r
is_read text (Ok n) h number = refl
is_read text (Err e) h number = absurd (h number)

pub read_number : {E : Type 0} (text : List ℕ) (r : Result ℕ E) (n : ℕ) → ParsesUnsigned 64 10 text r → r ≡ Ok n → n ≡ number_of text
read_number text (Ok m) n h is = sym (ap (λ x. result_unwrap_or x m) is) ∙ h.1
read_number text (Err e) n h is = (cc)

-- ---- which subcommand is met

-- it is the one of this name, with these rows
named_rows : {B : Type 0} (f : B → List ℕ × List Row) (o : Option B) (name : List ℕ) (rows : List Row)
    → Some name ≡ option_map (λ b. (f b).0) o → Some rows ≡ option_map (λ p. p.1) (option_map f o) → option_map f o ≡ Some (name, rows)
named_rows f None name rows is has = (cc)
named_rows f (Some b) name rows is has =
    ap₂ (λ n r. Some (n, r)) (sym (ap (λ x. unwrap_or x name) is)) (sym (ap (λ x. unwrap_or x rows) has))

-- one name is no other
never_named : (name other : List ℕ) → bytes_eq name other ≡ false → bytes_eq name name ≡ true → Some name ≡ Some other → ⊥
never_named name other differs same is =
    let equal : name ≡ other = ap (λ x. unwrap_or x other) is in
    let never : bytes_eq name name ≡ false = subst (λ t. bytes_eq name t ≡ false) (sym equal) differs in
    let both : true ≡ false = sym same ∙ never in
    (cc)

is_named : (name other : List ℕ) → Some name ≡ Some other → other ≡ name
is_named name other named = ap (λ x. unwrap_or x name) (sym named)

-- what the subcommand of this name wants is given to it
abbrev Wanted : List ℕ → Given → Type 0
Wanted name given = MatchBool (bytes_eq name (codes "states")) (HasStates given)
    (MatchBool (bytes_eq name (codes "serve")) (HasServe given) (MatchBool (bytes_eq name (codes "journal")) (HasJournal given) ⊤))

given_wanted : (name : List ℕ) (rows : List Row) → IsComplete (Some (name, rows)) → Wanted name (Some (name, rows))
given_wanted name rows (inl named) = subst (λ n. Wanted n (Some (n, rows))) (is_named name (codes "script") named) tt
given_wanted name rows (inr (inl has)) =
    subst (λ n. HasStates (Some (n, rows)) → Wanted n (Some (n, rows))) (is_named name (codes "states") has.named) (λ h. h) has
given_wanted name rows (inr (inr (inl has))) =
    subst (λ n. HasServe (Some (n, rows)) → Wanted n (Some (n, rows))) (is_named name (codes "serve") has.named) (λ h. h) has
given_wanted name rows (inr (inr (inr (inl named)))) = subst (λ n. Wanted n (Some (n, rows))) (is_named name (codes "check") named) tt
given_wanted name rows (inr (inr (inr (inr has)))) =
    subst (λ n. HasJournal (Some (n, rows)) → Wanted n (Some (n, rows))) (is_named name (codes "journal") has.named) (λ h. h) has

-- what is met wants so, where all is complete
pub wanted_by : {B : Type 0} (f : B → List ℕ × List Row) (o : Option B) (met name : List ℕ) (rows : List Row)
    → Some met ≡ option_map (λ b. (f b).0) o → Some rows ≡ option_map (λ p. p.1) (option_map f o) → bytes_eq met name ≡ true
    → IsComplete (option_map f o) → Wanted name (Some (name, rows))
wanted_by f o met name rows is has same complete =
    let named = named_rows f o met rows is has ∙ ap (λ n. Some (n, rows)) ((bytes_eq-Decides met name).0 same) in
    given_wanted name rows (subst IsComplete named complete)

-- where no word on syncs is given, none is wrong
no_syncs : (journal syncs : Option (List ℕ)) → syncs ≡ None → Misgives journal syncs → ⊥
no_syncs journal syncs none (inl other) =
    let bad : Some other.0 ≡ None = sym other.1 ∙ none in
    (cc)
no_syncs journal syncs none (inr alone) =
    let bad : Some (codes "none") ≡ None = sym alone.1 ∙ none in
    (cc)

-- a check that may not be given so names `check`
check_named : (given : Given) → GivesNoCheck given → Names given (codes "check")
check_named given (inl neither) = neither.named
check_named given (inr both) = both.1.named

-- `script` alone asks for no look at a journal and says no word on syncs, so what it asks for is done
pub script_works : (name : List ℕ) (words : List (List ℕ)) (given : Given) (asked : Asked) → given ≡ subcommand_of program words
    → words ≡ name ∷ codes "script" ∷ [] → AsksFor given asked → IsWork asked
script_works name words given (Shown text) is same asks = asks
script_works name words given (Refused text) is same asks =
    let named : given ≡ Some (codes "script", []) = is ∙ ap (subcommand_of program) same ∙ script_named name in
    elim asks [
      | inl much ↦ absurd (never_named (codes "script") (codes "journal") refl refl
          (sym (ap (option_map (λ (p : List ℕ × List Row). p.0)) named) ∙ much.named))
      | inr (inl wrong) ↦ absurd (no_syncs (text_given given (codes "journal")) (text_given given (codes "sync"))
          (ap (λ (g : Given). text_given g (codes "sync")) named) wrong.wrong)
      | inr (inr wrong) ↦ absurd (never_named (codes "script") (codes "check") refl refl
          (sym (ap (option_map (λ (p : List ℕ × List Row). p.0)) named) ∙ check_named given wrong))
    ]
script_works name words given asked is same asks = tt

-- what is said of the words that are there
pub some_same : {X Y : Type 0} (f : X → Y) (o : Option X) (x : X) (y : Y) → o ≡ Some x → option_map f o ≡ Some y → f x ≡ y
some_same f o x y is e = ap (λ z. unwrap_or z (f x)) (sym (ap (option_map f) is) ∙ e)

-- an `Err` that is told otherwise leaves the `Ok` as it was
pub mapped : {X E D : Type 0} (r : Result X E) (m : Result X D) (P : X → Type 0) (Q : E → Type 0) → MatchResult r (λ x. m ≡ Ok x) Q
    → is_ok m ≡ is_ok r → IfOk r P → IfOk m P
mapped (Ok x) m P Q cases same p = subst (λ s. IfOk s P) (sym cases) p
mapped (Err e) (Ok y) P Q cases same p = (cc)
mapped (Err e) (Err d) P Q cases same p = tt

-- the text that is read is that of the rows
pub given_in_rows : (name : List ℕ) (found : Found) (key : List ℕ) (text : Option (List ℕ)) → first_value found key ≡ text
    → text_given (Some (name, rows_of found)) key ≡ text
given_in_rows name found key text is = sym (first_value-rows found key) ∙ is

-- what is read of a journal is what the rows have
module _ (name : List ℕ) (found : Found) where
  abbrev given : Given
  given = Some (name, rows_of found)

  pub in_rows : (P : Option (List ℕ) → Option (List ℕ) → Type 0)
      → P (first_value found (codes "journal")) (first_value found (codes "sync"))
      → P (text_given given (codes "journal")) (text_given given (codes "sync"))
  in_rows P holds =
      subst (λ j. P j (text_given given (codes "sync"))) (first_value-rows found (codes "journal"))
      (subst (λ s. P (first_value found (codes "journal")) s) (first_value-rows found (codes "sync")) holds)

-- what a refusal asks for, where it is right
pub refused_asks : (given : Given) (asked : Asked) → IsRefusal asked → GivesTooMuch given ⊎ (GivesWrongSyncs given ⊎ GivesNoCheck given)
    → AsksFor given asked
refused_asks given (Refused text) is wrong = wrong
refused_asks given asked is wrong = absurd is

-- what is read of a journal is given right, or the words ask for a refusal
module _ (name : List ℕ) (found : Found) {r : Result (Option Kept) Asked}
    (read : KeepsOrRefuses (first_value found (codes "journal")) (first_value found (codes "sync")) r) where
  pub kept_given : {kept : Option Kept} → r ≡ Ok kept
      → GivesKept (text_given (given name found) (codes "journal")) (text_given (given name found) (codes "sync")) kept
  kept_given {kept} is = in_rows name found (λ j s. GivesKept j s kept) (subst (KeepsOrRefuses _ _) is read)

  pub misgiven_asks : {asked : Asked} → r ≡ Err asked → Names (given name found) (codes "script") ⊎ Names (given name found) (codes "serve")
      → AsksFor (given name found) asked
  misgiven_asks {asked} is named =
      let wrong = subst (KeepsOrRefuses _ _) is read in
      refused_asks _ asked wrong.1 (inr (inl (record { named = named; wrong = in_rows name found Misgives wrong.0 })))

-- what is read of a check is what the rows have
pub check_in_rows : (found : Found) (file : Option (List ℕ)) (is_lines : Bool) → first_value found (codes "FILE") ≡ file
    → ((is_lines ≡ true) ↔ IsFlagged (Some (codes "check", rows_of found)) (codes "lines"))
    → GivesCheck (Some (codes "check", rows_of found)) file is_lines
check_in_rows found file is_lines is flagged =
    record { named = refl; setup = given_in_rows (codes "check") found (codes "FILE") file is; lines = flagged }

-- a check that may not be given so is refused
pub both_refused : {E : Type 0} (found : Found) (file : List ℕ) (r : Result Asked E)
    → GivesCheck (Some (codes "check", rows_of found)) (Some file) true → IfOk r (λ asked. IsRefusal asked × TellsSomething asked)
    → IfOk r (AsksFor (Some (codes "check", rows_of found)))
both_refused found file r gives refused = IfOk-weaker r _ _ (λ asked h. refused_asks _ asked h.0 (inr (inr (inr (file, gives))))) refused

pub neither_refused : {E : Type 0} (found : Found) (r : Result Asked E) → GivesCheck (Some (codes "check", rows_of found)) None false
    → IfOk r (λ asked. IsRefusal asked × TellsSomething asked)
    → IfOk r (AsksFor (Some (codes "check", rows_of found)))
neither_refused found r gives refused = IfOk-weaker r _ _ (λ asked h. refused_asks _ asked h.0 (inr (inr (inl gives)))) refused

-- what something is made of is there with it
pub some_mapped : {X Y : Type 0} (f : X → Y) (o : Option X) → is_some o ≡ is_some (option_map f o)
some_mapped f None = refl
some_mapped f (Some x) = refl

-- one look is given, or none
pub begin_alone : (given : Given) (text : List ℕ) → text_given given (codes "begin") ≡ Some text → looks given ≤ 1 → looks given ≡ 1
begin_alone given text is few =
    let one : bit (has_text given (codes "begin")) ≡ 1 = ap (λ o. bit (is_some o)) is in
    omega (arith, one, few)

pub none_given : (given : Given) → text_given given (codes "since") ≡ None → text_given given (codes "diff") ≡ None
    → text_given given (codes "begin") ≡ None → is_flagged given (codes "setup") ≡ false → is_flagged given (codes "mend") ≡ false
    → looks given ≡ 0
none_given given since diff begin setup mend = rw (since, diff, begin, setup, mend) refl
