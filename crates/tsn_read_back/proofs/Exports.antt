-- What is exported is read back.
use Rattle.std.proofs.Common.{◌≡◌, ℕ, nat_le, List, length, Bool, true, false, cond, Result, Ok, Err, leb-true, refl, subst}
use Rattle.tsn_types.specs.declared.refusals.Refusal.{Refusal}
use Rattle.tsn_types.specs.declared.refusals.Refusal.TheVariants.{TooLong}
use Rattle.tsn_config.specs.declared.setup.Setup.{Setup}
use Rattle.tsn_export.specs.Text.{longest_setup, named, setup_text}
use Rattle.tsn_setup.specs.Setups.{setup_of}
use Rattle.tsn_export.proofs.Named.{named_by_kinds}
use Rattle.tsn_export.proofs.Opens.{keyed_in_range, opens, unrefused}
use Rattle.tsn_read_back.specs.Law.{BeginsAgain, BeginsWith, IsReadAs, ReadsBack, ReadsExported}
use Rattle.tsn_read_back.proofs.Setups.{setup_back}

pub text_back : ReadsBack
text_back l c kept short = setup_back l (named c) kept.limits (keyed_in_range l c kept) (named_by_kinds c) short

-- what is exported is the text, and short
short_at : (b : Bool) (whole text : List ℕ) → cond b (Ok whole) (Err TooLong) ≡ Ok text → (b ≡ true) × (whole ≡ text)
short_at true whole text is = (cc, cc)
short_at false whole text is = cc

pub exported_back : ReadsExported
exported_back l c text kept is =
    let short = short_at (nat_le (length (setup_text l c)) longest_setup) (setup_text l c) text is in
    subst (λ t. IsReadAs t l c) short.1 (text_back l c kept (leb-true (length (setup_text l c)) longest_setup short.0))

one_answer : (a b : Setup) (read : Result Setup Refusal) → read ≡ Ok a → read ≡ Ok b → a ≡ b
one_answer a b read is also = cc

pub begun_again : BeginsAgain
begun_again l c text s kept is read =
    let setup : Setup = record { limits = l; records = named c } in
    let same : setup ≡ s = one_answer setup s (setup_of text) (exported_back l c text kept is) read in
    subst (BeginsWith l c) same (record { limits = refl; opens = opens l c kept; unrefused = unrefused l c kept })
