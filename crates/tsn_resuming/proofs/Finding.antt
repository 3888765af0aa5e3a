-- What a first command is found to have, and the first command of a text.
use Rattle.std.proofs.Common.{◌≡◌, ℕ, List, Bool, true, false, cond, Option, Some, None, Ok, Err, IsUtf8, inl, inr, refl, sym, ap, ◌∙◌}
use Rattle.std.specs.Str.{is_utf8}
use Rattle.std.proofs.lemmas.Str.{IsUtf8-from_is_utf8, is_utf8-from_IsUtf8}
use Rattle.serde_json.specs.Data.{Data}
use Rattle.tsn_types.specs.declared.refusals.Refusal.TheVariants.{Syntax}
use Rattle.tsn_records.specs.Answers.{Reads, or_syntax}
use Rattle.tsn_records.specs.declared.unread.Unread.{Unread}
use Rattle.tsn_records.specs.declared.unread.Unread.TheVariants.{Memory}
use Rattle.tsn_resuming.specs.First.{Finds, first_of, first_text, setup_of_data, setup_of_read}
use Rattle.tsn_resuming.specs.declared.first.NoSetup.{NoSetup}
use Rattle.tsn_resuming.specs.declared.first.NoSetup.TheVariants.{NoJournal}

-- the bytes are no text
unless : (b : Bool) (setup : List ℕ) → b ≡ false → cond b (Ok (first_text setup)) (Err Syntax) ≡ Err Syntax
unless b setup e = ap (λ t. cond t (Ok (first_text setup)) (Err Syntax)) e

no_utf8 : (b : Bool) (setup : List ℕ) → is_utf8 setup ≡ b → (IsUtf8 setup → ⊥) → b ≡ false
no_utf8 true setup e h = absurd (h (IsUtf8-from_is_utf8 setup e))
no_utf8 false setup e h = refl

pub no_text : (setup : List ℕ) → (IsUtf8 setup → ⊥) → first_of setup ≡ Err Syntax
no_text setup h = unless (is_utf8 setup) setup (no_utf8 (is_utf8 setup) setup refl h)

pub is_text : (setup : List ℕ) → IsUtf8 setup → first_of setup ≡ Ok (first_text setup)
is_text setup h = ap (λ t. cond t (Ok (first_text setup)) (Err Syntax)) (is_utf8-from_IsUtf8 setup h)

-- the value has no setup, or there is no value
pub none_read : (read : Option Data) (e : Unread) → Reads (Err e) (or_syntax read) → (e ≡ Memory → ⊥)
    → Finds (Err NoJournal) (setup_of_read read)
none_read None e (inl is) other = inl refl
none_read None e (inr is) other = absurd (other (cc))
none_read (Some d) e (inl is) other = absurd (cc)
none_read (Some d) e (inr is) other = absurd (other (cc))

pub none_found : (read : Option Data) (d : Data) (why : NoSetup) → Reads (Ok d) (or_syntax read) → setup_of_data d ≡ Err why
    → Finds (Err why) (setup_of_read read)
none_found None d why (inl e) h = absurd (cc)
none_found None d why (inr e) h = absurd (cc)
none_found (Some other) d why (inl e) h = let same : d ≡ other = cc in inl (sym (ap setup_of_data (sym same) ∙ h))
none_found (Some other) d why (inr e) h = absurd (cc)

pub found : (read : Option Data) (d : Data) (setup : List ℕ) → Reads (Ok d) (or_syntax read) → setup_of_data d ≡ Ok setup
    → Finds (Ok setup) (setup_of_read read)
found None d setup (inl e) h = absurd (cc)
found None d setup (inr e) h = absurd (cc)
found (Some other) d setup (inl e) h = let same : d ≡ other = cc in inl (sym (ap setup_of_data (sym same) ∙ h))
found (Some other) d setup (inr e) h = absurd (cc)
