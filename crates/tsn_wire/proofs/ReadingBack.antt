-- A key that is spelled reads back.
use Rattle.std.proofs.Common.{◌≡◌, ℕ, ◌^◌, ◌<◌, ◌&&◌, ◌||◌, ◌==◌, suc, zero, slice_index, List, length, Bool, true, false, not, Option, Some, None, Ok, cond, refl, ap, ◌∙◌, arith, decimal}
use Rattle.std.specs.Str.Parse.{digits_value}
use Rattle.std.specs.Fmt.{digits}
use Rattle.std.proofs.lemmas.Fmt.{digits_decimal, digits_value-decimal, length-decimal-le, decimal_nonempty, first_decimal}
use Rattle.serde_json.specs.Data.{Data}
use Rattle.tsn_records.specs.Answers.{or_syntax, refused}
use Rattle.tsn_records.specs.Json.{whole_or_null}
use Rattle.tsn_records.specs.Keys.{is_decimal, decimal_of, key_of, spelled_key}
use Rattle.tsn_types.specs.declared.keys.Kind.{Kind}
use Rattle.tsn_types.specs.declared.keys.Kind.TheVariants as kinds
use Rattle.tsn_records.specs.declared.drafts.KeyDraft.{KeyDraft}
use Rattle.tsn_wire.specs.Commands.{line_shape, listed, removable}
use Rattle.tsn_wire.specs.Spelled.{IsKey}
use Rattle.tsn_wire.specs.Values.{MayHaveList, IsNoPort}
use Rattle.tsn_wire.specs.Reading.{data_of, line_of_draft, line_of}
use Rattle.tsn_records.proofs.Digits.{own}
use Rattle.tsn_types.specs.Numbers.{IsInstanceId}
use Rattle.tsn_records.specs.Shown.{or_null}
use Rattle.tsn_commands.specs.declared.command.Ask.{Ask}
use Rattle.tsn_wire.specs.declared.drafts.LineDraft.{LineDraft}
use Rattle.tsn_records.proofs.Steps.{then}
use Rattle.std.proofs.lemmas.Bool.{le-leb, lt-ltb, ne_eqb}

pub whole_or_null_back : (o : Option ℕ) → whole_or_null (or_null o) ≡ Some o
whole_or_null_back None = refl
whole_or_null_back (Some n) = refl

or_true : (a : Bool) → a || true ≡ true
or_true true = refl
or_true false = refl

all_hold : (a b c d : Bool) → a ≡ true → b ≡ true → c ≡ true → d ≡ true → a && (b && (c && d)) ≡ true
all_hold a b c d p q r t = rw (p, q, r, t) refl

zero_is_decimal : is_decimal (decimal 0) ≡ true
unfolding digits
zero_is_decimal = refl

no_zero_first : (n : ℕ) → 0 < n → n < 2 ^ 64 → (length (decimal n) == 1 || not (slice_index (decimal n) 0 == 48)) ≡ true
no_zero_first n more small =
    let first = first_decimal n more small in
    let other : (slice_index (decimal n) 0 == 48) ≡ false = ne_eqb (slice_index (decimal n) 0) 48 (λ e. absurd (omega arith)) in
    rw other (or_true (length (decimal n) == 1))

is_decimal_back : (n : ℕ) → IsInstanceId n → is_decimal (decimal n) ≡ true
is_decimal_back zero small = zero_is_decimal
is_decimal_back (suc m) small =
    let fits : suc m < 2 ^ 64 = omega arith in
    let ten : suc m < 10 ^ 10 = omega arith in
    all_hold _ _ _ _ (digits_decimal own (suc m) fits) (lt-ltb _ _ (decimal_nonempty (suc m) fits))
    (le-leb _ _ (length-decimal-le 10 (suc m) (omega arith) ten fits)) (no_zero_first (suc m) (omega arith) fits)

pub decimal_back : (n : ℕ) → IsInstanceId n → decimal_of (decimal n) ≡ Some n
decimal_back n small =
    let fits : n < 2 ^ 64 = omega arith in
    ap (λ b. cond b (Some (digits_value 10 (decimal n))) None) (is_decimal_back n small) ∙ ap Some (digits_value-decimal own n fits)

spelled : (k : Kind) (n : ℕ) → IsInstanceId n → key_of (spelled_key k n) ≡ Some (record { kind = k; number = n })
spelled kinds.Port n small = rw (decimal_back n small) refl
spelled kinds.Filter n small = rw (decimal_back n small) refl
spelled kinds.Gate n small = rw (decimal_back n small) refl
spelled kinds.Meter n small = rw (decimal_back n small) refl

pub key_spelled : (key : KeyDraft) → IsKey key → key_of (spelled_key key.kind key.number) ≡ Some key
key_spelled key small = spelled key.kind key.number small

-- a key of a kind that can be removed, and one of a kind that has a list
pub removable_back : (key : KeyDraft) (k : Kind) → IsNoPort k → removable key k ≡ Ok key
removable_back key kinds.Port other = absurd other
removable_back key k other = refl

pub listed_back : (key : KeyDraft) (k : Kind) → MayHaveList k → listed key k ≡ Ok key
listed_back key kinds.Port has = refl
listed_back key kinds.Gate has = refl
listed_back key k has = absurd has

-- the shape, and then the ranges
pub in_steps : (line : List ℕ) (d : Data) (draft : LineDraft) (found : Ask) → data_of line ≡ Some d → line_shape d ≡ Ok draft
    → line_of_draft draft ≡ Ok found → line_of line ≡ Ok found
in_steps line d draft found read shape ranges =
    ap refused (then (or_syntax (data_of line)) _ d _ (ap or_syntax read) (then (line_shape d) _ draft _ shape ranges))
