-- The whole setup is the limits and the tables kind by kind, and where a part of it is too long it is.
use Rattle.std.proofs.Common.{◌≡◌, ◌<◌, ◌≤◌, ℕ, length, arith, false, cond, List, [], ◌∷◌, ◌++◌, append_assoc, refl, sym, ◌∙◌, ap, inl, inr}
use Rattle.std.specs.List.{flat_map}
use Rattle.std.specs.Prelude.{◌⊎◌, Err, Ok, nat_le}
use Rattle.std.proofs.lemmas.Bool.{le-leb}
use Rattle.std.proofs.lemmas.Bool.Decides.{nat_tests}
use Rattle.std.proofs.lemmas.List.{append-nil}
use Rattle.std.proofs.lemmas.List.Concat.{flat_map-append}
use Rattle.tsn_types.specs.declared.keys.Kind.{Kind}
use Rattle.tsn_types.specs.declared.keys.Kind.TheVariants as kinds
use Rattle.tsn_types.specs.declared.limits.Limits.{Limits}
use Rattle.tsn_types.specs.declared.refusals.Refusal.{Refusal}
use Rattle.tsn_types.specs.declared.refusals.Refusal.TheVariants.{Memory, TooLong}
use Rattle.tsn_edit.specs.Configuration.{Configuration}
use Rattle.tsn_export.specs.Going.{Stops}
use Rattle.tsn_export.specs.Text.{exported, limits_text, longest_setup, named, named_of, setup_text, table_text}

-- the tables of a kind
abbrev pub rows : Configuration → Kind → List ℕ
rows c kind = flat_map table_text (named_of kind c)

rows_of_all : (c : Configuration)
    → flat_map table_text (named c) ≡ rows c kinds.Port ++ rows c kinds.Filter ++ rows c kinds.Gate ++ rows c kinds.Meter
rows_of_all c =
    let ports = named_of kinds.Port c in
    let filters = named_of kinds.Filter c in
    let gates = named_of kinds.Gate c in
    flat_map-append table_text (ports ++ filters ++ gates) (named_of kinds.Meter c)
    ∙ ap (λ t. t ++ rows c kinds.Meter) (flat_map-append table_text (ports ++ filters) gates
    ∙ ap (λ t. t ++ rows c kinds.Gate) (flat_map-append table_text ports filters))

in_four : (p f g m : List ℕ) → p ++ (f ++ (g ++ (m ++ []))) ≡ p ++ f ++ g ++ m
in_four p f g m = simp (append-nil, append_assoc) refl

abbrev pub all_kinds : List Kind
all_kinds = kinds.Port ∷ kinds.Filter ∷ kinds.Gate ∷ kinds.Meter ∷ []

pub whole : (l : Limits) (c : Configuration) → limits_text l ++ flat_map (rows c) all_kinds ≡ setup_text l c
whole l c =
    ap (λ t. limits_text l ++ t) (in_four (rows c kinds.Port) (rows c kinds.Filter) (rows c kinds.Gate) (rows c kinds.Meter)
    ∙ sym (rows_of_all c))

-- why a setup is none, if it is
abbrev pub IsRefused : Limits → Configuration → Refusal → Type 0
IsRefused l c why = (exported l c ≡ Err why) ⊎ (why ≡ Memory)

too_long : (n : ℕ) → longest_setup < n → nat_le n longest_setup ≡ false
too_long n long = grind (arith, nat_tests)

-- the whole is refused where a text that is no longer than it stops
pub stopped : (l : Limits) (c : Configuration) (text : List ℕ) (why : Refusal) → length text ≤ length (setup_text l c) → Stops text why
    → IsRefused l c why
stopped l c text why part (inl memory) = inr memory
stopped l c text why part (inr long) =
    inl (ap (λ b. cond b (Ok (setup_text l c)) (Err TooLong)) (too_long (length (setup_text l c)) (omega (arith, part, long.1))) ∙ ap Err
    (sym long.0))

pub whole_exported : (l : Limits) (c : Configuration) (text : List ℕ) → text ≡ setup_text l c → length text ≤ longest_setup
    → exported l c ≡ Ok text
whole_exported l c text is short =
    ap (λ (t : List ℕ). cond (nat_le (length t) longest_setup) (Ok t) (Err TooLong)) (sym is) ∙ ap
    (λ b. cond b (Ok text) (Err TooLong)) (le-leb (length text) longest_setup short)
