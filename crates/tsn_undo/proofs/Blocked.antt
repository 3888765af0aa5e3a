-- An undo of all that a conflict blocks is refused for it.
use Rattle.std.proofs.Common.{◌≡◌, ℕ, Bool, ◌&&◌, cond, filter, List, [], ◌∷◌, Option, Some, None, refl, sym, ◌∙◌, ap, subst, arith, length, ◌+◌}
use Rattle.std.specs.Prelude.{◌==◌, IfSome, is_some, nat_le}
use Rattle.std.specs.Option.{option_or}
use Rattle.tsn_edit.proofs.KeyFacts.{by_bool}
use Rattle.tsn_types.specs.declared.refusals.Refusal.{Refusal}
use Rattle.tsn_types.specs.declared.refusals.Refusal.TheVariants.{JournalFull}
use Rattle.tsn_types.proofs.Ordered.{AtMost, least-before}
use Rattle.tsn_entries.specs.declared.entries.Entry.{Entry}
use Rattle.tsn_entries.specs.Entries.{Applied, most_entries, no_room, standing}
use Rattle.tsn_entries.specs.Finding.{find_conflict_of_others, find_own_in_conflict, last_where, own_standing}
use Rattle.tsn_undo.specs.Ledger.{Ledger}
use Rattle.tsn_undo.specs.UndoAll.{conflict_with_others, undo_all_cause, undo_all_refusal}

-- where none passes the one test, none passes both
none_of_both : (q p : Applied → Bool) (xs : List Applied) → filter q xs ≡ [] → last_where (λ x. q x && p x) xs ≡ None
none_of_both q p [] none = refl
none_of_both q p (x ∷ xs) none =
    by_bool (q x)
    (λ t. let some : x ∷ filter q xs ≡ [] = sym (ap (λ b. cond b (x ∷ filter q xs) (filter q xs)) t) ∙ none in absurd (cc))
    (λ f.
    let rest : filter q xs ≡ [] = sym (ap (λ b. cond b (x ∷ filter q xs) (filter q xs)) f) ∙ none in
    ap (λ o. option_or o (cond (q x && p x) (Some x) None)) (none_of_both q p xs rest)
    ∙ ap (λ b. cond (b && p x) (Some x) None) f)

others_most : (es : List Entry) (o : Option Applied) → AtMost 17 (conflict_with_others es o)
others_most es o = grind arith

blocked_refusal : (b : Ledger) (s : ℕ) (why : Refusal) → conflict_with_others b.entries (find_own_in_conflict b.entries s) ≡ Some why
    → undo_all_refusal b s ≡ Some why
blocked_refusal b s why blocked = by_own (own_standing b.entries s) refl
  where
    by_own : (own : List Applied) → own_standing b.entries s ≡ own → undo_all_refusal b s ≡ Some why
    by_own [] none =
        let free : find_own_in_conflict b.entries s ≡ None = none_of_both (λ x. x.session == s)
        (λ x. is_some (find_conflict_of_others b.entries x)) (standing b.entries) none in
        let never : None ≡ Some why = sym (ap (conflict_with_others b.entries) free) ∙ blocked in
        absurd (cc)
    by_own (x ∷ xs) some =
        let cause : undo_all_cause b.entries s (own_standing b.entries s) ≡ Some why = ap (undo_all_cause b.entries s) some ∙ blocked in
        let most : AtMost 17 (Some why) = subst (AtMost 17) blocked (others_most b.entries (find_own_in_conflict b.entries s)) in
        let first =
        least-before 17 (undo_all_cause b.entries s (own_standing b.entries s))
        (nat_le (length b.entries + length (own_standing b.entries s)) most_entries) JournalFull (subst (AtMost 17) (sym cause) most)
        (omega arith) in
        first ∙ ap (λ o. option_or o (no_room b.entries (length (own_standing b.entries s)))) cause

pub blocked_if : (b : Ledger) (s : ℕ) (o : Option Refusal) → o ≡ conflict_with_others b.entries (find_own_in_conflict b.entries s)
    → IfSome o (λ why. undo_all_refusal b s ≡ Some why)
blocked_if b s o is = grind (arith, blocked_refusal)
