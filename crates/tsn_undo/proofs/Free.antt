-- Why edits and undos are refused, and the entry that an undo takes back.
use Rattle.std.proofs.Common.{◌≡◌, ℕ, Bool, true, Bor, List, Option, Some, None, refl, sym, ◌∙◌, ap, arith, length, ◌+◌}
use Rattle.std.specs.Prelude.{◌==◌, IfSome, is_some, nat_le, option_map}
use Rattle.std.specs.Option.{option_and_then, option_copied, option_or}
use Rattle.tsn_types.specs.declared.refusals.Refusal.{Refusal}
use Rattle.tsn_types.specs.declared.refusals.Refusal.TheVariants.{JournalFull, Memory}
use Rattle.tsn_types.specs.Refusals.{IsLeastOrMemory}
use Rattle.tsn_types.specs.declared.limits.Limits.{Limits}
use Rattle.tsn_edit.specs.Configuration.{Configuration}
use Rattle.tsn_types.proofs.Ordered.{AtMost, least-before}
use Rattle.tsn_edit.specs.declared.Edit.{Edit}
use Rattle.tsn_edit.specs.Batches.{refusal}
use Rattle.tsn_edit.proofs.Ordered.{batch_refusal-most}
use Rattle.tsn_entries.specs.declared.entries.Entry.{Entry}
use Rattle.tsn_entries.specs.Entries.{Applied, IsNumbered, applies, most_entries, no_room, standing}
use Rattle.tsn_entries.specs.Finding.{change_at, entry, find_conflict, last_of, last_where, standing_entry}
use Rattle.tsn_journal.proofs.Standing.{standing_change, standing_found}
use Rattle.tsn_undo.specs.Ledger.{Ledger, present}
use Rattle.tsn_undo.specs.Steps.{IsFree, edit_refusal, undo_cause, undo_refusal}

at_most_more : (o : Option Refusal) → AtMost 9 o → AtMost 17 o
at_most_more o h = grind arith

-- ---- a cause, and then a full journal

pub edit_refusal-first : (b : Ledger) (batch : List Edit)
    → edit_refusal b batch ≡ option_or (refusal b.limits (present b) batch) (no_room b.entries 1)
edit_refusal-first b batch = least-before 17 (refusal b.limits (present b) batch) (nat_le (length b.entries + 1) most_entries) JournalFull
    (at_most_more _ (batch_refusal-most b.limits (present b) batch)) (omega arith)

-- what the configuration says of a batch comes before a full journal
pub batch_first : (l : Limits) (c : Configuration) (batch : List Edit)
    → (refusal l c batch ≡ refusal l c batch) × AtMost 9 (refusal l c batch)
batch_first l c batch = (refl, batch_refusal-most l c batch)

undo_cause-most : (es : List Entry) (o : Option Applied) → AtMost 17 (undo_cause es o)
undo_cause-most es o = grind arith

pub undo_refusal-first : (b : Ledger) (s : ℕ)
    → undo_refusal b s ≡ option_or (undo_cause b.entries (last_of b.entries s)) (no_room b.entries 1)
undo_refusal-first b s = least-before 17 (undo_cause b.entries (last_of b.entries s)) (nat_le (length b.entries + 1) most_entries)
    JournalFull (undo_cause-most b.entries (last_of b.entries s)) (omega arith)

pub or_none : (o p : Option Refusal) → option_or o p ≡ None → (o ≡ None) × (p ≡ None)
or_none o p h = grind arith

pub edit_admitted : (b : Ledger) (batch : List Edit) → edit_refusal b batch ≡ None
    → (refusal b.limits (present b) batch ≡ None) × (no_room b.entries 1 ≡ None)
edit_admitted b batch h = or_none _ _ (sym (edit_refusal-first b batch) ∙ h)

-- nothing conflicts with what is free, and there is room
pub undo_free : (b : Ledger) (s : ℕ) (x : Applied) → last_of b.entries s ≡ Some x → undo_refusal b s ≡ None
    → (find_conflict b.entries x ≡ None) × (no_room b.entries 1 ≡ None)
undo_free b s x last free = grind arith

-- ---- a standing entry that a finder names, by its number

abbrev pub number_of : Option Applied → Option ℕ
number_of o = option_map (λ (x : Applied). x.number) o

-- the last standing entry that passes a test is the standing entry of its number
pub found_stands : (test : Applied → Bool) (es : List Entry) → IsNumbered 1 es
    → (last_where test (standing es) ≡ last_where test (standing es))
    × IfSome (last_where test (standing es)) (λ x. standing_entry es x.number ≡ Some x)
found_stands test es numbered = grind (arith, standing_found)

-- ---- looking up what is taken back

pub change_of_entry : (es : List Entry) (n : ℕ) (e : Entry) → entry es n ≡ Some e → change_at es n ≡ applies e.what
change_of_entry es n e is = ap (option_and_then (λ (e : Entry). applies e.what)) is

pub entry_there : (es : List Entry) (n : ℕ) → is_some (change_at es n) ≡ true → is_some (entry es n) ≡ true
entry_there es n h = grind arith

pub is_memory : (o : Option Refusal) (why : Refusal) → o ≡ None → IsLeastOrMemory o why → why ≡ Memory
is_memory o why h is = grind arith

copied : {A : Type 0} (o : Option (Bor A)) → is_some (option_copied o) ≡ is_some o
copied o = grind arith

pub some_copied : {A : Type 0} (o : Option (Bor A)) → is_some (option_copied o) ≡ true → is_some o ≡ true
some_copied o h = sym (copied o) ∙ h

pub free_stands : (b : Ledger) (s of : ℕ) → IsNumbered 1 b.entries → (free : IsFree b s of) → standing_entry b.entries of ≡ Some free.newest
free_stands b s of numbered free =
    ap (standing_entry b.entries) free.of_is ∙ standing_found b.entries (λ x. x.session == s) free.newest numbered free.newest_is

-- what is free to be taken back, by the change of the entry of its number
pub free_change : (b : Ledger) (s of : ℕ) → IsNumbered 1 b.entries → (free : IsFree b s of)
    → change_at b.entries of ≡ Some free.newest.change
free_change b s of numbered free = standing_change b.entries of free.newest numbered (free_stands b s of numbered free)
