-- The map after a step, and an accepted edit with an undo of the same session after it.
use Rattle.std.proofs.Common.{◌≡◌, ℕ, ◌+◌, ◌≤◌, Bool, true, false, List, refl, sym, ◌∙◌, ap, subst, Option, Some, None, inl, inr, length, arith}
use Rattle.std.specs.Prelude.{◌&&◌, ◌⊎◌, nat_le, nat_lt, option_map}
use Rattle.std.proofs.lemmas.Bool.Decides.{nat_tests}
use Rattle.tsn_types.specs.declared.refusals.Refusal.{Refusal}
use Rattle.tsn_types.specs.declared.refusals.Refusal.TheVariants.{JournalFull, Memory}
use Rattle.tsn_types.specs.Limits.{unless}
use Rattle.tsn_types.specs.Refusals.{least}
use Rattle.tsn_edit.specs.declared.Edit.{Edit}
use Rattle.tsn_edit.specs.Batches.{EditsInRange, IsBatch, change_of, result}
use Rattle.tsn_edit.specs.Changes.{Fits, restored}
use Rattle.tsn_edit.specs.Parts.{inverse}
use Rattle.tsn_edit.proofs.InOrder.{change_is_result}
use Rattle.tsn_edit.proofs.KeyFacts.{by_option}
use Rattle.tsn_config.proofs.Batches.{batch_fits}
use Rattle.tsn_entries.specs.declared.entries.What.TheVariants.{Made}
use Rattle.tsn_entries.specs.Entries.{Applied, most_entries, no_room, undone as taken_back}
use Rattle.tsn_entries.specs.Finding.{last_of}
use Rattle.tsn_undo.specs.Ledger.{Ledger, present}
use Rattle.tsn_undo.specs.Soundness.{IsSound}
use Rattle.tsn_undo.specs.Steps.{Edits, IsFree, edit_refusal, undo_refusal}
use Rattle.tsn_undo.proofs.Adding.{configuration_push}
use Rattle.tsn_undo.proofs.AtOnce.{free_at_once, undone_at_once}
use Rattle.tsn_undo.proofs.Free.{edit_admitted}
use Rattle.tsn_undo.proofs.Making.{edit_sound, kept_now, makes_edit, makes_undo}
use Rattle.tsn_commands.specs.declared.reply.Reply.{Reply}
use Rattle.tsn_commands.specs.declared.reply.Reply.TheVariants.{Entry, EntryOf, Refused}
use Rattle.tsn_bridge.specs.Edits.{changed_state, edit_rule, next, undo_rule}
use Rattle.tsn_bridge.specs.Rule.{Allows, is_given}
use Rattle.tsn_bridge.specs.State.{State}
use Rattle.tsn_bridge.proofs.Stepping.{AllowsAt, accepted, given, refused, was_given}

pub done_of : {A : Type 0} (x y : A) → Some x ≡ Some y → x ≡ y
done_of x y h = (cc)

-- ---- an edit that was answered with an entry

pub record IsEdited (before : State) (session : ℕ) (batch : List Edit) (entry : ℕ) (after : State) : Type 0 where
  pub known : is_given before session ≡ true
  pub admitted : edit_refusal before.book batch ≡ None
  pub number_is : entry ≡ next before
  pub state : after ≡ changed_state before session (Made (change_of (present before.book) batch)) (change_of (present before.book) batch)

pub edited : (before after : State) (session : ℕ) (batch : List Edit) (entry : ℕ)
    → Allows (edit_rule before session batch) before (Entry entry) after → IsEdited before session batch entry after
edited before after session batch entry step =
    let is = accepted (edit_rule before session batch) before (Entry entry) after (λ why h. (cc)) step in
    let causes = was_given (is_given before session) (edit_refusal before.book batch) is.0 in
    let pair = done_of _ _ is.1 in
    let reply : Entry (next before) ≡ Entry entry = ap (λ (p : Reply × State). p.0) pair in
    record { known = causes.0; admitted = causes.1; number_is = (cc); state = sym (ap (λ (p : Reply × State). p.1) pair) }

-- ---- an undo that was answered with an entry

abbrev done_by : State → ℕ → Option Applied → Option (Reply × State)
done_by s session o = option_map (λ (x : Applied). (EntryOf (next s) x.number, changed_state s session (taken_back x) (inverse x.change))) o

no_refusal : (s : State) (session : ℕ) (o : Option Applied) (why : Refusal) (after : State)
    → done_by s session o ≡ Some (Refused why, after) → ⊥
no_refusal s session None why after h = (cc)
no_refusal s session (Some x) why after h =
    let pair = done_of _ _ h in
    let reply : EntryOf (next s) x.number ≡ Refused why = ap (λ (p : Reply × State). p.0) pair in (cc)

pub record IsTakenBack (before : State) (session number of : ℕ) (after : State) : Type 0 where
  pub free : IsFree before.book session of
  pub number_is : number ≡ next before
  pub state : after ≡ changed_state before session (taken_back free.newest) (inverse free.newest.change)

pub taken : (before after : State) (session number of : ℕ) → Allows (undo_rule before session) before (EntryOf number of) after
    → IsTakenBack before session number of after
taken before after session number of step =
    let is = accepted (undo_rule before session) before (EntryOf number of) after (λ why h. (cc)) step in
    let causes = was_given (is_given before session) (undo_refusal before.book session) is.0 in
    by_option (last_of before.book.entries session)
    (λ none. let never : None ≡ Some (EntryOf number of, after) = sym (ap (done_by before session) none) ∙ is.1 in (cc))
    (λ x some.
    let pair = done_of _ _ (sym (ap (done_by before session) some) ∙ is.1) in
    let reply : EntryOf (next before) x.number ≡ EntryOf number of = ap (λ (p : Reply × State). p.0) pair in
    record {
      free = record { newest = x; newest_is = some; free = causes.1; of_is = (cc) };
      number_is = (cc);
      state = sym (ap (λ (p : Reply × State). p.1) pair);
    })

-- ---- the map after

pub edited_map : (before after : State) (session : ℕ) (batch : List Edit) (entry : ℕ) → IsBatch batch
    → Allows (edit_rule before session batch) before (Entry entry) after → present after.book ≡ result (present before.book) batch
edited_map before after session batch entry is step =
    let e = change_of (present before.book) batch in
    ap (λ (s : State). present s.book) (edited before after session batch entry step).state
    ∙ configuration_push before.book.opening before.book.entries session (Made e) e refl
    ∙ change_is_result (present before.book) batch is

pub taken_map : (before after : State) (session number of : ℕ) → Allows (undo_rule before session) before (EntryOf number of) after
    → (x : Applied) × (last_of before.book.entries session ≡ Some x) × (of ≡ x.number)
    × (present after.book ≡ restored (present before.book) x.change)
taken_map before after session number of step =
    let is = taken before after session number of step in
    let x = is.free.newest in (
      x,
      is.free.newest_is,
      is.free.of_is,
      ap (λ (s : State). present s.book) is.state ∙ configuration_push before.book.opening before.book.entries session (taken_back x)
          (inverse x.change) refl,
    )

-- ---- an edit, and an undo of the same session after it

module _ (before edited' between : State) (session : ℕ) (batch : List Edit) (entry : ℕ) (is_batch : IsBatch batch)
    (ranges : EditsInRange batch) (sound : IsSound before.book.limits before.book.opening before.book.entries)
    (made' : Allows (edit_rule before session batch) before (Entry entry) edited') (same : between.book ≡ edited'.book) where
  fits_now : Fits before.book.limits (present before.book) (change_of (present before.book) batch)
  fits_now = batch_fits before.book.limits (present before.book) (kept_now before.book sound) batch is_batch ranges
      (edit_admitted before.book batch (edited before edited' session batch entry made').admitted).0

  makes : Edits before.book session batch entry between.book
  makes =
      let is = edited before edited' session batch entry made' in
      makes_edit before.book session batch fits_now is_batch is.admitted entry between.book is.number_is
      (same ∙ ap (λ (s : State). s.book) is.state)

  sound_between : IsSound between.book.limits between.book.opening between.book.entries
  sound_between =
      subst (λ (b : Ledger). IsSound b.limits b.opening b.entries) (sym makes.after) (edit_sound before.book session batch sound fits_now)

  pub undone : (after : State) (number of : ℕ) → Allows (undo_rule between session) between (EntryOf number of) after
      → (of ≡ entry) × (present after.book ≡ present before.book)
  undone after number of back =
      let is = taken between after session number of back in
      undone_at_once before.book between.book after.book session batch entry number of sound makes
      (makes_undo between.book session of sound_between is.free number after.book is.number_is (ap (λ (s : State). s.book) is.state))

  still : (k n m : ℕ) → n ≤ m → (nat_lt 0 k && nat_le k n) ≡ true → (nat_lt 0 k && nat_le k m) ≡ true
  still k n m le h = grind (arith, nat_tests)

  only_full : (b : Bool) (why : Refusal) → unless b JournalFull ≡ Some why → why ≡ JournalFull
  only_full true why h = (cc)
  only_full false why h = (cc)

  -- that undo has no cause but a full journal
  cause_is : edited'.sessions ≤ between.sessions → least (undo_rule between session).causes ≡ no_room between.book.entries 1
  cause_is more =
      let is = edited before edited' session batch entry made' in
      let known : is_given edited' session ≡ true = ap (λ (s : State). is_given s session) is.state ∙ is.known in
      given (is_given between session) (undo_refusal between.book session) (still session edited'.sessions between.sessions more known)
      ∙ free_at_once before.book between.book session batch entry sound makes

  pub free : edited'.sessions ≤ between.sessions → (after : State) (why : Refusal)
      → Allows (undo_rule between session) between (Refused why) after → (why ≡ JournalFull) ⊎ (why ≡ Memory)
  free more after why back =
      elim (refused (undo_rule between session) between after why
      (λ done. no_refusal between session (last_of between.book.entries session) why after done) back) as
      (λ _. (why ≡ JournalFull) ⊎ (why ≡ Memory)) [
        | inl cause ↦ inl (only_full (nat_le (length between.book.entries + 1) most_entries) why (sym (cause_is more) ∙ cause))
        | inr memory ↦ inr memory
      ]

  pub full : edited'.sessions ≤ between.sessions → (after : State) (reply : Reply) → Allows (undo_rule between session) between reply after
      → no_room between.book.entries 1 ≡ Some JournalFull → (reply ≡ Refused JournalFull) × (after ≡ between)
  full more after reply back none = subst (λ o. AllowsAt o (undo_rule between session) between reply after) (cause_is more ∙ none) back

  -- what is done took that edit back
  done_is : (after : State) (reply : Reply) → Allows (undo_rule between session) between reply after
      → (undo_rule between session).done ≡ Some (reply, after) → reply ≡ EntryOf (next between) entry
  done_is after reply back done = by_option (last_of between.book.entries session)
      (λ none. let never : None ≡ Some (reply, after) = sym (ap (done_by between session) none) ∙ done in (cc))
      (λ x some.
      let is : EntryOf (next between) x.number ≡ reply = ap (λ (p : Reply × State). p.0)
      (done_of _ _ (sym (ap (done_by between session) some) ∙ done)) in
      let of : x.number ≡ entry = (undone after (next between) x.number
      (subst (λ r. Allows (undo_rule between session) between r after) (sym is) back)).0 in
      sym is ∙ ap (λ n. EntryOf (next between) n) of)

  pub with_room : edited'.sessions ≤ between.sessions → (after : State) (reply : Reply)
      → Allows (undo_rule between session) between reply after → no_room between.book.entries 1 ≡ None
      → (reply ≡ EntryOf (next between) entry) ⊎ ((reply ≡ Refused Memory) × (after ≡ between))
  with_room more after reply back room =
      elim (subst (λ o. AllowsAt o (undo_rule between session) between reply after) (cause_is more ∙ room) back) as
      (λ _. (reply ≡ EntryOf (next between) entry) ⊎ ((reply ≡ Refused Memory) × (after ≡ between))) [
        | inl done ↦ inl (done_is after reply back done)
        | inr memory ↦ inr (memory.1, memory.2)
      ]
