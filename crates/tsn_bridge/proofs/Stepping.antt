-- From what the book did to a step of the machine, and back from a step to what it says.
use Rattle.std.proofs.Common.{◌≡◌, ◌+◌, ℕ, true, false, Bool, refl, sym, ◌∙◌, ap, subst, List, [], ◌∷◌, Option, Some, None, inl, inr, length}
use Rattle.std.specs.Prelude.{MatchOption, ◌⊎◌, IsTrue, cond, nat_lt}
use Rattle.tsn_types.specs.declared.refusals.Refusal.{Refusal}
use Rattle.tsn_types.specs.declared.refusals.Refusal.TheVariants.{NoSession, Memory}
use Rattle.tsn_types.specs.Limits.{unless}
use Rattle.tsn_types.specs.Refusals.{IsLeastOrMemory, least, rank_of}
use Rattle.tsn_edit.specs.declared.Edit.{Edit}
use Rattle.tsn_edit.specs.Batches.{change_of}
use Rattle.tsn_entries.specs.declared.entries.What.TheVariants.{Made}
use Rattle.tsn_undo.specs.Ledger.{Ledger, present}
use Rattle.tsn_undo.specs.Steps.{Edits, edit_refusal}
use Rattle.tsn_commands.specs.declared.reply.Reply.{Reply}
use Rattle.tsn_commands.specs.declared.reply.Reply.TheVariants.{Entry, Refused}
use Rattle.tsn_bridge.specs.Names.{GivenOut}
use Rattle.tsn_bridge.specs.Pair.{PairState}
use Rattle.tsn_bridge.specs.State.{State}
use Rattle.tsn_bridge.specs.Rule.{Allows, Rule, is_given}
use Rattle.tsn_bridge.specs.Edits.{changed_state, edit_rule}
use Rattle.tsn_bridge.specs.Together.{Follows}

-- what a rule allows where its least cause is o
abbrev pub AllowsAt : Option Refusal → Rule → State → Reply → State → Type 0
AllowsAt o rule s reply new = MatchOption o
    ((rule.done ≡ Some (reply, new)) ⊎ (IsTrue rule.takes_memory × (reply ≡ Refused Memory) × (new ≡ s)))
    (λ why. (reply ≡ Refused why) × (new ≡ s))

module _ (rule : Rule) (s : State) (reply : Reply) (new : State) where
  pub is_done : least rule.causes ≡ None → rule.done ≡ Some (reply, new) → Allows rule s reply new
  is_done none d = subst (λ o. AllowsAt o rule s reply new) (sym none) (inl d)

  pub is_refused : (o : Option Refusal) (why : Refusal) → least rule.causes ≡ o → IsTrue rule.takes_memory → IsLeastOrMemory o why
      → reply ≡ Refused why → new ≡ s → Allows rule s reply new
  is_refused None why none takes memory is same =
      subst (λ o. AllowsAt o rule s reply new) (sym none) (inr (takes, is ∙ ap Refused memory, same))
  is_refused (Some cause) why some takes least' is same = subst (λ o. AllowsAt o rule s reply new) (sym some) (is ∙ ap Refused least', same)

  pub is_surely_refused : (why : Refusal) → least rule.causes ≡ Some why → reply ≡ Refused why → new ≡ s → Allows rule s reply new
  is_surely_refused why some is same = subst (λ o. AllowsAt o rule s reply new) (sym some) (is, same)

  -- what is answered by no refusal has no cause and is done
  accepted_at : (o : Option Refusal) → ((why : Refusal) → reply ≡ Refused why → ⊥) → AllowsAt o rule s reply new
      → (o ≡ None) × (rule.done ≡ Some (reply, new))
  accepted_at None other (inl done) = (refl, done)
  accepted_at None other (inr memory) = absurd (other Memory memory.1)
  accepted_at (Some why) other cause = absurd (other why cause.0)

  pub accepted : ((why : Refusal) → reply ≡ Refused why → ⊥) → Allows rule s reply new
      → (least rule.causes ≡ None) × (rule.done ≡ Some (reply, new))
  accepted other step = accepted_at (least rule.causes) other step

-- what is refused has that cause, or none and memory was wanting
refused_at : (o : Option Refusal) (rule : Rule) (s new : State) (why : Refusal) → (rule.done ≡ Some (Refused why, new) → ⊥)
    → AllowsAt o rule s (Refused why) new → (o ≡ Some why) ⊎ (why ≡ Memory)
refused_at None rule s new why never (inl done) = absurd (never done)
refused_at None rule s new why never (inr memory) = let same : Refused why ≡ Refused Memory = memory.1 in inr (cc)
refused_at (Some cause) rule s new why never is =
    let same : Refused why ≡ Refused cause = is.0 in let also : cause ≡ why = (cc) in inl (ap Some also)

pub refused : (rule : Rule) (s new : State) (why : Refusal) → (rule.done ≡ Some (Refused why, new) → ⊥) → Allows rule s (Refused why) new
    → (least rule.causes ≡ Some why) ⊎ (why ≡ Memory)
refused rule s new why never step = refused_at (least rule.causes) rule s new why never step

-- ---- the session was given out

pub given : (b : Bool) (o : Option Refusal) → b ≡ true → least (unless b NoSession ∷ o ∷ []) ≡ o
given true None e = refl
given true (Some why) e = refl
given false o e = (cc)

-- and was, where nothing refuses
pub was_given : (b : Bool) (o : Option Refusal) → least (unless b NoSession ∷ o ∷ []) ≡ None → (b ≡ true) × (o ≡ None)
was_given true None h = (refl, refl)
was_given true (Some why) h = (cc)
was_given false None h = (cc)
was_given false (Some why) h = never (nat_lt (rank_of why) 5) h
  where
    never : (t : Bool) → cond t (Some why) (Some NoSession) ≡ None → (false ≡ true) × (Some why ≡ None)
    never true h = (cc)
    never false h = (cc)

-- ---- an edit that the book makes, or refuses, is a step

-- a state by its parts
abbrev pub seen : PairState → GivenOut → State
seen p k = record { book = p.ledger; sessions = k.count; names = k.names; time = p.time; frames = p.frames }

module _ (p p' : PairState) (k : GivenOut) (s : State) (n : ℕ) (batch : List Edit) (view : ◌≡◌ {A = State} (seen p k) s)
    (known : is_given s n ≡ true) where
  book : p.ledger ≡ s.book
  book = ap (λ (x : State). x.book) view

  pub edit_step : (entry : ℕ) → Edits p.ledger n batch entry p'.ledger → Follows p (change_of (present p.ledger) batch) p'
      → Allows (edit_rule s n batch) s (Entry entry) (seen p' k)
  edit_step entry is follows =
      let number : entry ≡ length s.book.entries + 1 = is.number_is ∙ ap (λ (c : Ledger). length c.entries + 1) book in
      let left : seen p' k ≡ changed_state s n (Made (change_of (present s.book) batch)) (change_of (present s.book) batch) =
      (λ i. record { book = is.after i; sessions = k.count; names = k.names; time = follows.time i; frames = follows.frames i })
      ∙ ap (λ (x : State). changed_state x n (Made (change_of (present x.book) batch)) (change_of (present x.book) batch)) view in
      is_done (edit_rule s n batch) s (Entry entry) (seen p' k)
      (given (is_given s n) (edit_refusal s.book batch) known ∙ ap (λ (c : Ledger). edit_refusal c batch) (sym book) ∙ is.admitted)
      (λ i. Some (Entry (sym number i), sym left i))

  pub edit_refused : (why : Refusal) → IsLeastOrMemory (edit_refusal p.ledger batch) why → p' ≡ p
      → Allows (edit_rule s n batch) s (Refused why) (seen p' k)
  edit_refused why least' same =
      is_refused (edit_rule s n batch) s (Refused why) (seen p' k) (edit_refusal p.ledger batch) why
      (given (is_given s n) (edit_refusal s.book batch) known ∙ ap (λ (c : Ledger). edit_refusal c batch) (sym book)) refl least' refl
      (ap (λ (q : PairState). seen q k) same ∙ view)
