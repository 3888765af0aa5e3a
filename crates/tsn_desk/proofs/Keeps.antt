-- Each step of a desk keeps its rule.
use Rattle.std.proofs.Common.{◌≡◌, ℕ, ◌+◌, ◌^◌, ◌%◌, ◌<◌, ◌≤◌, ◌≢◌, List, [], ◌∷◌, ◌++◌, length, get_or, set, sym, refl, ap, ◌∙◌, subst, ⊎_elim, inl, inr, arith, le_refl, length-append, Option, Some}
use Rattle.std.proofs.Math.Nat.{mod-eq_of_lt}
use Rattle.std.proofs.lemmas.Bool.Decides.{nat_tests}
use Rattle.std.specs.Prelude.{if◌then◌else◌, nat_lt}
use mathlib.Core.Logic.{dite}
use mathlib.Core.Option.{some, none, some-injective, some-ne-none}
use mathlib.Core.Option as maybe
use native.Mathlib.Decide.{ℕ_discrete, dec_le}
use lib.ListN.{get_elem?}
use lib.Seq.{set-get_or}
use Rattle.atomic_table.specs.Table.{State, Me, step, keeps, takes, gives, carried_after, Allows, put_back}
use Rattle.atomic_table.proofs.Lists.{set_here, set_else, set_again}
use Rattle.tsn_machine.specs.declared.history.Entry.{Entry}
use Rattle.tsn_desk.specs.declared.history.Calls.{Calls}
use Rattle.tsn_desk.specs.declared.board.View.{View}
use Rattle.tsn_desk.specs.declared.board.Stage.{Stage}
use Rattle.tsn_desk.specs.declared.board.Stage.TheVariants.{Idle, Waiting, Serving}
use Rattle.tsn_machine.specs.History.{Begins, Runs, IsLegal, calls_by, call}
use Rattle.tsn_desk.specs.Rule.{holding, held_at, total, Holds, times, AllMade, numbers, late, InStage, Knows, Slot, Kept}
use Rattle.tsn_desk.specs.Steps.{number_of, add, finished, saw_tickets, drew, looked, saw_front, ended}
use Rattle.tsn_machine.proofs.Begin.{begins_self, begins_more, Runs-snoc, calls_by-own, calls_by-other}
use Rattle.tsn_desk.proofs.Totals.{total_set, total_at, total_two, total_below, each_set, at_inside, one_there}

pub late_up : (a b l m : ℕ) → a ≤ b → l ≤ m → (if nat_lt (2 ^ 63) a then l else 0) ≤ (if nat_lt (2 ^ 63) b then m else 0)
late_up a b l m h k = grind (arith, nat_tests)

pub late_most : (a l : ℕ) → (if nat_lt (2 ^ 63) a then l else 0) ≤ l
late_most a l = grind (arith, nat_tests)

not_late : (a l : ℕ) → a ≤ 2 ^ 63 → (if nat_lt (2 ^ 63) a then l else 0) ≡ 0
not_late a l h = grind (arith, nat_tests)

is_late : (a l : ℕ) → 2 ^ 63 < a → (if nat_lt (2 ^ 63) a then l else 0) ≡ l
is_late a l h = grind (arith, nat_tests)

module _ {M Q A : Type 0} (steps : M → Q → A → M → Type 0) (x : M) (seats : ℕ) where
  abbrev V : Type 0
  V = View M Q A

  abbrev St : Type 0
  St = State (Option M) V

  abbrev Homes : Type 0
  Homes = List (maybe.Option (Option M))

  abbrev Rule : St → Type 0
  Rule = Kept steps x seats

  abbrev state : List ℕ → Homes → List V → St
  state ws hs vs = record { words = ws; homes = hs; views = vs }

  -- the same state, with its words and homes written otherwise
  rewritten : (ws ws' : List ℕ) (hs hs' : Homes) (vs : List V) → ws ≡ ws' → hs ≡ hs' → Rule (state ws' hs' vs) → Rule (state ws hs vs)
  rewritten ws ws' hs hs' vs p q k = let F : List ℕ × Homes → Type 0 = λ z. Rule (state z.0 z.1 vs) in subst F (λ i. (sym p i, sym q i)) k

  -- no ticket is held twice, where the changed view holds none of another's
  pub apart_set : (s : St) → Rule s → (id : ℕ) (w : V)
      → ((j t : ℕ) (u : V) → j ≢ id → get_elem? s.views j ≡ some u → Holds w.stage t → Holds u.stage t → ⊥)
      → (i j t : ℕ) (a b : V) → get_elem? (set s.views id w) i ≡ some a → get_elem? (set s.views id w) j ≡ some b → Holds a.stage t
      → Holds b.stage t → i ≡ j
  apart_set s k id w alone i j t a b ai bj ha hb =
      each_set (λ i a. Holds a.stage t → i ≡ j) s.views id w
      (λ hw. each_set (λ j b. Holds b.stage t → id ≡ j) s.views id w (λ _. refl) (λ j u n at h. absurd (alone j t u n at hw h)) j b bj hb)
      (λ i u n at hu. each_set (λ j b. Holds b.stage t → i ≡ j) s.views id w (λ h. absurd (alone i t u n at h hu))
      (λ j u' n' at' h. k.apart i j t u u' at at' hu h) j b bj hb)
      i a ai ha

  -- what is to show where one view changes
  rebuilt : (s : St) → Rule s → (id : ℕ) (v w : V) (log : List (Entry Q A)) (ticket : ℕ) (homes : Homes)
      → get_elem? s.views id ≡ some v
      → length log + total holding (set s.views id w) ≡ ticket → IsLegal steps x log → Slot steps x log homes (set s.views id w)
      → Knows x log ticket homes w
      → ((j : ℕ) (u : V) → j ≢ id → get_elem? s.views j ≡ some u → Knows x log ticket homes u)
      → ((j t : ℕ) (u : V) → j ≢ id → get_elem? s.views j ≡ some u → Holds w.stage t → Holds u.stage t → ⊥)
      → length w.calls ≡ length v.calls
      → ((n : ℕ) → times n w.calls ≡ times n v.calls)
      → ((n : ℕ) → total (λ (u : V). times n u.calls) s.views ≡ 0 → calls_by n log ≡ [])
      → ticket ≤ 2 ^ 63 + total late (set s.views id w)
      → Rule (state (length log ∷ ticket ∷ []) homes (set s.views id w))
  rebuilt s k id v w log ticket homes at queue legal slot here there alone as_many as_often unmade room =
      let sum : (f : V → ℕ) → f w ≡ f v → total f (set s.views id w) ≡ total f s.views = λ f e. let t = total_set f s.views id v w at in
      omega arith in
      record {
        log = log;
        ticket = ticket;
        queue = queue;
        words = refl;
        legal = legal;
        slot = slot;
        each_seat = each_set (λ j u. Knows x log ticket homes u) s.views id w here there;
        apart = λ i j t a b ai bj ha hb. apart_set s k id w alone i j t a b ai bj ha hb;
        few = k.few;
        all_numbers = sum numbers as_many ∙ k.all_numbers;
        once = λ n. let e = sum (λ (u : V). times n u.calls) (as_often n) in let o = k.once n in omega arith;
        unmade = λ n z. unmade n (sym (sum (λ (u : V). times n u.calls) (as_often n)) ∙ z);
        room = room;
      }

  -- the slot stays as it is where the changed view is no less at its turn
  pub slot_stays : (log : List (Entry Q A)) (homes : Homes) (views : List V) (id : ℕ) (v w : V) → get_elem? views id ≡ some v
      → (v.stage ≡ Serving (length log) → w.stage ≡ Serving (length log))
      → Slot steps x log homes views → Slot steps x log homes (set views id w)
  slot_stays log homes views id v w at same slot = ⊎_elim
      (λ h. inl h)
      (λ h. inr (dite (ℕ_discrete h.0 id)
      (λ e. (
        id,
        w,
        set_here views id w (at_inside views id v at),
        same (ap (λ (u : V). u.stage) (sym (one_there views id h.0 h.1 v e h.2 at)) ∙ h.3),
        h.4,
      ))
      (λ n. (h.0, h.1, set_else views id h.0 w n ∙ h.2, h.3, h.4))))
      slot

  -- the ticket is below 2^64 - 1
  ticket_small : (s : St) (k : Rule s) → k.ticket ≤ 2 ^ 63 + 1024
  ticket_small s k =
      let f = k.few in let n = k.all_numbers in let r = k.room in
      let b = total_below late numbers s.views (λ (v : V). late_most v.tickets (length v.calls)) in omega arith

  -- where no word, no call and no stage changes, and no view has seen less
  same_words : (s : St) (k : Rule s) (id : ℕ) (v w : V) → get_elem? s.views id ≡ some v → w.first ≡ v.first → w.calls ≡ v.calls
      → w.stage ≡ v.stage → v.tickets ≤ w.tickets → w.tickets ≤ k.ticket
      → Begins w.seen k.log → Begins w.told k.log → InStage k.log k.ticket s.homes w.seen w.stage
      → Rule (state s.words s.homes (set s.views id w))
  same_words s k id v w at same_first same_calls same_stage more no_more seen told stage =
      let known = k.each_seat id v at in
      let as_many : length w.calls ≡ length v.calls = ap (λ (c : List (Calls Q A)). length c) same_calls in
      rewritten s.words (length k.log ∷ k.ticket ∷ []) s.homes s.homes (set s.views id w) k.words refl
      (rebuilt s k id v w k.log k.ticket s.homes at (let q = k.queue in let t = total_set holding s.views id v w at in
      let e : holding w ≡ holding v = ap held_at same_stage in omega arith) k.legal
      (slot_stays k.log s.homes s.views id v w at (λ h. same_stage ∙ h) k.slot)
      record {
        first = λ y e. known.first y (sym same_first ∙ e);
        seen = seen;
        told = told;
        tickets = no_more;
        made = (let F : List (Calls Q A) → Type 0 = λ c. AllMade k.log c in subst F (sym same_calls) known.made);
        stage = stage;
        active = (λ t h. let F : Stage → Type 0 = λ z. Holds z t in let a = known.active t (subst F same_stage h) in omega arith);
      }
      (λ j u n at'. k.each_seat j u at')
      (λ j t u n at' hw hu. let F : Stage → Type 0 = λ z. Holds z t in n (sym (k.apart id j t v u at at' (subst F same_stage hw) hu)))
      as_many
      (λ n. ap (times n) same_calls)
      k.unmade
      (let r = k.room in let t = total_set late s.views id v w at in
      let u = late_up v.tickets w.tickets (length v.calls) (length w.calls) more (omega arith) in omega arith))

  abbrev Sitter : Type 0
  Sitter = Me (Option M) V

  pub sees_tickets : (slots id : ℕ) (me : Sitter) → Allows Rule slots id me 1 (λ n. n) (saw_tickets (step slots 1 0 0 none) me)
  sees_tickets slots id me s k len at small =
      let known = k.each_seat id me.0 at in
      let found : get_or s.words 1 0 ≡ k.ticket = ap (λ (ws : List ℕ). get_or ws 1 0) k.words in
      let w : V = record me.0 { tickets = get_or s.words 1 0 } in
      let tickets = known.tickets in (
        w,
        keeps,
        tt,
        rewritten _ s.words _ s.homes _ (set-get_or s.words 1 0) refl
            (same_words s k id me.0 w at refl refl refl (omega arith) (omega arith) known.seen known.told known.stage),
        (refl, omega arith),
      )

  in_stage_more : (log : List (Entry Q A)) (ticket ticket' : ℕ) (homes : Homes) (seen : List (Entry Q A)) → ticket ≤ ticket' → (st : Stage)
      → InStage log ticket homes seen st → InStage log ticket' homes seen st
  in_stage_more log ticket ticket' homes seen le Idle h = tt
  in_stage_more log ticket ticket' homes seen le (Waiting n) h = let b = h.1 in (h.0, omega arith)
  in_stage_more log ticket ticket' homes seen le (Serving n) h = let b = h.1 in (h.0, omega arith, h.2, h.3)

  in_stage_out : (log : List (Entry Q A)) (ticket : ℕ) (homes : Homes) (seen : List (Entry Q A)) (st : Stage)
      → InStage log ticket homes seen st → InStage {M = M} log ticket (none ∷ []) seen st
  in_stage_out log ticket homes seen Idle h = tt
  in_stage_out log ticket homes seen (Waiting n) h = h
  in_stage_out log ticket homes seen (Serving n) h = (h.0, h.1, h.2, refl)

  in_stage_seen : (log : List (Entry Q A)) (ticket : ℕ) (homes : Homes) (seen : List (Entry Q A)) (st : Stage)
      → InStage log ticket homes seen st → InStage log ticket homes log st
  in_stage_seen log ticket homes seen Idle h = tt
  in_stage_seen log ticket homes seen (Waiting n) h = h
  in_stage_seen log ticket homes seen (Serving n) h = (h.0, h.1, refl, h.3)

  held_below : (log : List (Entry Q A)) (ticket : ℕ) (homes : Homes) (seen : List (Entry Q A)) (t : ℕ) (st : Stage)
      → InStage log ticket homes seen st → Holds st t → t < ticket
  held_below log ticket homes seen t Idle h e = absurd e
  held_below log ticket homes seen t (Waiting n) h e = let b = h.1 in omega arith
  held_below log ticket homes seen t (Serving n) h e = let b = h.1 in omega arith

  pub draws : (slots id : ℕ) (me : Sitter) → me.0.stage ≡ Idle → me.0.tickets < 2 ^ 63 → 0 < length me.0.calls
      → Allows Rule slots id me 1 (λ n. (n + 1) % 2 ^ 64) (drew (step slots 1 1 0 none) me)
  draws slots id me idle early some_number s k len at small =
      let known = k.each_seat id me.0 at in
      let found : get_or s.words 1 0 ≡ k.ticket = ap (λ (ws : List ℕ). get_or ws 1 0) k.words in
      let fits : k.ticket + 1 < 2 ^ 64 = let t = ticket_small s k in omega arith in
      let queue = k.queue in let t = total_set holding s.views id me.0
      (record me.0 { tickets = get_or s.words 1 0 + 1; stage = Waiting (get_or s.words 1 0) }) at in
      let none_before : holding me.0 ≡ 0 = ap held_at idle in
      let w : V = record me.0 { tickets = get_or s.words 1 0 + 1; stage = Waiting (get_or s.words 1 0) } in (
        w,
        keeps,
        tt,
        rewritten _ (length k.log ∷ (k.ticket + 1) ∷ []) _ s.homes _
            (ap (λ (ws : List ℕ). set ws 1 ((get_or ws 1 0 + 1) % 2 ^ 64)) k.words
            ∙ ap (λ (t : ℕ). length k.log ∷ t ∷ []) (mod-eq_of_lt fits)) refl
            (rebuilt s k id me.0 w k.log (k.ticket + 1) s.homes at (omega arith) k.legal
            (slot_stays k.log s.homes s.views id me.0 w at (λ h. absurd (cc (idle, h))) k.slot)
            record {
              first = known.first;
              seen = known.seen;
              told = known.told;
              tickets = omega arith;
              made = known.made;
              stage = (omega arith, omega arith);
              active = (λ t h. some_number);
            }
            (λ j u n at'. let ku = k.each_seat j u at' in let t = ku.tickets in
            record {
              first = ku.first;
              seen = ku.seen;
              told = ku.told;
              tickets = omega arith;
              made = ku.made;
              stage = in_stage_more k.log k.ticket (k.ticket + 1) s.homes u.seen (omega arith) u.stage ku.stage;
              active = ku.active;
            })
            (λ j t u n at' hw hu. let ku = k.each_seat j u at' in let b = held_below k.log k.ticket s.homes u.seen t u.stage ku.stage hu in
            omega arith)
            refl
            (λ n. refl)
            k.unmade
            (draws_room s k id me.0 w at early some_number refl (ap (λ (z : ℕ). z + 1) found))),
        refl,
      )
    where
      draws_room : (s : St) (k : Rule s) (id : ℕ) (v w : V) → get_elem? s.views id ≡ some v → v.tickets < 2 ^ 63 → 0 < length v.calls
          → w.calls ≡ v.calls → w.tickets ≡ k.ticket + 1
          → k.ticket + 1 ≤ 2 ^ 63 + total late (set s.views id w)
      draws_room s k id v w at early some_number same new =
          let r = k.room in
          let t = total_set late s.views id v w at in
          let zero_before = not_late v.tickets (length v.calls) (omega arith) in
          let as_many : length w.calls ≡ length v.calls = ap (λ (c : List (Calls Q A)). length c) same in
          dite (dec_le (k.ticket + 1) (2 ^ 63))
          (λ le. omega arith)
          (λ gt. let l = is_late w.tickets (length w.calls) (omega arith) in omega arith)

  pub looks : (slots id : ℕ) (me : Sitter) (t : ℕ) → me.0.stage ≡ Waiting t
      → Allows Rule slots id me 0 (λ n. n) (looked steps (step slots 0 0 0 none) me)
  looks slots id me t waits s k len at small =
      let known = k.each_seat id me.0 at in
      let n : ℕ = get_or s.words 0 0 in
      let found : n ≡ length k.log = ap (λ (ws : List ℕ). get_or ws 0 0) k.words in
      let held : InStage k.log k.ticket s.homes me.0.seen (Waiting t) = let F : Stage → Type 0 = λ z.
      InStage k.log k.ticket s.homes me.0.seen z in subst F waits known.stage in
      let mine : (u : ℕ) → t ≡ u → Holds me.0.stage u = λ u e. let F : Stage → Type 0 = λ z. Holds z u in subst F (sym waits) e in
      dite (ℕ_discrete n t)
      (λ hit. ⊎_elim
      (λ h. let w : V = record me.0 { seen = k.log; stage = Serving n } in let below = held.1 in (
        w,
        takes 0 (Some h.0),
        ap (λ (hs : Homes). get_elem? hs 0) h.1,
        rewritten _ (length k.log ∷ k.ticket ∷ []) _ (none ∷ []) _ (set-get_or s.words 0 0 ∙ k.words)
            (ap (λ (hs : Homes). set hs 0 none) h.1)
            (rebuilt s k id me.0 w k.log k.ticket (none ∷ []) at (let q = k.queue in let e = total_set holding s.views id me.0 w at in
            let one : holding me.0 ≡ 1 = ap held_at waits in omega arith) k.legal
            (inr (id, w, set_here s.views id w (at_inside s.views id me.0 at), ap Serving found, refl))
            record {
              first = known.first;
              seen = begins_self k.log;
              told = known.told;
              tickets = known.tickets;
              made = known.made;
              stage = (sym found, omega arith, refl, refl);
              active = (λ _ _. known.active t (mine t refl));
            }
            (λ j u ne at'. let ku = k.each_seat j u at' in
            record {
              first = ku.first;
              seen = ku.seen;
              told = ku.told;
              tickets = ku.tickets;
              made = ku.made;
              stage = in_stage_out k.log k.ticket s.homes u.seen u.stage ku.stage;
              active = ku.active;
            })
            (λ j t' u ne at' hw hu. ne (sym (k.apart id j t' me.0 u at at' (mine t' (sym hit ∙ hw)) hu)))
            refl
            (λ z. refl)
            k.unmade
            (let r = k.room in let e = total_set late s.views id me.0 w at in omega arith)),
        (
          (λ _. (
            h.0,
            k.log,
            refl,
            known.seen,
            sym found,
            λ y e. let F : M → Type 0 = λ z. Runs steps z k.log h.0 in
                subst F (sym (known.first y e)) h.2,
          )),
          (λ ne. absurd (ne (waits ∙ ap Waiting (sym hit)))),
        ),
      ))
      (λ h. let there : Holds h.1.stage (length k.log) = (let F : Stage → Type 0 = λ z. Holds z (length k.log) in subst F (sym h.3) refl) in
      let same : id ≡ h.0 = k.apart id h.0 (length k.log) me.0 h.1 at h.2 (mine (length k.log) (sym hit ∙ found)) there in
      let one : h.1 ≡ me.0 = one_there s.views id h.0 h.1 me.0 (sym same) h.2 at in
      absurd (cc (sym h.3 ∙ (ap (λ (u : V). u.stage) one ∙ waits))))
      k.slot)
      (λ miss. (
        me.0,
        keeps,
        tt,
        rewritten _ s.words _ s.homes _ (set-get_or s.words 0 0) refl (let F : List V → Type 0 = λ vs. Rule (state s.words s.homes vs) in
            subst F (sym (set_again s.views id me.0 at)) k),
        ((λ e. absurd (miss (waiting_is (sym e ∙ waits)))), (λ _. refl)),
      ))
    where
      waiting_is : {a b : ℕ} → Waiting a ≡ Waiting b → a ≡ b
      waiting_is e = cc e

  pub sees_front : (slots id : ℕ) (me : Sitter) → Allows Rule slots id me 0 (λ n. n) (saw_front steps (step slots 0 0 0 none) me)
  sees_front slots id me s k len at small =
      let known = k.each_seat id me.0 at in
      let found : get_or s.words 0 0 ≡ length k.log = ap (λ (ws : List ℕ). get_or ws 0 0) k.words in
      let w : V = record me.0 { seen = k.log } in (
        w,
        keeps,
        tt,
        rewritten _ s.words _ s.homes _ (set-get_or s.words 0 0) refl
            (same_words s k id me.0 w at refl refl refl (le_refl me.0.tickets) known.tickets (begins_self k.log) known.told
            (in_stage_seen k.log k.ticket s.homes me.0.seen me.0.stage known.stage)),
        (
          k.log,
          refl,
          known.seen,
          known.told,
          sym found,
          (λ y e. let F : M → Type 0 = λ z. IsLegal steps z k.log in
              subst F (sym (known.first y e)) k.legal),
          known.made,
        ),
      )

  times_head : (c : Calls Q A) (cs : List (Calls Q A)) (n : ℕ) → c.number ≡ n → 1 ≤ times n (c ∷ cs)
  times_head c cs n e = grind (arith, nat_tests)

  -- a call of a number that stands nowhere there changes nothing there
  others_made : (log : List (Entry Q A)) (e : Entry Q A) (cs : List (Calls Q A)) → times e.number cs ≡ 0 → AllMade log cs
      → AllMade (log ++ e ∷ []) cs
  others_made log e [] z h = tt
  others_made log e (c ∷ cs) z h = let ne : e.number ≢ c.number = (λ p. let t = times_head c cs e.number (sym p) in omega arith) in
      let rest_z : times e.number cs ≡ 0 = omega arith in
      (calls_by-other c.number log e ne ∙ h.0, others_made log e cs rest_z h.1)

  add_made : (log : List (Entry Q A)) (e : Entry Q A) (cs : List (Calls Q A)) → e.number ≡ number_of cs → times e.number cs ≤ 1
      → AllMade log cs → AllMade (log ++ e ∷ []) (add e cs)
  add_made log e [] same once h = tt
  add_made log e (c ∷ cs) same once h = let t = times_one c cs e.number (sym same) in
      (calls_by-own c.number log e same ∙ ap (λ (l : List (Entry Q A)). l ++ e ∷ []) h.0, others_made log e cs (omega arith) h.1)
    where
      times_one : (c : Calls Q A) (cs : List (Calls Q A)) (n : ℕ) → c.number ≡ n → times n (c ∷ cs) ≡ 1 + times n cs
      times_one c cs n e = grind (arith, nat_tests)

  add_times : (n : ℕ) (e : Entry Q A) (cs : List (Calls Q A)) → times n (add e cs) ≡ times n cs
  add_times n e [] = refl
  add_times n e (c ∷ cs) = refl

  add_length : (e : Entry Q A) (cs : List (Calls Q A)) → length (add e cs) ≡ length cs
  add_length e [] = refl
  add_length e (c ∷ cs) = refl

  own_times : (cs : List (Calls Q A)) → 0 < length cs → 1 ≤ times (number_of cs) cs
  own_times [] h = absurd (omega arith)
  own_times (c ∷ cs) h = times_head c cs c.number refl

  -- a turn of another seat has ended
  stage_ends : (log : List (Entry Q A)) (e : Entry Q A) (ticket : ℕ) (homes homes' : Homes) (seen : List (Entry Q A)) (st : Stage)
      → (Holds st (length log) → ⊥) → InStage log ticket homes seen st → InStage (log ++ e ∷ []) ticket homes' seen st
  stage_ends log e ticket homes homes' seen Idle apart h = tt
  stage_ends log e ticket homes homes' seen (Waiting n) apart h =
      let l = length-append log (e ∷ []) in let a = h.0 in let ne : n ≢ length log = apart in (omega arith, h.1)
  stage_ends log e ticket homes homes' seen (Serving n) apart h = absurd (apart (sym h.0))

  pub ends : (slots id : ℕ) (me : Sitter) (t : ℕ) (y z : M) (q : Q) (a : A) (said : Option (Q × A)) → me.0.stage ≡ Serving t
      → me.1 ≡ (0, Some z) ∷ []
      → ((b : M) → me.0.first ≡ Some b → Runs steps b me.0.seen y) → me.0.first ≡ Some x → steps y q a z → 0 < length me.0.calls
      → said ≡ Some (q, a)
      → Allows Rule slots id me 0 (λ n. (n + 1) % 2 ^ 64) (ended steps said (step slots 0 1 0 none) me)
  ends slots id me t y z q a said serving mine runs first_is goes some_number said_is s k len at small =
      let known = k.each_seat id me.0 at in
      let e : Entry Q A = call (number_of me.0.calls) q a in
      let found : get_or s.words 0 0 ≡ length k.log = ap (λ (ws : List ℕ). get_or ws 0 0) k.words in
      let held : InStage k.log k.ticket s.homes me.0.seen (Serving t) = let F : Stage → Type 0 = λ st.
      InStage k.log k.ticket s.homes me.0.seen st in subst F serving known.stage in
      let turn : Holds me.0.stage (length k.log) = let F : Stage → Type 0 = λ st. Holds st (length k.log) in
      subst F (sym serving) (sym held.0) in
      let whole : me.0.seen ≡ k.log = held.2 in
      let w : V = finished me.0 e in
      let log' : List (Entry Q A) = k.log ++ e ∷ [] in
      let same : w.seen ≡ log' = ap (λ (l : List (Entry Q A)). l ++ e ∷ []) whole in
      let one_longer : length log' ≡ length k.log + 1 = length-append k.log (e ∷ []) in
      let below = held.1 in let at_front = held.0 in
      let fits : length k.log + 1 < 2 ^ 64 = let b = ticket_small s k in omega arith in
      let own = own_times me.0.calls some_number in
      let legal : IsLegal steps x log' = (
        z,
        Runs-snoc steps x y z k.log e (let F : List (Entry Q A) → Type 0 = λ l. Runs steps x l y in
            subst F whole (runs x first_is)) goes,
      ) in
      let once = k.once e.number in
      let made : AllMade log' w.calls = (let m = total_at (λ (u : V). times e.number u.calls) s.views id me.0 at in
      add_made k.log e me.0.calls refl (omega arith) known.made) in
      let others : (j : ℕ) (u : V) → j ≢ id → get_elem? s.views j ≡ some u → Knows x log' k.ticket (some (Some z) ∷ []) u = λ j u ne at'.
      let ku = k.each_seat j u at' in
      let two = total_two (λ (v : V). times e.number v.calls) s.views id j me.0 u (λ p. ne (sym p)) at at' in
      record {
        first = ku.first;
        seen = begins_more u.seen k.log (e ∷ []) ku.seen;
        told = begins_more u.told k.log (e ∷ []) ku.told;
        tickets = ku.tickets;
        made = others_made k.log e u.calls (omega arith) ku.made;
        stage = stage_ends k.log e k.ticket s.homes (some (Some z) ∷ []) u.seen u.stage
            (λ h. ne (sym (k.apart id j (length k.log) me.0 u at at' turn h))) ku.stage;
        active = ku.active;
      } in (
        w,
        gives,
        tt,
        rewritten _ (length log' ∷ k.ticket ∷ []) _ (some (Some z) ∷ []) _
            (ap (λ (ws : List ℕ). set ws 0 ((get_or ws 0 0 + 1) % 2 ^ 64)) k.words
            ∙ ap (λ (l : ℕ). l ∷ k.ticket ∷ []) (mod-eq_of_lt fits ∙ sym one_longer))
            (λ i. put_back (held.3 i) (mine i))
            (rebuilt s k id me.0 w log' k.ticket (some (Some z) ∷ []) at (let q = k.queue in
            let e = total_set holding s.views id me.0 w at in let one : holding me.0 ≡ 1 = ap held_at serving in omega arith) legal
            (inl (z, refl, legal.1))
            record {
              first = known.first;
              seen = (let F : List (Entry Q A) → Type 0 = λ l. Begins l log' in subst F (sym same) (begins_self log'));
              told = begins_more me.0.told k.log (e ∷ []) known.told;
              tickets = known.tickets;
              made = made;
              stage = tt;
              active = (λ _ h. absurd h);
            }
            others
            (λ j t' u ne at' hw hu. hw)
            (add_length e me.0.calls)
            (λ n. add_times n e me.0.calls)
            (λ n none_there. let m = total_at (λ (u : V). times n u.calls) s.views id me.0 at in
            calls_by-other n k.log e (λ p. let o : 1 ≤ times n me.0.calls = (let F : ℕ → Type 0 = λ i. 1 ≤ times i me.0.calls in
            subst F p own) in absurd (omega arith)) ∙ k.unmade n none_there)
            (let r = k.room in let l = total_set late s.views id me.0 w at in let lengths = add_length e me.0.calls in
            let up = late_up me.0.tickets w.tickets (length me.0.calls) (length w.calls) (le_refl me.0.tickets) (omega arith) in
            omega arith)),
        (let F : Option (Q × A) → Type 0 = λ o. ended steps o (step slots 0 1 0 none) me (get_or s.words 0 0)
            (w, carried_after me.1 gives) in
            let G : List (Entry Q A) → Type 0 = λ l. IsLegal steps x l × AllMade l w.calls in
            let there = subst G (sym same) (legal, made) in
            subst F (sym said_is) (
              refl,
              (λ b p. let H : M → Type 0 = λ m. IsLegal steps m w.seen in
                  subst H (sym (known.first b p)) there.0),
              there.1,
            )),
      )
