-- The replay of what was recorded leads back, by induction over what was asked.
use Rattle.std.proofs.Common.{◌≡◌, ℕ, true, false, ◌≤◌, refl, sym, ◌∙◌, ap, subst, arith, List, [], ◌∷◌, ◌++◌, Option, Some, None, inl, inr}
use Rattle.std.specs.Prelude.{◌⊎◌}
use Rattle.std.specs.List.{cons_option}
use Rattle.tsn_types.specs.declared.refusals.Refusal.{Refusal}
use Rattle.tsn_types.specs.declared.refusals.Refusal.TheVariants.{Memory}
use Rattle.tsn_types.specs.Refusals.{least}
use Rattle.tsn_edit.proofs.KeyFacts.{by_option}
use Rattle.tsn_commands.specs.declared.command.Ask.{Ask}
use Rattle.tsn_commands.specs.declared.command.Command.{Command}
use Rattle.tsn_commands.specs.declared.reply.Reply.{Reply}
use Rattle.tsn_commands.specs.declared.reply.Reply.TheVariants.{Refused}
use Rattle.tsn_bridge.specs.Histories.{Answered, Answers, Leads}
use Rattle.tsn_bridge.specs.Families.{Acting, Counting, Family, Framing, family}
use Rattle.tsn_bridge.specs.Machine.{Step}
use Rattle.tsn_bridge.specs.Rule.{Allows, Rule}
use Rattle.tsn_bridge.specs.State.{State}
use Rattle.tsn_bridge.proofs.AtOnce.{done_of}
use Rattle.tsn_bridge.proofs.Families.{IsStill, one_rule}
use Rattle.tsn_bridge.proofs.Stepping.{AllowsAt}
use Rattle.tsn_replay.specs.Answering.{AnswerAlike, IsFromLasting, IsFromLastingIn}
use Rattle.tsn_replay.specs.Lasting.{Resumes, lasting}
use Rattle.tsn_replay.specs.Recording.{AreRecorded, all_recorded, asks_of, is_accepted, recorded, with_reply}
use Rattle.tsn_replay.specs.Replaying.{Comes, IsReplayed, LeadsBack, Life, Lives, Replays, Turn}
use Rattle.tsn_replay.proofs.Carrying.{beside}
use Rattle.tsn_replay.proofs.Alike.{each_alike}
use Rattle.tsn_replay.proofs.Exact.{IsExact, keeps_exact}
use Rattle.tsn_replay.proofs.Recorded.{IsTold, accepts, each_told, still_passes}
use Rattle.tsn_bridge.proofs.Reaching.{led_on}

-- ---- one step alone: where a command may be accepted, it may else only be refused for want of memory

never_both : (reply : Reply) (why : Refusal) → is_accepted reply ≡ true → reply ≡ Refused why → ⊥
never_both reply why accepted refused = let never : true ≡ false = sym accepted ∙ ap is_accepted refused in (cc)

-- the other step is the same, or memory was wanting
abbrev pub IsOneWay : State → Reply → State → Reply → State → Type 0
IsOneWay s reply after other left = ((other ≡ reply) × (left ≡ after)) ⊎ ((other ≡ Refused Memory) × (left ≡ s))

one_at : (o : Option Refusal) (rule : Rule) (s : State) (reply : Reply) (after : State) (other : Reply) (left : State)
    → is_accepted reply ≡ true → AllowsAt o rule s reply after → AllowsAt o rule s other left → IsOneWay s reply after other left
one_at None rule s reply after other left accepted (inl done) (inl also) =
    let same = done_of _ _ (sym also ∙ done) in inl (ap (λ (p : Reply × State). p.0) same, ap (λ (p : Reply × State). p.1) same)
one_at None rule s reply after other left accepted (inl done) (inr memory) = inr (memory.1, memory.2)
one_at None rule s reply after other left accepted (inr memory) also = absurd (never_both reply Memory accepted memory.1)
one_at (Some why) rule s reply after other left accepted cause also = absurd (never_both reply why accepted cause.0)

one_way : (s : State) (n : ℕ) (reply : Reply) (after : State) (other : Reply) (left : State) → is_accepted reply ≡ true
    → (command : Command) → Step s n command reply after → Step s n command other left → IsOneWay s reply after other left
one_way s n reply after other left accepted command step also =
    let r = one_rule s n (family command) (λ rule. Allows rule s reply after) (λ rule. Allows rule s other left) step also in
    one_at (least r.0.causes) r.0 s reply after other left accepted r.1 r.2

-- ---- two states with the same ledger and sessions

-- what follows from what lasts at a time, does at an earlier one
earlier : (early late : ℕ) (f : Family) → early ≤ late → IsFromLastingIn late f → IsFromLastingIn early f
earlier early late (Acting act k now) le h = omega (arith, le, h)
earlier early late (Framing frame now) le h = h
earlier early late (Counting look) le h = h
earlier early late f le h = tt

is_beside : (s t : State) → lasting t ≡ lasting s → t ≡ beside s t.time t.frames
is_beside s t same i =
    record { book = (same i).ledger; sessions = (same i).sessions; names = (same i).names; time = t.time; frames = t.frames }

module _ (s again : State) (h : Resumes s again) where
  in_time : (after there : State) → ((after.time ≡ s.time) × (there.time ≡ again.time)) ⊎ (there.time ≡ after.time)
      → there.time ≤ after.time
  in_time after there (inl kept) = omega (arith, kept.0, kept.1, h.time)
  in_time after there (inr one) = omega (arith, one)

  out_of_time : (after there : State) → ((there.time ≡ again.time) × (after.time ≡ s.time)) ⊎ (after.time ≡ there.time)
      → there.time ≤ after.time
  out_of_time after there (inl kept) = omega (arith, kept.0, kept.1, h.time)
  out_of_time after there (inr one) = omega (arith, one)

  pub forth : (n : ℕ) (command : Command) (reply : Reply) (after : State) → IsFromLasting s.time command → Step s n command reply after
      → (there : State) × Step again n command reply there × Resumes after there
  forth n command reply after from step =
      let c = each_alike s again.time again.frames n command reply after from (earlier again.time s.time (family command) h.time from)
      step in (
        c.0,
        subst (λ (x : State). Step x n command reply c.0) (sym (is_beside s again h.same)) c.1,
        record { same = c.2.same; time = in_time after c.0 c.2.times },
      )

  back : (n : ℕ) (command : Command) (reply : Reply) (there : State) → IsFromLasting s.time command → Step again n command reply there
      → (after : State) × Step s n command reply after × Resumes after there
  back n command reply there from step =
      let c = each_alike again s.time s.frames n command reply there (earlier again.time s.time (family command) h.time from) from step in (
        c.0,
        subst (λ (x : State). Step x n command reply c.0) (sym (is_beside again s (sym h.same))) c.1,
        record { same = sym c.2.same; time = out_of_time c.0 there c.2.times },
      )

  pub alike : AnswerAlike s again
  alike = record { forth = forth; back = back }

-- ---- lists of asks

-- records lead, with their replies, from one state to one that resumes the moment
pub record Reaches (again : State) (front : List Answered) (moment : State) : Type 0 where
  pub reached : State
  pub leads : Leads again front reached
  pub are : AreRecorded front
  pub resumes : Resumes moment reached
  pub exact : IsExact again → IsExact reached

-- a step of the machine, or a refusal that changes nothing
abbrev pub IsWithin : State → Ask → Reply → State → Type 0
IsWithin s a reply new = Answers s a reply new ⊎ IsStill s reply new

-- each turn is one of these
abbrev pub AreWithin : Turn → Type 0
AreWithin turn = (s : State) (a : Ask) (reply : Reply) (new : State) → turn s a reply new → IsWithin s a reply new

told_within : (s : State) (t : Answered) (between : State) → IsWithin s t.ask t.reply between → IsTold s t between
told_within s t between (inl step) = each_told s t.ask.session t.reply between t.ask.command step
told_within s t between (inr still) = still_passes s t.ask.session t.reply between t.ask.command still

module _ (turn : Turn) (within : AreWithin turn) where
  each_turned : (s : State) (t : Answered) (between : State) → turn s t.ask t.reply between → IsTold s t between
  each_turned s t between step = told_within s t between (within s t.ask t.reply between step)

  pub reaches : (ts : List Answered) (s again now : State) → Resumes s again → Comes turn s ts now → Reaches again (all_recorded ts) now
  reaches [] s again now h same =
      record { reached = again; leads = refl; are = tt; resumes = subst (λ (x : State). Resumes x again) (sym same) h; exact = λ e. e }
  reaches (t ∷ ts) s again now h (between, step, rest) =
      elim (each_turned s t between step) as (λ _. Reaches again (all_recorded (t ∷ ts)) now) [
        | inl passing ↦
            let on : Resumes between again = record { same = h.same ∙ sym passing.same; time = omega (arith, h.time, passing.time) } in
            subst (λ (o : Option Answered). Reaches again (cons_option o (all_recorded ts)) now) (sym passing.nothing)
            (reaches ts between again now on rest)
        | inr kept ↦
            let one = forth s again h kept.ask.session kept.ask.command t.reply between kept.from kept.step in
            let more = reaches ts between one.0 now one.2 rest in
            subst (λ (o : Option Answered). Reaches again (cons_option o (all_recorded ts)) now) (sym kept.is) (record {
              reached = more.reached;
              leads = (one.0, one.1, more.leads);
              are = ((kept.accepted, kept.fixed), more.are);
              resumes = more.resumes;
              exact = λ e. more.exact (keeps_exact again kept.ask.session t.reply one.0 e kept.ask.command (with_reply t.reply kept.ask)
                  kept.accepted kept.fixed one.1);
            })
      ]

pub replays_of : (front : List Answered) (s reached : State) → AreRecorded front → Leads s front reached → Replays s (asks_of front) reached
replays_of [] s reached accepted same = same
replays_of (t ∷ ts) s reached accepted (between, step, on) =
    (t.reply, between, step, accepts t.reply accepted.0.0, replays_of ts between reached accepted.1 on)

-- two replays of the same come to the same state
pub same_replay : (asks : List Ask) (s one other : State) → Replays s asks one → Replays s asks other → other ≡ one
same_replay [] s one other is also = also ∙ sym is
same_replay (a ∷ rest) s one other (reply, between, step, accepted, on) (told, left, also, accepted_also, on_also) =
    elim (one_way s a.session reply between told left accepted a.command step also) as (λ _. other ≡ one) [
      | inl same ↦ same_replay rest between one other on (subst (λ (x : State). Replays x rest other) same.1 on_also)
      | inr memory ↦ absurd (never_both told Memory accepted_also memory.0)
    ]

-- a replay of two parts is one of the first, and then one of the second
pub in_parts : (done rest : List Ask) (s now : State) → Replays s (done ++ rest) now
    → (mid : State) × Replays s done mid × Replays mid rest now
in_parts [] rest s now h = (s, refl, h)
in_parts (a ∷ done) rest s now (reply, between, step, accepted, on) =
    let more = in_parts done rest between now on in (more.0, (reply, between, step, accepted, more.1), more.2)

goes_on : (start reached : State) (all : List Ask) → Replays start all reached
    → (done : List Ask) (a : Ask) (rest : List Ask) (between new : State) (reply : Reply)
    → all ≡ done ++ a ∷ rest → Replays start done between → Answers between a reply new
    → (is_accepted reply ≡ true) ⊎ ((reply ≡ Refused Memory) × (new ≡ between))
goes_on start reached all replays done a rest between new reply is so_far step =
    let parts = in_parts done (a ∷ rest) start reached (subst (λ (xs : List Ask). Replays start xs reached) is replays) in
    let here : parts.0 ≡ between = same_replay done start between parts.0 so_far parts.1 in
    let next : Replays between (a ∷ rest) reached = subst (λ (x : State). Replays x (a ∷ rest) reached) here parts.2 in
    elim (one_way between a.session next.0 next.1 reply new next.3 a.command next.2 step) as
    (λ _. (is_accepted reply ≡ true) ⊎ ((reply ≡ Refused Memory) × (new ≡ between))) [
      | inl same ↦ inl (ap is_accepted same.0 ∙ next.3)
      | inr memory ↦ inr memory
    ]

pub leads_back : (start : State) (front : List Answered) (moment : State) → Reaches start front moment → LeadsBack start front moment
leads_back start front moment r =
    let replays = replays_of front start r.reached r.are r.leads in
    record {
      again = r.reached;
      leads = r.leads;
      replays = replays;
      resumes = r.resumes;
      alike = alike moment r.reached r.resumes;
      only = λ other also. same_replay (asks_of front) start r.reached other replays also;
      goes_on = λ done a rest between new reply is so_far step. goes_on start r.reached (asks_of front) replays done a rest between new
          reply is so_far step;
      time = r.exact;
    }

-- ---- fronts of what was recorded

-- a front of the records is all that is recorded of a front of the asks
record IsFrontOf (ts front : List Answered) : Type 0 where
  before : List Answered
  after : List Answered
  split : ts ≡ before ++ after
  recorded_then : all_recorded before ≡ front

front_of : (ts front rest : List Answered) → all_recorded ts ≡ front ++ rest → IsFrontOf ts front
front_of ts [] rest is = record { before = []; after = ts; split = refl; recorded_then = refl }
front_of [] (f ∷ front) rest is = (cc)
front_of (t ∷ ts) (f ∷ front) rest is = by_option (recorded t)
    (λ none.
    let r = front_of ts (f ∷ front) rest (sym (ap (λ (o : Option Answered). cons_option o (all_recorded ts)) none) ∙ is) in
    record {
      before = t ∷ r.before;
      after = r.after;
      split = ap (λ (xs : List Answered). t ∷ xs) r.split;
      recorded_then = ap (λ (o : Option Answered). cons_option o (all_recorded r.before)) none ∙ r.recorded_then;
    })
    (λ a some.
    let both : a ∷ all_recorded ts ≡ f ∷ (front ++ rest) = sym (ap (λ (o : Option Answered). cons_option o (all_recorded ts)) some) ∙ is in
    let first : a ≡ f = (cc) in
    let others : all_recorded ts ≡ front ++ rest = (cc) in
    let r = front_of ts front rest others in
    record {
      before = t ∷ r.before;
      after = r.after;
      split = ap (λ (xs : List Answered). t ∷ xs) r.split;
      recorded_then = ap (λ (o : Option Answered). cons_option o (all_recorded r.before)) some ∙ (λ i. first i ∷ r.recorded_then i);
    })

come_in_parts : (turn : Turn) (before after : List Answered) (s now : State) → Comes turn s (before ++ after) now
    → (moment : State) × Comes turn s before moment × Comes turn moment after now
come_in_parts turn [] after s now h = (s, refl, h)
come_in_parts turn (t ∷ before) after s now (between, step, on) =
    let more = come_in_parts turn before after between now on in (more.0, (between, step, more.1), more.2)

pub itself : (s : State) → Resumes s s
itself s = record { same = refl; time = omega arith }

pub replayed : (turn : Turn) → AreWithin turn → (start : State) (asks : List Answered) (now : State) → Comes turn start asks now
    → IsReplayed turn start asks now
replayed turn within start asks now comes = record {
  whole = leads_back start (all_recorded asks) now (reaches turn within asks start start now (itself start) comes);
  fronts = λ front rest is.
      let f = front_of asks front rest is in
      let parts = come_in_parts turn f.before f.after start now (subst (λ (xs : List Answered). Comes turn start xs now) f.split comes) in
      record {
        before = f.before;
        after = f.after;
        split = f.split;
        recorded_then = f.recorded_then;
        moment = parts.0;
        led = parts.1;
        leads_on = parts.2;
        back = leads_back start front parts.0
            (subst (λ (xs : List Answered). Reaches start xs parts.0)
            f.recorded_then (reaches turn within f.before start start parts.0 (itself start) parts.1));
      };
}

-- where asks lead the machine is where its steps come to
pub comes_of : (asks : List Answered) (s now : State) → Leads s asks now → Comes Answers s asks now
comes_of [] s now same = same
comes_of (t ∷ ts) s now (between, step, on) = (between, step, comes_of ts between now on)

-- ---- over many starts

both_records : (front more : List Answered) → AreRecorded front → AreRecorded more → AreRecorded (front ++ more)
both_records [] more h k = k
both_records (t ∷ front) more h k = (h.0, both_records front more h.1 k)

-- what is asked further, and recorded behind what stands in the file
pub goes_further : (turn : Turn) → AreWithin turn → (start : State) (file : List Answered) (s : State) (asks : List Answered) (now : State)
    → Reaches start file s → Comes turn s asks now → Reaches start (file ++ all_recorded asks) now
goes_further turn within start file s asks now r comes =
    let more = reaches turn within asks s r.reached now r.resumes comes in
    record {
      reached = more.reached;
      leads = led_on file (all_recorded asks) start r.reached more.reached r.leads more.leads;
      are = both_records file (all_recorded asks) r.are more.are;
      resumes = more.resumes;
      exact = λ e. more.exact (r.exact e);
    }

-- a front of what leads there leads to one state
led_in_parts : (front rest : List Answered) (s now : State) → Leads s (front ++ rest) now → (mid : State) × Leads s front mid
led_in_parts [] rest s now h = (s, refl)
led_in_parts (t ∷ front) rest s now (between, step, on) =
    let more = led_in_parts front rest between now on in (more.0, (between, step, more.1))

front_records : (front rest : List Answered) → AreRecorded (front ++ rest) → AreRecorded front
front_records [] rest h = tt
front_records (t ∷ front) rest h = (h.0, front_records front rest h.1)

each_exact : (front : List Answered) (s reached : State) → AreRecorded front → Leads s front reached → IsExact s → IsExact reached
each_exact [] s reached are same exact = subst IsExact (sym same) exact
each_exact (t ∷ front) s reached are (between, step, on) exact =
    each_exact front between reached are.1 on (keeps_exact s t.ask.session t.reply between exact t.ask.command t are.0.0 are.0.1 step)

-- a start again with a front: it is where the file leads
starts_again : (start : State) (all front rest : List Answered) (ended again : State) → Reaches start all ended → all ≡ front ++ rest
    → Replays start (asks_of front) again → Reaches start front again
starts_again start all front rest ended again r is replays =
    let led = led_in_parts front rest start r.reached (subst (λ (xs : List Answered). Leads start xs r.reached) is r.leads) in
    let accepted = front_records front rest (subst AreRecorded is r.are) in
    let same : led.0 ≡ again = same_replay (asks_of front) start again led.0 replays (replays_of front start led.0 accepted led.1) in
    record {
      reached = again;
      leads = subst (λ (x : State). Leads start front x) same led.1;
      are = accepted;
      resumes = itself again;
      exact = λ e. subst IsExact same (each_exact front start led.0 accepted led.1 e);
    }

pub over_lives : (turn : Turn) → AreWithin turn → (lives : List Life) (start s now : State) (file written : List Answered)
    → Reaches start file s → Lives turn start s file lives now written → Reaches start written now
over_lives turn within [] start s now file written r h =
    subst (λ (x : State). Reaches start written x) (sym h.0) (subst (λ (xs : List Answered). Reaches start xs s) (sym h.1) r)
over_lives turn within (life ∷ lives) start s now file written r (ended, comes, front, again, replays, on) =
    over_lives turn within lives start again now life.stays written
    (starts_again start (file ++ all_recorded life.asks) life.stays front.0 ended again
    (goes_further turn within start file s life.asks ended r comes) front.1 replays) on

pub lived : (turn : Turn) → AreWithin turn → (lives : List Life) (start now : State) (written : List Answered)
    → Lives turn start start [] lives now written → LeadsBack start written now
lived turn within lives start now written h =
    leads_back start written now (over_lives turn within lives start start now [] written
    (record { reached = start; leads = refl; are = tt; resumes = itself start; exact = λ e. e }) h)

-- ---- a replay, step after step

-- a replay goes on with another
pub replays_on : (done rest : List Ask) (s between now : State) → Replays s done between → Replays between rest now
    → Replays s (done ++ rest) now
replays_on [] rest s between now same on = subst (λ (x : State). Replays x rest now) same on
replays_on (a ∷ done) rest s between now (reply, next, step, accepted, more) on =
    (reply, next, step, accepted, replays_on done rest next between now more on)

refused_by : (reply : Reply) (why : Refusal) → reply ≡ Refused why → (is_accepted reply ≡ true) ⊎ (reply ≡ Refused Memory) → why ≡ Memory
refused_by reply why is (inl accepted) = absurd (never_both reply why accepted is)
refused_by reply why is (inr memory) = let same : Refused why ≡ Refused Memory = sym is ∙ memory in (cc)

either : (reply : Reply) (s new : State) → (is_accepted reply ≡ true) ⊎ ((reply ≡ Refused Memory) × (new ≡ s))
    → (is_accepted reply ≡ true) ⊎ (reply ≡ Refused Memory)
either reply s new (inl accepted) = inl accepted
either reply s new (inr memory) = inr memory.0

-- of what was written only want of memory refuses any
pub only_memory : (start now : State) (written : List Answered) → LeadsBack start written now
    → (done : List Ask) (a : Ask) (rest : List Ask) (between new : State) (why : Refusal)
    → asks_of written ≡ done ++ a ∷ rest → Replays start done between → Answers between a (Refused why) new → why ≡ Memory
only_memory start now written back done a rest between new why is so_far step =
    refused_by (Refused why) why refl (either (Refused why) between new (back.goes_on done a rest between new (Refused why) is so_far step))
