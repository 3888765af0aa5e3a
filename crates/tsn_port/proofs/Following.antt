-- What a turn that asks for entries tells a mirror of a port.
use Rattle.std.proofs.Common.{◌≡◌, ◌∙◌, ◌+◌, ◌-◌, ◌≤◌, ◌++◌, ℕ, List, [], ◌∷◌, Some, ap, arith, drop, length, length-append, refl, subst, suc, sym, take, true, zero}
use Rattle.std.proofs.lemmas.List.{length-drop, take-append-le}
use Rattle.std.proofs.Math.Seq.{take-add}
use Rattle.std.specs.List.{fold}
use Rattle.std.specs.FinMap.{get}
use Rattle.tsn_types.specs.declared.keys.Key.TheVariants.{Port}
use Rattle.tsn_types.specs.declared.limits.Limits.{Limits}
use Rattle.tsn_types.specs.declared.records.PortEntry.{PortEntry}
use Rattle.tsn_types.specs.declared.records.PortGates.{PortGates}
use Rattle.tsn_types.specs.declared.records.Record.TheVariants as records
use Rattle.tsn_entries.specs.declared.entries.Entry.{Entry}
use Rattle.tsn_entries.specs.declared.entries.MarkedEntry.{MarkedEntry}
use Rattle.tsn_entries.specs.Entries.{IsNumbered}
use Rattle.tsn_entries.specs.Finding.{since}
use Rattle.tsn_entries.specs.Marks.{entries_of}
use Rattle.tsn_journal.proofs.Collecting.{since-drop}
use Rattle.tsn_machine.specs.declared.history.Entry.{Entry as Call}
use Rattle.tsn_machine.specs.History.{Begins, Runs, call}
use Rattle.tsn_commands.specs.declared.command.Ask.{Ask}
use Rattle.tsn_commands.specs.declared.command.Command.TheVariants as commands
use Rattle.tsn_commands.specs.declared.reply.Reply.{Reply}
use Rattle.tsn_commands.specs.declared.reply.Reply.TheVariants as replies
use Rattle.tsn_bridge.specs.Later.{IsLater}
use Rattle.tsn_bridge.specs.Reached.{IsReached}
use Rattle.tsn_bridge.specs.Later as later
use Rattle.tsn_bridge.specs.Machine.{Step}
use Rattle.tsn_bridge.specs.Objects.{Object}
use Rattle.tsn_bridge.specs.Reads.{since_rule}
use Rattle.tsn_bridge.specs.State.{State}
use Rattle.tsn_bridge.specs.Turns.{Turns, answered}
use Rattle.tsn_bridge.proofs.AtOnce.{done_of}
use Rattle.tsn_bridge.proofs.Later.{all_go_on}
use Rattle.tsn_bridge.proofs.Stepping.{accepted}
use Rattle.tsn_bridge.proofs.Reaching.{limits_reached, whole_reached, whole_there}
use Rattle.tsn_bridge.proofs.Turning.{leads}
use Rattle.tsn_port.specs.Mirrors.{AreOfPort, MirrorState, Mirrors, mirrored}
use Rattle.tsn_port.specs.Histories.{IsWhole, Tells}
use Rattle.tsn_port.proofs.Ports.{entries_of_ports}
use Rattle.tsn_port.proofs.Taking.{after}

-- a run is a run of its beginning, and one of the rest
pub runs_split : (x z : State) (a b : List (Call Ask Reply)) → Runs Turns x (a ++ b) z → (y : State) × Runs Turns x a y × Runs Turns y b z
runs_split x z [] b h = (x, refl, h)
runs_split x z (e ∷ a) b h = let rest = runs_split h.0 z a b h.2 in (rest.0, (h.0, h.1, rest.1), rest.2)

-- what a since answers
pub since_gives : (s : State) (n from : ℕ) (entries : List Entry) (new : State)
    → Step s n (commands.Since from) (replies.Entries entries) new → (entries ≡ since s.book.entries from) × (new ≡ s)
since_gives s n from entries new step =
    let is = accepted (since_rule s n from) s (replies.Entries entries) new (λ why h. (cc)) step in
    let both = done_of _ _ is.1 in
    let reply : replies.Entries (since s.book.entries from) ≡ replies.Entries entries = ap (λ (p : Reply × State). p.0) both in
    ((cc), sym (ap (λ (p : Reply × State). p.1) both))

-- entries of greater numbers are those behind the first ones
marked : List Entry → List MarkedEntry
marked [] = []
marked (e ∷ es) = record { entry = e; is_open = true } ∷ marked es

unmarked : (es : List Entry) → entries_of (marked es) ≡ es
unfolding marked
unmarked [] = refl
unmarked (e ∷ es) = ap (λ xs. e ∷ xs) (unmarked es)

unmarked_drop : (n : ℕ) (es : List Entry) → entries_of (drop n (marked es)) ≡ drop n es
unfolding marked
unmarked_drop zero es = unmarked es
unmarked_drop (suc n) [] = refl
unmarked_drop (suc n) (e ∷ es) = unmarked_drop n es

pub since_is : (es : List Entry) (n : ℕ) → IsNumbered 1 es → since es n ≡ drop n es
since_is es n numbered =
    ap (λ xs. since xs n) (sym (unmarked es)) ∙ sym (since-drop n (marked es) (subst (IsNumbered 1) (sym (unmarked es)) numbered))
    ∙ unmarked_drop n es

-- what holds after each entry holds after those behind the first ones
of_port_drop : (n : ℕ) (o : Object PortEntry) (k : ℕ) (es : List Entry) → AreOfPort n o es
    → AreOfPort n (fold (after n) o (take k es)) (drop k es)
of_port_drop n o zero es h = h
of_port_drop n o (suc k) [] h = tt
of_port_drop n o (suc k) (e ∷ es) h = of_port_drop n (after n o e) k es h.1

-- a beginning of a list has its first elements
pub take_begins : (n : ℕ) (xs more : List Entry) → n ≤ length xs → take n (xs ++ more) ≡ take n xs
take_begins n xs more low = take-append-le n xs more low

module _ (first : State) (reached : IsReached first) where
  -- a run from a state is one of the bridge, and leads to a later one
  pub asked : (history : List (Call Ask Reply)) (z : State) → Runs Turns first history z → IsReached z
  asked history z run = whole_there first reached history z run

  pub whole_at : (history : List (Call Ask Reply)) (z : State) → Runs Turns first history z → later.IsWhole z
  whole_at history z run = whole_reached z (asked history z run)

  pub grows : (x z : State) (history : List (Call Ask Reply)) → later.IsWhole x → Runs Turns x history z → IsLater x z
  grows x z history whole run = let is = leads history x z run in (all_go_on (answered history) x z whole is.0 is.1).1

  module _ (h before now : List (Call Ask Reply)) (number session : ℕ) (m m' : MirrorState) (entries : List Entry)
      (low : 1 ≤ m.port) (high : m.port ≤ first.book.limits.ports) (same : m'.port ≡ m.port)
      (tells : Tells first h m) (begins : Begins h before)
      (whole : now ≡ before ++ call number (record { session = session; command = commands.Since m.front }) (replies.Entries entries) ∷ [])
      (more : m.front ≤ m'.front) (most : m'.front ≤ m.front + length entries)
      (taken : (opening : PortGates) (before : List Entry) → Mirrors m opening before
      → AreOfPort m.port (mirrored m.port opening before) entries → Mirrors m' opening (before ++ take (m'.front - m.front) entries))
    where
      -- what is known of any state to which the longer history leads
      record Known (z : State) : Type 0 where
        stands : (opening : PortGates) → get z.book.opening (Port m.port) ≡ Some (records.Port opening)
            → Mirrors m opening (take m.front z.book.entries)
        within : m.front ≤ length z.book.entries
        entries_are : entries ≡ drop m.front z.book.entries

      known : (z : State) → Runs Turns first now z → Known z
      known z run =
          let (y, upto, (z', step, end)) = runs_split first z before _ (subst (λ l. Runs Turns first l z) whole run) in
          let gives = since_gives y session m.front entries z' step.1 in
          let is : z ≡ y = sym end ∙ gives.1 in
          let (u, old, onto) = runs_split first y h begins.0 (subst (λ l. Runs Turns first l y) (sym begins.1) upto) in
          let late = grows u y begins.0 (whole_at h u old) onto in
          let low' = tells.within u old in
          let front : take m.front y.book.entries ≡ take m.front u.book.entries = ap (take m.front) late.entries
          ∙ take_begins m.front u.book.entries late.more low' in
          let size : length y.book.entries ≡ length u.book.entries + length late.more = ap (λ es. length es) late.entries
          ∙ length-append u.book.entries late.more in
          subst Known (sym is) (record {
            stands = λ opening at. subst (λ es. Mirrors m opening es) (sym front)
                (tells.stands u opening old (ap (λ c. get c (Port m.port)) (sym late.opening) ∙ at));
            within = omega (arith, low', size);
            entries_are = gives.0 ∙ since_is y.book.entries m.front (whole_at before y upto).journal.numbered;
          })

      pub tells_on : Tells first now m'
      tells_on = record {
        stands = λ z opening run at.
            let k = known z run in
            let at' : get z.book.opening (Port m.port) ≡ Some (records.Port opening) = ap (λ n. get z.book.opening (Port n)) (sym same)
            ∙ at in
            let is = asked now z run in
            let fits : m.port ≤ is.limits.ports = subst (λ (l : Limits). m.port ≤ l.ports)
            (sym (grows first z now (whole_at [] first refl) run).limits ∙ limits_reached z is) high in
            let of_all = entries_of_ports is.limits is.given is.asks z m.port opening is.opens is.ranges is.led low fits at' in
            let of_rest = of_port_drop m.port (mirrored m.port opening []) m.front z.book.entries of_all in
            let of_port : AreOfPort m.port (mirrored m.port opening (take m.front z.book.entries)) entries = subst
            (λ es. AreOfPort m.port (mirrored m.port opening (take m.front z.book.entries)) es) (sym k.entries_are) of_rest in
            let n : m.front + (m'.front - m.front) ≡ m'.front = omega arith in
            let joined : take m.front z.book.entries ++ take (m'.front - m.front) entries ≡ take m'.front z.book.entries =
            ap (λ es. take m.front z.book.entries ++ take (m'.front - m.front) es) k.entries_are
            ∙ (sym (take-add m.front (m'.front - m.front) z.book.entries) ∙ ap (λ i. take i z.book.entries) n) in
            subst (λ es. Mirrors m' opening es) joined (taken opening (take m.front z.book.entries) (k.stands opening at') of_port);
        within = λ z run.
            let k = known z run in
            let size : length entries ≡ length z.book.entries - m.front = ap (λ es. length es) k.entries_are
            ∙ length-drop m.front z.book.entries in
            let room = k.within in
            omega arith;
      }

      pub whole_on : m'.front ≡ m.front + length entries → IsWhole first now m'
      whole_on all z run =
          let k = known z run in
          let size : length entries ≡ length z.book.entries - m.front = ap (λ es. length es) k.entries_are
          ∙ length-drop m.front z.book.entries in
          let room = k.within in
          omega arith
