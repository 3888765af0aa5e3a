-- What a recorder wrote is resumed.
use Rattle.std.proofs.Common.{◌≡◌, ℕ, List, [], ◌∷◌, ◌++◌, map, Option, Some, None, Result, Ok, Err, inl, inr, refl, sym, ap, ◌∙◌, subst, append_assoc}
use Rattle.std.specs.Io.KnownBytes.{Consumes}
use Rattle.tsn_types.specs.declared.refusals.Refusal.{Refusal}
use Rattle.tsn_commands.specs.declared.command.Ask.{Ask}
use Rattle.tsn_commands.specs.declared.reply.Reply.TheVariants.{Refused}
use Rattle.tsn_bridge.specs.Histories.{Answers}
use Rattle.tsn_bridge.specs.State.{State}
use Rattle.tsn_recorded.specs.Text.{Recorded, file_of}
use Rattle.tsn_recorded.proofs.Readings.{longest_front}
use Rattle.tsn_replay.specs.Handling.{Handles}
use Rattle.tsn_replay.specs.Recording.{asks_of}
use Rattle.tsn_replay.specs.Replaying.{Replays}
use Rattle.tsn_replay.proofs.LeadingBack.{lived, only_memory}
use Rattle.tsn_replay.proofs.Running.{handles_within}
use Rattle.tsn_spelling.specs.Line.{line_text}
use Rattle.tsn_spelling.proofs.Holding.{reads_back}
use Rattle.tsn_wire.specs.Reading.{line_of}
use Rattle.tsn_resuming.specs.First.{setup_in}
use Rattle.tsn_initial.specs.Opening.{opened}
use Rattle.tsn_resuming.specs.Joining.{AreAskable, WasWritten, command_of}
use Rattle.tsn_resuming.specs.Resuming.{IsRefusedAt}
use Rattle.tsn_resuming.specs.Standing.{IsRefused, asked, read_as}

-- the asks of a front of lines, that of the next line, and those behind
record Parted (os : List Recorded) (last : Recorded) (asks : List Ask) : Type 0 where
  done : List Ask
  ask : Ask
  rest : List Ask
  parts : asks ≡ done ++ ask ∷ rest
  read : map read_as os ≡ map Ok done
  next : asked last.command ≡ Ok ask

head_of : {A : Type 0} (x y : A) (xs ys : List A) → x ∷ xs ≡ y ∷ ys → x ≡ y
head_of x y xs ys e = cc

tail_of : {A : Type 0} (x y : A) (xs ys : List A) → x ∷ xs ≡ y ∷ ys → xs ≡ ys
tail_of x y xs ys e = cc

read_of : (r : Recorded) (ask : Ask) → r.command ≡ line_text ask → AreAskable (ask ∷ []) → asked r.command ≡ Ok ask
unfolding asked
read_of r ask e h = ap line_of e ∙ reads_back ask.session ask.command h.0

parted : (os : List Recorded) (last : Recorded) (more : List Recorded) (asks : List Ask)
    → map command_of ((os ++ last ∷ []) ++ more) ≡ map line_text asks → AreAskable asks
    → Parted os last asks
parted [] last more [] e h = absurd (cc)
parted [] last more (a ∷ rest) e h = record {
  done = [];
  ask = a;
  rest = rest;
  parts = refl;
  read = refl;
  next = read_of last a (head_of _ _ _ _ e) (h.0, tt);
}
parted (r ∷ os) last more [] e h = absurd (cc)
parted (r ∷ os) last more (a ∷ rest) e h =
    let p : Parted os last rest = parted os last more rest (tail_of _ _ _ _ e) h.1 in
    let here : read_as r ≡ Ok a = read_of r a (head_of _ _ _ _ e) (h.0, tt) in
    record {
      done = a ∷ p.done;
      ask = p.ask;
      rest = p.rest;
      parts = ap (λ t. a ∷ t) p.parts;
      read = rw (here, p.read) refl;
      next = p.next;
    }

abbrev ok_of : Ask → Result Ask Refusal
ok_of a = Ok a

same_ok : {A E : Type 0} (r : Result A E) (x y : A) → r ≡ Ok x → r ≡ Ok y → x ≡ y
same_ok r x y p q = cc

same_oks : (xs ys : List Ask) → map ok_of xs ≡ map ok_of ys → xs ≡ ys
same_oks [] [] e = refl
same_oks [] (y ∷ ys) e = absurd (cc)
same_oks (x ∷ xs) [] e = absurd (cc)
same_oks (x ∷ xs) (y ∷ ys) e =
    let rest : xs ≡ ys = same_oks xs ys (tail_of _ _ _ _ e) in
    let here : x ≡ y = same_ok (ok_of x) x y refl (head_of _ _ _ _ e) in
    cc

no_both : {A E : Type 0} (r : Result A E) (x : A) (e : E) → r ≡ Ok x → r ≡ Err e → ⊥
no_both r x e p q = absurd (cc)

-- what was read is a front of the file
front_of : (file after : Option (List ℕ)) (bytes read front rest : List ℕ) → file ≡ Some bytes → Consumes file after read
    → read ≡ front ++ rest
    → (more : List ℕ) × (bytes ≡ front ++ more)
front_of None after bytes read front rest is c e = absurd (cc)
front_of (Some xs) None bytes read front rest is c e = absurd c
front_of (Some xs) (Some ys) bytes read front rest is c e =
    let same : xs ≡ bytes = cc in
    (rest ++ ys, sym same ∙ c ∙ ap (λ t. t ++ ys) e ∙ append_assoc front rest ys)

-- where the front leads is where the replay of its asks leads, and the next ask is answered 18 at most
refused_ask : (command : List ℕ) (s : State) (why : Refusal) (ask : Ask) → asked command ≡ Ok ask → IsRefused s command why
    → Answers s ask (Refused why) s
refused_ask command s why ask read (inl e) = absurd (no_both _ ask why read e)
refused_ask command s why ask read (inr r) =
    subst (λ a. Answers s a (Refused why) s) (same_ok (asked command) r.ask ask r.read read) r.answered

pub not_refused : (file after : Option (List ℕ)) (line : ℕ) (why : Refusal) → WasWritten file → IsRefusedAt file after line why → ⊥
not_refused file after line why w r =
    let front = front_of file after w.bytes r.begins.bytes (file_of (r.done ++ r.last ∷ [])) r.begins.rest w.is r.begins.read
    r.begins.front in
    let longer = longest_front [] w.bytes (w.first ∷ w.others) (r.done ++ r.last ∷ []) w.rest front.0 w.reads r.begins.recorded front.1 in
    let whole : w.first ∷ w.others ≡ r.leads.first ∷ ((r.leads.others ++ r.last ∷ []) ++ longer.0) = longer.1
    ∙ ap (λ t. (t ++ r.last ∷ []) ++ longer.0) r.leads.all in
    let first : w.first ≡ r.leads.first = head_of _ _ _ _ whole in
    let others : w.others ≡ (r.leads.others ++ r.last ∷ []) ++ longer.0 = tail_of _ _ _ _ whole in
    let p : Parted r.leads.others r.last (asks_of w.written) =
    parted r.leads.others r.last longer.0 (asks_of w.written) (ap (map command_of) (sym others) ∙ w.spelled) w.askable in
    let setup : w.setup ≡ r.setup = same_ok (setup_in w.first.command) w.setup r.setup w.has_setup
    (ap (λ t. setup_in t.command) first ∙ r.leads.has_setup) in
    let start : w.start ≡ r.leads.start = same_ok (opened w.setup) w.start r.leads.start w.opens (ap opened setup ∙ r.leads.opens) in
    let asks : r.leads.asks ≡ p.done = same_oks _ _ (sym r.leads.read ∙ p.read) in
    let replayed : Replays w.start p.done r.s = subst (λ a. Replays w.start a r.s) asks
    (subst (λ a. Replays a r.leads.asks r.s) (sym start) r.leads.replayed) in
    let back = lived (Handles line_text w.most) (handles_within line_text w.most) w.lives w.start w.now w.written w.lived in
    r.not_memory (only_memory w.start w.now w.written back p.done p.ask p.rest r.s r.s why p.parts replayed
    (refused_ask r.last.command r.s why p.ask p.next r.refused))
