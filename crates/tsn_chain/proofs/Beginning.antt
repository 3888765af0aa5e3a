-- A configuration that is opened with one port, and a runtime that followed that port.
use Rattle.std.proofs.Common.{◌≡◌, ℕ, cond, [], ◌∷◌, refl, sym, ◌∙◌, ap, subst, Option, Some, None, arith}
use Rattle.std.specs.Prelude.{Err, Ok, OnErr, OnOk, Result, is_some}
use Rattle.std.specs.FinMap.{FinMap, empty, get, find, get-empty, get-from_entries}
use Rattle.std.specs.List.{IsDistinct}
use Rattle.std.specs.Ordering.{nat_cmp}
use Rattle.tsn_types.specs.declared.keys.Key.{Key}
use Rattle.tsn_types.specs.declared.keys.Key.TheVariants.{Port, Filter, Gate, Meter}
use Rattle.tsn_types.specs.declared.limits.Limits.{Limits}
use Rattle.tsn_types.specs.declared.records.PortGates.{PortGates}
use Rattle.tsn_types.specs.declared.records.Record.{Record}
use Rattle.tsn_types.specs.declared.records.Record.TheVariants as records
use Rattle.tsn_types.specs.Keys.{key_cmp, same_key}
use Rattle.tsn_config.specs.Opening.{default_port, default_ports, opening}
use Rattle.tsn_types.specs.declared.refusals.Refusal.{Refusal}
use Rattle.tsn_edit.specs.Changes.{Fits, after_change}
use Rattle.tsn_edit.specs.Configuration.{Configuration, put}
use Rattle.tsn_edit.specs.Parts.{Change}
use Rattle.tsn_edit.proofs.KeyFacts.{get-put, keys_total}
use Rattle.tsn_chain.specs.Following.{frames_after, runners_after}
use Rattle.tsn_chain.specs.Instances.{FrameData, Runners, HasKeys, SameKeys}
use Rattle.tsn_chain.specs.Acts.{KeyApplies}
use Rattle.tsn_chain.proofs.Keys.{keys_apply, keys_begin, keys_fit, keys_follow}

-- the change that creates the port
abbrev pub first_port : PortGates → Change
first_port p = record { key = Port 1; before = None; after = Some (records.Port p) } ∷ []

nothing_at : (k : Key) → get {X = Record} (empty {R = key_cmp}) k ≡ None
nothing_at k = get-empty {X = Record} key_cmp k

same_there : (p : PortGates) (d : Record) (k : Key)
    → is_some (cond (same_key k (Port 1)) (Some (records.Port p)) None) ≡ is_some (cond (same_key k (Port 1)) (Some d) None)
same_there p d k = grind arith

one_port : (p : PortGates) (l : Limits) (k : Key) → l.ports ≡ 1
    → is_some (get (put empty (Port 1) (Some (records.Port p))) k) ≡ is_some (get (opening l []) k)
one_port p l k one =
    ap is_some (get-put empty (Port 1) (Some (records.Port p)) k)
    ∙ ap (λ o. is_some (cond (same_key k (Port 1)) (Some (records.Port p)) o)) (nothing_at k)
    ∙ same_there p default_port k
    ∙ sym (ap is_some (get-from_entries keys_total (default_ports l.ports) k ∙ ap (λ n. find key_cmp k (default_ports n)) one))

moved : {A : Type 0} (t : FinMap nat_cmp A) (key : ℕ → Key) (c d : Configuration) → ((k : Key) → is_some (get c k) ≡ is_some (get d k))
    → SameKeys t key c → SameKeys t key d
moved t key c d same h n = h n ∙ same (key n)

pub begun : (p : PortGates) (l : Limits) (c : Configuration) (r : Runners) (f : FrameData) (now : ℕ) → l.ports ≡ 1 → c ≡ opening l []
    → r ≡ runners_after (record { ports = empty; gates = empty }) (first_port p)
    → f ≡ frames_after now (record { filters = empty; gates = empty; meters = empty }) (first_port p) → HasKeys r f c
unfolding IsDistinct
begun p l c r f now one is runners frames =
    let first : Configuration = put empty (Port 1) (Some (records.Port p)) in
    let h = keys_follow empty (record { ports = empty; gates = empty }) (record { filters = empty; gates = empty; meters = empty }) now
    (first_port p) keys_begin (tt, tt) (nothing_at (Port 1), tt) (refl, tt) in
    let same : (k : Key) → is_some (get first k) ≡ is_some (get c k) = λ k. one_port p l k one
    ∙ ap (λ (d : Configuration). is_some (get d k)) (sym is) in
    let moved_all : HasKeys (runners_after (record { ports = empty; gates = empty }) (first_port p))
    (frames_after now (record { filters = empty; gates = empty; meters = empty }) (first_port p)) c = record {
      ports = moved _ (λ n. Port n) first c same h.ports;
      gates = moved _ (λ n. Gate n) first c same h.gates;
      frames = record {
        filters = moved _ (λ n. Filter n) first c same h.frames.filters;
        gates = moved _ (λ n. Gate n) first c same h.frames.gates;
        meters = moved _ (λ n. Meter n) first c same h.frames.meters;
      };
    } in
    subst (λ (s : Runners). HasKeys s f c) (sym runners)
    (subst (λ (s : FrameData). HasKeys (runners_after (record { ports = empty; gates = empty }) (first_port p)) s c) (sym frames)
    moved_all)

-- an apply that is accepted, or refused
pub applied_keys : (r : Result ℕ Refusal) (old new : Runners) (f f' : FrameData) (c : Configuration) (key : Key) (v : Option Record) (a : ℕ)
    → HasKeys old f c → f' ≡ f → OnOk r (KeyApplies old key v a new) → OnErr r (new ≡ old) → HasKeys new f' c
applied_keys (Ok change) old new f f' c key v a h frames acts same =
    subst (λ (s : FrameData). HasKeys new s c) (sym frames) (keys_apply old new f c key v a h acts)
applied_keys (Err why) old new f f' c key v a h frames acts same =
    subst (λ (s : FrameData). HasKeys new s c) (sym frames) (subst (λ (s : Runners). HasKeys s f c) (sym same) h)

-- room is made, and then both follow a change that fits
pub followed_keys : (l : Limits) (c c1 c2 : Configuration) (r r1 r2 : Runners) (f f1 f2 : FrameData) (t : ℕ) (e : Change) → HasKeys r f c
    → Fits l c e → c1 ≡ c → r1 ≡ r → f1 ≡ f
    → r2 ≡ runners_after r1 e → f2 ≡ frames_after t f1 e → c2 ≡ after_change c1 e → HasKeys r2 f2 c2
followed_keys l c c1 c2 r r1 r2 f f1 f2 t e h fits cs rs fs runners frames map =
    subst (λ (s : Runners). HasKeys s f2 c2) (sym (runners ∙ ap (λ (s : Runners). runners_after s e) rs))
    (subst (λ (s : FrameData). HasKeys (runners_after r e) s c2) (sym (frames ∙ ap (λ (s : FrameData). frames_after t s e) fs))
    (subst (λ (s : Configuration). HasKeys (runners_after r e) (frames_after t f e) s)
    (sym (map ∙ ap (λ (s : Configuration). after_change s e) cs)) (keys_fit l c r f t e h fits)))
