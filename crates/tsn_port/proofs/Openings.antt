-- The record with which a journal began is the one before the first change of the port, or the one that it has since.
use Rattle.std.proofs.Common.{◌≡◌, ◌∙◌, ◌≤◌, ◌++◌, ℕ, List, [], ◌∷◌, Some, None, ap, refl, sym}
use Rattle.std.specs.Option.{option_and_then, unwrap_or}
use Rattle.std.specs.FinMap.{get}
use Rattle.tsn_types.specs.declared.keys.Key.TheVariants.{Port}
use Rattle.tsn_types.specs.declared.limits.Limits.{Limits}
use Rattle.tsn_types.specs.declared.records.PortGates.{PortGates}
use Rattle.tsn_types.specs.declared.records.Record.TheVariants as records
use Rattle.tsn_edit.specs.Changes.{after_change, part_of}
use Rattle.tsn_edit.specs.Configuration.{Configuration, IsWellKept}
use Rattle.tsn_edit.specs.Parts.{Change, Part, parts}
use Rattle.tsn_edit.proofs.KeyFacts.{after_or, by_option, each_part, get-after_change, part_on, part_on_some}
use Rattle.tsn_entries.specs.declared.entries.Entry.{Entry}
use Rattle.tsn_entries.specs.declared.entries.What.{What}
use Rattle.tsn_entries.specs.declared.entries.What.TheVariants.{Made, Undone, Redone, Acted, Settled}
use Rattle.tsn_entries.specs.Entries.{applies}
use Rattle.tsn_undo.specs.Soundness.{configuration}
use Rattle.tsn_bridge.proofs.TiedActs.{changed_by, configured}
use Rattle.tsn_port.specs.Mirrors.{first_record, port_in, port_part, record_before}
use Rattle.tsn_port.proofs.Ports.{Replays, kept_after, port_of}

-- ---- one entry

-- the value before a part is the one that stood
part_stood : (l : Limits) (n : ℕ) (low : 1 ≤ n) (high : n ≤ l.ports) (c : Configuration) (e : Change) (p : Part)
    → Replays l n low high c (record { number = 0; session = 0; what = Made e } ∷ []) → part_of (Port n) (parts e) ≡ Some p → get c (Port n)
    ≡ p.before
unfolding part_on
part_stood l n low high c e p good is =
    ap (get c) (part_on_some (Port n) (parts e) p is).key ∙ each_part (λ p. get c p.key ≡ p.before) (Port n) (parts e) p is (good.0).stands

-- without a part on the port, its record stays
part_keeps : (n : ℕ) (c : Configuration) (e : Change) → part_of (Port n) (parts e) ≡ None → get (after_change c e) (Port n) ≡ get c (Port n)
unfolding part_on
part_keeps n c e none = get-after_change c e (Port n) ∙ ap (λ o. after_or o (get c (Port n))) none

module _ (l : Limits) (n : ℕ) (low : 1 ≤ n) (high : n ≤ l.ports) where
  entry_stood : (c : Configuration) (number session : ℕ) (w : What) (es : List Entry) (p : Part)
      → Replays l n low high c (record { number = number; session = session; what = w } ∷ es) → port_part n w ≡ Some p → get c (Port n)
      ≡ p.before
  entry_stood c number session (Made e) es p good is = part_stood l n low high c e p (good.0, tt) is
  entry_stood c number session (Undone m e) es p good is = part_stood l n low high c e p (good.0, tt) is
  entry_stood c number session (Redone m e) es p good is = part_stood l n low high c e p (good.0, tt) is
  entry_stood c number session (Acted act key a) es p good is = absurd (let never : None ≡ Some p = is in (cc))
  entry_stood c number session (Settled upto) es p good is = absurd (let never : None ≡ Some p = is in (cc))

  entry_keeps : (c : Configuration) (w : What) → port_part n w ≡ None → get (changed_by c (applies w)) (Port n) ≡ get c (Port n)
  entry_keeps c (Made e) none = part_keeps n c e none
  entry_keeps c (Undone m e) none = part_keeps n c e none
  entry_keeps c (Redone m e) none = part_keeps n c e none
  entry_keeps c (Acted act key a) none = refl
  entry_keeps c (Settled upto) none = refl

  -- where an entry changed the port, the record before it is the one that stood
  before_is : (c : Configuration) (w : What) (p : Part) (q : PortGates) → port_part n w ≡ Some p → get c (Port n) ≡ p.before
      → get c (Port n) ≡ Some (records.Port q) → record_before n w ≡ Some q
  before_is c w p q is stood at =
      ap (λ o. option_and_then (λ (x : Part). port_in x.before) o) is ∙ ap port_in (sym stood ∙ at)

  none_before : (w : What) → port_part n w ≡ None → record_before n w ≡ None
  none_before w none = ap (λ o. option_and_then (λ (x : Part). port_in x.before) o) none

  -- ---- the entries

  -- what the port has is what it is taken to have begun with, however it goes on
  stays_first : (es : List Entry) (c : Configuration) (q : PortGates) → IsWellKept l c → Replays l n low high c es
      → get c (Port n) ≡ Some (records.Port q) → first_record n es q ≡ q
  stays_first [] c q kept good at = refl
  stays_first (e ∷ es) c q kept good at =
      let next = kept_after l n low high c e.number e.session e.what es kept good in
      by_option (port_part n e.what)
      (λ none. ap (λ o. unwrap_or o (first_record n es q)) (none_before e.what none)
      ∙ stays_first es (changed_by c (applies e.what)) q next.0 next.1 (entry_keeps c e.what none ∙ at))
      (λ p is. ap (λ o. unwrap_or o (first_record n es q))
      (before_is c e.what p q is (entry_stood c e.number e.session e.what es p good is) at))

  pub first_is : (front more : List Entry) (c : Configuration) (shown : PortGates) → IsWellKept l c → Replays l n low high c (front ++ more)
      → get (configuration c front) (Port n) ≡ Some (records.Port shown)
      → get c (Port n) ≡ Some (records.Port (first_record n (front ++ more) shown))
  first_is [] more c shown kept good at = at ∙ ap (λ q. Some (records.Port q)) (sym (stays_first more c shown kept good at))
  first_is (e ∷ front) more c shown kept good at =
      let next = kept_after l n low high c e.number e.session e.what (front ++ more) kept good in
      let later : get (configuration (changed_by c (applies e.what)) front) (Port n) ≡ Some (records.Port shown) = sym
      (ap (λ (d : Configuration). get d (Port n)) (configured c e.number e.session e.what front)) ∙ at in
      let rest = first_is front more (changed_by c (applies e.what)) shown next.0 next.1 later in
      by_option (port_part n e.what)
      (λ none. sym (entry_keeps c e.what none) ∙ rest ∙ ap (λ o. Some (records.Port (unwrap_or o (first_record n (front ++ more) shown))))
      (sym (none_before e.what none)))
      (λ p is.
      let q = port_of l c n kept low high in
      q.1 ∙ ap (λ o. Some (records.Port (unwrap_or o (first_record n (front ++ more) shown))))
      (sym (before_is c e.what p q.0 is (entry_stood c e.number e.session e.what (front ++ more) p good is) q.1)))
