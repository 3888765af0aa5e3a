-- An entry more leaves the opening as it was, and the book what it has to be.
use Rattle.std.proofs.Common.{◌≡◌, ℕ, List, [], ◌∷◌, ◌++◌, refl, sym, ◌∙◌, ap, subst, Some, None, arith}
use Rattle.tsn_types.specs.declared.limits.Limits.{Limits}
use Rattle.tsn_edit.specs.Parts.{Change, inverse}
use Rattle.tsn_edit.specs.Configuration.{Configuration, IsWellKept}
use Rattle.tsn_edit.specs.Changes.{after_change, Fits}
use Rattle.tsn_edit.specs.Runs.{run}
use Rattle.tsn_edit.proofs.Inverses.{end_kept, taken_back}
use Rattle.tsn_entries.specs.declared.entries.What.{What}
use Rattle.tsn_entries.specs.declared.entries.Entry.{Entry}
use Rattle.tsn_entries.specs.Entries.{applies, changes, collect, with_entry}
use Rattle.tsn_undo.specs.Ledger.{IsBook, Ledger, enter, opening_of, present, rewound}
use Rattle.tsn_undo.specs.Soundness.{IsSound, configuration}
use Rattle.tsn_undo.proofs.Adding.{applied_push, configuration_push, nothing_push}

rewound-append : (c : Configuration) (es fs : List Change) → rewound c (es ++ fs) ≡ rewound (rewound c fs) es
rewound-append c [] fs = refl
rewound-append c (e ∷ es) fs = ap (λ (m : Configuration). after_change m (inverse e)) (rewound-append c es fs)

-- the configuration to which sound entries led is well kept
pub present_kept : (l : Limits) (m : Configuration) (es : List Entry) → IsBook l m es → IsWellKept l (configuration (opening_of m es) es)
present_kept l m es book = end_kept l (opening_of m es) (changes (collect applies es)) (book.sound).kept (book.sound).replays

abbrev pub seen : Limits → Configuration → List Entry → Ledger
seen l m es = record { limits = l; opening = opening_of m es; entries = es }

module _ (l : Limits) (m : Configuration) (es : List Entry) (now : Ledger) (view : seen l m es ≡ now) (book : IsBook l m es) (s : ℕ)
    (w : What) (sound : IsSound now.limits now.opening (with_entry now.entries s w))
    (l' : Limits) (m' : Configuration) (es' : List Entry) (limits : l' ≡ l) (entries : es' ≡ with_entry es s w) where
  -- where the opening and the end are as they should be
  book_of : (n : Configuration) → m' ≡ n → opening_of n (with_entry es s w) ≡ opening_of m es
      → configuration (opening_of m es) (with_entry es s w) ≡ n → IsBook l' m' es'
  book_of n is opened ends = grind arith

  ledger_of : (n : Configuration) → m' ≡ n → opening_of n (with_entry es s w) ≡ opening_of m es → seen l' m' es' ≡ enter now s w
  ledger_of n is opened = (cc)

  -- ---- a change that fits

  module _ (e : Change) (apply : applies w ≡ Some e) (fits : Fits now.limits (present now) e) (map' : m' ≡ after_change m e) where
    fits_here : Fits l m e
    fits_here = subst (λ (c : Configuration). Fits l c e) book.is (subst (λ (b : Ledger). Fits b.limits (present b) e) (sym view) fits)

    kept : IsWellKept l m
    kept = subst (λ (c : Configuration). IsWellKept l c) book.is (present_kept l m es book)

    opened : opening_of (after_change m e) (with_entry es s w) ≡ opening_of m es
    opened =
        ap (rewound (after_change m e)) (applied_push es s w e apply)
        ∙ rewound-append (after_change m e) (changes (collect applies es)) (e ∷ [])
        ∙ ap (λ (c : Configuration). rewound c (changes (collect applies es))) (taken_back l m e kept fits_here).same

    pub changed_book : IsBook l' m' es'
    changed_book = book_of (after_change m e) map' opened
        (configuration_push (opening_of m es) es s w e apply ∙ ap (λ (c : Configuration). after_change c e) book.is)

    pub changed_ledger : seen l' m' es' ≡ enter now s w
    changed_ledger = ledger_of (after_change m e) map' opened

    pub changed : IsBook l' m' es' × (seen l' m' es' ≡ enter now s w)
    changed = (changed_book, changed_ledger)

  -- ---- no change

  module _ (apply : applies w ≡ None) (map' : m' ≡ m) where
    pub quiet_book : IsBook l' m' es'
    quiet_book =
        book_of m map' (ap (rewound m) (nothing_push es s w apply)) (ap (run (opening_of m es)) (nothing_push es s w apply) ∙ book.is)

    pub quiet_ledger : seen l' m' es' ≡ enter now s w
    quiet_ledger = ledger_of m map' (ap (rewound m) (nothing_push es s w apply))
