-- A mirror that takes entries one after the other.
use Rattle.std.proofs.Common.{◌≡◌, ◌∙◌, ◌+◌, ◌<◌, ◌++◌, ℕ, zero, suc, List, [], ◌∷◌, Some, ap, append_assoc, arith, get_or, length, length-append, subst, sym, take}
use Rattle.std.proofs.lemmas.List.{take_more}
use Rattle.std.proofs.lemmas.List.Sums.{fold-append}
use Rattle.std.specs.List.{fold}
use Rattle.tsn_types.specs.declared.keys.Key.TheVariants.{Port}
use Rattle.tsn_types.specs.declared.records.PortEntry.{PortEntry}
use Rattle.tsn_types.specs.declared.records.PortGates.{PortGates}
use Rattle.tsn_types.specs.declared.records.Record.TheVariants as records
use Rattle.tsn_entries.specs.declared.entries.Entry.{Entry}
use Rattle.tsn_bridge.specs.Objects.{Object, after_entry, port_schedule}
use Rattle.tsn_bridge.proofs.Following.{object_push}
use Rattle.tsn_port.specs.Mirrors.{AreOfPort, IsOfPort, MirrorState, Mirrors, Shows, mirrored}

-- a port after one entry more
abbrev pub after : ℕ → Object PortEntry → Entry → Object PortEntry
after n o e = after_entry port_schedule (Port n) o e.what

-- the entry at a place leaves what a bridge makes of a port, after those before it
of_port_at : (n : ℕ) (o : Object PortEntry) (es : List Entry) (i : ℕ) (e : Entry) → i < length es → e ≡ get_or es i e → AreOfPort n o es
    → IsOfPort (after n (fold (after n) o (take i es)) e)
of_port_at n o [] i e within is all = absurd (let none : ⊥ = omega (arith, within) in none)
of_port_at n o (x ∷ es) zero e within is all = subst (λ y. IsOfPort (after n o y)) (sym is) all.0
of_port_at n o (x ∷ es) (suc i) e within is all = of_port_at n (after n o x) es i e (omega (arith, within)) is all.1

module _ (n : ℕ) (opening : PortGates) (before all : List Entry) (i : ℕ) (e : Entry) (within : i < length all) (is : e ≡ get_or all i e)
  where
    -- the entries so far, and the next one
    one_more : before ++ take (i + 1) all ≡ (before ++ take i all) ++ e ∷ []
    one_more = ap (λ es. before ++ es) (take_more all i e within ∙ ap (λ x. take i all ++ x ∷ []) (sym is))
        ∙ sym (append_assoc before (take i all) (e ∷ []))

    object_more : mirrored n opening (before ++ take (i + 1) all) ≡ after n (mirrored n opening (before ++ take i all)) e
    object_more =
        ap (mirrored n opening) one_more ∙ object_push port_schedule (Port n) (Some (records.Port opening)) (before ++ take i all) e

    of_port : AreOfPort n (mirrored n opening before) all → IsOfPort (after n (mirrored n opening (before ++ take i all)) e)
    of_port h =
        subst (λ o. IsOfPort (after n o e))
        (sym (fold-append (after n) (record { value = Some (records.Port opening); acts = [] }) before (take i all)))
        (of_port_at n (mirrored n opening before) all i e within is h)

pub next_taken : (m m' : MirrorState) (n : ℕ) (opening : PortGates) (before all : List Entry) (i : ℕ) (e : Entry) → i < length all
    → e ≡ get_or all i e → m.port ≡ n → m'.port ≡ m.port → m'.front ≡ m.front + 1
    → ((o : Object PortEntry) → Shows m o → IsOfPort (after m.port o e) → Shows m' (after m.port o e))
    → AreOfPort n (mirrored n opening before) all → Mirrors m opening (before ++ take i all)
    → Mirrors m' opening (before ++ take (i + 1) all)
next_taken m m' n opening before all i e within is port same front shows h was =
    let of : IsOfPort (after m.port (mirrored m.port opening (before ++ take i all)) e) =
    subst (λ k. IsOfPort (after k (mirrored k opening (before ++ take i all)) e)) (sym port)
    (of_port n opening before all i e within is h) in
    let shown = shows (mirrored m.port opening (before ++ take i all)) was.shows of in
    record {
      front = omega (
        arith,
        front,
        was.front,
        ap (λ es. length es) (one_more n opening before all i e within is),
        length-append (before ++ take i all) (e ∷ []),
      );
      shows = subst (λ o. Shows m' o)
          (sym (ap (λ k. mirrored k opening (before ++ take (i + 1) all)) same ∙ object_more m.port opening before all i e within is))
          shown;
    }
