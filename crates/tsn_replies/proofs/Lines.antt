-- The lines of verdicts and counters, piece by piece.
use Rattle.std.proofs.Common.{◌≡◌, ℕ, Bool, ◌++◌, List, [], ◌∷◌, Option, codes, decimal, refl, append_assoc}
use Rattle.json.specs.Print.{escape_byte}
use Rattle.serde_json.specs.Data.{boolean, string}
use Rattle.serde_json.specs.Written.{compact_text}
use Rattle.tsn_chain.specs.declared.data.FilterData.{FilterData}
use Rattle.tsn_chain.specs.declared.frame.DropCause.{DropCause}
use Rattle.tsn_chain.specs.declared.state.ListCounters.{ListCounters}
use Rattle.tsn_encoding.proofs.Grown.{line_of}
use Rattle.tsn_records.specs.Shown.{or_null}
use Rattle.tsn_replies.specs.Running.{cause_name, pass_data, drop_data, port_counters_data, filter_counters_data, gate_counters_data}

of_three : (a1 x1 a2 x2 a3 x3 brace feed t0 t1 t2 t3 : List ℕ) → t0 ≡ [] → t1 ≡ t0 ++ (a1 ++ x1) → t2 ≡ t1 ++ (a2 ++ x2)
    → t3 ≡ t2 ++ (a3 ++ (x3 ++ (brace ++ feed))) → t3 ≡ (a1 ++ (x1 ++ (a2 ++ (x2 ++ (a3 ++ (x3 ++ brace)))))) ++ feed
of_three a1 x1 a2 x2 a3 x3 brace feed t0 t1 t2 t3 e0 e1 e2 e3 = rw (e3, e2, e1, e0) (simp append_assoc)

-- ---- verdicts

pub pass_line : (filter : Option ℕ) (now priority : ℕ) (yellow : Bool) (t0 t1 t2 t3 t4 t5 : List ℕ) → t0 ≡ []
    → t1 ≡ t0 ++ (codes "{\"filter\":" ++ compact_text (or_null filter)) → t2 ≡ t1 ++ (codes ",\"now\":" ++ decimal now)
    → t3 ≡ t2 ++ (codes ",\"priority\":" ++ decimal priority)
    → t4 ≡ t3 ++ (codes ",\"verdict\":\"pass\",\"yellow\":" ++ compact_text (boolean yellow)) → t5 ≡ t4 ++ codes "}\n"
    → t5 ≡ compact_text (pass_data filter now priority yellow) ++ codes "\n"
unfolding escape_byte
pass_line filter now priority yellow t0 t1 t2 t3 t4 t5 e0 e1 e2 e3 e4 e5 =
    line_of ((codes "{\"filter\":" ++ compact_text (or_null filter)) ∷ (codes ",\"now\":" ++ decimal now)
    ∷ (codes ",\"priority\":" ++ decimal priority) ∷ (codes ",\"verdict\":\"pass\",\"yellow\":" ++ compact_text (boolean yellow)) ∷ [])
    t0 t4 t5 (codes "}") (codes "\n") e0 (t1, e1, (t2, e2, (t3, e3, (t4, e4, refl)))) e5

pub drop_line : (filter now : ℕ) (cause : DropCause) (t0 t1 t2 t3 : List ℕ) → t0 ≡ [] → t1 ≡ t0 ++ (codes "{\"filter\":" ++ decimal filter)
    → t2 ≡ t1 ++ (codes ",\"now\":" ++ decimal now)
    → t3 ≡ t2 ++ (codes ",\"verdict\":" ++ (compact_text (string (cause_name cause)) ++ codes "}\n"))
    → t3 ≡ compact_text (drop_data filter now cause) ++ codes "\n"
unfolding escape_byte
drop_line filter now cause t0 t1 t2 t3 e0 e1 e2 e3 =
    of_three (codes "{\"filter\":") (decimal filter) (codes ",\"now\":") (decimal now)
    (codes ",\"verdict\":") (compact_text (string (cause_name cause)))
    (codes "}") (codes "\n") t0 t1 t2 t3 e0 e1 e2 e3

-- ---- counters

pub port_line : (l : ListCounters) (t0 t1 t2 t3 t4 t5 : List ℕ) → t0 ≡ []
    → t1 ≡ t0 ++ (codes "{\"change_error\":" ++ decimal l.change_error)
    → t2 ≡ t1 ++ (codes ",\"change_time\":" ++ compact_text (or_null l.change_time))
    → t3 ≡ t2 ++ (codes ",\"enabled\":" ++ compact_text (boolean l.enabled))
    → t4 ≡ t3 ++ (codes ",\"pending\":" ++ compact_text (boolean l.pending)) → t5 ≡ t4 ++ codes "}\n"
    → t5 ≡ compact_text (port_counters_data l) ++ codes "\n"
unfolding escape_byte
port_line l t0 t1 t2 t3 t4 t5 e0 e1 e2 e3 e4 e5 =
    line_of ((codes "{\"change_error\":" ++ decimal l.change_error) ∷ (codes ",\"change_time\":" ++ compact_text (or_null l.change_time))
    ∷ (codes ",\"enabled\":" ++ compact_text (boolean l.enabled)) ∷ (codes ",\"pending\":" ++ compact_text (boolean l.pending)) ∷ [])
    t0 t4 t5 (codes "}") (codes "\n") e0 (t1, e1, (t2, e2, (t3, e3, (t4, e4, refl)))) e5

pub filter_line : (f : FilterData) (t0 t1 t2 t3 t4 t5 t6 t7 t8 : List ℕ) → t0 ≡ []
    → t1 ≡ t0 ++ (codes "{\"blocked\":" ++ compact_text (boolean f.blocked)) → t2 ≡ t1 ++ (codes ",\"matching\":" ++ decimal f.matching)
    → t3 ≡ t2 ++ (codes ",\"not_passing\":" ++ decimal f.not_passing)
    → t4 ≡ t3 ++ (codes ",\"not_passing_sdu\":" ++ decimal f.not_passing_sdu) → t5 ≡ t4 ++ (codes ",\"passing\":" ++ decimal f.passing)
    → t6 ≡ t5 ++ (codes ",\"passing_sdu\":" ++ decimal f.passing_sdu) → t7 ≡ t6 ++ (codes ",\"red\":" ++ decimal f.red)
    → t8 ≡ t7 ++ codes "}\n" → t8 ≡ compact_text (filter_counters_data f) ++ codes "\n"
unfolding escape_byte
filter_line f t0 t1 t2 t3 t4 t5 t6 t7 t8 e0 e1 e2 e3 e4 e5 e6 e7 e8 =
    line_of ((codes "{\"blocked\":" ++ compact_text (boolean f.blocked)) ∷ (codes ",\"matching\":" ++ decimal f.matching)
    ∷ (codes ",\"not_passing\":" ++ decimal f.not_passing) ∷ (codes ",\"not_passing_sdu\":" ++ decimal f.not_passing_sdu)
    ∷ (codes ",\"passing\":" ++ decimal f.passing) ∷ (codes ",\"passing_sdu\":" ++ decimal f.passing_sdu)
    ∷ (codes ",\"red\":" ++ decimal f.red) ∷ [])
    t0 t7 t8 (codes "}") (codes "\n") e0 (t1, e1, (t2, e2, (t3, e3, (t4, e4, (t5, e5, (t6, e6, (t7, e7, refl))))))) e8

pub gate_line : (l : ListCounters) (invalid_rx octets_exceeded : Bool) (t0 t1 t2 t3 t4 t5 t6 t7 : List ℕ) → t0 ≡ []
    → t1 ≡ t0 ++ (codes "{\"change_error\":" ++ decimal l.change_error)
    → t2 ≡ t1 ++ (codes ",\"change_time\":" ++ compact_text (or_null l.change_time))
    → t3 ≡ t2 ++ (codes ",\"enabled\":" ++ compact_text (boolean l.enabled))
    → t4 ≡ t3 ++ (codes ",\"invalid_rx\":" ++ compact_text (boolean invalid_rx))
    → t5 ≡ t4 ++ (codes ",\"octets_exceeded\":" ++ compact_text (boolean octets_exceeded))
    → t6 ≡ t5 ++ (codes ",\"pending\":" ++ compact_text (boolean l.pending)) → t7 ≡ t6 ++ codes "}\n"
    → t7 ≡ compact_text (gate_counters_data l invalid_rx octets_exceeded) ++ codes "\n"
unfolding escape_byte
gate_line l invalid_rx octets_exceeded t0 t1 t2 t3 t4 t5 t6 t7 e0 e1 e2 e3 e4 e5 e6 e7 =
    line_of ((codes "{\"change_error\":" ++ decimal l.change_error) ∷ (codes ",\"change_time\":" ++ compact_text (or_null l.change_time))
    ∷ (codes ",\"enabled\":" ++ compact_text (boolean l.enabled)) ∷ (codes ",\"invalid_rx\":" ++ compact_text (boolean invalid_rx))
    ∷ (codes ",\"octets_exceeded\":" ++ compact_text (boolean octets_exceeded))
    ∷ (codes ",\"pending\":" ++ compact_text (boolean l.pending)) ∷ [])
    t0 t6 t7 (codes "}") (codes "\n") e0 (t1, e1, (t2, e2, (t3, e3, (t4, e4, (t5, e5, (t6, e6, refl)))))) e7
