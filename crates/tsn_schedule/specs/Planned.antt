-- How a schedule, as contracts see it, is written as lists and numbers, and read back.
use Rattle.std.specs.Prelude.{ℕ, refl, List}
use Rattle.std.specs.Coded.{Coded, code_by, coded×, coded_ℕ, coded_list}
use Rattle.tsn_types.specs.declared.records.Schedule.{Schedule}

abbrev pub schedule_code : {E : Type 0} → Coded E → Coded (Schedule E)
schedule_code {E = E} e =
    code_by (List E × (ℕ × (ℕ × ℕ))) (coded× (coded_list e) (coded× coded_ℕ (coded× coded_ℕ coded_ℕ)))
    (λ s. (s.list, (s.cycle, (s.extension, s.base)))) (λ p. record { list = p.0; cycle = p.1.0; extension = p.1.1.0; base = p.1.1.1 })
    (λ _. refl)
