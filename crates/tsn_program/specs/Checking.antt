-- What a setup has, as a line, and what is seldom meant in it.
use Rattle.std.specs.Prelude.{ℕ, nat_eq, List, [], ◌++◌, length, if◌then◌else◌, codes, decimal}
use Rattle.tsn_types.specs.declared.keys.Kind.{Kind}
use Rattle.tsn_types.specs.declared.keys.Kind.TheVariants as kinds
use Rattle.tsn_config.specs.Ids.{ids_of}
use Rattle.tsn_remarks.specs.Remarks.{remarks}
use Rattle.tsn_undo.specs.Ledger.{present}
use Rattle.tsn_bridge.specs.State.{State}

-- how many instances of a kind there are
abbrev pub count_of : Kind → State → ℕ
count_of kind s = length (ids_of kind (present s.book))

-- so many of a thing: `1 gate`, and else `0 gates`
abbrev pub counted : List ℕ → ℕ → List ℕ
counted name n = decimal n ++ codes " " ++ name ++ (if nat_eq n 1 then [] else codes "s")

-- what there is, as `2 ports, 3 filters, 3 gates, 1 meter`
abbrev pub summary : State → List ℕ
summary s =
    counted (codes "port") (count_of kinds.Port s) ++ codes ", "
    ++ counted (codes "filter") (count_of kinds.Filter s) ++ codes ", "
    ++ counted (codes "gate") (count_of kinds.Gate s) ++ codes ", "
    ++ counted (codes "meter") (count_of kinds.Meter s) ++ codes "\n"

-- that, and behind it what is allowed in the configuration but seldom meant
abbrev pub told : State → List ℕ
told s = summary s ++ remarks (present s.book)
