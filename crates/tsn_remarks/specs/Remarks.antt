-- What is allowed in a configuration, but seldom meant: a line for each such thing.
use Rattle.std.specs.Prelude.{ℕ, ◌==◌, ◌||◌, Bool, if◌then◌else◌, List, [], ◌++◌, length, codes, decimal}
use Rattle.std.specs.FinMap.{entries}
use Rattle.std.specs.List.{flat_map, list_any, sum_by}
use Rattle.tsn_types.specs.Keys.{has, refs}
use Rattle.tsn_types.specs.declared.keys.Key.{Key}
use Rattle.tsn_types.specs.declared.keys.Key.TheVariants.{Port, Filter, Gate, Meter}
use Rattle.tsn_types.specs.declared.keys.Kind.{Kind}
use Rattle.tsn_types.specs.declared.keys.Kind.TheVariants as kinds
use Rattle.tsn_types.specs.declared.records.Record.{Record}
use Rattle.tsn_types.specs.declared.records.Record.TheVariants as records
use Rattle.tsn_types.specs.declared.records.Schedule.{Schedule}
use Rattle.tsn_edit.specs.Configuration.{Configuration}
use Rattle.tsn_export.specs.Going.{Entries, of_kind}

-- `gate 4`: the kind and the number
abbrev pub name : Key → List ℕ
name (Port n) = codes "port " ++ decimal n
name (Filter n) = codes "filter " ++ decimal n
name (Gate n) = codes "gate " ++ decimal n
name (Meter n) = codes "meter " ++ decimal n

-- `port 1: its list takes 900 ns of a cycle of 1000 ns`
abbrev pub list_line : Key → ℕ → ℕ → List ℕ
list_line k taken cycle =
    name k ++ codes ": its list takes " ++ decimal taken ++ codes " ns of a cycle of " ++ decimal cycle ++ codes " ns\n"

-- of a list that has an entry, and whose intervals together are not its cycle
abbrev pub list_remark : {E : Type 0} → (E → ℕ) → Key → Schedule E → List ℕ
list_remark interval k s =
    if length s.list == 0 || sum_by interval s.list == s.cycle then [] else list_line k (sum_by interval s.list) s.cycle

-- some filter refers to the key: the key is among the references of some entry's record
abbrev pub is_referred : Entries → Key → Bool
is_referred es k = list_any (λ e. has (refs e.1) k) es

-- `gate 4: no filter refers to it`
abbrev pub reference_line : Key → List ℕ
reference_line k = name k ++ codes ": no filter refers to it\n"

-- of what no filter refers to
abbrev pub reference_remark : Entries → Key → List ℕ
reference_remark es k = if is_referred es k then [] else reference_line k

-- of a port its list's line, of a stream gate its list's and then that of the references to it, of a flow meter the latter
abbrev pub remarks_on : Entries → Key × Record → List ℕ
remarks_on es (k, records.Port r) = list_remark (λ e. e.interval) k r.admin
remarks_on es (k, records.Filter r) = []
remarks_on es (k, records.Gate r) = list_remark (λ e. e.interval) k r.admin ++ reference_remark es k
remarks_on es (k, records.Meter r) = reference_remark es k

-- the lines on what is of a kind
abbrev pub remarks_of : Kind → Entries → List ℕ
remarks_of kind es = flat_map (remarks_on es) (of_kind kind es)

-- the lines on ports, then on stream gates, then on flow meters
abbrev pub all_remarks : Entries → List ℕ
all_remarks es = remarks_of kinds.Port es ++ remarks_of kinds.Gate es ++ remarks_of kinds.Meter es

-- what is told of a configuration: the entries of a map stand in the order of keys, so each kind stands by number
abbrev pub remarks : Configuration → List ℕ
remarks c = all_remarks (entries c)
