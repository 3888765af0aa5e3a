-- Whether a change keeps a well kept map well kept.
use Rattle.std.specs.Prelude.{Bool, ◌&&◌, ◌||◌, not, List, Option, Some, None, find, is_none, option_map}
use Rattle.std.specs.FinMap.{entries}
use Rattle.std.specs.List.{list_all}
use Rattle.tsn_types.specs.declared.keys.Key.{Key}
use Rattle.tsn_types.specs.declared.records.Record.{Record}
use Rattle.tsn_types.specs.declared.limits.Limits.{Limits}
use Rattle.tsn_types.specs.declared.refusals.Refusal.{Refusal}
use Rattle.tsn_types.specs.declared.refusals.Refusal.TheVariants.{Referred}
use Rattle.tsn_types.specs.Keys.{has, refs, refs_of}
use Rattle.tsn_types.specs.Limits.{first_cause}
use Rattle.tsn_edit.specs.Changes.{keys_of, put_all}
use Rattle.tsn_edit.specs.Configuration.{Configuration}
use Rattle.tsn_edit.specs.Edits.{is_port, dangling, referrer, limit_causes}
use Rattle.tsn_edit.specs.Parts.{Part}

-- whether c stays well kept with the value after at the key, where the value before stands
abbrev pub keeps : Limits → Configuration → Key → Option Record → Option Record → Bool
keeps l c k before (Some r) = is_none (first_cause (limit_causes l k r)) && is_none (dangling c r)
keeps l c k before None = is_none before || (not (is_port k) && is_none (referrer c k))

-- whether the value refers to the key
abbrev pub refers : Option Record → Key → Bool
refers v k = has (refs_of v) k

-- the least filter that refers to the key and is none of these
abbrev pub referrer_beside : List Key → Configuration → Key → Option Refusal
referrer_beside ks c k = option_map (λ e. Referred e.0) (find (λ e. has (refs e.1) k && not (has ks e.0)) (entries c))

-- whether a value after, or none, may stand at the key among the changed keys ks, where c is the map before the change and
-- d the map after it: the record is within the limits and what it refers to is there; and where a value goes, it is no
-- port's, and no filter that stays as it was refers to its key
abbrev pub keeps_value : Limits → List Key → Configuration → Configuration → Key → Option Record → Option Record → Bool
keeps_value l ks c d k before (Some r) = is_none (first_cause (limit_causes l k r)) && is_none (dangling d r)
keeps_value l ks c d k before None = is_none before || (not (is_port k) && is_none (referrer_beside ks c k))

abbrev pub keeps_part : Limits → Configuration → List Part → Part → Bool
keeps_part l c ps p = keeps_value l (keys_of ps) c (put_all c ps) p.key p.before p.after

-- whether c stays well kept with all the values after at their keys, where the values before stand
abbrev pub keep_together : Limits → Configuration → List Part → Bool
keep_together l c ps = list_all (λ p. keeps_part l c ps p) ps
