-- The ranges of a setup's limits and of its tables, the identifier of a table before its record.
use Rattle.std.specs.Prelude.{ℕ, Option, Some, None, Result, Ok, Err}
use Rattle.tsn_types.specs.Bounds.{longest_list, most_instances}
use Rattle.tsn_types.specs.Numbers.{most_ports}
use Rattle.tsn_types.specs.declared.keys.Key.{Key}
use Rattle.tsn_types.specs.declared.limits.Limits.{Limits}
use Rattle.tsn_types.specs.declared.records.Record.{Record}
use Rattle.tsn_types.specs.declared.refusals.Field.{Field}
use Rattle.tsn_types.specs.declared.refusals.Field.TheVariants as fields
use Rattle.tsn_config.specs.Opening.{standard_limits}
use Rattle.tsn_records.specs.Answers.{◌>>=◌}
use Rattle.tsn_records.specs.Ranges.{within, key_of_kind, record_of}
use Rattle.tsn_records.specs.Values.{kind_of_draft}
use Rattle.tsn_records.specs.declared.unread.Unread.{Unread}
use Rattle.tsn_records.specs.declared.unread.Unread.TheVariants.{Range}
use Rattle.tsn_setup.specs.declared.drafts.LimitsDraft.{LimitsDraft}
use Rattle.tsn_setup.specs.declared.drafts.TableDraft.{TableDraft}

-- a limit is at least 1; one that is left out is that of the standard setup
abbrev pub limit : Field → ℕ → ℕ → Option ℕ → Result ℕ Unread
limit field most standard None = Ok standard
limit field most standard (Some n) = within field 1 most n

unfoldable pub limits : LimitsDraft → Result Limits Unread
limits l = do
  ports ← limit fields.Ports most_ports standard_limits.ports l.ports
  filters ← limit fields.MaxFilters most_instances standard_limits.filters l.max_filters
  gates ← limit fields.MaxGates most_instances standard_limits.gates l.max_gates
  meters ← limit fields.MaxMeters most_instances standard_limits.meters l.max_meters
  list ← limit fields.ListMax longest_list standard_limits.list l.list_max
  Ok (record { ports = ports; filters = filters; gates = gates; meters = meters; list = list })

-- an identifier out of the range of its kind is told as the member `id`
abbrev pub or_id : Result Key Unread → Result Key Unread
or_id (Ok k) = Ok k
or_id (Err e) = Err (Range fields.Id)

abbrev pub key : TableDraft → Result Key Unread
key t = or_id (key_of_kind (kind_of_draft t.value) t.id)

-- its key and its record
unfoldable pub keyed_record : TableDraft → Result (Key × Record) Unread
keyed_record t = do
  key ← key t
  value ← record_of t.value
  Ok (key, value)
