-- The rules of what reads and changes nothing.
use Rattle.std.specs.Prelude.{ℕ, Bool, true, false, List, [], ◌∷◌, Some, Result, Ok, Err, length, nat_lt, option_map}
use Rattle.std.specs.FinMap.{get}
use Rattle.tsn_types.specs.declared.keys.Key.{Key}
use Rattle.tsn_types.specs.declared.keys.Kind.{Kind}
use Rattle.tsn_types.specs.declared.records.Record.{Record}
use Rattle.tsn_types.specs.declared.records.Record.TheVariants as records
use Rattle.tsn_types.specs.declared.refusals.Refusal.{Refusal}
use Rattle.tsn_config.specs.Ids.{ids_of}
use Rattle.tsn_export.specs.Text.{exported}
use Rattle.tsn_entries.specs.Finding.{since}
use Rattle.tsn_undo.specs.Ledger.{present}
use Rattle.tsn_commands.specs.declared.reply.Reply.{Reply}
use Rattle.tsn_commands.specs.declared.reply.Reply.TheVariants.{Entries, Ids, Refused, Setup, Shown}
use Rattle.tsn_bridge.specs.Acts.{has_list, key_causes}
use Rattle.tsn_bridge.specs.State.{State}
use Rattle.tsn_bridge.specs.Rule.{Look, Rule, look_rule, no_session}

-- a record that has a list, which a copy takes memory for
abbrev pub record_has_list : Record → Bool
record_has_list (records.Port r) = true
record_has_list (records.Filter r) = false
record_has_list (records.Gate r) = true
record_has_list (records.Meter r) = false

-- a show answers the record at the key; only that of a port or a stream gate, which have lists, takes memory
abbrev pub show_look : State → ℕ → Key → Look
show_look s n k = record {
  causes = key_causes s n k [];
  answer = option_map (λ r. Shown k r) (get (present s.book) k);
  takes_memory = has_list k;
}

abbrev pub show_rule : State → ℕ → Key → Rule
show_rule s n k = look_rule s (show_look s n k)

-- a list answers the numbers of all instances of the kind; where there is none, it takes no memory
abbrev pub list_look : State → ℕ → Kind → Look
list_look s n kind = record {
  causes = no_session s n ∷ [];
  answer = Some (Ids (ids_of kind (present s.book)));
  takes_memory = nat_lt 0 (length (ids_of kind (present s.book)));
}

abbrev pub list_rule : State → ℕ → Kind → Rule
list_rule s n kind = look_rule s (list_look s n kind)

-- a since answers the journal's entries of a greater number
abbrev pub since_look : State → ℕ → ℕ → Look
since_look s n after = record { causes = no_session s n ∷ []; answer = Some (Entries (since s.book.entries after)); takes_memory = true }

abbrev pub since_rule : State → ℕ → ℕ → Rule
since_rule s n after = look_rule s (since_look s n after)

-- the text, or that it would be too long
abbrev pub setup_answer : Result (List ℕ) Refusal → Reply
setup_answer (Ok text) = Setup text
setup_answer (Err why) = Refused why

-- a setup answers the present configuration as the text of one, or that this would be longer than one that is read
abbrev pub setup_look : State → ℕ → Look
setup_look s n =
    record { causes = no_session s n ∷ []; answer = Some (setup_answer (exported s.book.limits (present s.book))); takes_memory = true }

abbrev pub setup_rule : State → ℕ → Rule
setup_rule s n = look_rule s (setup_look s n)
