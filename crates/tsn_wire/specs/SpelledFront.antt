-- How command lines in the service's compact spelling begin.
use Rattle.std.specs.Prelude.{◌≡◌, ◌⊎◌, ℕ, ◌++◌, List, codes, decimal}
use Rattle.tsn_records.specs.Keys.{spelled_key}
use Rattle.tsn_records.specs.declared.drafts.KeyDraft.{KeyDraft}
use Rattle.tsn_wire.specs.Spelled.{IsKey, IsSmall, Spells}
use Rattle.tsn_wire.specs.Values.{MayHaveList}
use Rattle.tsn_wire.specs.declared.drafts.CommandDraft.{CommandDraft}
use Rattle.tsn_wire.specs.declared.drafts.CommandDraft.TheVariants.{States, Since}

-- The text begins with what follows `{"at":` in the line of a look at states, up to `,"s":`, and the rest comes after it.
abbrev pub SpellsStates : List ℕ → CommandDraft → List ℕ → Type 0
SpellsStates text command rest =
    (key : KeyDraft) × (at : ℕ) × (command ≡ States key at) × IsSmall at × IsKey key × MayHaveList key.kind
    × (text ≡ decimal at ++ (codes ",\"do\":\"states\",\"key\":\"" ++ (spelled_key key.kind key.number ++ (codes "\"" ++ rest))))

-- The line begins with a command's members up to `,"s":`, and the rest comes after them. Of a look at states the first member is `at`, of a
-- since `after`, and of any other command `do`.
abbrev pub SpellsFront : List ℕ → CommandDraft → List ℕ → Type 0
SpellsFront line command rest =
    ((after : ℕ) × (command ≡ Since after) × IsSmall after
    × (line ≡ codes "{\"after\":" ++ (decimal after ++ (codes ",\"do\":\"since\"" ++ rest))))
    ⊎ (((text : List ℕ) × (line ≡ codes "{\"at\":" ++ text) × SpellsStates text command rest)
    ⊎ ((text : List ℕ) × (line ≡ codes "{\"do\":\"" ++ text) × Spells text command rest))
