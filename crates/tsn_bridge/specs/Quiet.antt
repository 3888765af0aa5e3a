-- Entries that leave the list of an enabled key as it runs: no act on it, and no change that creates or removes the key.
use Rattle.std.specs.Prelude.{◌≡◌, false, List, ◌++◌, Option, IsSome, MatchOption, ⊤}
use Rattle.std.specs.List.{AllByRecursion}
use Rattle.tsn_types.specs.declared.keys.Key.{Key}
use Rattle.tsn_types.specs.Keys.{same_key}
use Rattle.tsn_edit.specs.Changes.{part_of}
use Rattle.tsn_edit.specs.Parts.{Part, parts}
use Rattle.tsn_entries.specs.Entries.{act_of, applies}
use Rattle.tsn_entries.specs.declared.entries.Act.{Act}
use Rattle.tsn_entries.specs.declared.entries.Act.TheVariants as asked
use Rattle.tsn_entries.specs.declared.entries.Entry.{Entry}
use Rattle.tsn_entries.specs.declared.entries.What.{What}
use Rattle.tsn_bridge.specs.Histories.{AreInRange, Leads, Answered}
use Rattle.tsn_bridge.specs.State.{State}

-- a part of a change, if there is one, that creates and removes nothing
abbrev pub IsReplacement : Option Part → Type 0
IsReplacement q = MatchOption q ⊤ (λ p. IsSome p.before × IsSome p.after)

-- of a key that is enabled: an enable finds it so and is no act of it; a disable and an apply are acts
abbrev pub IsNoAct : Key → Act → Key → Type 0
IsNoAct k asked.Enable key = ⊤
IsNoAct k asked.Disable key = same_key k key ≡ false
IsNoAct k asked.Apply key = same_key k key ≡ false

abbrev pub IsQuiet : Key → What → Type 0
IsQuiet k w = MatchOption (applies w) (MatchOption (act_of w) ⊤ (λ a. IsNoAct k a.act a.key)) (λ e. IsReplacement (part_of k (parts e)))

-- asks of any sessions lead from one state to a later one, and no entry between them is an act on the key or creates or
-- removes it
pub record SinceQuiet (k : Key) (s later : State) : Type 0 where
  pub asks : List Answered
  pub in_range : AreInRange asks
  pub leads : Leads s asks later
  pub more : List Entry
  pub entries : later.book.entries ≡ s.book.entries ++ more
  pub quiet : AllByRecursion (λ e. IsQuiet k e.what) more
