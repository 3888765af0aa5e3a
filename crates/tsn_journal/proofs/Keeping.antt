-- A journal with its index: with more room, and with an entry more.
use Rattle.std.proofs.Common.{◌≡◌, ℕ, ◌+◌, ◌-◌, ◌≤◌, List, [], ◌∷◌, ◌++◌, refl, sym, ◌∙◌, ap, subst, arith, length, map, Some, false}
use Rattle.std.proofs.lemmas.List.{length-append, length-map, map-append}
use Rattle.tsn_entries.specs.declared.entries.What.{What}
use Rattle.tsn_entries.specs.declared.entries.MarkedEntry.{MarkedEntry}
use Rattle.tsn_journal.specs.declared.groups.Group.{Group}
use Rattle.tsn_journal.specs.declared.index.Index.{Index}
use Rattle.tsn_journal.specs.Index.{AreNodes, HasRoom, IsIndexed, IsIndexedButNewest, NewestAdds, TakesNoRoom, TakesRoom, nodes_for}
use Rattle.tsn_journal.specs.Crossed.{IsFreeAbove, IsNeeded, IsRaised, NoneCrossed, NoneReferred, is_on_referred}
use Rattle.tsn_journal.specs.Kept.{IsKept}
use Rattle.tsn_journal.specs.Latest.{latest_of}
use Rattle.tsn_journal.specs.Newest.{AreNewest, HasNewest, IsIn}
use Rattle.tsn_journal.specs.Touched.{NewestTold, Tells, TellsSame}
use Rattle.std.specs.List.{slice_get}
use Rattle.std.specs.Prelude.{max}
use Rattle.std.proofs.lemmas.Option.{same_Some}
use Rattle.tsn_entries.specs.Entries.{IsNumbered, added_parts, adds, settled, settles_to}
use Rattle.tsn_entries.specs.Marks.{AreOff, IsJournal, Log, entries_of, mark_off}
use Rattle.tsn_journal.proofs.Bounding.{free_pushed, referred_pushed}
use Rattle.tsn_journal.proofs.Closing.{off_pushed, settled_push}
use Rattle.tsn_journal.proofs.Indexing.{indexed_more, indexed_off}
use Rattle.tsn_journal.proofs.Links.{end_at}
use Rattle.tsn_journal.proofs.Marking.{entries_pushed, entries_stay, journal_push, new_entry}
use Rattle.tsn_journal.proofs.Needed.{needed_pushed}
use Rattle.tsn_journal.proofs.Telling.{tells_more, tells_same}

-- the index says the same where it has the same nodes and the same latest ones
pub indexed_same : (ms : List MarkedEntry) (a b : Index) → b.nodes.items ≡ a.nodes.items
    → ((g : Group) → latest_of b.latest g ≡ latest_of a.latest g) → IsIndexed ms a → IsIndexed ms b
indexed_same ms a b nodes latest is = record {
  nodes = subst (AreNodes ms) (sym nodes) is.nodes;
  latest_is = λ g. grind arith;
}

newest_same : (ms : List MarkedEntry) (a b : Index) → b.nodes.items ≡ a.nodes.items
    → ((g : Group) → latest_of b.latest g ≡ latest_of a.latest g) → (g : Group) → HasNewest ms a g → HasNewest ms b g
newest_same ms a b nodes latest g had =
    subst (λ qs. IsIn g ms qs (latest_of b.latest g)) (sym nodes) (subst (λ j. IsIn g ms a.nodes.items j) (sym (latest g)) had)

module _ (ms : List MarkedEntry) (len capacity : ℕ) (a : Index) (room parts upto crossed : ℕ)
    (is : IsKept ms len capacity a room parts upto crossed) (ns : List MarkedEntry) (b : Index) (same : ns ≡ ms)
    (nodes : b.nodes.items ≡ a.nodes.items) (latest : (g : Group) → latest_of b.latest g ≡ latest_of a.latest g) (tells : TellsSame a b)
  where
    pub kept_reserved : (len' capacity' room' parts' : ℕ) → len' ≡ len → len' + room' ≤ capacity' → len' + room' ≤ 262144 → parts' ≤ 4194304
        → HasRoom (nodes_for room' parts') b → IsKept ns len' capacity' b room' parts' upto crossed
    kept_reserved len' capacity' room' parts' as_many entries few few_parts nodes' = record {
      journal = subst IsJournal (sym same) is.journal;
      indexed = subst (λ xs. IsIndexed xs b) (sym same) (indexed_same ms a b nodes latest is.indexed);
      newest = subst (λ xs. AreNewest xs b) (sym same) (λ g. newest_same ms a b nodes latest g (is.newest g));
      tells = subst (λ xs. Tells (entries_of xs) b) (sym same) (tells_same (entries_of ms) a b tells is.tells);
      entries = entries;
      few = few;
      few_parts = few_parts;
      few_nodes = omega (arith, ap length nodes, is.few_nodes, as_many);
      nodes = nodes';
      settled = is.settled ∙ ap (λ xs. settled (entries_of xs)) (sym same);
      settled_there = omega (arith, is.settled_there, as_many);
      off = subst (AreOff upto) (sym same) is.off;
      free = subst (IsFreeAbove crossed) (sym same) is.free;
      referred = subst (NoneReferred crossed) (sym same) is.referred;
      needed = subst (λ xs. IsNeeded crossed (entries_of xs)) (sym same) is.needed;
    }

pub still_room : (n : ℕ) (a b : Index) → TakesNoRoom a b → HasRoom n a → HasRoom n b
still_room n a b h k = grind arith

pub less_room : (n p k : ℕ) (a b : Index) → 1 ≤ n → k ≤ p → TakesRoom (nodes_for 1 k) a b → HasRoom (nodes_for n p) a
    → HasRoom (nodes_for (n - 1) (p - k)) b
less_room n p k a b some fewer h has = grind arith

module _ (w : What) (s : ℕ) (ms ns : List MarkedEntry) (pushed : ns ≡ map (mark_off w) ms ++ new_entry ms s w ∷ []) where
  pub pushed_index : (a : Index) → IsIndexed ms a → IsIndexedButNewest ns a
  pushed_index a is =
      subst (λ xs. IsIndexedButNewest xs a) (sym pushed) (indexed_more (map (mark_off w) ms) (new_entry ms s w) a (indexed_off w ms a is))

  pub pushed_numbered : IsJournal ms → length ms + 1 ≤ 262144 → IsNumbered 1 (entries_of ns)
  pushed_numbered is few = (journal_push ms s w ns is (omega arith) pushed).numbered

  -- the marks up to what is settled then are off
  pub off_more : (upto now : ℕ) → IsJournal ms → upto ≤ length ms → settles_to w ≤ length ms → now ≡ max upto (settles_to w)
      → AreOff upto ms → AreOff now ns
  off_more upto now is within there now_is off = grind (arith, off_pushed, new_entry)

  pub kept_pushed : (len capacity len' capacity' room parts k upto now crossed more : ℕ) (a b : Index) → 1 ≤ room → k ≤ parts → k ≤ 16
      → IsKept ms len capacity a room parts upto crossed → IsFreeAbove more ns → NoneReferred more ns → IsRaised crossed more ms s (adds w)
      → settles_to w ≤ length ms → now ≡ max upto (settles_to w) → length ms ≡ len → len' ≡ len + 1 → capacity' ≡ capacity → IsIndexed ns b
      → AreNewest ns b → Tells (entries_of ns) b
      → TakesRoom (nodes_for 1 k) a b → IsKept ns len' capacity' b (room - 1) (parts - k) now more
  kept_pushed len capacity len' capacity' room parts k upto now crossed more a b some fewer wide is free referred raised there now_is count
      longer same indexed newest tells takes =
      record {
        journal = journal_push ms s w ns is.journal (omega (arith, is.few)) pushed;
        indexed = indexed;
        newest = newest;
        tells = tells;
        entries = omega (arith, is.entries);
        few = omega (arith, is.few);
        few_parts = omega (arith, is.few_parts);
        few_nodes = omega (arith, is.few_nodes, takes.nodes.items);
        nodes = less_room room parts k a b some fewer takes is.nodes;
        settled = now_is ∙ ap (λ n. max n (settles_to w)) is.settled
            ∙ sym (settled_push (entries_of ms) (record { number = length (entries_of ms) + 1; session = s; what = w }))
            ∙ sym (ap settled (entries_pushed ms s w)) ∙ ap (λ xs. settled (entries_of xs)) (sym pushed);
        settled_there = omega (arith, is.settled_there, there, count, longer);
        off = off_more upto now is.journal (omega (arith, is.settled_there, count)) there now_is is.off;
        free = free;
        referred = referred;
        needed =
            subst (IsNeeded more) (sym (ap entries_of pushed ∙ entries_pushed ms s w)) (needed_pushed crossed more s ms w is.needed raised);
      }

  pub pushed_free : (crossed more : ℕ) → IsFreeAbove crossed ms → NoneCrossed more (adds w) s ms → crossed ≤ more → IsFreeAbove more ns
  pushed_free crossed more is none up =
      subst (IsFreeAbove more) (sym pushed) (free_pushed w s ms (new_entry ms s w) refl refl crossed more is none up)

  pub pushed_referred : (crossed more : ℕ) → NoneReferred crossed ms → crossed ≤ more → (more ≤ length ms → is_on_referred (adds w) ≡ false)
      → NoneReferred more ns
  pushed_referred crossed more is up own =
      subst (NoneReferred more) (sym pushed) (referred_pushed w ms (new_entry ms s w) refl crossed more is up own)

  newest_is : slice_get ns (length ns - 1) ≡ Some (new_entry ms s w)
  newest_is = grind (arith, length-append, new_entry, end_at)

  -- what the rows tell has the entry that was pushed, once it is told
  pub pushed_tells : (a b : Index) → IsNumbered 1 (entries_of ms) → Tells (entries_of ms) a → NewestTold ns (length ns) a b
      → Tells (entries_of ns) b
  pushed_tells a b numbered is told =
      let longer : length ns ≡ length ms + 1 = ap length pushed ∙ length-append (map (mark_off w) ms) (new_entry ms s w ∷ [])
      ∙ ap (λ k. k + 1) (length-map ms (mark_off w)) in
      let as_many : length (entries_of ms) ≡ length ms = length-map ms (λ (m : MarkedEntry). m.entry) in
      let x = (new_entry ms s w).entry in
      subst (λ es. Tells es b) (sym (ap entries_of pushed
      ∙ map-append (λ (m : MarkedEntry). m.entry) (map (mark_off w) ms) (new_entry ms s w ∷ [])
      ∙ ap (λ es. es ++ x ∷ []) (entries_stay w ms)))
      (tells_more (entries_of ms) x (length ns) a b numbered (sym longer) (omega (arith, longer, as_many)) is
      (told (new_entry ms s w) newest_is))

  -- the newest entry is the one that was pushed
  pub pushed_adds : NewestAdds ns (added_parts w)
  pushed_adds m at = grind (arith, length-append, new_entry, end_at, same_Some)

-- the number that an entry settles to is there, as the view says it
pub settles_there : (w : What) (ms : List MarkedEntry) (l k : Log) → k ≡ l → entries_of ms ≡ k.entries → settles_to w ≤ length l.entries
    → settles_to w ≤ length ms
settles_there w ms l k view is h =
    omega (arith, h, ap (λ (x : Log). length x.entries) view, ap length is, length-map ms (λ (m : MarkedEntry). m.entry))
