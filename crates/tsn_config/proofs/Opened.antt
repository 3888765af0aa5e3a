-- The tables that the records and the default ports fill have the map of the opening.
use Rattle.std.proofs.Common.{◌≡◌, ℕ, suc, ◌+◌, true, false, cond, ◌||◌, not, List, [], ◌∷◌, ◌++◌, refl, sym, ◌∙◌, ap, Some, None, append_assoc, add-one}
use Rattle.std.specs.Prelude.{IsSome, is_some}
use Rattle.std.specs.Option.{option_or}
use Rattle.std.specs.FinMap.{get, empty, insert, from_entries, find, get-empty, get-insert, get-from_entries, from_entries_push}
use Rattle.tsn_types.specs.declared.keys.Key.{Key}
use Rattle.tsn_types.specs.declared.keys.Key.TheVariants.{Port}
use Rattle.tsn_types.specs.declared.records.Record.{Record}
use Rattle.tsn_types.specs.declared.refusals.Refusal.TheVariants.{Exists}
use Rattle.tsn_types.specs.Keys.{key_cmp, same_key, has}
use Rattle.tsn_types.specs.Limits.{unless}
use Rattle.tsn_edit.specs.Configuration.{Configuration}
use Rattle.tsn_edit.proofs.KeyFacts.{by_bool, by_option, keys_total, exact_keys, one_key, same_configuration}
use Rattle.tsn_config.specs.Opening.{AreOfKind, default_port, default_ports, repeated_key, with_port}
use Rattle.tsn_types.proofs.Causes.{option_or-None}
use Rattle.tsn_config.proofs.Joined.{find_append}

-- a further entry of a key that is there changes nothing
again : (es : List (Key × Record)) (k : Key) (r : Record) → IsSome (find key_cmp k es) → from_entries {R = key_cmp} (es ++ (k, r) ∷ [])
    ≡ from_entries es
again es k r some = same_configuration _ _ (λ q.
    get-from_entries keys_total (es ++ (k, r) ∷ []) q ∙ find_append q es ((k, r) ∷ []) ∙ by_bool (same_key q k)
    (λ same. by_option (find key_cmp q es)
    (λ none. let never : false ≡ true = sym (ap is_some none) ∙ ap (λ x. is_some (find key_cmp x es)) (one_key q k same) ∙ some in (cc))
    (λ x is. ap (λ o. option_or o (find key_cmp q ((k, r) ∷ []))) is ∙ sym is))
    (λ other. ap (λ b. option_or (find key_cmp q es) (cond b (Some r) None)) other ∙ option_or-None (find key_cmp q es))
    ∙ sym (get-from_entries keys_total es q))

-- a further entry of a key that is not there is put at it
fresh : (es : List (Key × Record)) (k : Key) (r : Record) → get (from_entries {R = key_cmp} es) k ≡ None → from_entries {R = key_cmp}
    (es ++ (k, r) ∷ []) ≡ insert (from_entries es) k r
fresh es k r none = from_entries_push keys_total exact_keys es k r (sym (get-from_entries keys_total es k) ∙ none)

-- one more default port
pub port_added : (es : List (Key × Record)) (n : ℕ) (c d : Configuration) → c ≡ from_entries (es ++ default_ports n)
    → d ≡ with_port c (n + 1) → d ≡ from_entries (es ++ default_ports (n + 1))
port_added es n c d is then =
    then ∙ ap (λ x. with_port x (n + 1)) is ∙ ap (with_port (from_entries (es ++ default_ports n))) (add-one n) ∙ step
    ∙ ap from_entries (append_assoc es (default_ports n) ((Port (suc n), default_port) ∷ []))
    ∙ ap (λ m. from_entries (es ++ default_ports m)) (sym (add-one n))
  where
    step : with_port (from_entries (es ++ default_ports n)) (suc n) ≡ from_entries
        ((es ++ default_ports n) ++ (Port (suc n), default_port) ∷ [])
    step = by_option (get (from_entries {R = key_cmp} (es ++ default_ports n)) (Port (suc n)))
        (λ none. ap (λ o. cond (is_some o) (from_entries (es ++ default_ports n))
        (insert (from_entries (es ++ default_ports n)) (Port (suc n)) default_port)) none
        ∙ sym (fresh (es ++ default_ports n) (Port (suc n)) default_port none))
        (λ x is. ap (λ o. cond (is_some o) (from_entries (es ++ default_ports n))
        (insert (from_entries (es ++ default_ports n)) (Port (suc n)) default_port)) is
        ∙ sym (again (es ++ default_ports n) (Port (suc n)) default_port
        (ap is_some (sym (get-from_entries keys_total (es ++ default_ports n) (Port (suc n))) ∙ is))))

-- how far the records are put in: those that are done, and the keys seen, which are those of the map
pub record IsFilled (items : List (Key × Record)) (c : Configuration) (rest : List (Key × Record)) : Type 0 where
  pub done : List (Key × Record)
  pub seen : List Key
  pub split : items ≡ done ++ rest
  pub map_is : c ≡ from_entries done
  pub seen_is : (k : Key) → has seen k ≡ is_some (get c k)
  pub no_repeat : repeated_key [] items ≡ repeated_key seen rest
  pub kinds : AreOfKind rest

nothing : from_entries {X = Record} {R = key_cmp} [] ≡ empty
nothing = same_configuration _ _ (λ q. get-from_entries keys_total [] q ∙ sym (get-empty key_cmp q))

pub fill_start : (items : List (Key × Record)) (c : Configuration) → AreOfKind items → c ≡ empty → IsFilled items c items
fill_start items c kinds is = record {
  done = [];
  seen = [];
  split = refl;
  map_is = is ∙ sym nothing;
  seen_is = λ k. sym (ap (λ d. is_some (get d k)) is ∙ ap is_some (get-empty key_cmp k));
  no_repeat = refl;
  kinds = kinds;
}

pub fill_more : (items : List (Key × Record)) (c d : Configuration) (k : Key) (r : Record) (rest : List (Key × Record))
    → IsFilled items c ((k, r) ∷ rest) → get c k ≡ None → d ≡ insert c k r → IsFilled items d rest
fill_more items c d k r rest f none is =
    let unseen : has f.seen k ≡ false = f.seen_is k ∙ ap is_some none in
    record {
      done = f.done ++ (k, r) ∷ [];
      seen = k ∷ f.seen;
      split = f.split ∙ sym (append_assoc f.done ((k, r) ∷ []) rest);
      map_is = is ∙ ap (λ x. insert x k r) f.map_is ∙ sym (fresh f.done k r (ap (λ x. get x k) (sym f.map_is) ∙ none));
      seen_is = λ q. both q ∙ sym (ap (λ x. is_some (get x q)) is ∙ ap is_some (get-insert keys_total c k r q));
      no_repeat = f.no_repeat ∙ ap (λ b. option_or (unless (not b) (Exists k)) (repeated_key (k ∷ f.seen) rest)) unseen;
      kinds = f.kinds.1;
    }
  where
    both : (q : Key) → (same_key q k || has f.seen q) ≡ is_some (cond (same_key q k) (Some r) (get c q))
    both q = elim (same_key q k) as (λ b. (b || has f.seen q) ≡ is_some (cond b (Some r) (get c q))) [ true ↦ refl | false ↦ f.seen_is q ]
