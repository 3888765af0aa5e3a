-- The newest nodes of groups when one row of a key or a session is set.
use Rattle.std.proofs.Common.{◌≡◌, ℕ, Bool, true, cond, sym, ◌∙◌, ap, Option, Some, None, arith}
use Rattle.std.proofs.lemmas.Grind.{common_steps}
use Rattle.std.specs.Prelude.{◌==◌}
use Rattle.std.specs.Ordering.{nat_cmp, eq_by_cmp}
use Rattle.std.specs.FinMap.{FinMap, empty, get, get-empty, get-insert, insert}
use Rattle.std.proofs.lemmas.Cmp.{nat_cmp_total}
use Rattle.tsn_edit.proofs.Conflicting.{same_key_swap}
use Rattle.tsn_types.specs.declared.keys.Key.{Key}
use Rattle.tsn_types.specs.Keys.{same_key}
use Rattle.tsn_edit.proofs.KeyFacts.{one_key}
use Rattle.tsn_journal.specs.declared.groups.Group.{Group}
use Rattle.tsn_journal.specs.declared.groups.Group.TheVariants.{On, RefersTo, Of, EndsRedo}
use Rattle.tsn_journal.specs.declared.latest_rows.Latest.{Latest}
use Rattle.tsn_journal.specs.declared.latest_rows.KeyNodes.{KeyNodes}
use Rattle.tsn_journal.specs.declared.latest_rows.SessionNodes.{SessionNodes}
use Rattle.tsn_journal.specs.Index.{set_at}
use Rattle.tsn_journal.specs.Latest.{ends_of, key_row, latest_of, on_of, referred_of, refers_of, same_group, session_row, standing_of, touched_of}

-- numbers are told apart by their order
same_by_order : (n q : ℕ) → eq_by_cmp nat_cmp q n ≡ (n == q)
same_by_order n q = grind arith

kept : {A : Type 0} (f : Option A → ℕ) (b : Bool) (x o : Option A) → f (cond b x o) ≡ cond b (f x) (f o)
kept f b x o = grind arith

same_either : {A : Type 0} (b : Bool) (x : A) (y : A) → (b ≡ true → x ≡ y) → cond b x y ≡ y
same_either b x y h = grind arith

module _ (l k : Latest) (key : Key) (row : KeyNodes) (rows : (q : Key) → key_row k q ≡ cond (same_key q key) (Some row) (key_row l q))
    (sessions : k.sessions ≡ l.sessions) where
  set_on' : (q : Key) → on_of (key_row k q) ≡ cond (same_key key q) row.on (on_of (key_row l q))
  set_on' q = ap on_of (rows q) ∙ kept on_of (same_key q key) (Some row) (key_row l q)
      ∙ ap (λ b. cond b row.on (on_of (key_row l q))) (same_key_swap q key)

  set_refers' : (q : Key) → refers_of (key_row k q) ≡ cond (same_key key q) row.refers (refers_of (key_row l q))
  set_refers' q = ap refers_of (rows q) ∙ kept refers_of (same_key q key) (Some row) (key_row l q)
      ∙ ap (λ b. cond b row.refers (refers_of (key_row l q))) (same_key_swap q key)

  session_same : (s : ℕ) → session_row k s ≡ session_row l s
  session_same s = (λ i. get (sessions i).map s)

  pub set_on : row.refers ≡ refers_of (key_row l key) → (q : Group) → latest_of k q ≡ cond (same_group (On key) q) row.on (latest_of l q)
  set_on same q = grind (arith, common_steps, set_on', set_refers', same_either, one_key, session_same)

  pub set_refers : row.on ≡ on_of (key_row l key) → (q : Group)
      → latest_of k q ≡ cond (same_group (RefersTo key) q) row.refers (latest_of l q)
  set_refers same q = grind (arith, common_steps, set_on', same_either, one_key, set_refers', session_same)

-- the same of a row that was set where the newest nodes were these
module _ (l mid k : Latest) (same : mid ≡ l) (key : Key) (row : KeyNodes)
    (rows : (q : Key) → key_row k q ≡ cond (same_key q key) (Some row) (key_row mid q)) (sessions : k.sessions ≡ mid.sessions) where
  pub enters_on : row.refers ≡ refers_of (key_row l key) → (q : Group) → latest_of k q ≡ set_at (On key) row.on (latest_of l) q
  enters_on refers q =
      set_on mid k key row rows sessions (refers ∙ ap (λ (x : Latest). refers_of (key_row x key)) (sym same)) q
      ∙ ap (λ (x : Latest). set_at (On key) row.on (latest_of x) q) same

  pub enters_ref : row.on ≡ on_of (key_row l key) → (q : Group) → latest_of k q ≡ set_at (RefersTo key) row.refers (latest_of l) q
  enters_ref on q =
      set_refers mid k key row rows sessions (on ∙ ap (λ (x : Latest). on_of (key_row x key)) (sym same)) q
      ∙ ap (λ (x : Latest). set_at (RefersTo key) row.refers (latest_of x) q) same

module _ (l k : Latest) (session : ℕ) (row : SessionNodes) (sessions : k.sessions.map ≡ insert l.sessions.map session row)
    (keys : (q : Key) → key_row k q ≡ key_row l q) where
  row_at : (s : ℕ) → session_row k s ≡ cond (session == s) (Some row) (session_row l s)
  row_at s = ap (λ (m : FinMap nat_cmp SessionNodes). get m s) sessions ∙ get-insert nat_cmp_total l.sessions.map session row s
      ∙ ap (λ b. cond b (Some row) (session_row l s)) (same_by_order session s)

  standing_at : (s : ℕ) → standing_of (session_row k s) ≡ cond (session == s) row.standing (standing_of (session_row l s))
  standing_at s = ap standing_of (row_at s) ∙ kept standing_of (session == s) (Some row) (session_row l s)

  ends_at : (s : ℕ) → ends_of (session_row k s) ≡ cond (session == s) row.ends_redo (ends_of (session_row l s))
  ends_at s = ap ends_of (row_at s) ∙ kept ends_of (session == s) (Some row) (session_row l s)

  pub set_both : (q : Group) → latest_of k q ≡ cond (same_group (EndsRedo session) q) row.ends_redo
      (cond (same_group (Of session) q) row.standing (latest_of l q))
  set_both q = grind (arith, standing_at, ends_at)

-- a row set in one of the tables of keys
module _ (m n : FinMap nat_cmp KeyNodes) (number : ℕ) (row : KeyNodes) (put : n ≡ insert m number row) where
  pub row_put : (q : ℕ) → get n q ≡ cond (eq_by_cmp nat_cmp q number) (Some row) (get m q)
  row_put q = ap (λ (t : FinMap nat_cmp KeyNodes). get t q) put ∙ get-insert nat_cmp_total m number row q

-- tables with no row have no node in any group
no_key_row : (m : FinMap nat_cmp KeyNodes) (n : ℕ) → m ≡ empty → get m n ≡ None
no_key_row m n none = ap (λ (t : FinMap nat_cmp KeyNodes). get t n) none ∙ get-empty nat_cmp n

no_session_row : (m : FinMap nat_cmp SessionNodes) (n : ℕ) → m ≡ empty → get m n ≡ None
no_session_row m n none = ap (λ (t : FinMap nat_cmp SessionNodes). get t n) none ∙ get-empty nat_cmp n

pub no_rows : (l : Latest) → l.ports.map ≡ empty → l.filters.map ≡ empty → l.gates.map ≡ empty → l.meters.map ≡ empty
    → l.sessions.map ≡ empty → (g : Group) → latest_of l g ≡ 0
no_rows l p f g m s h = grind (arith, no_key_row, no_session_row)

pub no_touched : (l : Latest) → l.ports.map ≡ empty → l.filters.map ≡ empty → l.gates.map ≡ empty → l.meters.map ≡ empty → (k : Key)
    → touched_of (key_row l k) ≡ 0
no_touched l p f g m k = grind (arith, no_key_row)

pub no_referred : (l : Latest) → l.ports.map ≡ empty → l.filters.map ≡ empty → l.gates.map ≡ empty → l.meters.map ≡ empty → (k : Key)
    → referred_of (key_row l k) ≡ 0
no_referred l p f g m k = grind (arith, no_key_row)

-- the same tables have the same rows
pub same_rows : (l k : Latest) → k.ports.map ≡ l.ports.map → k.filters.map ≡ l.filters.map → k.gates.map ≡ l.gates.map
    → k.meters.map ≡ l.meters.map → (q : Key) → key_row k q ≡ key_row l q
same_rows l k p f g m q = (cc)
