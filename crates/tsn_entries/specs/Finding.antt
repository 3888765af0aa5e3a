-- What the finders of a journal look for.
use Rattle.std.specs.Prelude.{ℕ, ◌+◌, Bool, ◌&&◌, not, List, [], ◌∷◌, Option, Some, None, is_some, filter, ◌==◌, nat_lt, if◌then◌else◌}
use Rattle.std.specs.List.{find, list_any}
use Rattle.std.specs.Option.{option_and_then, option_or}
use Rattle.tsn_edit.specs.Changes.{conflicts, room_of}
use Rattle.tsn_edit.specs.Parts.{Change}
use Rattle.tsn_entries.specs.declared.entries.Entry.{Entry}
use Rattle.tsn_entries.specs.Entries.{Applied, applied, applies, collect, is_closed, is_made, standing, undoes}

-- the last element that passes the test
abbrev pub last_where : {A : Type 0} → (A → Bool) → List A → Option A
last_where test [] = None
last_where test (x ∷ xs) = option_or (last_where test xs) (if test x then Some x else None)

-- the entry of the number
abbrev pub entry : List Entry → ℕ → Option Entry
entry es n = find (λ e. e.number == n) es

-- the change that the entry of the number applied
abbrev pub change_at : List Entry → ℕ → Option Change
change_at es n = option_and_then (λ e. applies e.what) (entry es n)

-- the entries of a greater number
abbrev pub since : List Entry → ℕ → List Entry
since es n = filter (λ e. nat_lt n e.number) es

abbrev pub later_than : ℕ → List Applied → List Applied
later_than n xs = filter (λ x. nat_lt n x.number) xs

-- the standing entry of the number
abbrev pub standing_entry : List Entry → ℕ → Option Applied
standing_entry es n = find (λ x. x.number == n) (standing es)

-- the Undone entry of the number
abbrev pub undone_entry : List Entry → ℕ → Option Applied
undone_entry es n = find (λ x. x.number == n) (collect undoes es)

-- the newest standing entry of a session
abbrev pub last_of : List Entry → ℕ → Option Applied
last_of es s = last_where (λ x. x.session == s) (standing es)

-- the standing entries of a session
abbrev pub own_standing : List Entry → ℕ → List Applied
own_standing es s = filter (λ x. x.session == s) (standing es)

-- how many parts the changes of these have in all
abbrev pub parts_of_all : List Applied → ℕ
parts_of_all [] = 0
parts_of_all (x ∷ xs) = room_of x.change + parts_of_all xs

-- the standing entries of the other sessions
abbrev pub others_standing : List Entry → ℕ → List Applied
others_standing es s = filter (λ x. not (x.session == s)) (standing es)

-- the latest later standing entry in conflict with e
abbrev pub find_conflict : List Entry → Applied → Option Applied
find_conflict es e = last_where (λ f. conflicts f.change e.change) (later_than e.number (standing es))

-- the latest later standing entry of another session in conflict with e
abbrev pub find_conflict_of_others : List Entry → Applied → Option Applied
find_conflict_of_others es e =
    last_where (λ f. not (f.session == e.session) && conflicts f.change e.change) (later_than e.number (standing es))

-- the newest standing entry of a session that has a later standing entry of another session in conflict
abbrev pub find_own_in_conflict : List Entry → ℕ → Option Applied
find_own_in_conflict es s = last_where (λ x. (x.session == s) && is_some (find_conflict_of_others es x)) (standing es)

-- whether a session may redo e: an Undone entry of its own that no later entry takes back or settles, with no later edit of the
-- session
abbrev pub may_redo : ℕ → Entry → List Entry → Bool
may_redo s e later = (e.session == s)
    && (is_some (undoes e.what) && (not (is_closed e later) && not (list_any (λ w. (w.session == s) && is_made w.what) later)))

-- the newest Undone entry of a session that comes after its last Made entry, that no Redone entry names, and that is not settled
abbrev pub redo_of : List Entry → ℕ → Option Applied
redo_of [] s = None
redo_of (e ∷ es) s = option_or (redo_of es s) (if may_redo s e es then applied undoes e else None)

-- the latest later entry of any kind whose change is in conflict with that of u
abbrev pub find_redo_conflict : List Entry → Applied → Option Applied
find_redo_conflict es u = last_where (λ f. conflicts f.change u.change) (later_than u.number (collect applies es))
