-- What a file was asked and answered, noted where no memory holds it.
use Rattle.std.specs.Prelude.{ℕ, ◌==◌, List, [], ◌∷◌, ◌++◌, Bool, if◌then◌else◌}

-- What is kept, and what was written behind it, since the file is a device.
pub record Log : Type 0 where
  pub kept : List ℕ
  pub loose : List ℕ

abbrev pub no_bytes : Log
no_bytes = record { kept = []; loose = [] }

-- The file took these bytes behind the others.
abbrev pub taken : List ℕ → Log → Log
taken bytes log = record { kept = log.kept; loose = log.loose ++ bytes }

-- A sync came back.
abbrev pub synced : Log → Log
synced log = record { kept = log.kept ++ log.loose; loose = [] }

-- A note of one number, 0, tells of bytes that the file took; any other tells that a sync came back.
abbrev pub noted : List ℕ → List ℕ → Log → Log
noted [] bytes log = synced log
noted (n ∷ ns) bytes log = if n == 0 then taken bytes log else synced log

-- A file is seen by its notes, and whether no call of it has failed.
pub record Seen : Type 0 where
  pub log : Log
  pub works : Bool
