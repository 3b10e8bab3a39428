-- The bytes of a log.
use Rattle.std.specs.Prelude.{ℕ, ◌+◌, List, [], ◌∷◌, ◌++◌}
use Rattle.dh_changes.specs.declared.change.Change.{Change}
use Rattle.change_log.specs.Bytes.{change_bytes}

-- the bytes of changes, the first of them under that number
abbrev pub bytes_from : ℕ → List Change → List ℕ
bytes_from n [] = []
bytes_from n (change ∷ changes) = change_bytes n change ++ bytes_from (n + 1) changes

-- a log is numbered from 1
unfoldable pub log_bytes : List Change → List ℕ
log_bytes log = bytes_from 1 log
